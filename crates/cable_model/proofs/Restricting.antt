-- Whatever happens, each node's journal stays legal, where the callbacks always answer.
use Rattle.std.proofs.Common.{ℕ, suc, ◌≡◌, ◌<◌, ◌≤◌, ◌==◌, Bool, true, false, cond, not, ◌&&◌, List, [], ◌∷◌, ◌++◌, length, Some, None, Option, refl, ap, sym, subst, ◌∙◌, arith, inr, is_none, ltb, length-append}
use Rattle.std.specs.Prelude.{unwrap_or}
use Rattle.std.proofs.lemmas.Bool.Decides.{nat_tests}
use Rattle.cable_base.specs.declared.numbers.RowId.{RowId}
use Rattle.channel_book.specs.declared.answers.Cast.{Cast}
use Rattle.cable_model.specs.declared.events.Event.{Event}
use Rattle.cable_model.specs.declared.events.Event.TheVariants as event
use Rattle.cable_model.specs.declared.journals.ReadNote.{ReadNote}
use Rattle.cable_model.specs.declared.plans.Plan.{Plan}
use Rattle.cable_model.specs.Steps.{Step}
use Rattle.cable_model.specs.Wants.{lower, user_of}
use Rattle.cable_model.specs.Pieces.{seat, unseated}
use Rattle.cable_model.specs.Table.{TableStep, last_id, note_of, missed_note, read_of}
use Rattle.cable_model.specs.Plans.{AlwaysAnswer, task_of}
use Rattle.cable_model.specs.Possible.{can_open, can_put_command, can_drop, can_take, can_put, can_finish, can_ask, is_booted, is_out, last_turn, job_plan, has_cast_left, has_no_cast_left}
use Rattle.cable_model.specs.History.{Rules, World, start, run, happen, happened, is_possible, at_number, at_home, home_of, new_id, row_id, next_cast, offered, committed, finish, deliver, turn_note, hashes_of, trim_count, boot}
use Rattle.cable_model.specs.Legal.{Legal, LegalStep, stored_plans}
use Rattle.cable_model.specs.Restrictions.{LegalRestrictions}
use Rattle.cable_model.proofs.Entries.{turnless, KeepsTurn, keeps-turn}
use Rattle.cable_model.proofs.Stored.{stored-works}
use Rattle.cable_model.proofs.Answering.{always-answered}
use Rattle.cable_model.proofs.TableLegal.{legal-table}
use Rattle.cable_model.proofs.JobsStay.{keeps_job, job-plan-stays, new-number, unopened-user, userless-seat, plan_at}

-- the commits made for a job are at most as many as its plan's casts
abbrev pub Within : List (Option RowId) → Option Plan → Type 0
Within puts plan = (p : Plan) → plan ≡ Some p → length puts ≤ length p.casts

-- what keeps the journals legal
pub record Lawful (r : Rules) (w : World) : Type 0 where
  pub nodes_are : (n : ℕ) → Legal (w.nodes n)
  -- no turn was read before it was asked
  pub unread : (n t : ℕ) → last_turn (w.nodes n) < t → read_of n t w.table ≡ None
  -- the turn that is out is read from where the node's next turn begins
  pub lowers : (n : ℕ) → is_out (w.nodes n) ≡ true → (note : ReadNote) → read_of n (last_turn (w.nodes n)) w.table ≡ Some note → note.lower.0 ≡ lower (w.nodes n)
  pub puts_are : (c n : ℕ) → w.home c ≡ Some n → Within (w.puts c) (job_plan r.callbacks c (w.nodes n))

-- ---- an entry of a node

-- what the entry must be to what stood before
record Enters (r : Rules) (w : World) (n : ℕ) (e : Step) (puts : ℕ → List (Option RowId)) (home : ℕ → Option ℕ) : Type 0 where
  legal : LegalStep e (w.nodes n)
  later : last_turn (w.nodes n) ≤ last_turn (e ∷ w.nodes n)
  lower_is : is_out (e ∷ w.nodes n) ≡ true → (note : ReadNote) → read_of n (last_turn (e ∷ w.nodes n)) w.table ≡ Some note → note.lower.0 ≡ lower (e ∷ w.nodes n)
  own : (c : ℕ) → home c ≡ Some n → Within (puts c) (job_plan r.callbacks c (e ∷ w.nodes n))
  others : (c m : ℕ) → home c ≡ Some m → (m ≡ n → ⊥) → (w.home c ≡ Some m) × (puts c ≡ w.puts c)

-- the world with this entry
abbrev entered : World → ℕ → Step → (ℕ → List (Option RowId)) → (ℕ → Option ℕ) → World
entered w n e puts home = record { table = w.table; nodes = at_number n (e ∷ w.nodes n) w.nodes; home = home; puts = puts; failing = w.failing }

module _ (r : Rules) (w : World) (n : ℕ) (e : Step) (puts : ℕ → List (Option RowId)) (home : ℕ → Option ℕ) (l : Lawful r w) (h : Enters r w n e puts home) where
  abbrev at : ℕ → List Step
  at m = at_number n (e ∷ w.nodes n) w.nodes m

  enters-legal : (m : ℕ) (b : Bool) → (m == n) ≡ b → Legal (cond b (e ∷ w.nodes n) (w.nodes m))
  enters-legal m true b = (h.legal, l.nodes_are n)
  enters-legal m false b = l.nodes_are m

  enters-unread : (m t : ℕ) (b : Bool) → (m == n) ≡ b → last_turn (cond b (e ∷ w.nodes n) (w.nodes m)) < t → read_of m t w.table ≡ None
  enters-unread m t true b g =
      let same : m ≡ n = grind (arith, nat_tests) in
      let at_least = h.later in
      subst (λ x. read_of x t w.table ≡ None) (sym same) (l.unread n t (omega arith))
  enters-unread m t false b g = l.unread m t g

  enters-lower : (m : ℕ) (b : Bool) → (m == n) ≡ b → is_out (cond b (e ∷ w.nodes n) (w.nodes m)) ≡ true → (note : ReadNote) → read_of m (last_turn (cond b (e ∷ w.nodes n) (w.nodes m))) w.table ≡ Some note
      → note.lower.0 ≡ lower (cond b (e ∷ w.nodes n) (w.nodes m))
  enters-lower m true b o note q =
      let same : m ≡ n = grind (arith, nat_tests) in
      h.lower_is o note (subst (λ x. read_of x (last_turn (e ∷ w.nodes n)) w.table ≡ Some note) same q)
  enters-lower m false b o note q = l.lowers m o note q

  enters-puts : (c m : ℕ) → home c ≡ Some m → (b : Bool) → (m == n) ≡ b → Within (puts c) (job_plan r.callbacks c (cond b (e ∷ w.nodes n) (w.nodes m)))
  enters-puts c m q true b = h.own c (q ∙ ap Some (grind (arith, nat_tests)))
  enters-puts c m q false b =
      let differ : m ≡ n → ⊥ = λ x. absurd (grind (arith, nat_tests)) in
      let o = h.others c m q differ in
      subst (λ x. Within x (job_plan r.callbacks c (w.nodes m))) (sym o.1) (l.puts_are c m o.0)

  enters : Lawful r (entered w n e puts home)
  enters =
      record {
        nodes_are = λ m. enters-legal m (m == n) refl;
        unread = λ m t g. enters-unread m t (m == n) refl g;
        lowers = λ m o note q. enters-lower m (m == n) refl o note q;
        puts_are = λ c m q. enters-puts c m q (m == n) refl;
      }

-- ---- an entry that keeps the turn and the jobs of all but one connection

module _ (r : Rules) (w : World) (l : Lawful r w) where
  -- a job that the entry keeps has its commits within its plan's casts
  kept-within : (n c : ℕ) (e : Step) → keeps_job c e ≡ true → w.home c ≡ Some n → Within (w.puts c) (job_plan r.callbacks c (e ∷ w.nodes n))
  kept-within n c e k q p g =
      l.puts_are c n q p (sym (job-plan-stays (stored_plans c (w.nodes n)) r.callbacks c e (w.nodes n) (stored-works c (w.nodes n) (l.nodes_are n)) k) ∙ g)

  turn-lower : (n : ℕ) (e : Step) → KeepsTurn e (w.nodes n) → is_out (e ∷ w.nodes n) ≡ true → (note : ReadNote) → read_of n (last_turn (e ∷ w.nodes n)) w.table ≡ Some note → note.lower.0 ≡ lower (e ∷ w.nodes n)
  turn-lower n e s o note q =
      l.lowers n (sym s.out ∙ o) note (subst (λ t. read_of n t w.table ≡ Some note) s.turn q) ∙ sym s.low

  -- an entry that keeps every job
  plain : (n : ℕ) (e : Step) → LegalStep e (w.nodes n) → turnless e ≡ true → ((c : ℕ) → keeps_job c e ≡ true) → Lawful r (entered w n e w.puts w.home)
  plain n e h t k =
      let s = keeps-turn e (w.nodes n) t in
      enters r w n e w.puts w.home l
      (record {
        legal = h;
        later = omega (arith, s.turn);
        lower_is = turn-lower n e s;
        own = λ c q. kept-within n c e (k c) q;
        others = λ c m q d. (q, refl);
      })

  -- an entry of c, after which no commit is made for its job
  emptied : (n c : ℕ) (e : Step) → LegalStep e (w.nodes n) → turnless e ≡ true → ((d : ℕ) → (d == c) ≡ false → keeps_job d e ≡ true) → w.home c ≡ Some n
      → Lawful r (entered w n e (at_number c [] w.puts) w.home)
  emptied n c e h t k home =
      let s = keeps-turn e (w.nodes n) t in
      enters r w n e (at_number c [] w.puts) w.home l
      (record {
        legal = h;
        later = omega (arith, s.turn);
        lower_is = turn-lower n e s;
        own = λ d q. own d q (d == c) refl;
        others = λ d m q differ. (q, other d m q differ (d == c) refl);
      })
    where
      own : (d : ℕ) → w.home d ≡ Some n → (b : Bool) → (d == c) ≡ b → Within (cond b [] (w.puts d)) (job_plan r.callbacks d (e ∷ w.nodes n))
      own d q true b p g = omega arith
      own d q false b p g = kept-within n d e (k d b) q p g

      other : (d m : ℕ) → w.home d ≡ Some m → (m ≡ n → ⊥) → (b : Bool) → (d == c) ≡ b → cond b [] (w.puts d) ≡ w.puts d
      other d m q differ true b =
          let same : d ≡ c = grind (arith, nat_tests) in
          let there : Some m ≡ Some n = sym q ∙ (ap w.home same ∙ home) in
          absurd (differ (cc (there)))
      other d m q differ false b = refl

  -- ---- an entry of the table

  -- one that is no Read
  no_read : (t : TableStep) → ((n u : ℕ) → read_of n u (t ∷ w.table) ≡ read_of n u w.table) → (puts : ℕ → List (Option RowId)) (failing : Bool)
      → ((c n : ℕ) → w.home c ≡ Some n → Within (puts c) (job_plan r.callbacks c (w.nodes n)))
      → Lawful r (record { table = t ∷ w.table; nodes = w.nodes; home = w.home; puts = puts; failing = failing })
  no_read t same puts failing within =
      record {
        nodes_are = l.nodes_are;
        unread = λ n u g. same n u ∙ l.unread n u g;
        lowers = λ n o note q. l.lowers n o note (sym (same n (last_turn (w.nodes n))) ∙ q);
        puts_are = within;
      }

  lower-of-note : (n : ℕ) (f : Bool) → (cond f (missed_note (lower (w.nodes n))) (note_of r.hash r.page (lower (w.nodes n)) (hashes_of r.hash (w.nodes n)) w.table)).lower.0 ≡ lower (w.nodes n)
  lower-of-note n true = refl
  lower-of-note n false = refl

  reads : (n : ℕ) → Lawful r (record { table = TableStep.Read n (last_turn (w.nodes n)) (turn_note r w n) (hashes_of r.hash (w.nodes n)) ∷ w.table; nodes = w.nodes; home = w.home; puts = w.puts; failing = false })
  reads n =
      record {
        nodes_are = l.nodes_are;
        unread = λ m t g. later m t g (n == m) refl (last_turn (w.nodes n) == t) refl;
        lowers = λ m o note q. low m o note (n == m) refl (last_turn (w.nodes n) == last_turn (w.nodes m)) refl q;
        puts_are = l.puts_are;
      }
    where
      later : (m t : ℕ) → last_turn (w.nodes m) < t → (a : Bool) → (n == m) ≡ a → (b : Bool) → (last_turn (w.nodes n) == t) ≡ b → cond (a && b) (Some (turn_note r w n)) (read_of m t w.table) ≡ None
      later m t g true a true b =
          let same : n ≡ m = grind (arith, nat_tests) in
          let at_most : last_turn (w.nodes n) < t = subst (λ x. last_turn (w.nodes x) < t) (sym same) g in
          let at : last_turn (w.nodes n) ≡ t = grind (arith, nat_tests) in
          absurd (omega arith)
      later m t g true a false b = l.unread m t g
      later m t g false a b b' = l.unread m t g

      low : (m : ℕ) → is_out (w.nodes m) ≡ true → (note : ReadNote) → (a : Bool) → (n == m) ≡ a → (b : Bool) → (last_turn (w.nodes n) == last_turn (w.nodes m)) ≡ b
          → cond (a && b) (Some (turn_note r w n)) (read_of m (last_turn (w.nodes m)) w.table) ≡ Some note → note.lower.0 ≡ lower (w.nodes m)
      low m o note true a true b q =
          let same : n ≡ m = grind (arith, nat_tests) in
          let is : turn_note r w n ≡ note = cc (q) in
          ap (λ x. x.lower.0) (sym is) ∙ (lower-of-note n w.failing ∙ ap (λ x. lower (w.nodes x)) same)
      low m o note true a false b q = l.lowers m o note q
      low m o note false a b b' q = l.lowers m o note q

-- ---- the events

-- a possible event of a connection is one of the node where it was opened
pub record AtHome (w : World) (c : ℕ) (test : List Step → Bool) : Type 0 where
  pub home_is : w.home c ≡ Some (home_of w c)
  pub passes : test (w.nodes (home_of w c)) ≡ true

pub found-home : (w : World) (c : ℕ) (test : List Step → Bool) → at_home w c test ≡ true → AtHome w c test
found-home w c test h = go (w.home c) refl
  where
    go : (o : Option ℕ) → w.home c ≡ o → AtHome w c test
    go None q = let h' = rw (q, at_home) at h in absurd (cc (h'))
    go (Some n) q =
        let at : home_of w c ≡ n = ap (λ o. unwrap_or o 0) q in
        let h' = rw (q, at_home) at h in
        record { home_is = q ∙ ap Some (sym at); passes = subst (λ m. test (w.nodes m) ≡ true) (sym at) h' }

both : (a b : Bool) → (a && b) ≡ true → (a ≡ true) × (b ≡ true)
both true true h = (refl, refl)
both true false h = absurd (cc (h))
both false b h = absurd (cc (h))

other-number : (c d : ℕ) → (d == c) ≡ false → not (c == d) ≡ true
other-number c d h = let t : (c == d) ≡ false = grind (arith, nat_tests) in rw t refl

module _ (r : Rules) (a : AlwaysAnswer r.callbacks) (w : World) (l : Lawful r w) where
  boots : (n : ℕ) → is_booted (w.nodes n) ≡ false → Lawful r (boot w n)
  boots n h =
      let t = no_read r w l (TableStep.Boot n (last_id w.table)) (λ m u. refl) w.puts w.failing l.puts_are in
      let none : w.nodes n ≡ [] = empty (w.nodes n) h in
      enters r (record { table = TableStep.Boot n (last_id w.table) ∷ w.table; nodes = w.nodes; home = w.home; puts = w.puts; failing = w.failing }) n (Step.Boot (last_id w.table)) w.puts w.home t
      (record {
        legal = none;
        later = omega arith;
        lower_is = λ o. absurd (let o' = sym (ap is_out none) ∙ o in cc (o'));
        own = λ c q. kept-within r w l n c (Step.Boot (last_id w.table)) refl q;
        others = λ c m q d. (q, refl);
      })
    where
      empty : (past : List Step) → is_booted past ≡ false → past ≡ []
      empty [] q = refl
      empty (e ∷ past) q = absurd (cc (q))

  opens : (n c : ℕ) (token : List ℕ) (user : Option (List ℕ)) → w.home c ≡ None → can_open c (w.nodes n) ≡ true → Lawful r (entered w n (Step.Open c token user) w.puts (at_number c (Some n) w.home))
  opens n c token user homeless h =
      enters r w n (Step.Open c token user) w.puts (at_number c (Some n) w.home) l
      (record {
        legal = h;
        later = omega arith;
        lower_is = turn-lower r w l n (Step.Open c token user) (keeps-turn (Step.Open c token user) (w.nodes n) refl);
        own = λ d q. own d (d == c) refl q;
        others = λ d m q differ. others d m differ (d == c) refl q;
      })
    where
      nothing : seat c (w.nodes n) ≡ unseated
      nothing = userless-seat c (w.nodes n) (l.nodes_are n) (unopened-user c (w.nodes n) (new-number c (w.nodes n) h))

      own : (d : ℕ) (b : Bool) → (d == c) ≡ b → cond b (Some n) (w.home d) ≡ Some n → Within (w.puts d) (job_plan r.callbacks d (Step.Open c token user ∷ w.nodes n))
      own d true b q p g =
          let same : d ≡ c = grind (arith, nat_tests) in
          let none : job_plan r.callbacks c (Step.Open c token user ∷ w.nodes n) ≡ None = ap (plan_at r.callbacks (user_of c (Step.Open c token user ∷ w.nodes n))) nothing in
          let g' = subst (λ x. job_plan r.callbacks x (Step.Open c token user ∷ w.nodes n) ≡ Some p) same g in
          absurd (cc (none, g'))
      own d false b q p g = kept-within r w l n d (Step.Open c token user) (other-number c d b) q p g

      others : (d m : ℕ) → (m ≡ n → ⊥) → (b : Bool) → (d == c) ≡ b → cond b (Some n) (w.home d) ≡ Some m → (w.home d ≡ Some m) × (w.puts d ≡ w.puts d)
      others d m differ true b q = absurd (differ (cc (q)))
      others d m differ false b q = (q, refl)

  arrives : (n c : ℕ) (text : List ℕ) (b : Bool) → can_put_command c text (w.nodes n) ≡ b → Lawful r (cond b (entered w n (Step.In c text) w.puts w.home) w)
  arrives n c text true b = plain r w l n (Step.In c text) b refl (λ d. refl)
  arrives n c text false b = l

  finishes : (n c : ℕ) → w.home c ≡ Some n → (o : Option Plan) → job_plan r.callbacks c (w.nodes n) ≡ o → has_no_cast_left (w.puts c) o ≡ true → Lawful r (finish w n c o)
  finishes n c q None o h = l
  finishes n c q (Some plan) o h =
      let most = l.puts_are c n q plan o in
      let least : length plan.casts ≤ length (w.puts c) = unless (ltb (length (w.puts c)) (length plan.casts)) refl h in
      emptied r w l n c (Step.Finish c (w.puts c) plan) (record { callbacks = r.callbacks; planned = o; answered = λ user p u j. always-answered r.callbacks a user (task_of (seat c (w.nodes n)).conn p) }, omega arith) refl (λ d b. other-number c d b) q
    where
      unless : (b : Bool) → ltb (length (w.puts c)) (length plan.casts) ≡ b → not b ≡ true → length plan.casts ≤ length (w.puts c)
      unless true b g = absurd (cc (g))
      unless false b g = grind (arith, nat_tests)

  puts-one : (c at : ℕ) → (n : ℕ) → w.home c ≡ Some n → has_cast_left (w.puts c) (job_plan r.callbacks c (w.nodes n)) ≡ true → (o : Option Cast) → Lawful r (committed w c at o)
  puts-one c at n q h None = l
  puts-one c at n q h (Some cast) =
      no_read r w l (TableStep.Commit (Some c) (offered cast at) (new_id w)) (λ m u. refl)
      (at_number c (w.puts c ++ row_id (new_id w) ∷ []) w.puts) false (λ d m g. within d m g (d == c) refl)
    where
      more : (o : Option Plan) → job_plan r.callbacks c (w.nodes n) ≡ o → has_cast_left (w.puts c) o ≡ true → (p : Plan) → o ≡ Some p → length (w.puts c) < length p.casts
      more None o t p g = absurd (cc (g))
      more (Some plan) o t p g =
          let same : plan ≡ p = cc (g) in
          let below : length (w.puts c) < length plan.casts = grind (arith, nat_tests) in
          subst (λ x. length (w.puts c) < length x.casts) same below

      within : (d m : ℕ) → w.home d ≡ Some m → (b : Bool) → (d == c) ≡ b → Within (cond b (w.puts c ++ row_id (new_id w) ∷ []) (w.puts d)) (job_plan r.callbacks d (w.nodes m))
      within d m g true b p e =
          let same : d ≡ c = grind (arith, nat_tests) in
          let there : Some m ≡ Some n = sym g ∙ (ap w.home same ∙ q) in
          let at_n : m ≡ n = cc (there) in
          let e' : job_plan r.callbacks c (w.nodes n) ≡ Some p = subst (λ x. job_plan r.callbacks c (w.nodes x) ≡ Some p) at_n (subst (λ x. job_plan r.callbacks x (w.nodes m) ≡ Some p) same e) in
          let less = more (job_plan r.callbacks c (w.nodes n)) refl h p e' in
          omega (arith, length-append (w.puts c) (row_id (new_id w) ∷ []))
      within d m g false b p e = l.puts_are d m g p e

  asks : (n : ℕ) → can_ask (w.nodes n) ≡ true → Lawful r (entered w n (Step.Ask (suc (last_turn (w.nodes n)))) w.puts w.home)
  asks n h =
      enters r w n (Step.Ask (suc (last_turn (w.nodes n)))) w.puts w.home l
      (record {
        legal = (h, inr refl);
        later = omega arith;
        lower_is = λ o note q. (let none = l.unread n (suc (last_turn (w.nodes n))) (omega arith) in absurd (cc (none, q)));
        own = λ c q. kept-within r w l n c (Step.Ask (suc (last_turn (w.nodes n)))) refl q;
        others = λ c m q d. (q, refl);
      })

  delivers : (n : ℕ) (b : Bool) → is_out (w.nodes n) ≡ b → (o : Option ReadNote) → read_of n (last_turn (w.nodes n)) w.table ≡ o → Lawful r (deliver w n (cond b o None))
  delivers n false b o q = l
  delivers n true b None q = l
  delivers n true b (Some note) q =
      enters r w n (Step.Deliver (last_turn (w.nodes n)) note) w.puts w.home l
      (record {
        legal = (b, refl, l.lowers n b note q);
        later = omega arith;
        lower_is = λ o. absurd (cc (o));
        own = λ c g. kept-within r w l n c (Step.Deliver (last_turn (w.nodes n)) note) refl g;
        others = λ c m g d. (g, refl);
      })

  pub happened-lawful : (e : Event) → is_possible r w e ≡ true → Lawful r (happened r w e)
  happened-lawful (event.Boot node) h = boots node.0 (negated (is_booted (w.nodes node.0)) h)
    where
      negated : (b : Bool) → not b ≡ true → b ≡ false
      negated true q = absurd (cc (q))
      negated false q = refl
  happened-lawful (event.Open node conn token) h =
      let p = both (is_none (w.home conn.0)) (can_open conn.0 (w.nodes node.0)) h in
      opens node.0 conn.0 token (r.callbacks.identify token) (homeless (w.home conn.0) p.0) p.1
    where
      homeless : (o : Option ℕ) → is_none o ≡ true → o ≡ None
      homeless None q = refl
      homeless (Some n) q = absurd (cc (q))
  happened-lawful (event.In conn text) h = arrives (home_of w conn.0) conn.0 text (can_put_command conn.0 text (w.nodes (home_of w conn.0))) refl
  happened-lawful (event.Drop conn) h =
      let a = found-home w conn.0 (can_drop conn.0) h in plain r w l (home_of w conn.0) (Step.Drop conn.0) a.passes refl (λ d. refl)
  happened-lawful (event.Stop node) h = plain r w l node.0 Step.Stop h refl (λ d. refl)
  happened-lawful (event.Take conn) h =
      let a = found-home w conn.0 (can_take conn.0) h in emptied r w l (home_of w conn.0) conn.0 (Step.Take conn.0) a.passes refl (λ d b. other-number conn.0 d b) a.home_is
  happened-lawful (event.Put conn at) h =
      let a = found-home w conn.0 (can_put r.callbacks conn.0 (w.puts conn.0)) h in
      puts-one conn.0 at.0 (home_of w conn.0) a.home_is a.passes (next_cast (w.puts conn.0) (job_plan r.callbacks conn.0 (w.nodes (home_of w conn.0))))
  happened-lawful (event.Finish conn) h =
      let a = found-home w conn.0 (can_finish r.callbacks conn.0 (w.puts conn.0)) h in
      finishes (home_of w conn.0) conn.0 a.home_is (job_plan r.callbacks conn.0 (w.nodes (home_of w conn.0))) refl a.passes
  happened-lawful (event.Cast at channel payload) h =
      no_read r w l (TableStep.Commit None (record { channel = channel; payload = payload; at = at.0 }) (new_id w)) (λ m u. refl) w.puts false l.puts_are
  happened-lawful (event.Trim now retention batch) h =
      no_read r w l (TableStep.Trim now.0 retention.0 batch (trim_count now.0 retention.0 batch w)) (λ m u. refl) w.puts false l.puts_are
  happened-lawful (event.Ask node) h = asks node.0 h
  happened-lawful (event.Read node) h = reads r w l node.0
  happened-lawful (event.Deliver node) h = delivers node.0 (is_out (w.nodes node.0)) refl (read_of node.0 (last_turn (w.nodes node.0)) w.table) refl
  happened-lawful (event.Beat node now) h = plain r w l node.0 (Step.Beat now.0) h refl (λ d. refl)
  happened-lawful event.Fault h = record { nodes_are = l.nodes_are; unread = l.unread; lowers = l.lowers; puts_are = l.puts_are }

pub happen-lawful : (r : Rules) → AlwaysAnswer r.callbacks → (w : World) (e : Event) → Lawful r w → Lawful r (happen r w e)
happen-lawful r a w e l = go (is_possible r w e) refl
  where
    go : (b : Bool) → is_possible r w e ≡ b → Lawful r (cond b (happened r w e) w)
    go true b = happened-lawful r a w l e b
    go false b = l

pub run-lawful : (r : Rules) → AlwaysAnswer r.callbacks → (w : World) (es : List Event) → Lawful r w → Lawful r (run r w es)
run-lawful r a w [] l = l
run-lawful r a w (e ∷ es) l = run-lawful r a (happen r w e) es (happen-lawful r a w e l)

pub start-lawful : (r : Rules) → Lawful r start
start-lawful r = record { nodes_are = λ n. tt; unread = λ n t g. refl; lowers = λ n o. absurd (cc (o)); puts_are = λ c n q. absurd (cc (q)) }

pub legal_restrictions : (r : Rules) → AlwaysAnswer r.callbacks → (events : List Event) → LegalRestrictions r events
legal_restrictions r a events = record { nodes = (run-lawful r a start events (start-lawful r)).nodes_are; table = legal-table r events }
