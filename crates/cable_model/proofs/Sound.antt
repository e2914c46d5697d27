-- The journals of every history are worked as planned and linked: event by event.
use Rattle.std.proofs.Common.{ℕ, suc, ◌≡◌, ◌<◌, ◌==◌, Bool, true, false, cond, not, ◌&&◌, List, [], ◌∷◌, ◌++◌, length, Some, None, Option, refl, ap, sym, subst, ◌∙◌, arith, inl, inr, is_none, length-append}
use Rattle.std.proofs.lemmas.List.{append-nil}
use Rattle.std.specs.List.{AllByRecursion}
use Rattle.std.proofs.lemmas.Bool.Decides.{nat_tests}
use Rattle.std.proofs.lemmas.Bool.{and_parts}
use Rattle.cable_base.specs.declared.numbers.RowId.{RowId}
use Rattle.cable_base.specs.declared.rows.Row.{Row}
use Rattle.cable_base.proofs.Rises.{Rises, Rises-append}
use Rattle.channel_book.specs.declared.answers.Cast.{Cast}
use Rattle.cable_model.specs.declared.events.Event.{Event}
use Rattle.cable_model.specs.declared.events.Event.TheVariants as event
use Rattle.cable_model.specs.declared.journals.ReadNote.{ReadNote}
use Rattle.cable_model.specs.declared.pieces.Piece.{Piece}
use Rattle.cable_model.specs.declared.plans.Plan.{Plan}
use Rattle.cable_model.specs.Steps.{Step}
use Rattle.cable_model.specs.Connection.{Planner, change_of}
use Rattle.cable_model.specs.Plans.{planner}
use Rattle.cable_model.specs.Wants.{lower, user_of}
use Rattle.cable_model.specs.Pieces.{seat, waiting}
use Rattle.cable_model.specs.Window.{job}
use Rattle.cable_model.specs.Table.{Offer, TableStep, commits, last_id, note_of, missed_note, reads_of, row_with}
use Rattle.cable_model.specs.Possible.{is_out, last_turn, is_booted, is_empty, is_live, has_job, job_plan, can_take, can_open, can_put_command}
use Rattle.cable_model.specs.History.{Rules, World, start, at_number, logged, tabled, stored, with_puts, with_home, hashes_of, new_id, row_id, next_cast, offered, committed, trim_count, turn_note, caught, at_home, home_of, finish, deliver, boot, arrive, is_possible, happened, happen, run}
use Rattle.cable_model.specs.Promise.{Fits, AllWorked}
use Rattle.cable_model.proofs.Entries.{turnless}
use Rattle.cable_model.proofs.Delivered.{id_of}
use Rattle.cable_model.proofs.Linking.{note-fits}
use Rattle.cable_model.proofs.Stored.{HasPlan, has-plan, plan-change}
use Rattle.cable_model.proofs.NodeSound.{PlansFor, NodeSound, SameTurn, empty-sound, plain-sound, ask-sound, deliver-sound, boot-sound, more-sound, read-sound}

-- ---- tests that are true

none-is : {A : Type 0} (o : Option A) → is_none o ≡ true → o ≡ None
none-is None h = refl
none-is (Some x) h = absurd (cc (h))

not-true : (b : Bool) → not b ≡ true → b ≡ false
not-true true h = absurd (cc (h))
not-true false h = refl

empty-is : {A : Type 0} (xs : List A) → is_empty xs ≡ true → xs ≡ []
empty-is [] h = refl
empty-is (x ∷ xs) h = absurd (cc (h))

-- a test over the node where c was opened
home-test : (w : World) (c : ℕ) (test : List Step → Bool) → at_home w c test ≡ true → test (w.nodes (home_of w c)) ≡ true
home-test w c test = go (w.home c) refl
  where
    go : (o : Option ℕ) → w.home c ≡ o → at_home w c test ≡ true → test (w.nodes (home_of w c)) ≡ true
    go None o h = let h' = rw (o, at_home) at h in absurd (cc (h'))
    go (Some n) o h = let h' = rw (o, at_home) at h in rw o h'

-- ---- the change of a job's plan is the planned one

module _ (r : Rules) where
  -- what is known of a plan that is out
  record Out (c : ℕ) (past : List Step) (plan : Plan) : Type 0 where
    pub busy : has_job (seat c past) ≡ true
    pub change : (pl : Planner) → PlansFor r.callbacks pl (user_of c past) → (p : Piece) → job (seat c past) ≡ Some p → plan.change ≡ change_of pl (seat c past).taken (seat c past).conn p

  job-out : (c : ℕ) (past : List Step) (plan : Plan) → job_plan r.callbacks c past ≡ Some plan → Out c past plan
  job-out c past plan e = record { busy = h.out; change = change }
    where
      h : HasPlan r.callbacks c past plan
      h = has-plan r.callbacks c past plan e

      change : (pl : Planner) → PlansFor r.callbacks pl (user_of c past) → (p : Piece) → job (seat c past) ≡ Some p → plan.change ≡ change_of pl (seat c past).taken (seat c past).conn p
      change pl (inr none) p j = let o = h.opened in absurd (cc (none, o))
      change pl (inl (u, o, is)) p j =
          let user : h.user ≡ u = cc (h.opened, o) in
          let taken : h.taken ≡ p = cc (h.job_is, j) in
          ap (λ x. x.change) h.plan_is
          ∙ (plan-change r.callbacks h.user (seat c past).taken (seat c past).conn h.taken
          ∙ (ap (λ x. change_of (planner r.callbacks x) (seat c past).taken (seat c past).conn h.taken) user
          ∙ (ap (λ x. change_of x (seat c past).taken (seat c past).conn h.taken) (sym is) ∙ ap (change_of pl (seat c past).taken (seat c past).conn) taken)))

  -- ---- worlds

  -- ids rise, each node is sound, and a number that has no home was opened nowhere
  pub record Sound (w : World) : Type 0 where
    pub rises : Rises id_of 0 (commits w.table) (last_id w.table)
    pub nodes : (n : ℕ) → NodeSound r n w.table (w.nodes n)
    pub closed : (c : ℕ) → w.home c ≡ None → (n : ℕ) → user_of c (w.nodes n) ≡ None

  -- an entry of one node
  logged-sound : (w : World) (n : ℕ) (e : Step) → Sound w → NodeSound r n w.table (e ∷ w.nodes n) → ((c : ℕ) → w.home c ≡ None → user_of c (e ∷ w.nodes n) ≡ None) → Sound (logged w n e)
  logged-sound w n e s ns shut = record { rises = s.rises; nodes = λ m. at m (m == n) refl; closed = λ c h m. none c h m (m == n) refl }
    where
      at : (m : ℕ) (b : Bool) → (m == n) ≡ b → NodeSound r m w.table (at_number n (e ∷ w.nodes n) w.nodes m)
      at m true b = let x : m ≡ n = grind (arith, nat_tests) in rw b (rw x ns)
      at m false b = rw b (s.nodes m)

      none : (c : ℕ) → w.home c ≡ None → (m : ℕ) (b : Bool) → (m == n) ≡ b → user_of c (at_number n (e ∷ w.nodes n) w.nodes m) ≡ None
      none c h m true b = rw b (shut c h)
      none c h m false b = rw b (s.closed c h m)

  -- an entry that is no Open, no Boot and of no turn
  simple : (w : World) (n : ℕ) (e : Step) → turnless e ≡ true → ((c : ℕ) → user_of c (e ∷ w.nodes n) ≡ user_of c (w.nodes n))
      → ((c : ℕ) (pl : Planner) → PlansFor r.callbacks pl (user_of c (w.nodes n)) → AllWorked pl c (e ∷ w.nodes n)) → Sound w → Sound (logged w n e)
  simple w n e p same worked s =
      logged-sound w n e s (plain-sound r n w.table e (w.nodes n) p (λ c pl m. worked c pl (subst (PlansFor r.callbacks pl) (same c) m)) (s.nodes n)) (λ c h. same c ∙ s.closed c h n)

  puts-sound : (w : World) (c : ℕ) (ids : List (Option RowId)) → Sound w → Sound (with_puts w c ids)
  puts-sound w c ids s = record { rises = s.rises; nodes = s.nodes; closed = s.closed }

  -- ---- the table

  -- an entry that is no Read
  table-sound : (w : World) (t : TableStep) (failing : Bool) (xs : List Row) → commits (t ∷ w.table) ≡ commits w.table ++ xs → AllByRecursion (λ x. last_id w.table < x.id.0) xs
      → Rises id_of 0 (commits (t ∷ w.table)) (last_id (t ∷ w.table)) → ((n m : ℕ) → SameTurn r.hash n m (t ∷ w.table) w.table) → Sound w
      → Sound (record { table = t ∷ w.table; nodes = w.nodes; home = w.home; puts = w.puts; failing = failing })
  table-sound w t failing xs more fresh rises same s =
      record { rises = rises; nodes = λ n. more-sound r n (t ∷ w.table) w.table (w.nodes n) xs more fresh (same n) (s.nodes n); closed = s.closed }

  commit-sound : (w : World) (from : Option ℕ) (offer : Offer) → Sound w → Sound (stored w (TableStep.Commit from offer (new_id w)))
  commit-sound w from offer s = go w.failing refl
    where
      go : (b : Bool) → w.failing ≡ b → Sound (stored w (TableStep.Commit from offer (new_id w)))
      go true b =
          rw b
          (table-sound w (TableStep.Commit from offer None) false [] (sym (append-nil (commits w.table))) tt s.rises
          (λ n m. record { read = refl; agree = λ x. (refl, refl); last = refl }) s)
      go false b =
          let row = row_with (suc (last_id w.table)) offer in
          rw b
          (table-sound w (TableStep.Commit from offer (Some (suc (last_id w.table)))) false (row ∷ []) refl (omega arith, tt)
          (Rises-append id_of 0 (commits w.table) (row ∷ []) (last_id w.table) (length (commits w.table ++ row ∷ [])) s.rises (omega arith, omega (arith, length-append (commits w.table) (row ∷ []))))
          (λ n m. record { read = refl; agree = λ x. (refl, refl); last = refl }) s)

  trim-sound : (w : World) (now retention batch : ℕ) → Sound w → Sound (stored w (TableStep.Trim now retention batch (trim_count now retention batch w)))
  trim-sound w now retention batch s =
      table-sound w (TableStep.Trim now retention batch (trim_count now retention batch w)) false [] (sym (append-nil (commits w.table))) tt s.rises
      (λ n m. record { read = refl; agree = λ x. (refl, refl); last = refl }) s

  -- ---- jobs

  taking : (w : World) (c n : ℕ) → can_take c (w.nodes n) ≡ true → Sound w → Sound (with_puts (logged w n (Step.Take c)) c [])
  taking w c n t s =
      puts-sound (logged w n (Step.Take c)) c []
      (simple w n (Step.Take c) refl (λ d. refl) (λ d pl m. (λ e. subst (λ x. (has_job (seat x past) ≡ false) × (is_empty (waiting (seat x past)) ≡ false)) e (free, some), (s.nodes n).worked d pl m)) s)
    where
      past : List Step
      past = w.nodes n

      first : ((is_live c past && not (has_job (seat c past))) ≡ true) × (not (is_empty (waiting (seat c past))) ≡ true)
      first = and_parts (is_live c past && not (has_job (seat c past))) (not (is_empty (waiting (seat c past)))) t

      free : has_job (seat c past) ≡ false
      free = not-true (has_job (seat c past)) (and_parts (is_live c past) (not (has_job (seat c past))) first.0).1

      some : is_empty (waiting (seat c past)) ≡ false
      some = not-true (is_empty (waiting (seat c past))) first.1

  finishing : (w : World) (c n : ℕ) (o : Option Plan) → job_plan r.callbacks c (w.nodes n) ≡ o → Sound w → Sound (finish w n c o)
  finishing w c n None e s = s
  finishing w c n (Some plan) e s =
      puts-sound (logged w n (Step.Finish c (w.puts c) plan)) c [] (simple w n (Step.Finish c (w.puts c) plan) refl (λ d. refl) (λ d pl m. (λ same. one d same pl m, (s.nodes n).worked d pl m)) s)
    where
      past : List Step
      past = w.nodes n

      one : (d : ℕ) → c ≡ d → (pl : Planner) → PlansFor r.callbacks pl (user_of d past)
          → (has_job (seat d past) ≡ true) × ((p : Piece) → job (seat d past) ≡ Some p → plan.change ≡ change_of pl (seat d past).taken (seat d past).conn p)
      one d same pl m = let k = job-out d past plan (subst (λ x. job_plan r.callbacks x past ≡ Some plan) same e) in (k.busy, k.change pl m)

  putting : (w : World) (c at : ℕ) (o : Option Cast) → Sound w → Sound (committed w c at o)
  putting w c at None s = s
  putting w c at (Some cast) s =
      puts-sound (stored w (TableStep.Commit (Some c) (offered cast at) (new_id w))) c (w.puts c ++ row_id (new_id w) ∷ []) (commit-sound w (Some c) (offered cast at) s)

  -- ---- turns

  asking : (w : World) (n : ℕ) → Sound w → Sound (logged w n (Step.Ask (suc (last_turn (w.nodes n)))))
  asking w n s = logged-sound w n (Step.Ask (suc (last_turn (w.nodes n)))) s (ask-sound r n w.table (w.nodes n) (s.nodes n)) (λ c h. s.closed c h n)

  reading : (w : World) (n : ℕ) → is_out (w.nodes n) ≡ true → Sound w → Sound (stored w (TableStep.Read n (last_turn (w.nodes n)) (turn_note r w n) (hashes_of r.hash (w.nodes n))))
  reading w n o s = record { rises = s.rises; nodes = λ m. at m (m == n) refl; closed = s.closed }
    where
      past : List Step
      past = w.nodes n

      t : TableStep
      t = TableStep.Read n (last_turn (w.nodes n)) (turn_note r w n) (hashes_of r.hash (w.nodes n))

      fits : (turn_note r w n).failed ≡ false → Fits (commits w.table) (reads_of r.hash n (t ∷ w.table)) (last_turn past) (turn_note r w n) (lower past)
      fits =
          elim w.failing as (λ b. (cond b (missed_note (lower past)) (note_of r.hash r.page (lower past) (hashes_of r.hash past) w.table)).failed ≡ false
          → Fits (commits w.table)
          (reads_of r.hash n (TableStep.Read n (last_turn past) (cond b (missed_note (lower past)) (note_of r.hash r.page (lower past) (hashes_of r.hash past) w.table)) (hashes_of r.hash past) ∷ w.table))
          (last_turn past) (cond b (missed_note (lower past)) (note_of r.hash r.page (lower past) (hashes_of r.hash past) w.table)) (lower past)) [
            | true ↦ λ f. absurd (cc (f))
            | false ↦ λ f. note-fits r.hash r.page (lower past) n (last_turn past) (hashes_of r.hash past) w.table s.rises (s.nodes n).low
          ]

      last : (turn_note r w n).failed ≡ false → (turn_note r w n).last.0 ≡ last_id w.table
      last =
          elim w.failing as (λ b. (cond b (missed_note (lower past)) (note_of r.hash r.page (lower past) (hashes_of r.hash past) w.table)).failed ≡ false
          → (cond b (missed_note (lower past)) (note_of r.hash r.page (lower past) (hashes_of r.hash past) w.table)).last.0 ≡ last_id w.table) [ true ↦ λ f. absurd (cc (f)) | false ↦ λ f. refl ]

      other : (m : ℕ) → (n == m) ≡ false → (k : ℕ) → SameTurn r.hash m k (t ∷ w.table) w.table
      other m b k = record { read = rw b refl; agree = λ x. (rw b refl, rw b refl); last = rw b refl }

      at : (m : ℕ) (b : Bool) → (m == n) ≡ b → NodeSound r m (t ∷ w.table) (w.nodes m)
      at m true b = let x : n ≡ m = grind (arith, nat_tests) in subst (λ k. NodeSound r k (t ∷ w.table) (w.nodes k)) x (read-sound r n w.table past (turn_note r w n) o fits last (s.nodes n))
      at m false b = let apart : (n == m) ≡ false = grind (arith, nat_tests) in more-sound r m (t ∷ w.table) w.table (w.nodes m) [] (sym (append-nil (commits w.table))) tt (other m apart) (s.nodes m)

  delivering : (w : World) (n : ℕ) (o : Option ReadNote) → caught w n ≡ o → Sound w → Sound (deliver w n o)
  delivering w n None e s = s
  delivering w n (Some note) e s =
      logged-sound w n (Step.Deliver (last_turn (w.nodes n)) note) s
      (go (is_out (w.nodes n)) refl) (λ c h. s.closed c h n)
    where
      go : (b : Bool) → is_out (w.nodes n) ≡ b → NodeSound r n w.table (Step.Deliver (last_turn (w.nodes n)) note ∷ w.nodes n)
      go true b = let e' = rw b at e in deliver-sound r n w.table (w.nodes n) note b e' (s.nodes n)
      go false b = let e' = rw b at e in absurd (cc (e'))

  -- ---- a node starts, a connection opens

  booting : (w : World) (n : ℕ) → w.nodes n ≡ [] → Sound w → Sound (boot w n)
  booting w n none s =
      let t = TableStep.Boot n (last_id w.table) in
      let s' =
      table-sound w t w.failing [] (sym (append-nil (commits w.table))) tt s.rises
      (λ m k. record { read = refl; agree = λ x. (refl, refl); last = refl }) s in
      logged-sound (tabled w t) n (Step.Boot (last_id w.table)) s' (boot-sound r n (t ∷ w.table) (w.nodes n) none (s'.nodes n)) (λ c h. s.closed c h n)

  opening : (w : World) (n c : ℕ) (token : List ℕ) → w.home c ≡ None → Sound w → Sound (with_home (logged w n (Step.Open c token (r.callbacks.identify token))) c n)
  opening w n c token free s =
      record { rises = s.rises; nodes = λ m. at m (m == n) refl; closed = λ d h m. shut d (d == c) refl h m (m == n) refl }
    where
      e : Step
      e = Step.Open c token (r.callbacks.identify token)

      before : (d : ℕ) (pl : Planner) (b : Bool) → (c == d) ≡ b → PlansFor r.callbacks pl (user_of d (e ∷ w.nodes n)) → PlansFor r.callbacks pl (user_of d (w.nodes n))
      before d pl true b m = let x : c ≡ d = grind (arith, nat_tests) in inr (subst (λ k. user_of k (w.nodes n) ≡ None) x (s.closed c free n))
      before d pl false b m = subst (λ x. PlansFor r.callbacks pl (cond x (r.callbacks.identify token) (user_of d (w.nodes n)))) b m

      own : NodeSound r n w.table (e ∷ w.nodes n)
      own = plain-sound r n w.table e (w.nodes n) refl (λ d pl m. (tt, (s.nodes n).worked d pl (before d pl (c == d) refl m))) (s.nodes n)

      at : (m : ℕ) (b : Bool) → (m == n) ≡ b → NodeSound r m w.table (at_number n (e ∷ w.nodes n) w.nodes m)
      at m true b = let x : m ≡ n = grind (arith, nat_tests) in rw b (rw x own)
      at m false b = rw b (s.nodes m)

      shut : (d : ℕ) (x : Bool) → (d == c) ≡ x → at_number c (Some n) w.home d ≡ None → (m : ℕ) (b : Bool) → (m == n) ≡ b → user_of d (at_number n (e ∷ w.nodes n) w.nodes m) ≡ None
      shut d true x h m b b' = let h' = rw x at h in absurd (cc (h'))
      shut d false x h m true b =
          let h' = rw x at h in
          let y : (c == d) ≡ false = grind (arith, nat_tests) in
          rw (b, y) (s.closed d h' n)
      shut d false x h m false b = let h' = rw x at h in rw b (s.closed d h' m)

  -- ---- events

  arriving : (w : World) (n c : ℕ) (text : List ℕ) → Sound w → Sound (arrive w n c text)
  arriving w n c text s =
      elim (can_put_command c text (w.nodes n)) as (λ b. Sound (cond b (logged w n (Step.In c text)) w)) [
        | true ↦ simple w n (Step.In c text) refl (λ d. refl) (λ d pl m. (tt, (s.nodes n).worked d pl m)) s
        | false ↦ s
      ]

  happened-sound : (w : World) (e : Event) → is_possible r w e ≡ true → Sound w → Sound (happened r w e)
  happened-sound w (event.Boot node) t s = booting w node.0 (empty-is (w.nodes node.0) (unbooted (w.nodes node.0) t)) s
    where
      unbooted : (past : List Step) → not (is_booted past) ≡ true → is_empty past ≡ true
      unbooted [] h = refl
      unbooted (e ∷ past) h = absurd (cc (h))
  happened-sound w (event.Open node conn token) t s =
      opening w node.0 conn.0 token (none-is (w.home conn.0) (and_parts (is_none (w.home conn.0)) (can_open conn.0 (w.nodes node.0)) t).0) s
  happened-sound w (event.In conn text) t s = arriving w (home_of w conn.0) conn.0 text s
  happened-sound w (event.Drop conn) t s =
      simple w (home_of w conn.0) (Step.Drop conn.0) refl (λ d. refl) (λ d pl m. (tt, (s.nodes (home_of w conn.0)).worked d pl m)) s
  happened-sound w (event.Stop node) t s = simple w node.0 Step.Stop refl (λ d. refl) (λ d pl m. (tt, (s.nodes node.0).worked d pl m)) s
  happened-sound w (event.Take conn) t s = taking w conn.0 (home_of w conn.0) (home-test w conn.0 (can_take conn.0) t) s
  happened-sound w (event.Put conn at) t s = putting w conn.0 at.0 (next_cast (w.puts conn.0) (job_plan r.callbacks conn.0 (w.nodes (home_of w conn.0)))) s
  happened-sound w (event.Finish conn) t s = finishing w conn.0 (home_of w conn.0) (job_plan r.callbacks conn.0 (w.nodes (home_of w conn.0))) refl s
  happened-sound w (event.Cast at channel payload) t s = commit-sound w None (record { channel = channel; payload = payload; at = at.0 }) s
  happened-sound w (event.Trim now retention batch) t s = trim-sound w now.0 retention.0 batch s
  happened-sound w (event.Ask node) t s = asking w node.0 s
  happened-sound w (event.Read node) t s = reading w node.0 (and_parts (is_out (w.nodes node.0)) (is_none (caught w node.0)) t).0 s
  happened-sound w (event.Deliver node) t s = delivering w node.0 (caught w node.0) refl s
  happened-sound w (event.Beat node now) t s = simple w node.0 (Step.Beat now.0) refl (λ d. refl) (λ d pl m. (tt, (s.nodes node.0).worked d pl m)) s
  happened-sound w event.Fault t s = record { rises = s.rises; nodes = s.nodes; closed = s.closed }

  pub happen-sound : (w : World) (e : Event) → Sound w → Sound (happen r w e)
  happen-sound w e s = go (is_possible r w e) refl
    where
      go : (b : Bool) → is_possible r w e ≡ b → Sound (cond b (happened r w e) w)
      go true b = happened-sound w e b s
      go false b = s

  pub start-sound : Sound start
  start-sound = record { rises = omega arith; nodes = λ n. empty-sound r n [] (λ t h. refl); closed = λ c h n. refl }

  pub run-sound : (w : World) (es : List Event) → Sound w → Sound (run r w es)
  run-sound w [] s = s
  run-sound w (e ∷ es) s = run-sound (happen r w e) es (happen-sound w e s)
