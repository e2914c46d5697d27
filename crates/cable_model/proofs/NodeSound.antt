-- What a node's journal keeps beside the table's, while either grows: it is worked as planned, its notes fit, and its turns asked for all names that are held.
use Rattle.std.proofs.Common.{ℕ, suc, ◌≡◌, ◌<◌, ◌≤◌, ◌==◌, Bool, true, false, cond, List, [], ◌∷◌, ◌++◌, length, Some, None, Option, refl, ap, sym, subst, ◌∙◌, arith, inl, inr, ◌⊎◌, bytes_eq, length-append, ℤ}
use Rattle.std.proofs.lemmas.List.{append-nil}
use Rattle.std.specs.List.{AllByRecursion}
use Rattle.std.proofs.lemmas.Bool.Decides.{nat_tests}
use Rattle.std.proofs.lemmas.Slice.Eq.{bytes_eq-Decides}
use Rattle.cable_base.specs.declared.rows.Row.{Row}
use Rattle.cable_model.specs.declared.journals.ReadNote.{ReadNote}
use Rattle.cable_model.specs.Steps.{Step}
use Rattle.cable_model.specs.Connection.{Planner, name_of}
use Rattle.cable_model.specs.Wants.{lower, user_of, marks, mark_of}
use Rattle.cable_model.specs.Pieces.{seat}
use Rattle.cable_model.specs.Plans.{Callbacks, planner}
use Rattle.cable_model.specs.Possible.{is_out, last_turn}
use Rattle.cable_model.specs.Table.{TableStep, commits, last_id, read_of, asked_at, reads_of}
use Rattle.cable_model.specs.History.{Rules, hashes_of}
use Rattle.cable_model.specs.HistoryLaws.{last_at, planner_of}
use Rattle.cable_model.specs.Promise.{AllWorked, Fits, Linked, AllLinked}
use Rattle.cable_model.proofs.Entries.{turnless, KeepsTurn, keeps-turn}
use Rattle.cable_model.proofs.Marks.{marked-made}
use Rattle.cable_model.proofs.Asking.{AsksHeld, AllAskHeld}
use Rattle.cable_model.proofs.Linking.{TurnsRise, delivered, Agree, Fits-more, linked-more}
use Rattle.cable_model.proofs.Holding.{conn-keeps, asks-for, asks-more}

-- the planner is that of the connection's user. Where it has none any will do
abbrev pub PlansFor : Callbacks → Planner → Option (List ℕ) → Type 0
PlansFor c pl o = ((u : List ℕ) × (o ≡ Some u) × (pl ≡ planner c u)) ⊎ (o ≡ None)

pub plans-for : (c : Callbacks) (o : Option (List ℕ)) → PlansFor c (planner_of c o) o
plans-for c None = inr refl
plans-for c (Some u) = inl (u, refl, refl)

-- the note of a turn that was not missed has the table's last id at its Read
abbrev pub LastIs : ℕ → List TableStep → Step → Type 0
LastIs n table (Step.Deliver turn note) = note.failed ≡ false → note.last.0 ≡ last_at n turn table
LastIs n table _ = Unit {0}

abbrev pub LastsAre : ℕ → List TableStep → List Step → Type 0
LastsAre n table [] = Unit {0}
LastsAre n table (e ∷ past) = LastIs n table e × LastsAre n table past

-- two journals of the table tell the same of a node's turn
pub record SameTurn (hash : List ℕ → ℤ) (n t : ℕ) (now table : List TableStep) : Type 0 where
  pub read : read_of n t now ≡ read_of n t table
  pub agree : Agree (reads_of hash n table) (reads_of hash n now) t
  pub last : last_at n t now ≡ last_at n t table

lasts-more : (hash : List ℕ → ℤ) (n : ℕ) (now table : List TableStep) (past : List Step) → TurnsRise past → ((t : ℕ) → t ≤ delivered past → SameTurn hash n t now table)
    → LastsAre n table past → LastsAre n now past
lasts-more hash n now table [] r same l = tt
lasts-more hash n now table (Step.Deliver turn note ∷ past) r same l =
    (λ f. l.0 f ∙ sym (same turn (omega arith)).last, lasts-more hash n now table past r.1 (λ t h. same t (omega (arith, r.0))) l.1)
lasts-more hash n now table (_ ∷ past) r same l = (tt, lasts-more hash n now table past r same l.1)

module _ (r : Rules) (n : ℕ) where
  -- what is known of the turn that is out, once it is read
  pub record Caught (table : List TableStep) (past : List Step) (note : ReadNote) : Type 0 where
    pub fits : note.failed ≡ false → Fits (commits table) (reads_of r.hash n table) (last_turn past) note (lower past)
    pub last : note.failed ≡ false → note.last.0 ≡ last_at n (last_turn past) table
    pub held : (c s w mark : ℕ) (name : List ℕ) → mark_of w (marks c past) ≡ Some mark → name_of s w (seat c past).conn ≡ Some name
        → (row : Row) → bytes_eq name row.channel ≡ true → asked_at r.hash n table (last_turn past) row ≡ true

  pub record NodeSound (table : List TableStep) (past : List Step) : Type 0 where
    pub worked : (c : ℕ) (pl : Planner) → PlansFor r.callbacks pl (user_of c past) → AllWorked pl c past
    pub linked : AllLinked (commits table) (reads_of r.hash n table) past
    pub lasts : LastsAre n table past
    pub asks : (c : ℕ) → AllAskHeld (reads_of r.hash n table) c past
    pub low : lower past ≤ last_id table
    pub turns : TurnsRise past
    pub last : delivered past ≤ last_turn past
    pub out : is_out past ≡ true → delivered past < last_turn past
    pub unread : (t : ℕ) → last_turn past < t → read_of n t table ≡ None
    pub caught : is_out past ≡ true → (note : ReadNote) → read_of n (last_turn past) table ≡ Some note → Caught table past note

  pub empty-sound : (table : List TableStep) → ((t : ℕ) → 0 < t → read_of n t table ≡ None) → NodeSound table []
  empty-sound table h =
      record {
        worked = λ c pl m. tt;
        linked = tt;
        lasts = tt;
        asks = λ c. tt;
        low = omega arith;
        turns = tt;
        last = omega arith;
        out = λ o. absurd (cc (o));
        unread = h;
        caught = λ o. absurd (cc (o));
      }

  -- ---- entries of the node

  -- what an entry that is no Boot and of no turn leaves besides
  record Plain (table : List TableStep) (e : Step) (past : List Step) : Type 0 where
    pub before : delivered (e ∷ past) ≡ delivered past
    pub turns : TurnsRise past → TurnsRise (e ∷ past)
    pub linked : Linked (commits table) (reads_of r.hash n table) e past
    pub lasts : LastIs n table e
    pub asks : (c : ℕ) → AsksHeld (reads_of r.hash n table) c e past

  plain : (table : List TableStep) (e : Step) (past : List Step) → turnless e ≡ true → Plain table e past
  plain table (Step.Boot last) past h = absurd (cc (h))
  plain table (Step.Ask turn) past h = absurd (cc (h))
  plain table (Step.Deliver turn note) past h = absurd (cc (h))
  plain table _ past h = record { before = refl; turns = λ t. t; linked = tt; lasts = tt; asks = λ d. tt }

  pub plain-sound : (table : List TableStep) (e : Step) (past : List Step) → turnless e ≡ true
      → ((c : ℕ) (pl : Planner) → PlansFor r.callbacks pl (user_of c (e ∷ past)) → AllWorked pl c (e ∷ past)) → NodeSound table past → NodeSound table (e ∷ past)
  plain-sound table e past h worked s =
      record {
        worked = worked;
        linked = (p.linked, s.linked);
        lasts = (p.lasts, s.lasts);
        asks = λ c. (p.asks c, s.asks c);
        low = rw kept.low s.low;
        turns = p.turns s.turns;
        last = rw (p.before, kept.turn) s.last;
        out = λ o. rw (p.before, kept.turn) (s.out (sym kept.out ∙ o));
        unread = λ t l. s.unread t (subst (λ m. m < t) kept.turn l);
        caught = λ o note q. keeps note (s.caught (sym kept.out ∙ o) note (sym (ap (λ t. read_of n t table) kept.turn) ∙ q));
      }
    where
      kept : KeepsTurn e past
      kept = keeps-turn e past h

      p : Plain table e past
      p = plain table e past h

      keeps : (note : ReadNote) → Caught table past note → Caught table (e ∷ past) note
      keeps note k =
          record {
            fits = λ f. subst (λ t. Fits (commits table) (reads_of r.hash n table) t note (lower (e ∷ past))) (sym kept.turn)
                (subst (Fits (commits table) (reads_of r.hash n table) (last_turn past) note) (sym kept.low) (k.fits f));
            last = λ f. k.last f ∙ sym (ap (λ t. last_at n t table) kept.turn);
            held = λ c x w mark name o q row b.
                let user = user_of c (e ∷ past) in
                let o' : mark_of w (marks c past) ≡ Some mark = sym (ap (mark_of w) (kept.same c)) ∙ o in
                ap (λ t. asked_at r.hash n table t row) kept.turn
                ∙ k.held c x w mark name o' (conn-keeps (planner_of r.callbacks user) c x w name e past (worked c (planner_of r.callbacks user) (plans-for r.callbacks user)) (marked-made c w mark past o') q) row b;
          }

  -- the next turn
  pub ask-sound : (table : List TableStep) (past : List Step) → NodeSound table past → NodeSound table (Step.Ask (suc (last_turn past)) ∷ past)
  ask-sound table past s =
      record {
        worked = λ c pl m. (tt, s.worked c pl m);
        linked = (tt, s.linked);
        lasts = (tt, s.lasts);
        asks = λ c. (tt, s.asks c);
        low = s.low;
        turns = s.turns;
        last = omega (arith, s.last);
        out = λ o. omega (arith, s.last);
        unread = λ t l. s.unread t (omega arith);
        caught = λ o note q. let none = s.unread (suc (last_turn past)) (omega arith) in absurd (cc (none, q));
      }

  -- the turn that is out, with the note of its Read
  pub deliver-sound : (table : List TableStep) (past : List Step) (note : ReadNote) → is_out past ≡ true → read_of n (last_turn past) table ≡ Some note
      → NodeSound table past → NodeSound table (Step.Deliver (last_turn past) note ∷ past)
  deliver-sound table past note o q s =
      record {
        worked = λ c pl m. (tt, s.worked c pl m);
        linked = (k.fits, s.linked);
        lasts = (k.last, s.lasts);
        asks = λ c. (λ f x w mark name m e row b. k.held c x w mark name m e row b, s.asks c);
        low = low note.failed refl;
        turns = (s.out o, s.turns);
        last = omega arith;
        out = λ h. absurd (cc (h));
        unread = s.unread;
        caught = λ h. absurd (cc (h));
      }
    where
      k : Caught table past note
      k = s.caught o note q

      low : (b : Bool) → note.failed ≡ b → lower (Step.Deliver (last_turn past) note ∷ past) ≤ last_id table
      low true b = subst (λ x. cond x (lower past) note.upto.0 ≤ last_id table) (sym b) s.low
      low false b = let f = k.fits b in subst (λ x. cond x (lower past) note.upto.0 ≤ last_id table) (sym b) (omega (arith, f.within, f.known))

  -- the Boot stands first
  pub boot-sound : (table : List TableStep) (past : List Step) → past ≡ [] → NodeSound table past → NodeSound table (Step.Boot (last_id table) ∷ past)
  boot-sound table past e s =
      record {
        worked = λ c pl m. (tt, s.worked c pl m);
        linked = (e, s.linked);
        lasts = (tt, s.lasts);
        asks = λ c. (tt, s.asks c);
        low = omega arith;
        turns = s.turns;
        last = s.last;
        out = s.out;
        unread = s.unread;
        caught = λ o. let o' : is_out [] ≡ true = sym (ap is_out e) ∙ o in absurd (cc (o'));
      }

  -- ---- entries of the table

  -- an entry that tells nothing new of the node's turns
  pub more-sound : (now table : List TableStep) (past : List Step) (xs : List Row) → commits now ≡ commits table ++ xs → AllByRecursion (λ x. last_id table < x.id.0) xs
      → ((t : ℕ) → SameTurn r.hash n t now table) → NodeSound table past → NodeSound now past
  more-sound now table past xs more fresh same s =
      record {
        worked = s.worked;
        linked = subst (λ x. AllLinked x (reads_of r.hash n now) past) (sym more)
            (linked-more (commits table) xs fresh (reads_of r.hash n table) (reads_of r.hash n now) past s.turns (λ t h. (same t).agree) s.linked);
        lasts = lasts-more r.hash n now table past s.turns (λ t h. same t) s.lasts;
        asks = λ c. asks-more (reads_of r.hash n table) (reads_of r.hash n now) c past s.turns (λ t h. (same t).agree) (s.asks c);
        low = omega (arith, s.low, ap length more, length-append (commits table) xs);
        turns = s.turns;
        last = s.last;
        out = s.out;
        unread = λ t l. (same t).read ∙ s.unread t l;
        caught = λ o note q. keeps note (s.caught o note (sym (same (last_turn past)).read ∙ q));
      }
    where
      keeps : (note : ReadNote) → Caught table past note → Caught now past note
      keeps note k =
          record {
            fits = λ f. subst (λ x. Fits x (reads_of r.hash n now) (last_turn past) note (lower past)) (sym more)
                (Fits-more (commits table) xs fresh (reads_of r.hash n table) (reads_of r.hash n now) (last_turn past) note (lower past) (same (last_turn past)).agree (k.fits f));
            last = λ f. k.last f ∙ sym (same (last_turn past)).last;
            held = λ c x w mark name o q row b. ((same (last_turn past)).agree row).1 ∙ k.held c x w mark name o q row b;
          }

  -- a Read of the turn that is out
  module _ (table : List TableStep) (past : List Step) (note : ReadNote) where
    abbrev read : List TableStep
    read = TableStep.Read n (last_turn past) note (hashes_of r.hash past) ∷ table

    self : (m : ℕ) → (m == m) ≡ true
    self m = grind (arith, nat_tests)

    other : (t : ℕ) → (last_turn past == t) ≡ false → SameTurn r.hash n t read table
    other t b = record { read = rw (self n, b) refl; agree = λ x. (rw (self n, b) refl, rw (self n, b) refl); last = rw (self n, b) refl }

    here : read_of n (last_turn past) read ≡ Some note
    here = rw (self n, self (last_turn past)) refl

    pub read-sound : is_out past ≡ true → (note.failed ≡ false → Fits (commits table) (reads_of r.hash n read) (last_turn past) note (lower past)) → (note.failed ≡ false → note.last.0 ≡ last_id table)
        → NodeSound table past → NodeSound read past
    read-sound o fits last s =
        record {
          worked = s.worked;
          linked = subst (λ x. AllLinked x (reads_of r.hash n read) past) (append-nil (commits table))
              (linked-more (commits table) [] tt (reads_of r.hash n table) (reads_of r.hash n read) past s.turns (λ t h. (before t h).agree) s.linked);
          lasts = lasts-more r.hash n read table past s.turns before s.lasts;
          asks = λ c. asks-more (reads_of r.hash n table) (reads_of r.hash n read) c past s.turns (λ t h. (before t h).agree) (s.asks c);
          low = s.low;
          turns = s.turns;
          last = s.last;
          out = s.out;
          unread = λ t l. (other t (grind (arith, nat_tests))).read ∙ s.unread t l;
          caught = λ h x q. let same : note ≡ x = cc (here, q) in subst (Caught read past) same caught;
        }
      where
        before : (t : ℕ) → t ≤ delivered past → SameTurn r.hash n t read table
        before t h = let l = s.out o in other t (grind (arith, nat_tests))

        caught : Caught read past note
        caught =
            record {
              fits = fits;
              last = λ f. last f ∙ sym (there (last_turn past));
              held = λ c x w mark name m q row b.
                  let user = user_of c past in
                  let a = asks-for r.hash (planner_of r.callbacks user) c x w mark name past (s.worked c (planner_of r.callbacks user) (plans-for r.callbacks user)) o m q in
                  let same : name ≡ row.channel = (bytes_eq-Decides name row.channel).0 b in
                  rw (self n, self (last_turn past), ← same) a;
            }
          where
            there : (t : ℕ) → last_at n (last_turn past) read ≡ last_id table
            there t = rw (self n, self (last_turn past)) refl
