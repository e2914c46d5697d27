-- The holds of a journal, where an entry neither ends nor places one.
use Rattle.std.proofs.Common.{◌≡◌, ℕ, ◌==◌, Bool, true, false, cond, ◌||◌, List, [], ◌∷◌, ◌++◌, map, Option, Some, None, refl, sym, ap, subst, ◌∙◌, arith}
use Rattle.std.proofs.Common.{unwrap_or}
use Rattle.std.proofs.lemmas.Bool.Decides.{nat_tests}
use Rattle.std.specs.FinMap as maps
use Rattle.std.specs.Ordering.{nat_cmp}
use Rattle.std.specs.Cmp.Lexicographic.{slice_cmp}
use Rattle.cable_model.specs.declared.journals.ReadNote.{ReadNote}
use Rattle.cable_model.specs.Connection.{Conn}
use Rattle.cable_model.specs.Legal.{Legal}
use Rattle.cable_model.specs.Pieces.{seat, unseated, with_put, with_all, with_job, deliver_puts}
use Rattle.cable_model.specs.Pieces as model
use Rattle.cable_model.specs.Possible.{is_opened}
use Rattle.cable_model.specs.Steps.{Step}
use Rattle.cable_model.specs.Wants.{Mark, marks, mark_of, turn_mark, user_of, at_ask, made, marked}
use Rattle.cable_model.proofs.JobsStay.{opened-now, userless-seat, unopened-user, new-number}
use Rattle.cable_model.proofs.Marks.{missed-marks}
use Rattle.conn_core.specs.Marked.{marked_sub}
use Rattle.node_seats.specs.AreSeats.{Leaves}
use Rattle.node_seats.proofs.Onward.{leaves-other}
use Rattle.subscriber_map.specs.declared.holding.Hold.{Hold}
use Rattle.subscriber_map.specs.HoldMaps.{HoldMap, holds_at}
use Rattle.node_turns.specs.Held.{own_hold, sub_holds, holds_of, holds_on, AreHeld, is_steady}
use Rattle.cable_model.proofs.Entries.{unfinished}

-- what the holds of a connection are read from
abbrev pub holds_read : ℕ → Conn → Option (List ℕ) → List Mark → List ℕ → List Hold
holds_read c k user ms name = cond k.over [] (own_hold c name user (mark_of 0 ms)) ++ sub_holds c name (map (marked_sub (λ w. mark_of w ms)) k.subs)

-- the journal went on, and has the same connection with the same user and marks
pub record Stays (c : ℕ) (past now : List Step) : Type 0 where
  pub conn : (seat c now).conn ≡ (seat c past).conn
  pub user : user_of c now ≡ user_of c past
  pub marked : marks c now ≡ marks c past

pub same-holds : (c : ℕ) (past now : List Step) (name : List ℕ) → Stays c past now → holds_of c now name ≡ holds_of c past name
same-holds c past now name s =
    ap (λ (k : Conn). holds_read c k (user_of c now) (marks c now) name) s.conn
    ∙ (ap (λ (u : Option (List ℕ)). holds_read c (seat c past).conn u (marks c now) name) s.user
    ∙ ap (λ (ms : List Mark). holds_read c (seat c past).conn (user_of c past) ms name) s.marked)

pub all-stay : (past now : List Step) (m : HoldMap) → ((c : ℕ) → Stays c past now) → AreHeld past m → AreHeld now m
all-stay past now m stays h c name = h c name ∙ sym (same-holds c past now name (stays c))

pub left-alone : (c : ℕ) (past now : List Step) → Leaves c past now → Stays c past now
left-alone c past now l = record { conn = ap (λ (s : model.Seat). s.conn) l.seated; user = l.user; marked = l.marked }

pub held-boot : (last : ℕ) → AreHeld (Step.Boot last ∷ []) maps.empty
held-boot last c name = ap (λ (o : Option (List Hold)). holds_on c (unwrap_or o [])) (maps.get-empty (slice_cmp nat_cmp) name)

steady : (c : ℕ) (e : Step) (past : List Step) → is_steady e ≡ true → Stays c past (e ∷ past)
steady c (Step.Boot last) past is = absurd cc
steady c (Step.Open d token user) past is = absurd cc
steady c (Step.Finish d puts plan) past is = absurd cc
steady c (Step.Deliver turn note) past is = absurd cc
steady c e past is = record { conn = (unfinished c e past refl).conn; user = refl; marked = refl }

pub held-steady : (e : Step) (past : List Step) (m : HoldMap) → is_steady e ≡ true → AreHeld past m → AreHeld (e ∷ past) m
held-steady e past m is = all-stay past (e ∷ past) m (λ c. steady c e past is)

pub held-missed : (turn : ℕ) (note : ReadNote) (past : List Step) (m : HoldMap) → note.failed ≡ true → AreHeld past m
    → AreHeld (Step.Deliver turn note ∷ past) m
held-missed turn note past m failed = all-stay past (Step.Deliver turn note ∷ past) m (λ c. record {
  conn = ap (λ b.
      (cond b (seat c past)
      (with_all (seat c past) (deliver_puts (user_of c past) (marks c past) (turn_mark c note past) (seat c past).conn.subs note.rows))).conn) failed;
  user = refl;
  marked = missed-marks c turn note past failed;
})

-- ---- an Open

or-second : (a b : Bool) → (a || b) ≡ false → b ≡ false
or-second a b h = grind arith

unopened-before : (c d : ℕ) (token : List ℕ) (user : Option (List ℕ)) (past : List Step) → is_opened c (Step.Open d token user ∷ past) ≡ false
    → is_opened c past ≡ false
unopened-before c d token user past h = or-second (d == c) (is_opened c past) (sym (opened-now c d token user past) ∙ h)

unopened-at_ask : (c : ℕ) (past : List Step) → is_opened c past ≡ false → is_opened c (at_ask past) ≡ false
unopened-at_ask c [] h = h
unopened-at_ask c (Step.Ask turn ∷ past) h = h
unopened-at_ask c (Step.Open d token user ∷ past) h = unopened-at_ask c past (unopened-before c d token user past h)
unopened-at_ask c (_ ∷ past) h = unopened-at_ask c past h

-- one that was never opened has no marks
pub unopened-marks : (c : ℕ) (past : List Step) → is_opened c past ≡ false → marks c past ≡ []
unopened-marks c [] h = refl
unopened-marks c (Step.Deliver turn note ∷ past) h =
    let none = unopened-user c (at_ask past) (unopened-at_ask c past h) in
    ap (λ (ms : List Mark). ms ++ turn_mark c note past) (unopened-marks c past h) ∙ ap (λ (u : Option (List ℕ)). marked u (made c (at_ask past)) note) none
unopened-marks c (Step.Open d token user ∷ past) h = unopened-marks c past (unopened-before c d token user past h)
unopened-marks c (_ ∷ past) h = unopened-marks c past h

-- a connection that is opened holds nothing yet
none-held : (c : ℕ) (past : List Step) (user : Option (List ℕ)) (name : List ℕ) → seat c past ≡ unseated → marks c past ≡ []
    → holds_read c (seat c past).conn user (marks c past) name ≡ []
none-held c past user name s ms =
    ap (λ (x : model.Seat). holds_read c x.conn user (marks c past) name) s
    ∙ (ap (λ (xs : List Mark). holds_read c unseated.conn user xs name) ms
    ∙ elim user as (λ u. holds_read c unseated.conn u [] name ≡ []) [ None ↦ refl | Some u ↦ refl ])

pub held-open : (c : ℕ) (token : List ℕ) (user : Option (List ℕ)) (past : List Step) (m : HoldMap) → Legal (Step.Open c token user ∷ past) → AreHeld past m
    → AreHeld (Step.Open c token user ∷ past) m
held-open c token user past m l h x name = by-number (c == x) refl
  where
    now : List Step
    now = Step.Open c token user ∷ past

    by-number : (b : Bool) → (c == x) ≡ b → holds_on x (holds_at m name) ≡ holds_of x now name
    by-number false other = h x name ∙ sym (same-holds x past now name (left-alone x past now (leaves-other x (Step.Open c token user) past other refl)))
    by-number true same =
        let e : c ≡ x = grind (arith, nat_tests) in
        let free : is_opened x past ≡ false = subst (λ n. is_opened n past ≡ false) e (new-number c past l.0) in
        let none = userless-seat x past l.1 (unopened-user x past free) in
        let unmarked = unopened-marks x past free in
        h x name ∙ (none-held x past (user_of x past) name none unmarked ∙ sym (none-held x past (user_of x now) name none unmarked))
