-- How many wants a connection ever made, and how many of them turns took.
use Rattle.std.proofs.Common.{ℕ, suc, ◌+◌, ◌≡◌, ◌≤◌, ◌==◌, Bool, true, false, cond, List, [], ◌∷◌, ◌++◌, length, length-append, Some, None, Option, refl, ap}
use Rattle.std.proofs.Common.{sym, subst, ◌∙◌, arith}
use Rattle.std.proofs.lemmas.List.{append-nil, append_assoc}
use Rattle.std.proofs.lemmas.Bool.Decides.{nat_tests}
use Rattle.cable_base.specs.declared.numbers.RowId.{RowId}
use Rattle.cable_model.specs.Connection.{Sub}
use Rattle.cable_model.specs.declared.journals.ReadNote.{ReadNote}
use Rattle.cable_model.specs.declared.plans.Change.{Change}
use Rattle.cable_model.specs.declared.plans.Change.TheVariants as change
use Rattle.cable_model.specs.declared.plans.Plan.{Plan}
use Rattle.cable_model.specs.Legal.{Legal}
use Rattle.cable_model.specs.Pieces.{seat, Seat}
use Rattle.cable_model.specs.Possible.{can_open}
use Rattle.cable_model.specs.Steps.{Step}
use Rattle.cable_model.specs.Wants.{Mark, marks, marked, turn_mark, user_of, made, makes, at_ask}
use Rattle.cable_model.proofs.JobsStay.{unopened-user, new-number, userless-seat}
use Rattle.cable_model.proofs.Marks.{made-conn}
use Rattle.cable_model.proofs.Stored.{HasPlan, has-plan}
use Rattle.node_seats.specs.declared.turning.Wanted.{Wanted}
use Rattle.node_turns.specs.Wished.{wanted_above, wanted_with, number_named, own_wanted, wants_of, taken_count}

-- ---- a connection without a user

-- an Open is one of a number that had no user
pub fresh-user : (c d : ℕ) (token : List ℕ) (user : Option (List ℕ)) (past : List Step) → Legal (Step.Open d token user ∷ past) → (d == c) ≡ true
    → user_of c past ≡ None
fresh-user c d token user past l b =
    let e : d ≡ c = grind (arith, nat_tests) in
    unopened-user c past (new-number c past (subst (λ x. can_open x past ≡ true) e l.0))

-- a Finish is one of a connection with a user
pub finish-user : (c d : ℕ) (puts : List (Option RowId)) (plan : Plan) (past : List Step) → Legal (Step.Finish d puts plan ∷ past) → (d == c) ≡ true
    → (user : List ℕ) × (user_of c past ≡ Some user)
finish-user c d puts plan past l b =
    let found : HasPlan l.0.0.callbacks d past plan = has-plan l.0.0.callbacks d past plan l.0.0.planned in
    let e : d ≡ c = grind (arith, nat_tests) in
    (found.user, subst (λ x. user_of x past ≡ Some found.user) e found.opened)

-- it had none before
pub userless-before : (c : ℕ) (e : Step) (past : List Step) → Legal (e ∷ past) → user_of c (e ∷ past) ≡ None → user_of c past ≡ None
userless-before c (Step.Open d token user) past l u = go (d == c) refl
  where
    go : (b : Bool) → (d == c) ≡ b → user_of c past ≡ None
    go true b = fresh-user c d token user past l b
    go false b = ap (λ x. cond x user (user_of c past)) (sym b) ∙ u
userless-before c _ past l u = u

pub userless-at_ask : (c : ℕ) (past : List Step) → Legal past → user_of c past ≡ None → user_of c (at_ask past) ≡ None
userless-at_ask c [] l u = u
userless-at_ask c (Step.Ask turn ∷ past) l u = u
userless-at_ask c (Step.Open d token user ∷ past) l u = userless-at_ask c past l.1 (userless-before c (Step.Open d token user) past l u)
userless-at_ask c (_ ∷ past) l u = userless-at_ask c past l.1 u

pub legal-at_ask : (past : List Step) → Legal past → Legal (at_ask past)
legal-at_ask [] l = l
legal-at_ask (Step.Ask turn ∷ past) l = l.1
legal-at_ask (_ ∷ past) l = legal-at_ask past l.1

pub userless-mark : (c : ℕ) (note : ReadNote) (past : List Step) → user_of c (at_ask past) ≡ None → turn_mark c note past ≡ []
userless-mark c note past u = ap (λ o. marked o (made c (at_ask past)) note) u

pub userless-marks : (c : ℕ) (past : List Step) → Legal past → user_of c past ≡ None → marks c past ≡ []
userless-marks c [] l u = refl
userless-marks c (Step.Deliver turn note ∷ past) l u =
    let earlier = userless-marks c past l.1 u in
    let none = userless-mark c note past (userless-at_ask c past l.1 u) in
    ap (λ ms. ms ++ turn_mark c note past) earlier ∙ none
userless-marks c (Step.Open d token user ∷ past) l u = userless-marks c past l.1 (userless-before c (Step.Open d token user) past l u)
userless-marks c (_ ∷ past) l u = userless-marks c past l.1 u

pub userless-wants : (c : ℕ) (past : List Step) → Legal past → user_of c past ≡ None → wants_of c past ≡ []
userless-wants c [] l u = refl
userless-wants c (Step.Open d token user ∷ past) l u = go (d == c) refl (userless-wants c past l.1 (userless-before c (Step.Open d token user) past l u))
  where
    go : (b : Bool) → (d == c) ≡ b → wants_of c past ≡ [] → wants_of c (Step.Open d token user ∷ past) ≡ []
    go true b ih = let none = rw b at u in rw (b, none) refl
    go false b ih = rw b ih
userless-wants c (Step.Finish d puts plan ∷ past) l u = go (d == c) refl (userless-wants c past l.1 u)
  where
    go : (b : Bool) → (d == c) ≡ b → wants_of c past ≡ [] → wants_of c (Step.Finish d puts plan ∷ past) ≡ []
    go true b ih = let opened = (finish-user c d puts plan past l b).1 in absurd (cc (opened, u))
    go false b ih = rw b ih
userless-wants c (_ ∷ past) l u = userless-wants c past l.1 u

pub userless-made : (c : ℕ) (past : List Step) → Legal past → user_of c past ≡ None → made c past ≡ 0
userless-made c past l u = sym (made-conn c past) ∙ ap (λ (s : Seat). s.conn.made) (userless-seat c past l u)

-- ---- how many

pub length-above : (c s n : ℕ) (confirms : Bool) (names : List (List ℕ)) → length (wanted_above c s n confirms names) ≡ length names
length-above c s n confirms [] = refl
length-above c s n confirms (name ∷ names) = ap suc (length-above c s (n + 1) false names)

pub length-with : (c place n : ℕ) (subs : List Sub) (x : Change) → length (wanted_with c place n subs x) ≡ makes x
length-with c place n subs (change.Add identifier streams) = length-above c place n true streams
length-with c place n subs (change.Streams identifier stops streams) = length-above c (number_named identifier subs) n false streams
length-with c place n subs _ = refl

-- a connection with a user made its own want, and those that its Finishes made
pub wants-length : (c : ℕ) (user : List ℕ) (past : List Step) → Legal past → user_of c past ≡ Some user → length (wants_of c past) ≡ suc (made c past)
wants-length c user [] l u = absurd (cc (u))
wants-length c user (Step.Open d token other ∷ past) l u = go (d == c) refl (wants-length c user past l.1)
  where
    go : (b : Bool) → (d == c) ≡ b → (user_of c past ≡ Some user → length (wants_of c past) ≡ suc (made c past))
        → length (wants_of c (Step.Open d token other ∷ past)) ≡ suc (made c past)
    go true b ih =
        let same : other ≡ Some user = rw b at u in
        let none = userless-made c past l.1 (fresh-user c d token other past l b) in
        rw (b, same, none) refl
    go false b ih = let u' = rw b at u in rw b (ih u')
wants-length c user (Step.Finish d puts plan ∷ past) l u = go (d == c) refl (wants-length c user past l.1 u)
  where
    go : (b : Bool) → (d == c) ≡ b → length (wants_of c past) ≡ suc (made c past)
        → length (wants_of c (Step.Finish d puts plan ∷ past)) ≡ suc (made c (Step.Finish d puts plan ∷ past))
    go true b ih =
        let new = wanted_with c (seat c past).taken (made c past) (seat c past).conn.subs plan.change in
        let more : length new ≡ makes plan.change = length-with c (seat c past).taken (made c past) (seat c past).conn.subs plan.change in
        let both : length (wants_of c past ++ new) ≡ length (wants_of c past) + length new = length-append (wants_of c past) new in
        rw b (omega (arith, both, more, ih))
    go false b ih = rw b ih
wants-length c user (_ ∷ past) l u = wants-length c user past l.1 u

-- ---- since the Ask

-- those that were made behind the Ask stand behind those that it found
pub wants-since : (c : ℕ) (past : List Step) → Legal past → (later : List Wanted) × (wants_of c past ≡ wants_of c (at_ask past) ++ later)
wants-since c [] l = ([], refl)
wants-since c (Step.Ask turn ∷ past) l = ([], sym (append-nil (wants_of c past)))
wants-since c (Step.Open d token user ∷ past) l = go (d == c) refl (wants-since c past l.1)
  where
    go : (b : Bool) → (d == c) ≡ b → (later : List Wanted) × (wants_of c past ≡ wants_of c (at_ask past) ++ later)
        → (later : List Wanted) × (wants_of c (Step.Open d token user ∷ past) ≡ wants_of c (at_ask past) ++ later)
    go true b ih =
        let none = userless-wants c (at_ask past) (legal-at_ask past l.1) (userless-at_ask c past l.1 (fresh-user c d token user past l b)) in
        (own_wanted c user, rw (b, none) refl)
    go false b ih = (ih.0, rw b ih.1)
wants-since c (Step.Finish d puts plan ∷ past) l = go (d == c) refl (wants-since c past l.1)
  where
    go : (b : Bool) → (d == c) ≡ b → (later : List Wanted) × (wants_of c past ≡ wants_of c (at_ask past) ++ later)
        → (later : List Wanted) × (wants_of c (Step.Finish d puts plan ∷ past) ≡ wants_of c (at_ask past) ++ later)
    go true b ih =
        let new = wanted_with c (seat c past).taken (made c past) (seat c past).conn.subs plan.change in
        (ih.0 ++ new, rw b (ap (λ ws. ws ++ new) ih.1 ∙ append_assoc (wants_of c (at_ask past)) ih.0 new))
    go false b ih = (ih.0, rw b ih.1)
wants-since c (_ ∷ past) l = wants-since c past l.1

-- ---- how many were taken

-- the last turn found the most
pub count-last : (ms : List Mark) (t : Mark) → taken_count (ms ++ t ∷ []) ≡ suc t.seen
count-last [] t = refl
count-last (m ∷ []) t = refl
count-last (m ∷ n ∷ ms) t = count-last (n ∷ ms) t

-- no turn took one that was not made
pub count-within : (c : ℕ) (past : List Step) → Legal past → taken_count (marks c past) ≤ length (wants_of c past)
count-within c [] l = omega arith
count-within c (Step.Deliver turn note ∷ past) l = go (user_of c (at_ask past)) refl note.failed refl (count-within c past l.1)
  where
    go : (u : Option (List ℕ)) → user_of c (at_ask past) ≡ u → (f : Bool) → note.failed ≡ f → taken_count (marks c past) ≤ length (wants_of c past)
        → taken_count (marks c past ++ turn_mark c note past) ≤ length (wants_of c past)
    go None u f f' ih = rw (u, append-nil (marks c past)) ih
    go (Some x) u true f ih = rw (u, f, append-nil (marks c past)) ih
    go (Some x) u false f ih =
        let count = count-last (marks c past) (record { seen = made c (at_ask past); last = note.last.0 }) in
        let found : length (wants_of c (at_ask past)) ≡ suc (made c (at_ask past)) = wants-length c x (at_ask past) (legal-at_ask past l.1) u in
        let since = wants-since c past l.1 in
        let all : length (wants_of c past) ≡ length (wants_of c (at_ask past)) + length since.0 =
        ap length since.1 ∙ length-append (wants_of c (at_ask past)) since.0 in
        rw (u, f, count) (omega (arith, found, all))
count-within c (Step.Open d token user ∷ past) l = go (d == c) refl (count-within c past l.1)
  where
    go : (b : Bool) → (d == c) ≡ b → taken_count (marks c past) ≤ length (wants_of c past)
        → taken_count (marks c past) ≤ length (wants_of c (Step.Open d token user ∷ past))
    go true b ih = let none = userless-marks c past l.1 (fresh-user c d token user past l b) in rw none (omega arith)
    go false b ih = rw b ih
count-within c (Step.Finish d puts plan ∷ past) l = go (d == c) refl (count-within c past l.1)
  where
    go : (b : Bool) → (d == c) ≡ b → taken_count (marks c past) ≤ length (wants_of c past)
        → taken_count (marks c past) ≤ length (wants_of c (Step.Finish d puts plan ∷ past))
    go true b ih =
        let new = wanted_with c (seat c past).taken (made c past) (seat c past).conn.subs plan.change in
        let both : length (wants_of c past ++ new) ≡ length (wants_of c past) + length new = length-append (wants_of c past) new in
        rw b (omega (arith, both, ih))
    go false b ih = rw b ih
count-within c (_ ∷ past) l = count-within c past l.1
