-- A connection that is over stays so, whatever comes, and a live one isn't over.
use Rattle.std.proofs.Common.{ℕ, ◌≡◌, ◌==◌, ◌&&◌, Bool, true, false, cond, not, List, [], ◌∷◌, take, Option, Some, is_some, refl, ap, subst, ◌∙◌, arith}
use Rattle.std.specs.List.{list_any}
use Rattle.std.proofs.lemmas.Bool.Decides.{nat_tests}
use Rattle.cable_base.specs.declared.numbers.RowId.{RowId}
use Rattle.cable_json.specs.Commands.{command_of}
use Rattle.cable_model.specs.declared.journals.ReadNote.{ReadNote}
use Rattle.cable_model.specs.declared.pieces.Piece.TheVariants as piece
use Rattle.cable_model.specs.declared.plans.Plan.{Plan}
use Rattle.cable_model.specs.Legal.{Legal}
use Rattle.cable_model.specs.Pieces.{seat, with_put, with_all, with_job, deliver_puts}
use Rattle.cable_model.specs.Possible.{opened, is_opened, is_live, is_out, is_over, can_open, has_job}
use Rattle.cable_model.specs.Steps.{Step}
use Rattle.cable_model.specs.Wants.{marks, turn_mark, user_of}
use Rattle.cable_model.proofs.JobsStay.{new-number, opened-now}
use Rattle.cable_model.proofs.Stored.{HasPlan, has-plan}
use Rattle.conn_seat.specs.Seats.{Seated}
use Rattle.conn_seat.specs.Seated.{SeatOf}
use Rattle.node_seats.specs.declared.turning.Wanted.{Wanted}
use Rattle.node_seats.specs.Turned.{wanted_by}
use Rattle.node_turns.specs.Wished.{AreWished, found_made, is_plain}
use Rattle.node_turns.proofs.PlacingJournal.{shut}

-- as the numbers, the user and the connection tell it
tells : ℕ → List ℕ → Option (List ℕ) → (over : Bool) → Bool
tells c numbers user over = list_any (λ d. d == c) numbers && not (is_some user && not over)

over-opened : (c : ℕ) (past : List Step) → is_over c past ≡ true → is_opened c past ≡ true
over-opened c past h = go (is_opened c past) refl
  where
    go : (b : Bool) → is_opened c past ≡ b → is_opened c past ≡ true
    go true b = b
    go false b = let h' = rw b at h in absurd (cc (h'))

over-dead : (c : ℕ) (past : List Step) → is_over c past ≡ true → is_live c past ≡ false
over-dead c past h = go (is_opened c past) (is_live c past) refl h
  where
    go : (o v : Bool) → is_live c past ≡ v → (o && not v) ≡ true → is_live c past ≡ false
    go true false v t = v
    go true true v t = absurd (cc (t))
    go false v v' t = absurd (cc (t))

-- a connection with a user that is over was closed
pub over-shut : (c : ℕ) (user : List ℕ) (past : List Step) → is_over c past ≡ true → user_of c past ≡ Some user → (seat c past).conn.over ≡ true
over-shut c user past h u = go (seat c past).conn.over refl
  where
    go : (b : Bool) → (seat c past).conn.over ≡ b → (seat c past).conn.over ≡ true
    go true b = b
    go false b = let dead = over-dead c past h in let dead' = rw (u, b) at dead in absurd (cc (dead'))

-- an entry that leaves these three leaves it over
over-as : (c : ℕ) (past now : List Step) → opened now ≡ opened past → user_of c now ≡ user_of c past → (seat c now).conn.over ≡ (seat c past).conn.over
    → is_over c past ≡ true → is_over c now ≡ true
unfolding tells
over-as c past now o u k h =
    ap (λ ns. tells c ns (user_of c now) (seat c now).conn.over) o
    ∙ (ap (λ x. tells c (opened past) x (seat c now).conn.over) u
    ∙ (ap (tells c (opened past) (user_of c past)) k ∙ h))

pub over-plain : (c : ℕ) (e : Step) (past : List Step) → is_plain e ≡ true → is_over c past ≡ true → is_over c (e ∷ past) ≡ true
over-plain c (Step.In d text) past p h =
    over-as c past (Step.In d text ∷ past) refl refl
    (elim (d == c) as (λ b. (cond b (with_put (seat c past) (piece.Cmd (command_of text))) (seat c past)).conn.over ≡ (seat c past).conn.over)
    [ true ↦ refl | false ↦ refl ]) h
over-plain c (Step.Drop d) past p h =
    over-as c past (Step.Drop d ∷ past) refl refl
    (elim (d == c) as (λ b. (cond b (with_put (seat c past) piece.Gone) (seat c past)).conn.over ≡ (seat c past).conn.over) [ true ↦ refl | false ↦ refl ]) h
over-plain c Step.Stop past p h =
    over-as c past (Step.Stop ∷ past) refl refl
    (elim (is_some (user_of c past)) as (λ b. (cond b (with_put (seat c past) piece.Restart) (seat c past)).conn.over ≡ (seat c past).conn.over)
    [ true ↦ refl | false ↦ refl ]) h
over-plain c (Step.Take d) past p h =
    over-as c past (Step.Take d ∷ past) refl refl
    (elim (d == c) as (λ b. (cond b (with_job (seat c past)) (seat c past)).conn.over ≡ (seat c past).conn.over) [ true ↦ refl | false ↦ refl ]) h
over-plain c (Step.Beat now) past p h = h
over-plain c (Step.Boot last) past p h = absurd (cc (p))
over-plain c (Step.Open d token user) past p h = absurd (cc (p))
over-plain c (Step.Finish d puts plan) past p h = absurd (cc (p))
over-plain c (Step.Ask turn) past p h = absurd (cc (p))
over-plain c (Step.Deliver turn note) past p h = absurd (cc (p))

pub over-delivered : (c turn : ℕ) (note : ReadNote) (past : List Step) → is_over c past ≡ true → is_over c (Step.Deliver turn note ∷ past) ≡ true
over-delivered c turn note past h =
    over-as c past (Step.Deliver turn note ∷ past) refl refl
    (elim note.failed as (λ b.
    (cond b (seat c past)
    (with_all (seat c past) (deliver_puts (user_of c past) (marks c past) (turn_mark c note past) (seat c past).conn.subs note.rows))).conn.over
    ≡ (seat c past).conn.over) [ true ↦ refl | false ↦ refl ]) h

-- one that is over isn't opened again
pub over-unopened : (c d : ℕ) (token : List ℕ) (user : Option (List ℕ)) (past : List Step) → Legal (Step.Open d token user ∷ past) → is_over c past ≡ true
    → (d == c) ≡ false
over-unopened c d token user past l h = go (d == c) refl
  where
    go : (b : Bool) → (d == c) ≡ b → (d == c) ≡ false
    go false b = b
    go true b =
        let e : d ≡ c = grind (arith, nat_tests) in
        let new : is_opened c past ≡ false = new-number c past (subst (λ x. can_open x past ≡ true) e l.0) in
        let was = over-opened c past h in absurd (cc (new, was))

pub over-opens : (c d : ℕ) (token : List ℕ) (user : Option (List ℕ)) (past : List Step) → Legal (Step.Open d token user ∷ past) → is_over c past ≡ true
    → is_over c (Step.Open d token user ∷ past) ≡ true
over-opens c d token user past l h =
    let other = over-unopened c d token user past l h in
    let was = opened-now c d token user past in
    rw (was, other) h

-- .. and has no job that a Finish could end
pub over-unfinished : (c d : ℕ) (puts : List (Option RowId)) (plan : Plan) (past : List Step) → Legal (Step.Finish d puts plan ∷ past) → is_over c past ≡ true
    → (d == c) ≡ false
over-unfinished c d puts plan past l h = go (d == c) refl
  where
    go : (b : Bool) → (d == c) ≡ b → (d == c) ≡ false
    go false b = b
    go true b =
        let found : HasPlan l.0.0.callbacks d past plan = has-plan l.0.0.callbacks d past plan l.0.0.planned in
        let e : d ≡ c = grind (arith, nat_tests) in
        let out : has_job (seat c past) ≡ true = subst (λ x. has_job (seat x past) ≡ true) e found.out in
        let user : user_of c past ≡ Some found.user = subst (λ x. user_of x past ≡ Some found.user) e found.opened in
        let none = (shut c past l.1 (over-shut c found.user past h user)).1 in
        absurd (cc (out, none))

pub over-finished : (c d : ℕ) (puts : List (Option RowId)) (plan : Plan) (past : List Step) → Legal (Step.Finish d puts plan ∷ past) → is_over c past ≡ true
    → is_over c (Step.Finish d puts plan ∷ past) ≡ true
over-finished c d puts plan past l h =
    let other = over-unfinished c d puts plan past l h in
    rw other h

-- a live connection isn't gone: the turn that is out takes what its Ask found of it
pub live-found : (c : ℕ) (past : List Step) (s : Seated) (gone : ℕ → Bool) (ws : List Wanted) (taken : ℕ) → is_out past ≡ true → AreWished past gone ws taken
    → SeatOf c past s → s.over ≡ false → wanted_by c (take taken ws) ≡ found_made c past
live-found c past s gone ws taken o w sits open_still = w.out o c ∙ go (gone c) refl
  where
    go : (b : Bool) → gone c ≡ b → cond (gone c) [] (found_made c past) ≡ found_made c past
    go false g = rw g refl
    go true g =
        let t = over-shut c s.user past (w.over c g) sits.user in
        let e = sits.shows.conn.over in absurd (cc (t, e, open_still))
