-- What an entry of a node's journal leaves as it was. A table over the kinds of entry names those that change what it speaks of, and its last
-- line, with no kind named, is checked for each of the others.
use Rattle.std.proofs.Common.{ℕ, ◌≡◌, ◌==◌, Bool, true, false, cond, List, [], ◌∷◌, refl, ap, is_some}
use Rattle.cable_json.specs.Commands.{command_of}
use Rattle.cable_model.specs.declared.pieces.Piece.{Piece}
use Rattle.cable_model.specs.declared.pieces.Piece.TheVariants as piece
use Rattle.cable_model.specs.Steps.{Step}
use Rattle.cable_model.specs.Wants.{lower, marks, turn_mark, user_of}
use Rattle.cable_model.specs.Pieces.{Seat, seat, with_put, with_all, with_job, deliver_puts}
use Rattle.cable_model.specs.Possible.{is_out, last_turn}

-- ---- a connection

abbrev pub takes_or_finishes : Step → Bool
takes_or_finishes (Step.Take d) = true
takes_or_finishes (Step.Finish d puts plan) = true
takes_or_finishes _ = false

abbrev pub finishes : Step → Bool
finishes (Step.Finish d puts plan) = true
finishes _ = false

put-where : (b : Bool) (s : Seat) (q : Piece) → (qs : List Piece) × (cond b (with_put s q) s ≡ with_all s qs)
put-where true s q = (q ∷ [], refl)
put-where false s q = ([], refl)

-- an entry that takes or finishes no piece puts some, or none
pub only-puts : (c : ℕ) (e : Step) (past : List Step) → takes_or_finishes e ≡ false → (qs : List Piece) × (seat c (e ∷ past) ≡ with_all (seat c past) qs)
only-puts c (Step.In d text) past h = put-where (d == c) (seat c past) (piece.Cmd (command_of text))
only-puts c (Step.Drop d) past h = put-where (d == c) (seat c past) piece.Gone
only-puts c Step.Stop past h = put-where (is_some (user_of c past)) (seat c past) piece.Restart
only-puts c (Step.Deliver turn note) past h =
    let puts = deliver_puts (user_of c past) (marks c past) (turn_mark c note past) (seat c past).conn.subs note.rows in
    elim note.failed as (λ b. (qs : List Piece) × (cond b (seat c past) (with_all (seat c past) puts) ≡ with_all (seat c past) qs)) [
      | true ↦ ([], refl)
      | false ↦ (puts, refl)
    ]
only-puts c (Step.Take d) past h = absurd (cc (h))
only-puts c (Step.Finish d puts plan) past h = absurd (cc (h))
only-puts c _ past h = ([], refl)

-- what an entry that finishes no piece leaves
pub record Unfinished (s now : Seat) : Type 0 where
  pub conn : now.conn ≡ s.conn
  pub done : now.done ≡ s.done

pub unfinished : (c : ℕ) (e : Step) (past : List Step) → finishes e ≡ false → Unfinished (seat c past) (seat c (e ∷ past))
unfinished c (Step.Finish d puts plan) past h = absurd (cc (h))
unfinished c (Step.Take d) past h =
    elim (d == c) as (λ b. Unfinished (seat c past) (cond b (with_job (seat c past)) (seat c past))) [ true ↦ record { conn = refl; done = refl } | false ↦ record { conn = refl; done = refl } ]
unfinished c e past h = let put = only-puts c e past refl in record { conn = ap (λ (s : Seat). s.conn) put.1; done = ap (λ (s : Seat). s.done) put.1 }

-- ---- turns

-- the entry is no Boot and of no turn
abbrev pub turnless : Step → Bool
turnless (Step.Boot last) = false
turnless (Step.Ask turn) = false
turnless (Step.Deliver turn note) = false
turnless _ = true

-- what such an entry leaves
pub record KeepsTurn (e : Step) (past : List Step) : Type 0 where
  pub turn : last_turn (e ∷ past) ≡ last_turn past
  pub out : is_out (e ∷ past) ≡ is_out past
  pub low : lower (e ∷ past) ≡ lower past
  pub same : (c : ℕ) → marks c (e ∷ past) ≡ marks c past

pub keeps-turn : (e : Step) (past : List Step) → turnless e ≡ true → KeepsTurn e past
keeps-turn (Step.Boot last) past h = absurd (cc (h))
keeps-turn (Step.Ask turn) past h = absurd (cc (h))
keeps-turn (Step.Deliver turn note) past h = absurd (cc (h))
keeps-turn _ past h = record { turn = refl; out = refl; low = refl; same = λ c. refl }
