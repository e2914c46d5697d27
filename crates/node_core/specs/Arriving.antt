-- When a client's text is put on its connection.
use Rattle.std.specs.Prelude.{◌≡◌, ℕ, Bool, false, cond, length, filter, map, leb, List, Option, None, Some, Result, Err, IfErr}
use Rattle.cable_model.specs.Pieces.{Placed, seat, closing}
use Rattle.cable_model.specs.Possible.{is_live, is_too_long, is_busy, is_command}
use Rattle.cable_model.specs.Limits.{most_waiting}
use Rattle.cable_model.specs.Steps.{Step}
use Rattle.conn_seat.specs.Seats.{Seated, is_receiving_now}
use Rattle.node_core.specs.declared.arriving.ArriveFault.{ArriveFault}
use Rattle.node_core.specs.declared.arriving.ArriveFault.TheVariants as fault

-- the first cause for which the text isn't put
abbrev pub text_fault : ℕ → (text : List ℕ) → List Step → Option ArriveFault
text_fault c text past =
    cond (is_live c past)
    (cond (closing (seat c past).pieces) (Some fault.Shut)
    (cond (is_too_long text) (Some fault.TooLong)
    (cond (is_busy c past) (Some fault.Busy) None)))
    (Some fault.Unknown)

-- a cause is answered, and where there is none only memory is wanting
abbrev pub RefusesText : {A : Type 0} → Option ArriveFault → Result A ArriveFault → Type 0
RefusesText (Some f) r = r ≡ Err f
RefusesText None r = IfErr r (λ e. e ≡ fault.OutOfMemory)

-- ---- as what is kept of the number tells it

-- the commands that wait are as many as may
abbrev pub is_full : Seated → Bool
is_full s = leb most_waiting (length (filter is_command (map (λ (p : Placed). p.piece) s.waiting)))

abbrev pub fault_at : Option Seated → (text : List ℕ) → Option ArriveFault
fault_at None text = Some fault.Unknown
fault_at (Some s) text =
    cond s.closing (Some fault.Shut)
    (cond (is_too_long text) (Some fault.TooLong)
    (cond (is_full s) (Some fault.Busy) None))

-- a piece can be put
abbrev pub receiving_at : Option Seated → Bool
receiving_at None = false
receiving_at (Some s) = is_receiving_now s
