-- When a connection can be opened on a node, and what is kept of it.
use Rattle.std.specs.Prelude.{◌≡◌, ℕ, cond, List, Option, None, Some, ltb, Result, Err, IfErr}
use Rattle.cable_model.specs.Limits.{most_connections}
use Rattle.cable_model.specs.Possible.{is_opened, live_count}
use Rattle.cable_model.specs.Steps.{Step}
use Rattle.conn_seat.specs.Seats.{Seated, Becomes, vacant}
use Rattle.node_seats.specs.Numbers.{Numbers, Opened, with_new}
use Rattle.node_core.specs.declared.opening.OpenFault.{OpenFault}
use Rattle.node_core.specs.declared.opening.OpenFault.TheVariants as fault

-- the first cause for which the number isn't opened
abbrev pub open_fault : ℕ → List Step → Option OpenFault
open_fault c past = cond (is_opened c past) (Some fault.Used) (cond (ltb (live_count past) most_connections) None (Some fault.Full))

-- a cause is answered, and where there is none only memory is wanting
abbrev pub RefusesOpen : {A : Type 0} → Option OpenFault → Result A OpenFault → Type 0
RefusesOpen (Some f) r = r ≡ Err f
RefusesOpen None r = IfErr r (λ e. e ≡ fault.OutOfMemory)

-- what an Open keeps of its number
abbrev pub OpensAs : ℕ → Option (List ℕ) → Numbers → Numbers → Type 0
OpensAs c None v new = new ≡ with_new c Opened.Over v
OpensAs c (Some user) v new = (s : Seated) × Becomes (vacant user) s × (new ≡ with_new c (Opened.Live s) v)
