-- The faults of a link, each of which is told once.
use Rattle.std.specs.Prelude.{◌≡◌, Bool, true, false, Result, Ok, Err}
use Rattle.cable_base.specs.declared.faults.Trouble.{Trouble}
use Rattle.cable_base.specs.declared.faults.Trouble.TheVariants as trouble
use Rattle.cable_link.specs.declared.links.Came.{Came}
use Rattle.cable_link.specs.declared.links.Came.TheVariants as came
use Rattle.tungstenite.specs.Socket.{Socket}

-- an answer tells of a fault
abbrev pub tells_fault : {A : Type 0} → Result A Trouble → Bool
tells_fault (Ok _) = false
tells_fault (Err trouble.Failed) = true
tells_fault (Err trouble.OutOfMemory) = false

-- whether a link has failed by an answer: it had, or the answer tells of a fault
abbrev pub failed_by : {A : Type 0} → Bool → Result A Trouble → Bool
failed_by true result = true
failed_by false result = tells_fault result

module _ {S : Type 0} where
  -- a link that has failed gives that it is closed, and doesn't ask its socket
  abbrev pub IsClosedBehind : Bool → Socket S → Result Came Trouble → Socket S → Type 0
  IsClosedBehind true old result new = (result ≡ Ok came.Closed) × (new ≡ old)
  IsClosedBehind false old result new = Unit {0}

  -- .. and refuses what is said to it, which its socket doesn't see
  abbrev pub IsRefusedBehind : Bool → Socket S → Result (Unit {0}) Trouble → Socket S → Type 0
  IsRefusedBehind true old result new = (result ≡ Err trouble.Failed) × (new ≡ old)
  IsRefusedBehind false old result new = Unit {0}
