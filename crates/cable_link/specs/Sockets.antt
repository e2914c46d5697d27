-- What a link over a WebSocket does with its socket: what it gives was read there, and what is said joins the socket's output.
use Rattle.std.specs.Prelude.{◌≡◌, ℕ, List, Option, Result, Ok, Err, OnOk, true}
use Rattle.cable_base.specs.declared.faults.Trouble.{Trouble}
use Rattle.cable_link.specs.declared.links.Came.{Came}
use Rattle.cable_link.specs.declared.links.Came.TheVariants as came
use Rattle.cable_link.specs.declared.sockets.Goodbye.{Goodbye}
use Rattle.cable_link.specs.declared.sockets.Goodbye.TheVariants as goodbye
use Rattle.tungstenite.specs.Connection.{write_step}
use Rattle.tungstenite.specs.Content as content
use Rattle.tungstenite.specs.Failure.{IsIo}
use Rattle.tungstenite.specs.declared.error.Error.{Error}
use Rattle.tungstenite.specs.Socket.{Socket, Reads, Writes, content_of, has_kind}
use Rattle.tungstenite.specs.declared.message.Message.{Message}

-- nothing that a client said
abbrev pub GivesNone : Came → Type 0
GivesNone (came.Text _) = ⊥
GivesNone came.Binary = ⊥
GivesNone came.Closed = Unit {0}
GivesNone came.Quiet = Unit {0}

-- what was written was taken, or the stream kept it
abbrev pub IsTaken : Result (Unit {0}) Error → Type 0
IsTaken (Ok _) = Unit {0}
IsTaken (Err e) = IsIo e

-- the number that tells a peer why its socket is closed (RFC 6455, section 7.4.1)
abbrev pub code_of : Goodbye → ℕ
code_of goodbye.Ended = 1000
code_of goodbye.TooLong = 1009
code_of goodbye.NoMemory = 1011

module _ {S : Type 0} where
  -- a text is that of a message which was read, and a message that isn't a text was read as such
  abbrev pub GivesRead : (S → Option (List ℕ)) → Socket S → Result Came Trouble → Socket S → Type 0
  GivesRead remaining old (Ok (came.Text t)) new = (m : Message) × Reads remaining old new (Ok m) × (content_of m ≡ content.text t)
  GivesRead remaining old (Ok came.Binary) new = (m : Message) × Reads remaining old new (Ok m) × (has_kind 1 m ≡ true)
  GivesRead remaining old (Ok came.Closed) new = Unit {0}
  GivesRead remaining old (Ok came.Quiet) new = Unit {0}
  GivesRead remaining old (Err _) new = Unit {0}

  -- a text that isn't refused is whole behind what waited, and what leaves goes out in order
  abbrev pub HandsOn : (S → Option (List ℕ)) → Socket S → List ℕ → Result (Unit {0}) Trouble → Socket S → Type 0
  HandsOn contents old text result new = OnOk result (Writes contents old new (write_step old.conn (content.text text)))
