-- What came through a door.
use Rattle.std.specs.Prelude.{◌≡◌, ℕ}
use Rattle.cable_base.specs.Causes.{Rose}
use Rattle.cable_link.specs.declared.doors.Entered.{Entered}
use Rattle.cable_link.specs.declared.doors.Entered.TheVariants as entered

-- a socket raises the count of sockets, and nothing else does
abbrev pub CountsSocket : ℕ → ℕ → Entered → Type 0
CountsSocket before now (entered.Socket _) = Rose before now
CountsSocket before now entered.Nobody = now ≡ before
