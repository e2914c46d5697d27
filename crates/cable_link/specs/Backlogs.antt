-- What waits in a link for its peer, and since when the peer has taken none of it.
use Rattle.std.specs.Prelude.{◌≡◌, ◌==◌, ℕ, Bool, true, false, cond, Option, Some, None, Result, Ok, Err}
use Rattle.cable_base.specs.declared.faults.Trouble.{Trouble}
use Rattle.cable_base.specs.declared.numbers.Millis.{Millis}
use Rattle.cable_link.specs.declared.backlogs.Backlog.{Backlog}
use Rattle.cable_link.specs.declared.backlogs.Backlog.TheVariants as backlog
use Rattle.tungstenite.specs.declared.error.Error.{Error}

-- something waits
abbrev pub is_waiting : Backlog → Bool
is_waiting backlog.Nothing = false
is_waiting backlog.Unseen = true
is_waiting (backlog.Since _) = true

-- the moment that was told, where the peer has taken as many bytes by now as by then
abbrev pub since : Backlog → ℕ → Option Millis
since backlog.Nothing taken = None
since backlog.Unseen taken = None
since (backlog.Since mark) taken = cond (mark.taken == taken) (Some mark.at) None

-- what a write leaves that the stream didn't take whole
abbrev pub left : Backlog → Backlog
left backlog.Nothing = backlog.Unseen
left backlog.Unseen = backlog.Unseen
left (backlog.Since mark) = backlog.Since mark

-- what a write leaves: nothing where all was taken, and as much as before where it was refused
abbrev pub Leaves : Backlog → Result (Unit {0}) Error → Result (Unit {0}) Trouble → Backlog → Type 0
Leaves before (Ok _) result now = now ≡ backlog.Nothing
Leaves before (Err _) (Ok _) now = now ≡ left before
Leaves before (Err _) (Err _) now = now ≡ before

-- since when the peer has taken none, at a flush: the moment that was told, where the flush moved nothing, or else that of the flush
abbrev pub moment_of : Millis → Option Millis → (before now : ℕ) → Millis
moment_of at None before now = at
moment_of at (Some told) before now = cond (before == now) told at

-- what a flush leaves, before and behind which the peer had taken so many bytes
abbrev pub flushed : Backlog → Millis → Option Millis → (before now : ℕ) → Backlog
flushed backlog.Nothing at told before now = backlog.Nothing
flushed backlog.Unseen at told before now = backlog.Since (record { at = moment_of at told before now; taken = now })
flushed (backlog.Since _) at told before now = backlog.Since (record { at = moment_of at told before now; taken = now })

-- a flush at a moment: what waits behind it waits since the moment that was told, where the peer took none meanwhile, or else since this one
abbrev pub WaitsSince : Millis → Option Millis → (before now : ℕ) → Backlog → Type 0
WaitsSince at told before now left_now =
    is_waiting left_now ≡ true → since left_now now ≡ Some (moment_of at told before now)
