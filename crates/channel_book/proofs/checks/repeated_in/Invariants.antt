use Rattle.std.proofs.Common.{◌≡◌, [], take, drop}
use Rattle.channel_book.specs.Books.{repeated_from}
use Rattle.channel_book.proofs.checks.repeated_in.Given as goal

-- no name of the channels so far stood before
abbrev pub invariant-loop-i : goal.invariant-loop-i
invariant-loop-i l = repeated_from (take l.i l.channel-items) (drop l.i l.channel-items) ≡ repeated_from [] l.channels
