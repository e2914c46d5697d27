use Rattle.std.proofs.Common.{◌≡◌, drop}
use Rattle.channel_book.specs.Books.{reserved_in}
use Rattle.channel_book.proofs.checks.reserved_in.Given as goal

-- no template of the channels so far is reserved
abbrev pub invariant-loop-channel : goal.invariant-loop-channel
invariant-loop-channel l = reserved_in (drop l.channel-index l.channels) ≡ reserved_in l.channels
