use Rattle.std.proofs.Common.{◌≡◌, [], take, drop}
use Rattle.channel_book.specs.Names.{first_repeat}
use Rattle.channel_book.proofs.names.Indexed.first_repeat.Given as goal

-- no name so far stood before
abbrev pub invariant-loop-i : goal.invariant-loop-i
invariant-loop-i g l = first_repeat g.T.Named.name_of (take l.i l.item-items) (drop l.i l.item-items) ≡ first_repeat g.T.Named.name_of [] l.self
