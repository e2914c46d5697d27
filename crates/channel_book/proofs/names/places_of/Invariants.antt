use Rattle.std.proofs.Common.{drop}
use Rattle.channel_book.specs.Names.{IndexesSoFar}
use Rattle.channel_book.proofs.names.places_of.Given as goal

-- the places of the names so far, and the items that are left
abbrev pub invariant-loop-i : goal.invariant-loop-i
invariant-loop-i g l = IndexesSoFar g.T.Named.name_of l.places l.i (drop l.i l.items) l.items
