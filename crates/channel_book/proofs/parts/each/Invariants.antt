use Rattle.std.proofs.Common.{◌≡◌, drop}
use Rattle.serde_json.specs.View.{items_view}
use Rattle.channel_book.specs.Paths.{each}
use Rattle.channel_book.proofs.Reading.{behind}
use Rattle.channel_book.proofs.parts.each.Given as goal

-- the parts so far, and those of the items that are left
abbrev pub invariant-loop-i : goal.invariant-loop-i
invariant-loop-i g l = behind l.parts (each (g.P.Part.part_of l.scope) l.i (items_view (drop l.i l.items))) ≡ each (g.P.Part.part_of l.scope) 0 (items_view l.items)
