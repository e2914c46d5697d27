use Rattle.std.proofs.Common.{◌≡◌, drop}
use Rattle.serde_json.specs.View.{items_view}
use Rattle.channel_book.specs.Shapes.{names_in}
use Rattle.channel_book.proofs.Reading.{behind}
use Rattle.channel_book.proofs.shapes.names_in.Given as goal

-- the names so far, and those of the items that are left
abbrev pub invariant-loop-item : goal.invariant-loop-item
invariant-loop-item l = behind l.names (names_in (items_view (drop l.item-index l.items))) ≡ names_in (items_view l.items)
