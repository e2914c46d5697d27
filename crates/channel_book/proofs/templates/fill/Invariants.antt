use Rattle.std.proofs.Common.{◌≡◌, ◌++◌, drop, string_bytes}
use Rattle.std.specs.Prelude.{flat_map}
use Rattle.serde_json.specs.View.{view}
use Rattle.channel_book.specs.Parameters.{value_for}
use Rattle.channel_book.specs.Templates.{filling}
use Rattle.channel_book.proofs.templates.fill.Given as goal

-- the text so far, and what the slots that are left give
abbrev pub invariant-loop-slot : goal.invariant-loop-slot
invariant-loop-slot l = string_bytes l.text ++ flat_map (λ slot. value_for l.user (view l.identifier) slot.name ++ slot.rest) (drop l.slot-index l.slot-items) ≡ filling l.user (view l.identifier) l.template
