use Rattle.std.proofs.Common.{◌≡◌, drop}
use Rattle.serde_json.specs.View.{view}
use Rattle.channel_book.specs.Parameters.{can_fill}
use Rattle.channel_book.proofs.parameters.can_fill.Given as goal

-- it stands on the names that are left
abbrev pub invariant-loop-name : goal.invariant-loop-name
invariant-loop-name l = can_fill (drop l.name-index l.names) (view l.identifier) ≡ can_fill l.names (view l.identifier)
