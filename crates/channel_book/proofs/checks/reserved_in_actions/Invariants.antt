use Rattle.std.proofs.Common.{◌≡◌, drop}
use Rattle.std.specs.Prelude.{flat_map}
use Rattle.channel_book.specs.Books.{first_reserved, action_templates}
use Rattle.channel_book.proofs.checks.reserved_in_actions.Given as goal

-- no template of the actions so far is reserved
abbrev pub invariant-loop-action : goal.invariant-loop-action
invariant-loop-action l = first_reserved (flat_map action_templates (drop l.action-index l.actions)) ≡ first_reserved (flat_map action_templates l.actions)
