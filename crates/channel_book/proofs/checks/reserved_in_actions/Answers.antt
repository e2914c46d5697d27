use Rattle.std.proofs.Common.{arith}
use Rattle.channel_book.specs.Books.{action_templates}
use Rattle.channel_book.proofs.Walk.{walk_found, walk_passed}
use Rattle.channel_book.proofs.checks.reserved_in_actions.Goals as goal

pub returns-in-Some : goal.returns-in-Some
returns-in-Some c = walk_found action_templates c.loop-action.action-index c.action-item.result c.args.actions.now _ c.in-Some.template.now (omega arith) c.action-item.is c.loop-action.invariant c.in-Some.ensures

pub loop-action-preserved : goal.loop-action-preserved
loop-action-preserved c = walk_passed action_templates c.loop-action.action-index c.action-item.result c.args.actions.now _ (omega arith) c.action-item.is c.loop-action.invariant c.in_default.ensures
