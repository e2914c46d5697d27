use Rattle.std.proofs.Common.{arith}
use Rattle.channel_book.specs.Books.{channel_templates}
use Rattle.channel_book.proofs.Walk.{walk_found, walk_passed}
use Rattle.channel_book.proofs.checks.reserved_in.Goals as goal

pub returns-in-Some : goal.returns-in-Some
returns-in-Some c = walk_found channel_templates c.loop-channel.channel-index c.channel-item.result c.args.channels.now _ c.in-Some.template.now (omega arith) c.channel-item.is c.loop-channel.invariant c.in-Some.ensures

pub loop-channel-preserved : goal.loop-channel-preserved
loop-channel-preserved c = walk_passed channel_templates c.loop-channel.channel-index c.channel-item.result c.args.channels.now _ (omega arith) c.channel-item.is c.loop-channel.invariant c.in_default.ensures
