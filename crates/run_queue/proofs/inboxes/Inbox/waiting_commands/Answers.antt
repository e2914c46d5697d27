use Rattle.std.proofs.Common.{◌∙◌, ap, length, filter, map}
use Rattle.cable_model.specs.Possible.{is_command}
use Rattle.run_queue.proofs.Places.{waiting_counted}
use Rattle.run_queue.proofs.inboxes.Inbox.waiting_commands.Goals as goal

pub returns : goal.returns
returns c = rw (← c.self.view_is) (c.self.invariant.counted ∙ waiting_counted c.self.inside.pieces.items)
