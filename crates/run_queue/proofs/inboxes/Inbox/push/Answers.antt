use Rattle.std.proofs.Common.{◌+◌, ◌<◌, ◌^◌, ◌-◌, refl, arith}
use Rattle.cable_model.specs.Possible.{is_command}
use Rattle.run_queue.proofs.Places.{command_fits, at_most_one, IsInbox-push}
use Rattle.run_queue.proofs.inboxes.Inbox.push.Goals as goal

pub overflow_add-self : goal.overflow_add-self
overflow_add-self c =
    let below : c.self.inside.last < 2 ^ 64 - 1 = omega arith in
    let fits = command_fits c.self.inside.pieces.items c.self.inside.commands c.self.inside.last c.self.inside.taken c.commands_in.result c.self.invariant below (at_most_one (is_command c.args.piece) c.commands_in.result c.commands_in.ensures) in
    omega (arith, fits)

pub invariant_of-self-2 : goal.invariant_of-self-2
invariant_of-self-2 c =
    IsInbox-push c.self.inside.pieces.items c.reserve.new.self.items c.push_back_reserved.new.self.items c.self.inside.commands c.self.inside.last c.self.inside.taken c.commands_in.result (record { place = c.self.inside.last + 1; piece = c.args.piece })
    c.self.invariant c.reserve.ensures.items refl c.commands_in.ensures c.push_back_reserved.ensures.items
