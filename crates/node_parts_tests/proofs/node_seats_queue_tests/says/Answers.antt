use Rattle.std.proofs.Common.{[], ◌∷◌, ◌∙◌, sym}
use Rattle.node_seats.proofs.QueueRooms.{room_each}
use Rattle.node_parts_tests.proofs.Apart.{once-each}
use Rattle.node_parts_tests.proofs.node_seats_queue_tests.says.Goals as goal

pub queue_all-requires : goal.queue_all-requires
queue_all-requires c = record {
  room = room_each (c.args.first ∷ c.args.second ∷ []) _ _ c.in_ok-both.ensures (once-each _ _ (sym c.eq.ensures ∙ c.if-eq.false)) c.in_ok-reserve_each.ensures.ok;
}
