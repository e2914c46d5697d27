use Rattle.node_seats.proofs.Onward.{onward}
use Rattle.node_seats.proofs.laws.other_entries_leave_the_numbers.Goals as goal

pub returns : goal.returns
returns c = onward
