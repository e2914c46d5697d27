use Rattle.std.proofs.Common.{rules, ◌≡◌, length}
use Rattle.node_core.specs.Jobs.{WorkState}
use Rattle.node_core.specs.Nodes.{NodeState}
use Rattle.node_core.specs.contracts.nodes.Node.{the_view}
use Rattle.node_core.proofs.Finishes.{fits-as}
use Rattle.node_core.proofs.nodes.Node.fits.Goals as goal

pub returns : goal.returns
returns c =
    let self = c.self.inside in
    let n : NodeState = the_view self in
    let work = c.work.inside in
    let w : WorkState = record { node = work.node; conn = work.conn; place = work.place; task = work.task; plan = work.plan; puts = work.puts.items } in
    let node : c.work.inside.node ≡ c.self.inside.no = search rules in
    let done : length c.work.inside.puts.items ≡ length c.work.inside.plan.casts = search rules in
    rw (← c.work.view_is, ← c.self.view_is)
    (fits-as w n self.seats.entries c.is_out.result c.self.invariant.stands.numbers node done c.is_out.ensures.0 c.is_out.ensures.1)
