use Rattle.std.proofs.Common.{◌∙◌, ap, map}
use Rattle.cable_base.specs.declared.numbers.ConnNo.{ConnNo}
use Rattle.node_seats.proofs.Counting.{receiving-all}
use Rattle.node_core.proofs.Keeping.{if-implied}
use Rattle.node_core.proofs.Telling.{worked}
use Rattle.node_core.proofs.nodes.Node.receiving.Goals as goal

pub returns : goal.returns
returns c =
    rw (← c.self.view_is)
    (if-implied _ _ c.receiving.result
    (λ numbers e. ap (map (λ (d : ConnNo). d.0)) e ∙ receiving-all _ c.self.inside.seats.entries (worked _ c.self.invariant.stands.legal) c.self.invariant.stands.numbers)
    c.receiving.ensures)
