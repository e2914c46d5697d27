use Rattle.std.proofs.Common.{◌∙◌, ◌∷◌, ◌+◌, ◌<◌, ℕ, length, List, drop, get_or, sym, ap, subst, drop-cons, add-one}
use Rattle.cable_base.specs.declared.numbers.ConnNo.{ConnNo}
use Rattle.node_core.specs.Nodes.{NodeState}
use Rattle.cable_model.specs.declared.lines.Line.{Line}
use Rattle.node_world.proofs.Drained.{Drains, drains-one, drains-others}
use Rattle.node_world.proofs.draining.drain_each.Goals as goal

-- the connection that is drained next
next : (old now : NodeState) (conns : List ConnNo) (i : ℕ) (told : List Line) → i < length conns → Drains old now conns (drop i conns) told
    → Drains old now conns (get_or conns i (record { 0 = 0 }) ∷ drop (i + 1) conns) told
next old now conns i told within d =
    subst (λ (rest : List ConnNo). Drains old now conns rest told) (drop-cons conns i (record { 0 = 0 }) within ∙ ap (λ n. get_or conns i (record { 0 = 0 }) ∷ drop n conns) (sym (add-one i))) d

pub returns-in_err-drain_into-clause-others : goal.returns-in_err-drain_into-clause-others
returns-in_err-drain_into-clause-others c =
    let i = c.loop-conn.conn-index in
    let conns = c.args.conns.now in
    drains-others c.args.node.now c.loop-conn.node conns (drop (i + 1) conns) (get_or conns i (record { 0 = 0 })) c.loop-conn.lines
    (next c.args.node.now c.loop-conn.node conns i c.loop-conn.lines c.loop-conn-test.true c.loop-conn.invariant) c.drain_into.new.node c.in_err-drain_into.ensures.others

pub loop-conn-preserved : goal.loop-conn-preserved
loop-conn-preserved c =
    let i = c.loop-conn.conn-index in
    let conns = c.args.conns.now in
    let e = c.in_ok-drain_into.ensures in
    drains-one c.args.node.now c.loop-conn.node conns (drop (i + 1) conns) (get_or conns i (record { 0 = 0 })) c.loop-conn.lines
    (next c.args.node.now c.loop-conn.node conns i c.loop-conn.lines c.loop-conn-test.true c.loop-conn.invariant) c.drain_into.new.node c.drain_into.new.lines e.kept.0 e.kept.1 e.lines e.taken e.others
