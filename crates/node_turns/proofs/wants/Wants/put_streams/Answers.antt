use Rattle.std.proofs.Common.{◌++◌, ◌∷◌, [], ◌+◌, ◌∙◌, ap, arith}
use Rattle.node_turns.specs.Wished.{wanted_as}
use Rattle.node_turns.proofs.Putting.{put-begins, put-step, put-ends}
use Rattle.node_turns.proofs.wants.Wants.put_streams.Goals as goal

pub loop-count-init : goal.loop-count-init
loop-count-init c = put-begins _ _ _ _ _ _ _ _ c.requires.room

pub put-requires : goal.put-requires
put-requires c = let r = c.loop-count.invariant.room in omega arith

pub loop-count-preserved : goal.loop-count-preserved
loop-count-preserved c =
    put-step _ _ _ _ _ _ _ _ _ _ _ _ _ _ c.loop-count.invariant c.loop-count-test.true
    (c.put.ensures.wanted
    ∙ ap (λ b. c.loop-count.self.wanted ++ wanted_as c.args.conn.0 c.args.sub.0 (c.args.made + c.loop-count.count + 1) b ∷ []) c.is_due.ensures)
    c.put.ensures.taken c.put.ensures.spare

pub returns-clause-wanted : goal.returns-clause-wanted
returns-clause-wanted c = put-ends _ _ _ _ _ _ _ _ _ _ _ c.loop-count.invariant c.loop-count-test.false
