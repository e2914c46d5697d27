use Rattle.std.proofs.Common.{◌∙◌, Some, sym, ap}
use Rattle.cable_model.specs.declared.lines.Line.{Line}
use Rattle.node_world.proofs.Drained.{line-more, within-more}
use Rattle.node_world.proofs.draining.drain_into.Goals as goal

pub loop-preserved : goal.loop-preserved
loop-preserved c =
    let inv = c.loop.invariant in
    let e = c.in-Some.ensures in
    let got = e.out ∙ ap (λ (x : Line). Some x) (sym c.line_of.ensures) in
    record {
      kept = e.kept ∙ inv.kept;
      no = e.no ∙ inv.no;
      within = within-more c.line_of.result c.args.conn.0 c.loop.node c.take_out.new.self e.kept got e.taken;
      lines = line-more c.loop.lines c.push.new.self c.line_of.result c.args.conn.0 c.loop.node c.take_out.new.self c.in_ok-push.ensures.ok e.kept got e.taken ∙ inv.lines;
      others = λ d n. e.others d n ∙ inv.others d n;
    }
