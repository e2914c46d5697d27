use Rattle.std.proofs.Common.{◌+◌, arith}
use Rattle.replay_cli.specs.Made.{drawn, generator}
use Rattle.replay_cli.proofs.MadeLines.{draw_more, drawn-none, none_left}
use Rattle.replay_cli.proofs.made.Run.draw_all.Goals as goal

pub loop-place-preserved : goal.loop-place-preserved
loop-place-preserved c =
    draw_more (drawn c.args.count 1 (generator c.args.seed)) c.args.count c.loop-place.place c.next_word.result c.loop-place.source c.next_word.new.self _ _ _ _ _ _ c.loop-place-test.true c.loop-place.invariant c.next_word.ensures c.in_ok-draw.ensures

pub returns : goal.returns
returns c = none_left (drawn c.args.count 1 (generator c.args.seed)) _ _ _ _ _ (drawn-none c.args.count c.loop-place.place c.loop-place.source c.loop-place-test.false) c.loop-place.invariant

pub returns-in_ok-draw : goal.returns-in_ok-draw
returns-in_ok-draw c =
    none_left (drawn c.args.count 1 (generator c.args.seed)) _ _ _ _ _ (drawn-none c.args.count (c.loop-place.place + 1) c.next_word.new.self (omega arith))
    (draw_more (drawn c.args.count 1 (generator c.args.seed)) c.args.count c.loop-place.place c.next_word.result c.loop-place.source c.next_word.new.self _ _ _ _ _ _ c.loop-place-test.true c.loop-place.invariant c.next_word.ensures c.in_ok-draw.ensures)
