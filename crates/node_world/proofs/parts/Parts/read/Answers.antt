use Rattle.std.proofs.Common.{refl, sym, ap, ◌∙◌}
use Rattle.std.proofs.lemmas.Option.{same_Some}
use Rattle.std.proofs.lemmas.Result.{IfOk-weaker}
use Rattle.node_world.specs.declared.outstanding.OutCaught.{OutCaught}
use Rattle.node_world.specs.declared.outstanding.TurnOut.TheVariants as turn_out
use Rattle.node_world.specs.declared.parts.Post.{Post}
use Rattle.node_world.specs.Parts.{held}
use Rattle.node_world.specs.Steps.{read_said}
use Rattle.node_world.proofs.FollowingTurns.{as-read, read_calls, read_steps}
use Rattle.node_world.proofs.Following.{post-written}
use Rattle.node_world.proofs.parts.Parts.read.Goals as goal

pub returns-clause-steps : goal.returns-clause-steps
returns-clause-steps c =
    let h = held c.args.self.now in
    let table = c.read.new.self in
    let k : OutCaught = record { caught = c.in-Ok.caught } in
    let p = c.in-Some.post.now in
    let p' : Post = record { node = p.node; turn = turn_out.Read k } in
    let moves = post-written c.args.node.0 p p' c.args.self.now.posts (c.get_mut.follows.lender p') c.in-Some.ensures.value (c.get_mut.follows.holds p') in
    let read = as-read h c.in-Asked.out k c.into_turn.result c.into_turn.ensures c.in-Ok.ensures.turn c.in-Ok.ensures.found c.in-Ok.ensures.missed in
    let calls = read_calls h.table.keeper.failures table.keeper.failures k.caught.is_missed c.in-Ok.ensures.call in
    IfOk-weaker c.read_said.result _ _
    (λ said is. read_steps c.args.self.now.book h (c.get_mut.follows.lender p').entries table c.args.node p p' c.in-Asked.out k moves (sym c.in-Asked.ensures.value) said refl refl read
    (same_Some table.keeper.rows h.table.keeper.rows c.in-Ok.ensures.same.0) c.in-Ok.ensures.same.1 calls (is ∙ ap read_said c.is_missed-missed.ensures.missed))
    c.read_said.ensures
