use Rattle.std.proofs.Common.{[], sym, subst}
use Rattle.channel_book.specs.Shapes.{Declared}
use Rattle.cable_model.specs.History.{start}
use Rattle.cable_model.specs.Script.{rules_of}
use Rattle.cable_model.specs.Stands.{Stands}
use Rattle.node_world.specs.Parts.{held}
use Rattle.node_world.specs.Worlds.{shown}
use Rattle.node_world.proofs.Showing.{shows-followed}
use Rattle.node_world.proofs.worlds.World.make.Goals as goal

pub returns-clause-stands : goal.returns-clause-stands
returns-clause-stands c =
    let e = c.in_ok-parts.ensures in
    let h = held c.in_ok-parts.parts in
    subst (λ (b : Declared). Stands (rules_of b) [] (shown h)) (sym e.book) (shows-followed (rules_of c.args.book) h start e.follows)
