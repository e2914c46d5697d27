use Rattle.std.proofs.Common.{◌≡◌, false, sym, subst, ◌∙◌}
use Rattle.std.specs.Prelude.{IfOk}
use Rattle.channel_book.specs.Shapes.{Declared}
use Rattle.cable_model.specs.Script.{rules_of}
use Rattle.node_world.specs.Parts.{FollowsSome, held}
use Rattle.node_world.specs.Worlds.{IsStep, WorldState}
use Rattle.node_world.proofs.Showing.{stepped-for, unspent-follows}
use Rattle.node_world.proofs.worlds.World.step.Goals as goal

pub invariant_of-self : goal.invariant_of-self
invariant_of-self c = λ well.
    let old = c.self.inside.parts in
    let new = c.step-stepped.new.self in
    subst (λ (b : Declared). FollowsSome (rules_of b) (held new)) (sym c.step-stepped.ensures.book)
    (unspent-follows (rules_of old.book) c.args.event.now (held old) (held new) c.step-stepped.result c.step-stepped.ensures.steps (c.self.invariant c.if-self.false) (sym c.is_err-self-inside.ensures.value ∙ well))

pub returns-clause-steps : goal.returns-clause-steps
returns-clause-steps c =
    let old = c.self.inside.parts in
    let parts = c.step-stepped.new.self in
    let before : WorldState = record { book = old.book; holds = held old; is_spent = c.self.inside.is_spent } in
    let new : WorldState = record { book = parts.book; holds = held parts; is_spent = c.is_err-self-inside.result } in
    subst (λ (w : WorldState). IfOk c.step-stepped.result (λ s. IsStep c.args.event.now w s new)) c.self.view_is
    (stepped-for c.args.event.now before new c.step-stepped.result c.step-stepped.ensures.steps (c.self.invariant c.if-self.false) c.step-stepped.ensures.book)
