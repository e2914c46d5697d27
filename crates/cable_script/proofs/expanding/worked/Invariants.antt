use Rattle.std.proofs.Common.{◌≡◌, ◌∷◌}
use Rattle.std.specs.Prelude.{replicate}
use Rattle.cable_model.specs.declared.events.Event.TheVariants as event
use Rattle.cable_script.proofs.expanding.worked.Given as goal

-- the take, and the puts so far
abbrev pub invariant-loop : goal.invariant-loop
invariant-loop l = l.events.items ≡ event.Take l.conn ∷ replicate l.counter (event.Put l.conn l.at)
