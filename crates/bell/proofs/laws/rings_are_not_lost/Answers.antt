use Rattle.std.proofs.Common.{arith}
use Rattle.bell.specs.Rings.{rung_for_all}
use Rattle.bell.proofs.Used.{kept_behind}
use Rattle.bell.proofs.laws.rings_are_not_lost.Goals as goal

pub returns-clause-each : goal.returns-clause-each
returns-clause-each c = λ r n less. rw (kept_behind n (rung_for_all r)) (omega (arith, less))

pub returns-clause-no_more : goal.returns-clause-no_more
returns-clause-no_more c = λ r ends. omega (arith, ends, kept_behind r.most (rung_for_all r))
