use Rattle.std.proofs.Common.{◌-◌, length}
use Rattle.worker_gate.proofs.Committing.{NotedSoFar}
use Rattle.worker_gate.proofs.working.commit_casts.Given as goal

-- what is noted is of the first casts, which were committed
abbrev pub invariant-loop-cast : goal.invariant-loop-cast
invariant-loop-cast g l = NotedSoFar g.S.Store.commits l.at.0 l.fn.store l.fn.work l.work l.store

abbrev pub decreases-loop-cast : goal.decreases-loop-cast
decreases-loop-cast g l = length l.work.plan.casts - length l.work.puts
