use Rattle.std.proofs.Common.{ap, sym, ◌∙◌}
use Rattle.conn_seat.proofs.Same.{same, itself}
use Rattle.cable_model.specs.declared.plans.Task.{Task}
use Rattle.cable_model.specs.contracts.plans.TaskPartialEq.TheImpl as test
use Rattle.conn_seat.proofs.jobs.Job.needs.Goals as goal

pub returns : goal.returns
returns c = (
  λ t. same c.args.self.now.task c.args.task.now (sym c.eq.ensures ∙ t),
  λ e. c.eq.ensures ∙ ap (λ (u : Task). test.ghosts.eq c.args.self.now.task u) (sym e) ∙ itself c.args.self.now.task,
)
