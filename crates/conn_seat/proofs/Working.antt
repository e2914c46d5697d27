-- What is kept of the piece that is out.
use Rattle.std.proofs.Common.{ap, sym, ◌∙◌, List, Option, None, Some}
use Rattle.cable_base.specs.declared.numbers.RowId.{RowId}
use Rattle.cable_base.specs.declared.numbers.SubNo.{SubNo}
use Rattle.cable_base.specs.declared.numbers.WantNo.{WantNo}
use Rattle.cable_model.specs.Connection.{Conn}
use Rattle.cable_model.specs.Plans.{task_of}
use Rattle.conn_core.specs.Subscriptions.{Subscription, placed_in}
use Rattle.conn_core.proofs.Bared.{placed-is}
use Rattle.conn_seat.specs.declared.jobs.Job.{Job}
use Rattle.conn_seat.specs.Inside.{HasTask}

pub placed-keeps : (sub : SubNo) (want : WantNo) (mark : RowId) (subs : List Subscription) (job : Option Job) → HasTask subs job → HasTask (placed_in sub want mark subs) job
placed-keeps sub want mark subs None kept = kept
placed-keeps sub want mark subs (Some j) kept = kept ∙ ap (λ (c : Conn). task_of c j.taken.piece) (sym (placed-is sub want mark subs))
