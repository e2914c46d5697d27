-- What the pieces of a connection need from it: the one that would be taken next, and the one that is out.
use Rattle.std.specs.Prelude.{cond, List, [], ◌∷◌, Option, None, Some, option_map}
use Rattle.cable_model.specs.declared.plans.Task.{Task}
use Rattle.cable_model.specs.Pieces.{Placed}
use Rattle.cable_model.specs.Plans.{task_of}
use Rattle.conn_core.specs.Bare.{bare}
use Rattle.conn_seat.specs.Seats.{Seated, may_take_now}

abbrev pub task_in : Seated → Placed → Task
task_in v p = task_of (bare v.subs) p.piece

abbrev pub first_of : List Placed → Option Placed
first_of [] = None
first_of (p ∷ ps) = Some p

-- what the piece that a take would take needs, if a take would take one
abbrev pub next_task_of : Seated → Option Task
next_task_of v = cond (may_take_now v) (option_map (task_in v) (first_of v.waiting)) None

-- what the piece that is out needs, if one is out
abbrev pub task_out_of : Seated → Option Task
task_out_of v = option_map (task_in v) v.job
