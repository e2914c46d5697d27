-- When the plan of a piece can be worked on a connection.
use Rattle.std.specs.Prelude.{◌≤◌, ◌+◌, ◌^◌, Bool, ◌&&◌, List, ltb}
use Rattle.cable_base.specs.declared.numbers.SubNo.{SubNo}
use Rattle.cable_base.specs.declared.numbers.WantNo.{WantNo}
use Rattle.cable_model.specs.declared.plans.Change.{Change}
use Rattle.cable_model.specs.Possible.{is_empty}
use Rattle.cable_model.specs.Wants.{makes}
use Rattle.conn_core.specs.Subscriptions.{Subscription, AreApart}
use Rattle.conn_core.specs.Connections.{SubsBelow, AllWantsBelow, CanApply}

-- the change can be made with any numbers above those that stand
abbrev pub AppliesAbove : Change → List Subscription → Type 0
AppliesAbove change subs = (sub : SubNo) (first : WantNo) → AreApart subs → SubsBelow sub subs → AllWantsBelow first subs → first.0 + makes change ≤ 2 ^ 64 → CanApply change sub first subs

-- the subscription has a number below this one, and no streams
abbrev pub is_bare_below : SubNo → Subscription → Bool
is_bare_below sub s = ltb s.number.0 sub.0 && is_empty s.streams
