-- What stands behind each event of a history.
use Rattle.std.specs.Prelude.{◌≡◌, List, [], ◌∷◌, ◌++◌}
use Rattle.cable_model.specs.declared.events.Event.{Event}
use Rattle.cable_model.specs.History.{Rules}
use Rattle.cable_model.specs.HistoryLaws.{ConfirmsBehindDeliver, NoneAfterEnd}
use Rattle.cable_model.specs.Trims.{HistoryTrims}

-- behind this event, which follows those before it
pub record StandsBehind (r : Rules) (before : List Event) (e : Event) : Type 0 where
  -- no row of a hold is finished after its end, wherever in the history that was
  pub ended : (front back : List Event) → front ++ back ≡ before ++ e ∷ [] → NoneAfterEnd r front back
  -- Trims took only rows that were older than their retention, and never the newest
  pub trimmed : HistoryTrims r (before ++ e ∷ [])
  -- a confirmation of a subscription with streams came behind the Deliver that took it
  pub confirmed : ConfirmsBehindDeliver r (before ++ e ∷ [])
