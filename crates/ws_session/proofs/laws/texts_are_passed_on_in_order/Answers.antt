use Rattle.ws_session.specs.Rounds.{AnyUse}
use Rattle.ws_session.proofs.PassedOn.{rounds-pass}
use Rattle.ws_session.proofs.laws.texts_are_passed_on_in_order.Goals as goal

pub returns : goal.returns
returns g c = λ conn kept kept' old new rounds h. rounds-pass _ AnyUse conn kept old rounds kept' new h
