use Rattle.cable_json.proofs.SaidDisconnects.{disconnect_says, says_disconnect}
use Rattle.cable_json.proofs.laws.disconnects_are_what_payloads_say.Goals as goal

pub returns : goal.returns
returns c = λ payload reconnect. (disconnect_says payload reconnect, says_disconnect payload reconnect)
