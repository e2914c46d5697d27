use Rattle.cable_json.proofs.ReadBack.{read-welcome, read-ping, read-confirm, read-reject, read-disconnect}
use Rattle.cable_json.proofs.Whole.{squeezed-welcome, squeezed-ping, squeezed-confirm, squeezed-reject, squeezed-disconnect}
use Rattle.cable_json.proofs.laws.texts_read_back.Goals as goal

pub returns-clause-welcome : goal.returns-clause-welcome
returns-clause-welcome c = record { reads = read-welcome; whole = squeezed-welcome }

pub returns-clause-ping : goal.returns-clause-ping
returns-clause-ping c = λ seconds fits. record { reads = read-ping seconds fits; whole = squeezed-ping seconds fits }

pub returns-clause-confirm : goal.returns-clause-confirm
returns-clause-confirm c = λ identifier. record { reads = read-confirm identifier; whole = squeezed-confirm identifier }

pub returns-clause-reject : goal.returns-clause-reject
returns-clause-reject c = λ identifier. record { reads = read-reject identifier; whole = squeezed-reject identifier }

pub returns-clause-disconnect : goal.returns-clause-disconnect
returns-clause-disconnect c = λ reason reconnect. record { reads = read-disconnect reason reconnect; whole = squeezed-disconnect reason reconnect }
