use Rattle.ws_handshake.proofs.Told.{done, denied}
use Rattle.ws_handshake.proofs.shaking.done.Goals as goal

pub returns-in-LetIn : goal.returns-in-LetIn
returns-in-LetIn c = done c.args.answering.rules.value c.into_ruling.result c.in-LetIn.admission c.in-LetIn.field-1 c.into_ruling.ensures c.in-LetIn.is

pub returns-in-KeptOut : goal.returns-in-KeptOut
returns-in-KeptOut c = denied c.args.answering.rules.value c.into_ruling.result c.in-KeptOut.denial c.into_ruling.ensures c.in-KeptOut.is
