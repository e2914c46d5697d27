use Rattle.cable_script.proofs.Spellings.{text_is}
use Rattle.cable_script.proofs.reading.utf8_text.Goals as goal

pub returns : goal.returns
returns c = rw c.ok.ensures.value (text_is c.args.line.now c.from_utf8.result _ c.from_utf8.ensures.cases)
