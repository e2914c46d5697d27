use Rattle.ws_gate.specs.Tokens.{token_name}
use Rattle.ws_gate.proofs.Strips.{stripped}
use Rattle.ws_gate.proofs.tokens.token_behind.Goals as goal

pub returns : goal.returns
returns c = stripped token_name c.args.part.now c.strip_prefix.result c.strip_prefix.ensures.cases
