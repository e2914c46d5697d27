use Rattle.std.proofs.lemmas.Str.Pattern.{starts_text}
use Rattle.ws_gate.specs.Tokens.{token_name}
use Rattle.ws_gate.proofs.tokens.names_token.Goals as goal

pub returns : goal.returns
returns c = starts_text c.starts_with.result token_name c.args.part.now c.starts_with.ensures.cases
