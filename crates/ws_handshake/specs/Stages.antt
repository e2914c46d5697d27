-- What a stage of a handshake knows of the request that it has heard.
use Rattle.std.specs.Prelude.{ℕ, List}
use Rattle.ws_gate.specs.declared.verdicts.Rules.{Rules}
use Rattle.ws_handshake.specs.Replies.{IsLetIn, IsKeptOut}
use Rattle.ws_handshake.specs.declared.rulings.Ruling.{Ruling}
use Rattle.ws_handshake.specs.declared.rulings.Ruling.TheVariants as ruling

-- some bytes are a request that the rules let in or keep out, as the ruling says
abbrev pub IsRulingBy : Rules → Ruling → Type 0
IsRulingBy rules (ruling.LetIn admission answer) = (head : List ℕ) × IsLetIn head rules admission answer.items
IsRulingBy rules (ruling.KeptOut denial) = (head : List ℕ) × IsKeptOut head rules denial
