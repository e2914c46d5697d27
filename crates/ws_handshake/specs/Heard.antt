-- What a read of a request tells of the rules.
use Rattle.std.specs.Prelude.{⊤}
use Rattle.ws_gate.specs.declared.verdicts.Rules.{Rules}
use Rattle.ws_handshake.specs.Stages.{IsRulingBy}
use Rattle.ws_handshake.specs.declared.hearing.Heard.{Heard}
use Rattle.ws_handshake.specs.declared.hearing.Heard.TheVariants as heard

abbrev pub IsHeardBy : Rules → Heard → Type 0
IsHeardBy rules heard.Nothing = ⊤
IsHeardBy rules heard.More = ⊤
IsHeardBy rules (heard.Whole ruling) = ∥ IsRulingBy rules ruling ∥₁
IsHeardBy rules heard.Failed = ⊤
