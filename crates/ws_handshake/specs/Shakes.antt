-- What a handshake that went on tells of the rules that it began with.
use Rattle.std.specs.Prelude.{◌≡◌, ⊤, ℕ, List}
use Rattle.ws_gate.specs.declared.verdicts.Rules.{Rules}
use Rattle.ws_handshake.specs.Replies.{IsLetIn, IsKeptOut}
use Rattle.ws_handshake.specs.declared.shaking.Stage.{Stage}
use Rattle.ws_handshake.specs.declared.shaking.Stage.TheVariants as stage
use Rattle.ws_handshake.specs.declared.shaking.Shake.{Shake}
use Rattle.ws_handshake.specs.declared.shaking.Shaken.{Shaken}
use Rattle.ws_handshake.specs.declared.shaking.Shaken.TheVariants as shaken

abbrev pub stage_rules : Stage → Rules
stage_rules (stage.Hears hearing) = hearing.rules.value
stage_rules (stage.Answers answering) = answering.rules.value

-- the rules by which a handshake goes
abbrev pub rules_of : Shake → Rules
rules_of shake = stage_rules shake.stage

-- it waits by the same rules, let in what they let in, or denied what they deny
abbrev pub Follows : Rules → Shaken → Type 0
Follows rules (shaken.Waits shake) = rules_of shake ≡ rules
Follows rules (shaken.Done link admission) = ∥ ((head : List ℕ) × (answer : List ℕ) × IsLetIn head rules admission answer) ∥₁
Follows rules (shaken.Denied denial) = ∥ ((head : List ℕ) × IsKeptOut head rules denial) ∥₁
Follows rules shaken.Failed = ⊤
