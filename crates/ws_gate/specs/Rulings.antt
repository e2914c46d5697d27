-- Which requests are admitted, and with what, and for which rule the others are denied.
use Rattle.std.specs.Prelude.{◌≡◌, ◌≢◌, ◌⊎◌, ℕ, List, [], codes, Contains, Option, Some}
use Rattle.ws_gate.specs.declared.verdicts.Rules.{Rules}
use Rattle.ws_gate.specs.declared.verdicts.Admission.{Admission}
use Rattle.ws_gate.specs.declared.verdicts.Denial.{Denial}
use Rattle.ws_gate.specs.declared.verdicts.Denial.TheVariants as because
use Rattle.ws_gate.specs.Handshakes.{Handshake}
use Rattle.ws_gate.specs.Tokens.{IsTokenOf}
use Rattle.ws_gate.specs.Protocols.{IsProtocolOf}

-- there are no origins to choose from, or the request has one of them
abbrev pub IsWelcome : List (List ℕ) → Option (List ℕ) → Type 0
IsWelcome origins origin = (origins ≡ []) ⊎ ((known : List ℕ) × (origin ≡ Some known) × Contains origins known)

-- the request keeps each rule, and is admitted with its token and its protocol
pub record IsAdmitted (h : Handshake) (rules : Rules) (admission : Admission) : Type 0 where
  pub method : h.method ≡ codes "GET"
  pub path : h.path ≡ rules.path
  pub origin : IsWelcome rules.origins h.origin
  pub token : IsTokenOf admission.token h.query
  pub protocol : IsProtocolOf admission.protocol h.protocols

-- the request breaks the rule of this denial, and none before it. Want of memory is no property of a request
abbrev pub IsDenied : Handshake → Rules → Denial → Type 0
IsDenied h rules because.WrongMethod = h.method ≢ codes "GET"
IsDenied h rules because.WrongPath = (h.method ≡ codes "GET") × (h.path ≢ rules.path)
IsDenied h rules because.ForeignOrigin = (h.method ≡ codes "GET") × (h.path ≡ rules.path) × (¬ IsWelcome rules.origins h.origin)
IsDenied h rules because.OutOfMemory = ⊥
