-- What the gate answers. That the answers follow the rules is the law `handshakes_are_told_apart`.
use Rattle.std.specs.Prelude.{◌≡◌, ℕ, ◌==◌, ◌&&◌, not, Bool, true, List, length, codes, bytes_eq, Option, Some, None, Result, Ok, Err, IsOk, if◌then◌else◌}
use Rattle.std.specs.List.{list_any}
use Rattle.ws_gate.specs.declared.verdicts.Rules.{Rules}
use Rattle.ws_gate.specs.declared.verdicts.Admission.{Admission}
use Rattle.ws_gate.specs.declared.verdicts.Denial.{Denial}
use Rattle.ws_gate.specs.declared.verdicts.Denial.TheVariants as because
use Rattle.ws_gate.specs.Handshakes.{Handshake}
use Rattle.ws_gate.specs.Tokens.{token_of}
use Rattle.ws_gate.specs.Protocols.{protocol_of}

-- there is no origin, or it is none of these
abbrev pub is_unknown : List (List ℕ) → Option (List ℕ) → Bool
is_unknown origins None = true
is_unknown origins (Some origin) = not (list_any (bytes_eq origin) origins)

-- there are origins that are let in, and this is none of them
unfoldable pub is_foreign : List (List ℕ) → Option (List ℕ) → Bool
is_foreign origins origin = not (length origins == 0) && is_unknown origins origin

-- the first rule that is broken denies the request, in this order
abbrev pub admission_of : Handshake → Rules → Result Admission Denial
admission_of h rules =
    if not (bytes_eq h.method (codes "GET")) then Err because.WrongMethod
    else (if not (bytes_eq h.path rules.path) then Err because.WrongPath
    else (if is_foreign rules.origins h.origin then Err because.ForeignOrigin
    else Ok (record { token = token_of h.query; protocol = protocol_of h.protocols })))

-- memory is wanted for the token of a request that is admitted, and for nothing else
abbrev pub Denies : Denial → Result Admission Denial → Type 0
Denies because.WrongMethod expected = expected ≡ Err because.WrongMethod
Denies because.WrongPath expected = expected ≡ Err because.WrongPath
Denies because.ForeignOrigin expected = expected ≡ Err because.ForeignOrigin
Denies because.OutOfMemory expected = IsOk expected

-- a call answered what is expected, unless memory ran out
abbrev pub Gives : Result Admission Denial → Result Admission Denial → Type 0
Gives (Ok admission) expected = expected ≡ Ok admission
Gives (Err denial) expected = Denies denial expected
