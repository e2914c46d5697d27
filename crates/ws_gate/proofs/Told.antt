-- What the gate answers is what the rules say, and nothing else is.
use Rattle.std.proofs.Common.{◌≡◌, ◌≢◌, ℕ, Bool, true, false, true≢false, not, cond, List, codes, bytes_eq, Option, Result, Ok, Err, refl, sym, ap, ap₂, ◌∙◌}
use Rattle.std.proofs.lemmas.Slice.Eq.{bytes_eq-Decides}
use Rattle.ws_gate.specs.declared.verdicts.Rules.{Rules}
use Rattle.ws_gate.specs.declared.verdicts.Protocol.{Protocol}
use Rattle.ws_gate.specs.declared.verdicts.Admission.{Admission}
use Rattle.ws_gate.specs.declared.verdicts.Denial.{Denial}
use Rattle.ws_gate.specs.declared.verdicts.Denial.TheVariants as because
use Rattle.ws_gate.specs.Handshakes.{Handshake}
use Rattle.ws_gate.specs.Tokens.{token_of}
use Rattle.ws_gate.specs.Protocols.{protocol_of}
use Rattle.ws_gate.specs.Admissions.{is_foreign, admission_of}
use Rattle.ws_gate.specs.Rulings.{IsWelcome, IsAdmitted, IsDenied}
use Rattle.ws_gate.proofs.TokensTold.{token_is, token_only}
use Rattle.ws_gate.proofs.ProtocolsTold.{protocol_is, protocol_only}
use Rattle.ws_gate.proofs.OriginsTold.{own_welcome, welcome_own}

differ : (xs ys : List ℕ) → bytes_eq xs ys ≡ false → xs ≢ ys
differ xs ys e same = true≢false (sym ((bytes_eq-Decides xs ys).1 same) ∙ e)

differs : (xs ys : List ℕ) → xs ≢ ys → bytes_eq xs ys ≡ false
differs xs ys other = by_test (bytes_eq xs ys) refl
  where
    by_test : (b : Bool) → bytes_eq xs ys ≡ b → bytes_eq xs ys ≡ false
    by_test true e = absurd (other ((bytes_eq-Decides xs ys).0 e))
    by_test false e = e

foreign : (origins : List (List ℕ)) (origin : Option (List ℕ)) → ¬ IsWelcome origins origin → is_foreign origins origin ≡ true
foreign origins origin none = by_test (is_foreign origins origin) refl
  where
    by_test : (b : Bool) → is_foreign origins origin ≡ b → is_foreign origins origin ≡ true
    by_test true e = e
    by_test false e = absurd (none (own_welcome origins origin e))

-- the answer, where the first two rules are kept or not, and the request is foreign or not
abbrev judged : Bool → Bool → Bool → Admission → Result Admission Denial
judged method path foreign admission = cond (not method) (Err because.WrongMethod) (cond (not path) (Err because.WrongPath) (cond foreign (Err because.ForeignOrigin) (Ok admission)))

abbrev carried : Handshake → Admission
carried h = record { token = token_of h.query; protocol = protocol_of h.protocols }

-- what the rules say of an answer
abbrev pub IsRight : Handshake → Rules → Result Admission Denial → Type 0
IsRight h rules (Ok admission) = IsAdmitted h rules admission
IsRight h rules (Err denial) = IsDenied h rules denial

told : (h : Handshake) (rules : Rules) (m p f : Bool) → bytes_eq h.method (codes "GET") ≡ m → bytes_eq h.path rules.path ≡ p → is_foreign rules.origins h.origin ≡ f
    → IsRight h rules (judged m p f (carried h))
told h rules false p f method path origin = differ h.method (codes "GET") method
told h rules true false f method path origin = ((bytes_eq-Decides h.method (codes "GET")).0 method, differ h.path rules.path path)
told h rules true true true method path origin =
    ((bytes_eq-Decides h.method (codes "GET")).0 method, (bytes_eq-Decides h.path rules.path).0 path, λ is. true≢false (sym origin ∙ welcome_own rules.origins h.origin is))
told h rules true true false method path origin =
    record {
      method = (bytes_eq-Decides h.method (codes "GET")).0 method;
      path = (bytes_eq-Decides h.path rules.path).0 path;
      origin = own_welcome rules.origins h.origin origin;
      token = token_is h.query;
      protocol = protocol_is h.protocols;
    }

pub is_right : (h : Handshake) (rules : Rules) → IsRight h rules (admission_of h rules)
is_right h rules = told h rules (bytes_eq h.method (codes "GET")) (bytes_eq h.path rules.path) (is_foreign rules.origins h.origin) refl refl refl

judged_as : (h : Handshake) (rules : Rules) (m p f : Bool) → bytes_eq h.method (codes "GET") ≡ m → bytes_eq h.path rules.path ≡ p → is_foreign rules.origins h.origin ≡ f
    → admission_of h rules ≡ judged m p f (carried h)
judged_as h rules m p f method path origin =
    ap (λ (b : Bool). judged b (bytes_eq h.path rules.path) (is_foreign rules.origins h.origin) (carried h)) method
    ∙ (ap (λ (b : Bool). judged m b (is_foreign rules.origins h.origin) (carried h)) path ∙ ap (λ (b : Bool). judged m p b (carried h)) origin)

denied : (h : Handshake) (rules : Rules) (denial : Denial) → IsDenied h rules denial → admission_of h rules ≡ Err denial
denied h rules because.WrongMethod is =
    judged_as h rules false (bytes_eq h.path rules.path) (is_foreign rules.origins h.origin) (differs h.method (codes "GET") is) refl refl
denied h rules because.WrongPath is =
    judged_as h rules true false (is_foreign rules.origins h.origin) ((bytes_eq-Decides h.method (codes "GET")).1 is.0) (differs h.path rules.path is.1) refl
denied h rules because.ForeignOrigin is =
    judged_as h rules true true true ((bytes_eq-Decides h.method (codes "GET")).1 is.0) ((bytes_eq-Decides h.path rules.path).1 is.1) (foreign rules.origins h.origin is.2)
denied h rules because.OutOfMemory is = absurd is

admitted : (h : Handshake) (rules : Rules) (admission : Admission) → IsAdmitted h rules admission → admission_of h rules ≡ Ok admission
admitted h rules admission is =
    judged_as h rules true true false ((bytes_eq-Decides h.method (codes "GET")).1 is.method) ((bytes_eq-Decides h.path rules.path).1 is.path) (welcome_own rules.origins h.origin is.origin)
    ∙ ap₂ (λ (token : List ℕ) (protocol : Option Protocol). Ok (record { token = token; protocol = protocol })) (token_only h.query admission.token is.token) (protocol_only h.protocols admission.protocol is.protocol)

-- nothing else is right
pub one_right : (h : Handshake) (rules : Rules) (answer : Result Admission Denial) → IsRight h rules answer → admission_of h rules ≡ answer
one_right h rules (Ok admission) is = admitted h rules admission is
one_right h rules (Err denial) is = denied h rules denial is
