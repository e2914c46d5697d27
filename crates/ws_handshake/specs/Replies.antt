-- What a server answers to the bytes of a handshake (RFC 6455, section 4.2).
use Rattle.std.specs.Prelude.{◌≡◌, ◌≢◌, ⊤, ℕ, List, [], ◌++◌, codes, map, Option, None, Some, Ok, Err}
use Rattle.http.specs.declared.request.Request.{Request}
use Rattle.httparse.specs.Grammar.{RequestHead, ReadsRequest, HasNoRequest, MayBecomeRequest}
use Rattle.httparse.specs.Spans.{RequestOverflows, name_and_value}
use Rattle.websocket.specs.declared.handshake.failure.HandshakeError.{HandshakeError}
use Rattle.websocket.specs.Handshake.{requested_key, IsValidKey, accept_key_of, Answers}
use Rattle.websocket.specs.Headers.{field_line, crlf}
use Rattle.ws_gate.specs.declared.verdicts.Admission.{Admission}
use Rattle.ws_gate.specs.declared.verdicts.Denial.{Denial}
use Rattle.ws_gate.specs.declared.verdicts.Denial.TheVariants as because
use Rattle.ws_gate.specs.declared.verdicts.Protocol.{Protocol}
use Rattle.ws_gate.specs.declared.verdicts.Protocol.TheVariants as protocol
use Rattle.ws_gate.specs.declared.verdicts.Rules.{Rules}
use Rattle.ws_gate.specs.Handshakes.{handshake_of}
use Rattle.ws_gate.specs.Protocols.{v1_name, unsupported_name}
use Rattle.ws_gate.specs.Admissions.{admission_of, Denies}
use Rattle.ws_handshake.specs.Requests.{IsRequestBy}
use Rattle.ws_handshake.specs.declared.replies.Failure.{Failure}
use Rattle.ws_handshake.specs.declared.replies.Failure.TheVariants as failure
use Rattle.ws_handshake.specs.declared.replies.Reply.{Reply}
use Rattle.ws_handshake.specs.declared.replies.Reply.TheVariants as reply

-- ---- the bytes of an answer

-- the line that names the protocol to be spoken, if there is one
abbrev pub protocol_line : Option Protocol → List ℕ
protocol_line None = []
protocol_line (Some protocol.V1) = field_line (codes "sec-websocket-protocol") v1_name
protocol_line (Some protocol.Unsupported) = field_line (codes "sec-websocket-protocol") unsupported_name

-- the request is accepted: the status 101, the accept key and the protocol
abbrev pub acceptance : List ℕ → Option Protocol → List ℕ
acceptance accept_key chosen =
    ((((codes "HTTP/1.1 101 Switching Protocols" ++ crlf)
    ++ field_line (codes "connection") (codes "Upgrade"))
    ++ field_line (codes "upgrade") (codes "websocket"))
    ++ field_line (codes "sec-websocket-accept") accept_key)
    ++ (protocol_line chosen ++ crlf)

-- it is denied by a status, and closed behind it
abbrev pub refusal : Denial → List ℕ
refusal because.OutOfMemory = codes "HTTP/1.1 503 Service Unavailable\r\nconnection: close\r\ncontent-length: 0\r\n\r\n"
refusal denial = codes "HTTP/1.1 404 Not Found\r\nconnection: close\r\ncontent-length: 0\r\n\r\n"

-- ---- what a head asks for

-- the head is a whole request that asks for an upgrade with this key
pub record Asks (head key : List ℕ) (request : Request (Unit {0})) : Type 0 where
  pub parts : RequestHead
  pub reads : ReadsRequest head parts []
  pub names : requested_key parts.method parts.minor (map name_and_value parts.fields) ≡ Ok key
  pub valid : IsValidKey key
  pub is_request : IsRequestBy parts.target (map name_and_value parts.fields) request

-- it does, and the rules admit it
abbrev pub IsLetIn : List ℕ → Rules → Admission → List ℕ → Type 0
IsLetIn head rules admission answer =
    (key : List ℕ) × (request : Request (Unit {0})) × Asks head key request
    × (admission_of (handshake_of request) rules ≡ Ok admission) × (answer ≡ acceptance (accept_key_of key) admission.protocol)

-- it does, and the rules deny it, or memory was wanted
abbrev pub IsKeptOut : List ℕ → Rules → Denial → Type 0
IsKeptOut head rules denial =
    (key : List ℕ) × (request : Request (Unit {0})) × Asks head key request × Denies denial (admission_of (handshake_of request) rules)

-- how many headers a request may have
abbrev pub field_limit : ℕ
field_limit = 124

-- there is a whole request at the front, and something behind it
abbrev pub HasMore : List ℕ → Type 0
HasMore head = (parts : RequestHead) × (rest : List ℕ) × ReadsRequest head parts rest × (rest ≢ [])

-- it is a whole request that asks for no upgrade, or with no valid key
abbrev pub LacksUpgrade : List ℕ → HandshakeError → Type 0
LacksUpgrade head why =
    (parts : RequestHead) × ReadsRequest head parts [] × Answers (Err why) (requested_key parts.method parts.minor (map name_and_value parts.fields))

abbrev pub IsRefused : List ℕ → Failure → Type 0
IsRefused head failure.NoRequest = RequestOverflows field_limit head
IsRefused head failure.TooEarly = HasMore head
IsRefused head (failure.NoUpgrade why) = LacksUpgrade head why
IsRefused head failure.Unfit = ⊤

-- ---- the answer follows the rules

abbrev pub FollowsRules : List ℕ → Rules → Reply → Type 0
FollowsRules head rules reply.Unfinished = HasNoRequest head × MayBecomeRequest head
FollowsRules head rules (reply.Admitted admission answer) = IsLetIn head rules admission answer.items
FollowsRules head rules (reply.Denied denial) = IsKeptOut head rules denial
FollowsRules head rules (reply.Refused why) = IsRefused head why

-- ---- the same behind the head: what is answered to a request with this accept key
abbrev pub IsRuled : List ℕ → Request (Unit {0}) → Rules → Reply → Type 0
IsRuled accept_key request rules reply.Unfinished = ⊥
IsRuled accept_key request rules (reply.Admitted admission answer) =
    (admission_of (handshake_of request) rules ≡ Ok admission) × (answer.items ≡ acceptance accept_key admission.protocol)
IsRuled accept_key request rules (reply.Denied denial) = Denies denial (admission_of (handshake_of request) rules)
IsRuled accept_key request rules (reply.Refused why) = ⊥
