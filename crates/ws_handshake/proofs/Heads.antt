-- What the spans of a head say of it.
use Rattle.std.proofs.Common.{◌≡◌, ◌≢◌, ◌∙◌, ◌+◌, ℕ, List, [], ◌∷◌, length, length-append, take, drop, map, Result, Ok, Err, refl, sym, ap, subst, arith}
use Rattle.http.specs.declared.request.Request.{Request}
use Rattle.httparse.specs.declared.spans.HeaderSpan.{HeaderSpan}
use Rattle.httparse.specs.declared.spans.RequestSpans.{RequestSpans}
use Rattle.httparse.specs.Grammar.{RequestHead, ReadsRequest, print_request}
use Rattle.httparse.specs.Spans.{IsRequestOf, IsRequestAt, span_bytes, name_and_value}
use Rattle.websocket.specs.declared.handshake.failure.HandshakeError.{HandshakeError}
use Rattle.websocket.specs.Handshake.{requested_key, IsValidKey, accept_key_of, Answers}
use Rattle.websocket.specs.Headers.{Fields, fields_of}
use Rattle.ws_gate.specs.declared.verdicts.Rules.{Rules}
use Rattle.ws_handshake.specs.Requests.{IsRequestBy}
use Rattle.ws_handshake.specs.Replies.{Asks, HasMore, LacksUpgrade, acceptance, IsRuled, FollowsRules}
use Rattle.ws_handshake.specs.declared.replies.Reply.{Reply}
use Rattle.ws_handshake.specs.declared.replies.Reply.TheVariants as reply

-- the key that is asked for by what the spans cover
abbrev named_by : List ℕ → RequestSpans → List HeaderSpan → Result (List ℕ) HandshakeError
named_by head r spans = requested_key (span_bytes head r.method) r.version (fields_of head (take r.headers spans))

named : (head : List ℕ) (spans : List HeaderSpan) (r : RequestSpans) (h : RequestHead) → IsRequestAt head spans r h
    → named_by head r spans ≡ requested_key h.method h.minor (map name_and_value h.fields)
named head spans r h at =
    ap (λ (m : List ℕ). requested_key m r.version (fields_of head (take r.headers spans))) at.method
    ∙ (ap (λ (v : ℕ). requested_key h.method v (fields_of head (take r.headers spans))) at.version
    ∙ ap (λ (fs : Fields). requested_key h.method h.minor fs) at.fields)

drop_all : (l : List ℕ) → drop (length l) l ≡ []
drop_all [] = refl
drop_all (b ∷ l) = drop_all l

whole : (head : List ℕ) (spans : List HeaderSpan) (r : RequestSpans) (h : RequestHead) → IsRequestAt head spans r h → r.len ≡ length head → ReadsRequest head h []
whole head spans r h at len = subst (λ (rest : List ℕ). ReadsRequest head h rest) (ap (λ (n : ℕ). drop n head) len ∙ drop_all head) at.reads

pub more : (head : List ℕ) (spans : List HeaderSpan) (r : RequestSpans) → IsRequestOf head spans r → r.len ≢ length head → HasMore head
more head spans r is longer =
    let h = is.0 in
    let at = is.1 in
    let nothing_left : drop r.len head ≢ [] = λ e.
    let size : length head ≡ length (print_request h) + length (drop r.len head) = ap (λ (l : List ℕ). length l) at.reads.1 ∙ length-append (print_request h) (drop r.len head) in
    let none : length (drop r.len head) ≡ 0 = ap (λ (l : List ℕ). length l) e in
    let len = at.len in
    longer (omega arith)
    in
    (h, drop r.len head, at.reads, nothing_left)

pub lacks : (head : List ℕ) (spans : List HeaderSpan) (r : RequestSpans) (why : HandshakeError) → IsRequestOf head spans r → r.len ≡ length head
    → Answers (Err why) (named_by head r spans) → LacksUpgrade head why
lacks head spans r why is len answers =
    let h = is.0 in
    (h, whole head spans r h is.1 len, subst (λ (a : Result (List ℕ) HandshakeError). Answers (Err why) a) (named head spans r h is.1) answers)

answered : (accept_key : List ℕ) (asked : Result (List ℕ) HandshakeError) → Answers (Ok accept_key) asked
    → (key : List ℕ) × (asked ≡ Ok key) × IsValidKey key × (accept_key ≡ accept_key_of key)
answered accept_key (Err why) is = cc
answered accept_key (Ok key) is = (key, refl, is.0, is.1)

-- a request that is ruled on by its accept key is answered as the rules say
follows : (head key accept_key : List ℕ) (request : Request (Unit {0})) (rules : Rules) (r : Reply) → Asks head key request → accept_key ≡ accept_key_of key
    → IsRuled accept_key request rules r → FollowsRules head rules r
follows head key accept_key request rules reply.Unfinished asks same is = absurd is
follows head key accept_key request rules (reply.Admitted admission answer) asks same is =
    (key, request, asks, is.0, is.1 ∙ ap (λ (k : List ℕ). acceptance k admission.protocol) same)
follows head key accept_key request rules (reply.Denied denial) asks same is = (key, request, asks, is)
follows head key accept_key request rules (reply.Refused why) asks same is = absurd is

pub ruled : (head : List ℕ) (spans : List HeaderSpan) (r : RequestSpans) (accept_key : List ℕ) (request : Request (Unit {0})) (rules : Rules) (answer : Reply)
    → IsRequestOf head spans r → r.len ≡ length head → Answers (Ok accept_key) (named_by head r spans)
    → IsRequestBy (span_bytes head r.path) (fields_of head (take r.headers spans)) request → IsRuled accept_key request rules answer → FollowsRules head rules answer
ruled head spans r accept_key request rules answer is len answers by ruled_on =
    let h = is.0 in
    let at = is.1 in
    let key = answered accept_key (named_by head r spans) answers in
    let target : IsRequestBy h.target (fields_of head (take r.headers spans)) request = subst (λ (t : List ℕ). IsRequestBy t (fields_of head (take r.headers spans)) request) at.path by in
    let asks : Asks head key.0 request = record {
      parts = h;
      reads = whole head spans r h at len;
      names = sym (named head spans r h at) ∙ key.1;
      valid = key.2;
      is_request = subst (λ (fs : Fields). IsRequestBy h.target fs request) at.fields target;
    } in
    follows head key.0 accept_key request rules answer asks key.3 ruled_on
