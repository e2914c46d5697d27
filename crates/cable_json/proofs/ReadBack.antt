-- A text that the server makes is the print of a JSON value, and so reads as that value.
use Rattle.std.proofs.Common.{◌≡◌, ℕ, ◌<◌, ◌≤◌, ◌^◌, Bool, true, false, List, [], codes, decimal, Some, option_and_then, refl, sym, ap, ◌∙◌, arith, append-nil}
use Rattle.json.specs.Json as json
use Rattle.json.specs.Print.{print, print_from, escape_byte}
use Rattle.json.specs.Tree.{json_tokens, depth, HasNumbers}
use Rattle.json.proofs.Printed.Decimals.{IsNumber-decimal}
use Rattle.json.proofs.Printed.Tokens.{tokens-print}
use Rattle.json.proofs.Printed.Trees.{value-json_tokens, ArePrintable-json_tokens}
use Rattle.serde_json.specs.Data.{Data, boolean, number, string, unsigned}
use Rattle.serde_json.specs.Read.{read, of_json, max_depth}
use Rattle.serde_json.proofs.Numbers.{number_of-decimal}
use Rattle.cable_json.specs.declared.reasons.Reason.{Reason}
use Rattle.cable_json.specs.declared.reasons.Reason.TheVariants.{Unauthorized, InvalidRequest, ServerRestart, Remote}
use Rattle.cable_json.specs.Texts.{welcome_text, ping_text, confirm_text, reject_text, disconnect_text, reason_word, one_member, two_members, three_members}

read-print : (j : json.Json) (d : Data) → HasNumbers j → depth j ≤ max_depth → of_json j ≡ Some d → read (print (json_tokens j)) ≡ Some d
read-print j d numbers shallow is =
    ap (λ ts. option_and_then of_json (option_and_then (λ p. json.if_last p.0 p.1) (json.value max_depth ts))) (tokens-print (json_tokens j) (ArePrintable-json_tokens j numbers) ∙ sym (append-nil (json_tokens j)))
    ∙ ap (λ o. option_and_then of_json (option_and_then (λ p. json.if_last p.0 p.1) o)) (value-json_tokens j max_depth [] shallow)
    ∙ is

abbrev one : List ℕ → json.Json → json.Json
one k v = json.object (json.member k v json.no_members)

abbrev two : List ℕ → json.Json → List ℕ → json.Json → json.Json
two k v l w = json.object (json.member k v (json.member l w json.no_members))

abbrev three : List ℕ → json.Json → List ℕ → json.Json → List ℕ → json.Json → json.Json
three k v l w m x = json.object (json.member k v (json.member l w (json.member m x json.no_members)))

-- ---- the greeting and the moment

welcome_print : welcome_text ≡ print (json_tokens (one (codes "type") (json.string (codes "welcome"))))
unfolding print_from escape_byte
welcome_print = refl

pub read-welcome : read welcome_text ≡ Some (one_member (codes "type") (string (codes "welcome")))
read-welcome = ap read welcome_print ∙ read-print (one (codes "type") (json.string (codes "welcome"))) _ (tt, tt) (omega arith) refl

abbrev ping_tree : ℕ → json.Json
ping_tree seconds = two (codes "type") (json.string (codes "ping")) (codes "message") (json.number (decimal seconds))

ping_print : (seconds : ℕ) → ping_text seconds ≡ print (json_tokens (ping_tree seconds))
unfolding print_from escape_byte
ping_print seconds = refl

ping_value : (seconds : ℕ) → seconds < 2 ^ 64 → of_json (ping_tree seconds) ≡ Some (two_members (codes "message") (number (unsigned seconds)) (codes "type") (string (codes "ping")))
ping_value seconds fits = rw (number_of-decimal seconds fits) refl

pub read-ping : (seconds : ℕ) → seconds < 2 ^ 64 → read (ping_text seconds) ≡ Some (two_members (codes "message") (number (unsigned seconds)) (codes "type") (string (codes "ping")))
read-ping seconds fits = ap read (ping_print seconds) ∙ read-print (ping_tree seconds) _ (tt, (IsNumber-decimal seconds fits, tt)) (omega arith) (ping_value seconds fits)

-- ---- answers to a subscription

abbrev answer_tree : (identifier kind : List ℕ) → json.Json
answer_tree identifier kind = two (codes "identifier") (json.string identifier) (codes "type") (json.string kind)

confirm_print : (identifier : List ℕ) → confirm_text identifier ≡ print (json_tokens (answer_tree identifier (codes "confirm_subscription")))
unfolding print_from escape_byte
confirm_print identifier = refl

reject_print : (identifier : List ℕ) → reject_text identifier ≡ print (json_tokens (answer_tree identifier (codes "reject_subscription")))
unfolding print_from escape_byte
reject_print identifier = refl

pub read-confirm : (identifier : List ℕ) → read (confirm_text identifier) ≡ Some (two_members (codes "identifier") (string identifier) (codes "type") (string (codes "confirm_subscription")))
read-confirm identifier = ap read (confirm_print identifier) ∙ read-print (answer_tree identifier (codes "confirm_subscription")) _ (tt, (tt, tt)) (omega arith) refl

pub read-reject : (identifier : List ℕ) → read (reject_text identifier) ≡ Some (two_members (codes "identifier") (string identifier) (codes "type") (string (codes "reject_subscription")))
read-reject identifier = ap read (reject_print identifier) ∙ read-print (answer_tree identifier (codes "reject_subscription")) _ (tt, (tt, tt)) (omega arith) refl

-- ---- the end of a connection

abbrev disconnect_tree : Reason → Bool → json.Json
disconnect_tree reason reconnect = three (codes "type") (json.string (codes "disconnect")) (codes "reason") (json.string (reason_word reason)) (codes "reconnect") (json.boolean reconnect)

disconnect_print : (reason : Reason) (reconnect : Bool) → disconnect_text reason reconnect ≡ print (json_tokens (disconnect_tree reason reconnect))
unfolding print_from escape_byte
disconnect_print Unauthorized true = refl
disconnect_print Unauthorized false = refl
disconnect_print InvalidRequest true = refl
disconnect_print InvalidRequest false = refl
disconnect_print ServerRestart true = refl
disconnect_print ServerRestart false = refl
disconnect_print Remote true = refl
disconnect_print Remote false = refl

pub read-disconnect : (reason : Reason) (reconnect : Bool)
    → read (disconnect_text reason reconnect) ≡ Some (three_members (codes "reason") (string (reason_word reason)) (codes "reconnect") (boolean reconnect) (codes "type") (string (codes "disconnect")))
read-disconnect reason reconnect = ap read (disconnect_print reason reconnect) ∙ read-print (disconnect_tree reason reconnect) _ (tt, (tt, (tt, tt))) (omega arith) refl
