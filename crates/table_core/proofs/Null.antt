-- `null` is squeezed JSON.
use Rattle.std.proofs.Common.{ℕ, suc, ◌≡◌, ◌∙◌, [], ◌∷◌, Some, ap, refl, is_some}
use Rattle.std.specs.Prelude.{codes, option_and_then}
use Rattle.json.specs.Json.{value, null, if_last}
use Rattle.json.specs.Lex.{lex, punctuate, tokens}
use Rattle.json.specs.Word.{word}
use Rattle.json.specs.Token.{Token}
use Rattle.serde_json.specs.Data as data_of
use Rattle.serde_json.specs.Read.{read, of_json, max_depth}
use Rattle.cable_base.specs.Squeeze.{IsSqueezedJson}

null-tokens : tokens (codes "null") ≡ Token.null ∷ []
unfolding lex punctuate word
null-tokens = refl

null-value : (depth : ℕ) → value (suc depth) (Token.null ∷ []) ≡ Some (null, [])
unfolding value
null-value depth = refl

null-reads : read (codes "null") ≡ Some data_of.null
null-reads = ap (λ o. option_and_then of_json (option_and_then (λ p. if_last p.0 p.1) o)) (ap (value max_depth) null-tokens ∙ null-value 126)

pub null-message : IsSqueezedJson (codes "null")
null-message = record { reads = ap is_some null-reads; whole = refl }
