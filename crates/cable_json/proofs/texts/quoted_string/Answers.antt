use Rattle.std.proofs.Common.{rules, ◌≡◌, ◌++◌, [], ◌∷◌, List, ℕ, ap, ap₂, ◌∙◌, string_bytes, append-nil}
use Rattle.json.specs.Token.{Token, string}
use Rattle.json.specs.Print.{quoted, print, print_from}
use Rattle.cable_json.proofs.texts.quoted_string.Goals as goal

pub returns : goal.returns
unfolding print_from
returns c =
    let items : string_bytes c.in-Ok.quoted ≡ c.into_inner.result.items = ap (λ v. v.items) c.in-Ok.ensures.ok in
    let before : c.string.new.self.before ≡ [] = c.string.ensures.room.0 ∙ (c.new-writer.ensures.before ∙ (c.reserve.ensures.items ∙ c.new-bytes.ensures.items)) in
    let tokens : c.string.new.self.tokens ≡ string c.args.text.now ∷ [] = c.in_ok-string.ensures.ok ∙ ap (λ (ts : List Token). ts ++ string c.args.text.now ∷ []) c.new-writer.ensures.tokens in
    items ∙ (c.into_inner.ensures.items ∙ (ap₂ (λ (bs : List ℕ) (ts : List Token). bs ++ print ts) before tokens ∙ append-nil (quoted c.args.text.now)))
