-- What is found of a name behind the blanks of a part.
use Rattle.std.proofs.Common.{◌≡◌, ℕ, Bool, true, ◌&&◌, List, length, take, drop, bytes_eq, sym, ap, ◌∙◌}
use Rattle.std.specs.List.{list_all}
use Rattle.ws_gate.specs.Protocols.{is_blank, skip_blanks, is_named}

abbrev named_by : List ℕ → List ℕ → Bool
named_by name left = bytes_eq (take (length name) left) name && list_all is_blank (drop (length name) left)

-- the name is found, and the rest behind it is blank or not
pub name_found : (name part left rest : List ℕ) (r : Bool) → left ≡ skip_blanks part → bytes_eq (take (length name) left) name ≡ true → rest ≡ drop (length name) left
    → r ≡ list_all is_blank rest → r ≡ is_named name part
name_found name part left rest r left_is begins rest_is told =
    told
    ∙ (ap (list_all is_blank) rest_is
    ∙ (sym (ap (λ (b : Bool). b && list_all is_blank (drop (length name) left)) begins) ∙ ap (named_by name) left_is))
