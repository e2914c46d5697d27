-- A text that is cut at each byte of one kind.
use Rattle.std.specs.Prelude.{◌≡◌, ℕ, ◌==◌, false, List}
use Rattle.std.specs.List.{list_any, join_with_byte, AllByRecursion}

-- the text doesn't have the byte
abbrev pub Lacks : ℕ → List ℕ → Type 0
Lacks byte text = list_any (λ b. b == byte) text ≡ false

-- the text is these parts, with the byte between each two, and no part has it
pub record IsCutAt (byte : ℕ) (text : List ℕ) (parts : List (List ℕ)) : Type 0 where
  pub joined : text ≡ join_with_byte byte parts
  pub free : AllByRecursion (Lacks byte) parts
