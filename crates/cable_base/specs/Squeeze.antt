-- JSON without its white space: RFC 8259's four bytes of white space are dropped, but for those inside strings.
use Rattle.std.specs.Prelude.{◌≡◌, ℕ, ◌==◌, ◌||◌, not, Bool, true, List, [], ◌∷◌, if◌then◌else◌, IsSome}
use Rattle.serde_json.specs.Read.{read}
use Rattle.cable_base.specs.declared.squeezing.Quoting.{Quoting}
use Rattle.cable_base.specs.declared.squeezing.Quoting.TheVariants.{Outside, Inside, Escaped}

-- white space of JSON
abbrev pub is_space : ℕ → Bool
is_space b = (b == 0x20) || (b == 0x09) || (b == 0x0a) || (b == 0x0d)

-- where the byte behind b stands
abbrev pub next_quoting : Quoting → ℕ → Quoting
next_quoting Outside b = if b == 0x22 then Inside else Outside
next_quoting Inside b = if b == 0x22 then Outside else (if b == 0x5c then Escaped else Inside)
next_quoting Escaped b = Inside

-- it isn't white space outside a string
abbrev pub is_kept : Quoting → ℕ → Bool
is_kept Outside b = not (is_space b)
is_kept Inside b = true
is_kept Escaped b = true

-- what is kept of bytes of which the first stands there
abbrev pub squeezed_from : Quoting → List ℕ → List ℕ
squeezed_from p [] = []
squeezed_from p (b ∷ bs) = if is_kept p b then b ∷ squeezed_from (next_quoting p b) bs else squeezed_from (next_quoting p b) bs

-- a text without the white space outside its strings
abbrev pub squeezed : List ℕ → List ℕ
squeezed text = squeezed_from Outside text

-- a text that reads as JSON and has no white space to lose
pub record IsSqueezedJson (text : List ℕ) : Type 0 where
  pub reads : IsSome (read text)
  pub whole : squeezed text ≡ text
