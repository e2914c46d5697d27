-- The subprotocol of Action Cable that a handshake lists.
use Rattle.std.specs.Prelude.{◌≡◌, ℕ, ◌==◌, ◌&&◌, not, Bool, true, List, [], ◌∷◌, ◌++◌, length, take, drop, codes, bytes_eq, position, Option, Some, None, option_and_then, if◌then◌else◌}
use Rattle.std.specs.List.{list_any, list_all, slice_split}
use Rattle.std.specs.Option.{option_map_or}
use Rattle.ws_gate.specs.Parts.{IsCutAt}
use Rattle.ws_gate.specs.declared.verdicts.Protocol.{Protocol}
use Rattle.ws_gate.specs.declared.verdicts.Protocol.TheVariants as protocol

-- a `,`
abbrev pub is_comma : ℕ → Bool
is_comma b = b == 44

abbrev pub is_blank : ℕ → Bool
is_blank b = b == 32

abbrev pub is_other : ℕ → Bool
is_other b = not (is_blank b)

abbrev pub v1_name : List ℕ
v1_name = codes "actioncable-v1-json"

abbrev pub unsupported_name : List ℕ
unsupported_name = codes "actioncable-unsupported"

-- the text without the blanks in front
unfoldable pub skip_blanks : List ℕ → List ℕ
skip_blanks text = option_map_or (λ start. drop start text) (position is_other text) []

-- behind its blanks the part is the name, and there are only blanks behind that
abbrev pub is_named : List ℕ → List ℕ → Bool
is_named name part = bytes_eq (take (length name) (skip_blanks part)) name && list_all is_blank (drop (length name) (skip_blanks part))

-- one of the header's parts is the name
abbrev pub lists : List ℕ → List ℕ → Bool
lists name header = list_any (is_named name) (slice_split is_comma header)

-- the first of the two that is listed, in the order in which they are preferred
unfoldable pub protocol_in : List ℕ → Option Protocol
protocol_in header = if lists v1_name header then Some protocol.V1 else (if lists unsupported_name header then Some protocol.Unsupported else None)

abbrev pub protocol_of : Option (List ℕ) → Option Protocol
protocol_of header = option_and_then protocol_in header

-- ---- what the protocol is

abbrev pub AreBlank : List ℕ → Type 0
AreBlank text = list_all is_blank text ≡ true

-- cut at commas, the header has a part that is the name with blanks around it
pub record Lists (name header : List ℕ) : Type 0 where
  pub earlier : List (List ℕ)
  pub before : List ℕ
  pub after : List ℕ
  pub later : List (List ℕ)
  pub cut : IsCutAt 44 header (earlier ++ (before ++ (name ++ after)) ∷ later)
  pub blank_before : AreBlank before
  pub blank_after : AreBlank after

-- `actioncable-v1-json` where it is listed, else `actioncable-unsupported` where that is, and else none
abbrev pub IsChosen : Option Protocol → List ℕ → Type 0
IsChosen (Some protocol.V1) header = Lists v1_name header
IsChosen (Some protocol.Unsupported) header = (¬ Lists v1_name header) × Lists unsupported_name header
IsChosen None header = (¬ Lists v1_name header) × (¬ Lists unsupported_name header)

-- without the header there is none
abbrev pub IsProtocolOf : Option Protocol → Option (List ℕ) → Type 0
IsProtocolOf chosen None = chosen ≡ None
IsProtocolOf chosen (Some header) = IsChosen chosen header
