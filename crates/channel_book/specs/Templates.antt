-- Templates: texts with names in braces, and how they are filled in.
use Rattle.std.specs.Prelude.{◌≡◌, ℕ, ◌==◌, ◌&&◌, ◌||◌, nat_lt, not, Bool, true, false, List, [], ◌∷◌, ◌++◌, length, codes, Option, Some, None, option_map, option_and_then, bytes_eq, flat_map, if◌then◌else◌}
use Rattle.std.specs.List.{list_any, slice_split, before_first, after_first, position_or_len, starts_with}
use Rattle.std.specs.Bool.{nat_eq}
use Rattle.serde_json.specs.Data.{Data}
use Rattle.channel_book.specs.declared.templates.Slot.{Slot}
use Rattle.channel_book.specs.declared.templates.Template.{Template}
use Rattle.channel_book.specs.Parameters.{value_for}

-- a `{`
abbrev pub opens : ℕ → Bool
opens b = b == 123

-- a `}`
abbrev pub closes : ℕ → Bool
closes b = b == 125

-- `user`, or one of the names that the channel requires. Neither is empty or has a brace.
abbrev pub is_known : List (List ℕ) → List ℕ → Bool
is_known names name = bytes_eq name (codes "user") || list_any (λ n. bytes_eq n name) names

-- what stands before and behind the first `}`
abbrev pub around_close : List ℕ → Option (List ℕ × List ℕ)
around_close text = if nat_lt (position_or_len closes text) (length text) then Some (before_first closes text, after_first closes text) else None

abbrev pub slot_with : List (List ℕ) → List ℕ → List ℕ → Option Slot
slot_with names name rest = if is_known names name && not (list_any closes rest) then Some (record { name = name; rest = rest }) else None

-- behind a `{` stand a known name, a `}`, and text without one
abbrev pub slot_of : List (List ℕ) → List ℕ → Option Slot
slot_of names part = option_and_then (λ p. slot_with names p.0 p.1) (around_close part)

abbrev pub slots_of : List (List ℕ) → List (List ℕ) → Option (List Slot)
slots_of names [] = Some []
slots_of names (part ∷ parts) = option_and_then (λ slot. option_map (λ slots. slot ∷ slots) (slots_of names parts)) (slot_of names part)

abbrev pub template_with : List (List ℕ) → List ℕ → List (List ℕ) → Option Template
template_with names text [] = None
template_with names text (head ∷ parts) = if list_any closes head then None else option_map (λ slots. record { text = text; head = head; slots = slots }) (slots_of names parts)

-- the template of a text, cut at each `{`: text without a `}`, and behind each `{` a name, a `}` and more such text
abbrev pub template_of : List (List ℕ) → List ℕ → Option Template
template_of names text = template_with names text (slice_split opens text)

-- the names give way to their values
abbrev pub filling : List ℕ → Data → Template → List ℕ
filling user identifier template = template.head ++ flat_map (λ slot. value_for user identifier slot.name ++ slot.rest) template.slots

-- ---- what a template is

-- a slot as it is written
abbrev pub slot_text : Slot → List ℕ
slot_text slot = 123 ∷ slot.name ++ 125 ∷ slot.rest

-- a template as it is written
abbrev pub template_text : Template → List ℕ
template_text template = template.head ++ flat_map slot_text template.slots

-- text without braces
abbrev pub IsPlain : List ℕ → Type 0
IsPlain text = (list_any opens text ≡ false) × (list_any closes text ≡ false)

abbrev pub ArePlain : List (List ℕ) → Type 0
ArePlain [] = Unit {0}
ArePlain (text ∷ texts) = IsPlain text × ArePlain texts

-- a known name, and plain text behind it
pub record IsSlot (names : List (List ℕ)) (slot : Slot) : Type 0 where
  pub known : is_known names slot.name ≡ true
  pub plain : IsPlain slot.rest

abbrev pub AreSlots : List (List ℕ) → List Slot → Type 0
AreSlots names [] = Unit {0}
AreSlots names (slot ∷ slots) = IsSlot names slot × AreSlots names slots

-- the text is the template, written out: plain text, and known names in braces with plain text behind each
pub record IsTemplate (names : List (List ℕ)) (text : List ℕ) (template : Template) : Type 0 where
  pub kept : template.text ≡ text
  pub written : template_text template ≡ text
  pub head : IsPlain template.head
  pub slots : AreSlots names template.slots

-- ---- reserved names

-- it begins with the name space that the server keeps to itself
abbrev pub is_reserved : List ℕ → Bool
is_reserved text = starts_with nat_eq text (codes "action_cable/")
