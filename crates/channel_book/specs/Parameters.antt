-- The values that stand for the names of a template.
use Rattle.std.specs.Prelude.{ℕ, Bool, List, [], codes, Option, Some, None, is_some, unwrap_or, option_map, option_and_then, bytes_eq, if◌then◌else◌}
use Rattle.std.specs.List.{list_all}
use Rattle.std.specs.Fmt.{signed_decimal}
use Rattle.serde_json.specs.Data.{Data, null, boolean, number, string, array, object}
use Rattle.serde_json.specs.Find.{get, as_integer}

-- what a parameter's value is filled in as: a string's characters, the digits of a whole number, or the word of a truth value
abbrev pub fillable_text : Data → Option (List ℕ)
fillable_text null = None
fillable_text (boolean b) = Some (if b then codes "true" else codes "false")
fillable_text (number n) = option_map signed_decimal (as_integer n)
fillable_text (string s) = Some s
fillable_text (array ds) = None
fillable_text (object ms) = None

-- the parameter of a name, where it can be filled in
abbrev pub parameter : List ℕ → Data → Option (List ℕ)
parameter name identifier = option_and_then fillable_text (get name identifier)

-- all these names have parameters that can be filled in
abbrev pub can_fill : List (List ℕ) → Data → Bool
can_fill names identifier = list_all (λ name. is_some (parameter name identifier)) names

-- what stands for a name: the user for `user`, and else the parameter
abbrev pub value_for : List ℕ → Data → List ℕ → List ℕ
value_for user identifier name = if bytes_eq name (codes "user") then user else unwrap_or (parameter name identifier) []
