-- Strings in a JSON value, and strings that hold JSON.
use Rattle.std.specs.Prelude.{ℕ, List, Option, Some, None, is_some, option_and_then, if◌then◌else◌}
use Rattle.serde_json.specs.Data.{Data}
use Rattle.serde_json.specs.Read.{read}
use Rattle.serde_json.specs.Find.{get, as_str}
use Rattle.cable_base.specs.Squeeze.{squeezed}

-- the string at a name, of an object that has one there
abbrev pub text_at : List ℕ → Data → Option (List ℕ)
text_at name d = option_and_then as_str (get name d)

-- the squeezed text, where it is JSON
abbrev pub json_text : List ℕ → Option (List ℕ)
json_text text = if is_some (read text) then Some (squeezed text) else None
