-- The members of a JSON object. Of a key that stands twice the last one counts, and keys are equal by their characters.
use Rattle.std.specs.Prelude.{ℕ, List, Option, option_and_then}
use Rattle.serde_json.specs.Data.{Data}
use Rattle.serde_json.specs.Find.{get, as_str}

-- the characters of the string at a name, of an object that has one there
abbrev pub text_at : List ℕ → Data → Option (List ℕ)
text_at name value = option_and_then as_str (get name value)
