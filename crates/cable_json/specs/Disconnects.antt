-- The payloads that end a user's connections.
use Rattle.std.specs.Prelude.{◌≡◌, ◌↔◌, ℕ, List, Bool, true, false, codes, Option, Some, None, option_and_then, unwrap_or, if◌then◌else◌}
use Rattle.std.specs.Str.{bytes_eq}
use Rattle.serde_json.specs.Data.{Data, boolean}
use Rattle.serde_json.specs.Read.{read}
use Rattle.serde_json.specs.Find.{get, as_bool}
use Rattle.cable_json.specs.Members.{text_at}

-- whether the client may connect again: it may, unless the member `reconnect` is the value `false`
abbrev pub may_reconnect : Data → Bool
may_reconnect value = unwrap_or (option_and_then as_bool (get (codes "reconnect") value)) true

-- the truth value of a value whose type has this name, where it is that of a disconnect
abbrev pub truth_of : List ℕ → Data → Option Bool
truth_of name value = if bytes_eq name (codes "disconnect") then Some (may_reconnect value) else None

abbrev pub disconnect_in : Data → Option Bool
disconnect_in value = option_and_then (λ name. truth_of name value) (text_at (codes "type") value)

-- the truth value of a payload that is a disconnect
abbrev pub disconnect_of : List ℕ → Option Bool
disconnect_of payload = option_and_then disconnect_in (read payload)

-- the payload is an object whose type is `disconnect`, and it says no exactly where `reconnect` is the value `false`
pub record SaysDisconnect (payload : List ℕ) (reconnect : Bool) (value : Data) : Type 0 where
  pub reads : read payload ≡ Some value
  pub typed : text_at (codes "type") value ≡ Some (codes "disconnect")
  pub says : (reconnect ≡ false) ↔ (get (codes "reconnect") value ≡ Some (boolean false))
