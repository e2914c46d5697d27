-- The texts that the server sends, byte for byte. They have no white space outside strings.
use Rattle.std.specs.Prelude.{◌≡◌, ℕ, List, ◌++◌, Bool, codes, Some, decimal, if◌then◌else◌}
use Rattle.json.specs.Print.{quoted}
use Rattle.serde_json.specs.Data.{Data, object, no_members, member}
use Rattle.serde_json.specs.Read.{read}
use Rattle.cable_base.specs.Squeeze.{squeezed}
use Rattle.cable_json.specs.declared.reasons.Reason.{Reason}
use Rattle.cable_json.specs.declared.reasons.Reason.TheVariants.{Unauthorized, InvalidRequest, ServerRestart, Remote}

-- greets a client
abbrev pub welcome_text : List ℕ
welcome_text = codes "{\"type\":\"welcome\"}"

-- tells the moment, in seconds since 1970
abbrev pub ping_text : ℕ → List ℕ
ping_text seconds = codes "{\"type\":\"ping\",\"message\":" ++ decimal seconds ++ codes "}"

-- the subscription with this identifier stands
abbrev pub confirm_text : List ℕ → List ℕ
confirm_text identifier = codes "{\"identifier\":" ++ quoted identifier ++ codes ",\"type\":\"confirm_subscription\"}"

-- the subscription with this identifier is refused
abbrev pub reject_text : List ℕ → List ℕ
reject_text identifier = codes "{\"identifier\":" ++ quoted identifier ++ codes ",\"type\":\"reject_subscription\"}"

-- a payload for the subscription with this identifier
abbrev pub message_text : (identifier payload : List ℕ) → List ℕ
message_text identifier payload = codes "{\"identifier\":" ++ quoted identifier ++ codes ",\"message\":" ++ payload ++ codes "}"

-- the word of a reason
abbrev pub reason_word : Reason → List ℕ
reason_word Unauthorized = codes "unauthorized"
reason_word InvalidRequest = codes "invalid_request"
reason_word ServerRestart = codes "server_restart"
reason_word Remote = codes "remote"

-- the server ends the connection
abbrev pub disconnect_text : Reason → Bool → List ℕ
disconnect_text reason reconnect =
    codes "{\"type\":\"disconnect\",\"reason\":\"" ++ reason_word reason ++ codes "\",\"reconnect\":"
    ++ (if reconnect then codes "true" else codes "false") ++ codes "}"

-- ---- what a client reads

-- the object with this member, and with these, which stand in the order of their names
abbrev pub one_member : List ℕ → Data → Data
one_member name value = object (member name value no_members)

abbrev pub two_members : (first : List ℕ) → Data → (second : List ℕ) → Data → Data
two_members first d second e = object (member first d (member second e no_members))

abbrev pub three_members : (first : List ℕ) → Data → (second : List ℕ) → Data → (third : List ℕ) → Data → Data
three_members first d second e third f = object (member first d (member second e (member third f no_members)))

-- the text reads as this value, and has no white space outside strings
pub record ReadsAs (text : List ℕ) (value : Data) : Type 0 where
  pub reads : read text ≡ Some value
  pub whole : squeezed text ≡ text
