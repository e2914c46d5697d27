-- The limits of a session and of a script, by the names that definitions use. The numbers are constants of the code, in `limits` of `cable_base`.
use Rattle.std.specs.Prelude.{ℕ, ◌≤◌, List, length}
use Rattle.cable_base.specs.declared.limits.TheConstants.{MOST_TEXT, MOST_WAITING, MOST_CONNECTIONS, MOST_SUBSCRIPTIONS, MOST_STREAMS}
use Rattle.cable_base.specs.declared.limits.TheConstants.{MOST_NAME, MOST_PAYLOAD, MOST_LINE, MOST_SCRIPT, PAGE_ROWS}
use Rattle.cable_base.specs.declared.limits.TheConstants.{LAST_NODE, LAST_CONN, LAST_MOMENT, MOST_BATCH, MOST_PUTS}
use Rattle.cable_base.specs.Squeeze.{IsSqueezedJson}

-- bytes of a command's text
abbrev pub most_text : ℕ
most_text = MOST_TEXT

-- commands of a connection that wait
abbrev pub most_waiting : ℕ
most_waiting = MOST_WAITING

-- live connections of a node
abbrev pub most_connections : ℕ
most_connections = MOST_CONNECTIONS

-- subscriptions of a connection
abbrev pub most_subscriptions : ℕ
most_subscriptions = MOST_SUBSCRIPTIONS

-- different streams of a subscription
abbrev pub most_streams : ℕ
most_streams = MOST_STREAMS

-- bytes of a name that callbacks hold or cast to
abbrev pub most_name : ℕ
most_name = MOST_NAME

-- bytes of a payload that callbacks cast
abbrev pub most_payload : ℕ
most_payload = MOST_PAYLOAD

-- bytes of a script's line, without its line feed
abbrev pub most_line : ℕ
most_line = MOST_LINE

-- bytes of a script
abbrev pub most_script : ℕ
most_script = MOST_SCRIPT

-- the greatest number of a node in a script
abbrev pub last_node : ℕ
last_node = LAST_NODE

-- the greatest number of a connection in a script
abbrev pub last_conn : ℕ
last_conn = LAST_CONN

-- the last moment and the longest span of a script, in milliseconds
abbrev pub last_moment : ℕ
last_moment = LAST_MOMENT

-- rows that a script's trim takes at most
abbrev pub most_batch : ℕ
most_batch = MOST_BATCH

-- broadcasts that a script's `work` commits at most
abbrev pub most_puts : ℕ
most_puts = MOST_PUTS

-- rows that a read fetches at most
abbrev pub page_rows : ℕ
page_rows = PAGE_ROWS

-- a name and a payload that can be committed as a row: within the limits, and the payload is squeezed JSON
pub record CanBeRow (channel payload : List ℕ) : Type 0 where
  pub channel_len : length channel ≤ most_name
  pub payload_len : length payload ≤ most_payload
  pub message : IsSqueezedJson payload
