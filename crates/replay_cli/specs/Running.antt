-- What stepping events one after the other says, and how they are counted.
use Rattle.std.specs.Prelude.{◌≡◌, ℕ, ◌+◌, List, ◌++◌, length}
use Rattle.cable_model.specs.declared.events.Event.{Event}
use Rattle.cable_model.specs.History.{Rules, start}
use Rattle.cable_model.specs.Script.{rules_of}
use Rattle.cable_model.specs.Transcript.{said_all, idle_count, lines_text, with_lines, totals_of}
use Rattle.node_world.specs.Worlds.{WorldState, StandsFor, after}
use Rattle.replay_cli.specs.declared.running.Tally.{Tally}

-- for each history that the world stood for: behind it these events were counted with the old ones, and the world stands for it with them behind it
pub record CountsAs (events : List Event) (old new : WorldState) (tally tally' : Tally) : Type 0 where
  pub counted : tally'.events ≡ tally.events + length events
  pub idle : (before : List Event) → StandsFor old before → tally'.idle ≡ tally.idle + idle_count (rules_of old.book) (after old before) events
  pub totals : (before : List Event) → StandsFor old before → tally'.totals ≡ with_lines tally.totals (said_all (rules_of old.book) (after old before) events)
  pub stands : (before : List Event) → StandsFor old before → StandsFor new (before ++ events)

-- and they wrote their lines behind the old text
pub record RunsAs (events : List Event) (old new : WorldState) (text text' : List ℕ) (tally tally' : Tally) : Type 0 where
  pub counts : CountsAs events old new tally tally'
  pub wrote : (before : List Event) → StandsFor old before → text' ≡ text ++ lines_text (said_all (rules_of old.book) (after old before) events)

-- these events and no others are counted
pub record IsTallyOf (r : Rules) (events : List Event) (tally : Tally) : Type 0 where
  pub counted : tally.events ≡ length events
  pub idle : tally.idle ≡ idle_count r start events
  pub totals : tally.totals ≡ totals_of (said_all r start events)
