-- What is run of a made script.
use Rattle.std.specs.Prelude.{◌≡◌, ℕ, zero, suc, ◌+◌, List, [], ◌∷◌, ◌++◌, All, Ok}
use Rattle.cable_base.specs.declared.numbers.NodeNo.{NodeNo}
use Rattle.channel_book.specs.Books.{book_of}
use Rattle.cable_model.specs.declared.verbs.Verb.{Verb}
use Rattle.cable_model.specs.declared.verbs.Verb.TheVariants.{One}
use Rattle.cable_model.specs.declared.events.Event.TheVariants as event
use Rattle.cable_model.specs.Script.{expand, expand_all, rules_of}
use Rattle.node_world.specs.Steps.{IsPlayed}
use Rattle.node_world.specs.Worlds.{WorldState, StandsFor}
use Rattle.replay_cli.specs.declared.running.Tally.{Tally}
use Rattle.replay_cli.specs.Made.{made_book, opens}
use Rattle.replay_cli.specs.Running.{IsTallyOf}

-- a world can play the events of a line
abbrev pub IsPlayable : Verb → Type 0
IsPlayable verb = All IsPlayed (expand verb)

-- a world under the made book that stands for these lines, and what they came to
pub record HasRun (verbs : List Verb) (world : WorldState) (tally : Tally) : Type 0 where
  pub declares : book_of made_book ≡ Ok world.book
  pub stands : StandsFor world (expand_all verbs)
  pub counts : IsTallyOf (rules_of world.book) (expand_all verbs) tally

-- behind whatever was run, these lines were run
abbrev pub RunsOn : List Verb → (old new : WorldState) → (tally tally' : Tally) → Type 0
RunsOn verbs old new tally tally' = (before : List Verb) → HasRun before old tally → HasRun (before ++ verbs) new tally'

abbrev pub boots : NodeNo → Verb
boots node = One (event.Boot node)

-- so many clients come, from this one on
unfoldable pub coming : (count client : ℕ) → List Verb
coming zero client = []
coming (suc count) client = opens client ∷ coming count (client + 1)

-- the world and the tally come from the old ones by the lines of this script that stand before the rest
pub record IsUpTo (script rest : List Verb) (old new : WorldState) (tally tally' : Tally) : Type 0 where
  pub done : List Verb
  pub ran : RunsOn done old new tally tally'
  pub whole : done ++ rest ≡ script
