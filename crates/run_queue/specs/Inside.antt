-- What an inbox keeps of its fields.
use Rattle.std.specs.Prelude.{◌≡◌, ◌<◌, ◌≤◌, ℕ, List, [], ◌∷◌, length, map, filter}
use Rattle.cable_model.specs.Pieces.{Placed}
use Rattle.cable_model.specs.Possible.{is_command}
use Rattle.run_queue.specs.declared.inboxes.Taken.{Taken}

abbrev pub placed : Taken → Placed
placed t = record { place = t.place; piece = t.piece }

-- the places rise, from above b up to at most e
abbrev pub Rises : ℕ → List Taken → ℕ → Type 0
Rises b [] e = b ≤ e
Rises b (t ∷ ts) e = (b < t.place) × Rises t.place ts e

abbrev pub commands_in : List Taken → ℕ
commands_in ts = length (filter (λ t. is_command t.piece) ts)

-- the places rise from the last one taken up to the last one given, and the commands are counted
pub record IsInbox (ts : List Taken) (commands last taken : ℕ) : Type 0 where
  pub places : Rises taken ts last
  pub counted : commands ≡ commands_in ts
