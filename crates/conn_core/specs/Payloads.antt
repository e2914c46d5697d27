-- The payloads that go into texts as they are, and those that can be committed.
use Rattle.std.specs.Prelude.{⊤, List, All}
use Rattle.cable_base.specs.Squeeze.{IsSqueezedJson}
use Rattle.channel_book.specs.declared.answers.Cast.{Cast}
use Rattle.cable_model.specs.Limits.{CanBeRow}
use Rattle.cable_model.specs.declared.plans.Task.{Task}
use Rattle.cable_model.specs.declared.plans.Task.TheVariants as task

-- the payload of a row is squeezed JSON
abbrev pub CarriesJson : Task → Type 0
CarriesJson task.Nothing = ⊤
CarriesJson (task.Note why) = ⊤
CarriesJson (task.Subscribe identifier) = ⊤
CarriesJson (task.Unsubscribe identifier) = ⊤
CarriesJson (task.Perform identifier payload streams) = ⊤
CarriesJson (task.Row identifier payload) = IsSqueezedJson payload
CarriesJson (task.Confirm identifier) = ⊤
CarriesJson (task.Close how identifiers) = ⊤

-- each of the casts can be committed as a row
abbrev pub AreCommittable : List Cast → Type 0
AreCommittable casts = All (λ (c : Cast). CanBeRow c.channel c.payload) casts
