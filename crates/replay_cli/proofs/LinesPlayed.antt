-- The events of a line are those that a world steps.
use Rattle.std.proofs.Common.{ℕ, zero, suc, ◌≤◌, ◌<◌, List, [], ◌∷◌, ◌++◌, sym, subst, arith}
use Rattle.std.specs.Prelude.{replicate, IsSome}
use Rattle.std.specs.List.{All}
use Rattle.std.proofs.lemmas.List.Elements.{All-nil, All-cons}
use Rattle.serde_json.specs.Read.{read}
use Rattle.cable_base.specs.Squeeze.{squeezed, IsSqueezedJson}
use Rattle.cable_model.specs.Limits.{last_moment}
use Rattle.cable_model.specs.declared.events.Event.{Event}
use Rattle.cable_model.specs.declared.events.Event.TheVariants as event
use Rattle.cable_model.specs.declared.verbs.Verb.{Verb}
use Rattle.cable_model.specs.declared.verbs.Verb.TheVariants.{One, Work, Poll}
use Rattle.cable_model.specs.Script.{expand, IsCast, SpellsEvent, Spells}
use Rattle.table_core.specs.Keepers.{moment_limit}
use Rattle.table_core.specs.Tables.{IsWithinLimits}
use Rattle.node_world.specs.Steps.{IsPlayed}

-- squeezing keeps what a text reads to
abbrev pub Squeezes : Type 0
Squeezes = (text : List ℕ) → IsSome (read text) → IsSqueezedJson (squeezed text)

early-enough : (at : ℕ) → at ≤ last_moment → at < moment_limit
early-enough at early = omega (arith, early)

-- the grammar of a cast keeps within the table's limits
within : Squeezes → (channel json payload : List ℕ) (at : ℕ) → at ≤ last_moment → IsCast channel json payload → IsWithinLimits channel payload at
within squeezes channel json payload at early c =
    record {
      row = record { channel_len = c.short_name; payload_len = c.short_payload; message = subst IsSqueezedJson (sym c.squeezes) (squeezes json c.reads) };
      moment = early-enough at early;
    }

event_played : Squeezes → (e : Event) (line : List ℕ) → SpellsEvent e line → IsPlayed e
event_played squeezes (event.Boot node) line s = tt
event_played squeezes (event.Open node conn token) line s = tt
event_played squeezes (event.In conn text) line s = tt
event_played squeezes (event.Drop conn) line s = tt
event_played squeezes (event.Stop node) line s = tt
event_played squeezes (event.Take conn) line s = tt
event_played squeezes (event.Put conn at) line s = early-enough at.0 s.1.1
event_played squeezes (event.Finish conn) line s = tt
event_played squeezes (event.Cast at channel payload) line s = within squeezes channel s.0 payload at.0 s.1.0.1 s.1.1
event_played squeezes (event.Trim now retention batch) line s = tt
event_played squeezes (event.Ask node) line s = tt
event_played squeezes (event.Read node) line s = tt
event_played squeezes (event.Deliver node) line s = tt
event_played squeezes (event.Beat node now) line s = tt
event_played squeezes event.Fault line s = tt

pub all_one : (e : Event) → IsPlayed e → All IsPlayed (e ∷ [])
all_one e p = All-cons IsPlayed e [] p (All-nil IsPlayed)

pub puts_played : (n : ℕ) (e f : Event) → IsPlayed e → IsPlayed f → All IsPlayed (replicate n e ++ f ∷ [])
puts_played zero e f p q = all_one f q
puts_played (suc n) e f p q = All-cons IsPlayed e (replicate n e ++ f ∷ []) p (puts_played n e f p q)

-- the events of a line that spells a verb are played
pub line_each : Squeezes → (v : Verb) (line : List ℕ) → Spells v line → All IsPlayed (expand v)
line_each squeezes (One e) line s = all_one e (event_played squeezes e line s)
line_each squeezes (Work conn at puts) line s =
    All-cons IsPlayed (event.Take conn) (replicate puts (event.Put conn at) ++ event.Finish conn ∷ []) tt
    (puts_played puts (event.Put conn at) (event.Finish conn) (early-enough at.0 s.1.1) tt)
line_each squeezes (Poll node) line s =
    All-cons IsPlayed (event.Ask node) (event.Read node ∷ event.Deliver node ∷ []) tt (All-cons IsPlayed (event.Read node) (event.Deliver node ∷ []) tt (all_one (event.Deliver node) tt))
