-- The events of a draw's line can be played.
use Rattle.std.proofs.Common.{◌<◌, ◌≤◌, ◌*◌, Bool, true, false, [], ◌∷◌, ◌++◌, codes, decimal, length-append, arith}
use Rattle.std.specs.Prelude.{◌==◌, if◌then◌else◌, nat_le}
use Rattle.std.proofs.lemmas.Fmt.{length-decimal-le}
use Rattle.std.proofs.lemmas.List.Elements.{All-cons}
use Rattle.cable_model.specs.declared.events.Event.{Event}
use Rattle.cable_model.specs.declared.events.Event.TheVariants as event
use Rattle.cable_model.specs.declared.verbs.Verb.{Verb}
use Rattle.cable_model.specs.declared.verbs.Verb.TheVariants.{One}
use Rattle.table_core.specs.Tables.{IsWithinLimits}
use Rattle.node_world.specs.Steps.{IsPlayed}
use Rattle.replay_cli.specs.Made.{Draw, casts, conn_no, moment_of, place_payload, room_name, verb_of_draw, works}
use Rattle.replay_cli.specs.MadeRuns.{IsPlayable}
use Rattle.replay_cli.specs.Modes.{most_made}
use Rattle.replay_cli.proofs.LinesPlayed.{all_one, puts_played}
use Rattle.replay_cli.proofs.MadePayloads.{IsSqueezedJson-place}

record Playable (v : Verb) : Type 0 where
  each : IsPlayable v

one : (e : Event) → IsPlayed e → Playable (One e)
one e p = record { each = all_one e p }

-- both lines can be played, and so can the one that is chosen
either : (b : Bool) (x y : Verb) → Playable x → Playable y → Playable (if b then x else y)
either true x y p q = p
either false x y p q = q

within : (d : Draw) → d.place ≤ most_made → d.room < 4 → IsWithinLimits (room_name d) (place_payload d) (1000 * d.place)
within d few small =
    record {
      row = record {
        channel_len = omega (arith, length-decimal-le 1 d.room (omega arith) (omega arith) (omega arith), length-append (codes "room_") (decimal d.room));
        payload_len = omega (arith, length-decimal-le 7 d.place (omega arith) (omega arith) (omega arith), length-append (codes "{\"i\":") (decimal d.place ++ codes "}"), length-append (decimal d.place) (codes "}"));
        message = IsSqueezedJson-place d.place (omega arith);
      };
      moment = omega arith;
    }

Playable-works : (d : Draw) → d.place ≤ most_made → Playable (works d)
Playable-works d few =
    let put = event.Put (conn_no d.conn) (moment_of d) in
    let finish = event.Finish (conn_no d.conn) in
    record { each = All-cons IsPlayed (event.Take (conn_no d.conn)) (put ∷ finish ∷ []) (tt {0}) (puts_played 1 put finish (omega arith) (tt {0})) }

Playable-casts : (d : Draw) → d.place ≤ most_made → d.room < 4 → Playable (casts d)
Playable-casts d few small = one (event.Cast (moment_of d) (room_name d) (place_payload d)) (within d few small)

Playable-draw : (d : Draw) → d.place ≤ most_made → d.room < 4 → Playable (verb_of_draw d)
Playable-draw d few small =
    either (d.kind == 0) _ _ (one _ (tt {0})) (either (d.kind == 1) _ _ (one _ (tt {0})) (either (nat_le d.kind 3) _ _ (one _ (tt {0})) (either (nat_le d.kind 8) _ _ (Playable-works d few)
    (either (nat_le d.kind 10) _ _ (Playable-casts d few small) (either (d.kind == 11) _ _ (one _ (tt {0})) (either (d.kind == 12) _ _ (one _ (tt {0})) (either (d.kind == 13) _ _ (one _ (tt {0}))
    (either (d.kind == 14) _ _ (one _ (tt {0})) (one _ (tt {0}))))))))))

pub IsPlayable-draw : (d : Draw) → d.place ≤ most_made → d.room < 4 → IsPlayable (verb_of_draw d)
IsPlayable-draw d few small = (Playable-draw d few small).each
