use Rattle.std.proofs.Common.{◌≡◌, ◌+◌, ℕ, true, false, List, ◌∷◌, drop, arith, rules, sym, ◌∙◌, subst, is_some, Some, string_bytes}
use Rattle.std.specs.Prelude.{bytes_eq}
use Rattle.std.specs.Map.{update}
use Rattle.std.specs.HashMap.{get_by_text}
use Rattle.std.proofs.lemmas.List.{drop_all}
use Rattle.std.proofs.lemmas.Map.Text.{hash_map_updates_text}
use Rattle.channel_book.proofs.Places.{present_step, absent_step, whole_index, none_of, next_item}
use Rattle.channel_book.proofs.names.places_of.Goals as goal
use Rattle.channel_book.proofs.names.places_of.Goals.{then-not-contains_key+in_ok-from_str+in_ok-insert, else-not-contains_key}

pub loop-i-preserved : goal.loop-i-preserved
loop-i-preserved g c =
    let name_of = g.T.Named.name_of in
    let now : drop c.loop-i.i c.args.items.now ≡ c.index-items-i.result ∷ drop (c.loop-i.i + 1) c.args.items.now = next_item c.args.items.now c.loop-i.i c.index-items-i.result (omega arith) c.index-items-i.is in
    let asked : c.contains_key.result ≡ is_some (get_by_text c.loop-i.places (name_of c.index-items-i.result)) = rw c.name.ensures at c.contains_key.ensures in
    elim c.if-not-contains_key.branch [
      | then-not-contains_key+in_ok-from_str+in_ok-insert w ↦
          let absent : c.contains_key.result ≡ false = search rules in
          let bytes : string_bytes w.in_ok-from_str.field-0 ≡ name_of c.index-items-i.result = w.in_ok-from_str.ensures.ok ∙ w.name-then-not-contains_key.ensures in
          let updates = hash_map_updates_text (string_bytes w.in_ok-from_str.field-0) c.loop-i.places w.insert.new.self (Some c.loop-i.i) w.in_ok-insert.ensures.updates in
          rw w.places-is
          (absent_step name_of c.loop-i.places w.insert.new.self c.loop-i.i c.index-items-i.result _ (drop (c.loop-i.i + 1) c.args.items.now) c.args.items.now now (none_of _ (sym asked ∙ absent))
          (subst (λ (bs : List ℕ). (q : List ℕ) → get_by_text w.insert.new.self q ≡ update bytes_eq (get_by_text c.loop-i.places) bs (Some c.loop-i.i) q) bytes updates) c.loop-i.invariant)
      | else-not-contains_key w ↦
          let present : c.contains_key.result ≡ true = search rules in
          rw w.places-is (present_step name_of c.loop-i.places c.loop-i.i c.index-items-i.result _ (drop (c.loop-i.i + 1) c.args.items.now) c.args.items.now now (sym asked ∙ present) c.loop-i.invariant)
    ]

pub returns : goal.returns
returns g c = whole_index g.T.Named.name_of c.loop-i.places c.loop-i.i _ c.args.items.now (drop_all c.loop-i.i c.args.items.now (omega arith)) c.loop-i.invariant
