-- The change that a first piece makes can be made, where the piece is out and room was made for it.
use Rattle.std.proofs.Common.{◌≡◌, ◌<◌, ◌+◌, ◌-◌, ◌^◌, ℕ, true, [], Some, refl, sym, ap, subst, ◌∙◌, arith}
use Rattle.std.specs.Prelude.{is_some}
use Rattle.cable_model.specs.declared.plans.Change.{Change}
use Rattle.cable_model.specs.declared.plans.Change.TheVariants as change
use Rattle.cable_model.specs.Wants.{makes}
use Rattle.conn_core.specs.Connections.{CanApply}
use Rattle.conn_seat.specs.Seats.{Seated, CanFinish, sub_out, next_want}
use Rattle.node_seats.specs.Numbers.{Numbers, Opened, Moves, Lives, Prepares, opened_at, seat_in}
use Rattle.node_seats.proofs.Entries.{live}
use Rattle.node_seats.proofs.Lookups.{found-there}
use Rattle.node_parts_tests.specs.FirstPieces.{CanBeFirst, HasFirstOut}

can-apply : (d : Change) (s : Seated) → CanBeFirst d → s.subs ≡ [] → s.made + makes d < 2 ^ 64 - 1 → CanApply d (sub_out s) (next_want s) s.subs
can-apply change.Nothing s is none few = tt
can-apply (change.Add identifier streams) s is none few = rw none (record { unsubscribed = refl; different = is; number = tt; wants = tt; fits = omega (arith, few) })
can-apply (change.Streams identifier stops streams) s is none few = absurd is
can-apply (change.Remove identifier) s is none few = tt
can-apply change.Close s is none few = tt

can-finish : (d : Change) (s t : Seated) → CanBeFirst d → is_some s.job ≡ true → s.subs ≡ [] → Prepares d s t → CanFinish d t
can-finish d s t is out none p =
    let few : s.made + makes d < 2 ^ 64 - 1 = subst (λ (x : Seated). x.made + makes d < 2 ^ 64 - 1) p.now p.numbers in
    subst (CanFinish d) (sym p.now) (record { out = out; reserved = refl; numbers = few; can = can-apply d s is none few })

pub finishes-first : (d : Change) (c : ℕ) (v new : Numbers) → CanBeFirst d → HasFirstOut c v → Moves c (Lives (Prepares d)) v new
    → (t : Seated) × (opened_at c new ≡ Some (Opened.Live t)) × CanFinish d t
finishes-first d c v new is first m =
    let l = live (Prepares d) c v new m in
    let e : Some first.seat ≡ Some l.old_seat = sym first.at ∙ ap seat_in l.found in
    let same : first.seat ≡ l.old_seat = cc e in
    let out = subst (λ (s : Seated). is_some s.job ≡ true) same first.out in
    let none = subst (λ (s : Seated). s.subs ≡ []) same first.none in (
      l.new_seat,
      ap (opened_at c) l.now ∙ found-there c (Opened.Live l.new_seat) (Opened.Live l.old_seat) v l.found,
      can-finish d l.old_seat l.new_seat is out none l.moved_by,
    )
