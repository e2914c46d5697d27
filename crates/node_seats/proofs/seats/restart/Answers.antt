use Rattle.std.proofs.Common.{ℕ, sym, ap}
use Rattle.std.specs.BTreeMap.{BTreeMap}
use Rattle.node_seats.specs.declared.slots.Slot.{Slot}
use Rattle.node_seats.specs.Slots.{numbers_of, opened_of}
use Rattle.node_seats.proofs.Faces.{missing-mapped, wrote, same-now}
use Rattle.node_seats.proofs.Shown.{on-opened, on-outbox}
use Rattle.node_seats.proofs.Stopping.{stops-none, stops-one}
use Rattle.node_seats.proofs.seats.restart.Goals as goal

pub returns-in-Some-clause-stops : goal.returns-in-Some-clause-stops
returns-in-Some-clause-stops c =
    let w = wrote c.args.number _ _ _ _ c.in-Some.ensures.value (c.get_mut.follows.holds c.restart.new.self).0 in
    stops-one c.args.number _ _ _ _ (on-opened _ _ _ _ _ w) c.restart.ensures.restarts c.restart.ensures.keeps

pub returns-in-Some-clause-outs : goal.returns-in-Some-clause-outs
returns-in-Some-clause-outs c =
    let w = wrote c.args.number _ _ _ _ c.in-Some.ensures.value (c.get_mut.follows.holds c.restart.new.self).0 in
    same-now c.args.number _ _ _ _ (on-outbox _ _ _ _ _ w) c.restart.ensures.outbox

pub returns-in_default-clause-stops : goal.returns-in_default-clause-stops
returns-in_default-clause-stops c =
    stops-none c.args.number _ _ (missing-mapped opened_of c.args.number _ (sym c.in_default.ensures.value))
    (ap (λ (m : BTreeMap ℕ Slot). numbers_of m.entries) c.get_mut.follows.holds-at-none)
