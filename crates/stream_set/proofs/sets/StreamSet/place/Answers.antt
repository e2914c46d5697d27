use Rattle.std.proofs.Common.{sym}
use Rattle.stream_set.specs.Streams.{waits_as}
use Rattle.stream_set.proofs.Once.{none-any, some-any, place-is}
use Rattle.stream_set.proofs.Apart.{AreApart-placed, placed-none, placed-place}
use Rattle.stream_set.proofs.sets.StreamSet.place.Goals as goal

pub returns-in_default-clause-answer : goal.returns-in_default-clause-answer
returns-in_default-clause-answer c =
    let e = place-is (waits_as c.args.want) _ c.self.inside.entries.items _ _ c.deref.ensures.value c.place_of_waiting.ensures c.in_default.is in
    rw (← c.self.view_is) (sym (none-any (waits_as c.args.want) c.self.inside.entries.items e))

pub returns-in_default-clause-entries : goal.returns-in_default-clause-entries
returns-in_default-clause-entries c =
    let e = place-is (waits_as c.args.want) _ c.self.inside.entries.items _ _ c.deref.ensures.value c.place_of_waiting.ensures c.in_default.is in
    rw (← c.self.view_is) (sym (placed-none c.args.want c.args.mark c.self.inside.entries.items e))

pub invariant_of-self : goal.invariant_of-self
invariant_of-self c =
    let e = place-is (waits_as c.args.want) _ c.self.inside.entries.items _ _ c.deref.ensures.value c.place_of_waiting.ensures c.in-Some.is in
    rw (← placed-place c.args.want c.args.mark c.self.inside.entries.items c.in-Some.at c.index_mut-entry.result.now c.self.invariant e c.index_mut-entry.ensures.value) (AreApart-placed c.args.want c.args.mark _ c.self.invariant)

pub returns-clause-answer : goal.returns-clause-answer
returns-clause-answer c =
    let e = place-is (waits_as c.args.want) _ c.self.inside.entries.items _ _ c.deref.ensures.value c.place_of_waiting.ensures c.in-Some.is in
    rw (← c.self.view_is) (sym (some-any (waits_as c.args.want) c.self.inside.entries.items c.in-Some.at e).0)

pub returns-clause-entries : goal.returns-clause-entries
returns-clause-entries c =
    let e = place-is (waits_as c.args.want) _ c.self.inside.entries.items _ _ c.deref.ensures.value c.place_of_waiting.ensures c.in-Some.is in
    rw (← c.self.view_is) (sym (placed-place c.args.want c.args.mark c.self.inside.entries.items c.in-Some.at c.index_mut-entry.result.now c.self.invariant e c.index_mut-entry.ensures.value))
