use Rattle.std.proofs.Common.{◌∙◌, sym}
use Rattle.stream_set.specs.Streams.{is_named}
use Rattle.stream_set.proofs.Once.{place-is}
use Rattle.stream_set.proofs.Apart.{AreApart-without, want_of-none, want_of-place, without-none, without-place}
use Rattle.stream_set.proofs.sets.StreamSet.stop.Goals as goal

pub returns-in_err-at-clause-answer : goal.returns-in_err-at-clause-answer
returns-in_err-at-clause-answer c =
    let e = place-is (is_named c.args.name.now) _ c.self.inside.entries.items _ _ c.deref.ensures.value c.place_of.ensures c.in_err-at.was in
    rw (← c.self.view_is) (c.from_residual.ensures ∙ sym (want_of-none c.args.name.now c.self.inside.entries.items e))

pub returns-in_err-at-clause-entries : goal.returns-in_err-at-clause-entries
returns-in_err-at-clause-entries c =
    let e = place-is (is_named c.args.name.now) _ c.self.inside.entries.items _ _ c.deref.ensures.value c.place_of.ensures c.in_err-at.was in
    rw (← c.self.view_is) (sym (without-none c.args.name.now c.self.inside.entries.items e))

pub invariant_of-self : goal.invariant_of-self
invariant_of-self c =
    let e = place-is (is_named c.args.name.now) _ c.self.inside.entries.items _ _ c.deref.ensures.value c.place_of.ensures c.in_ok-at.was in
    rw (c.remove.ensures.items, ← without-place c.args.name.now c.self.inside.entries.items c.in_ok-at.at c.self.invariant e) (AreApart-without c.args.name.now c.self.inside.entries.items c.self.invariant)

pub returns-clause-answer : goal.returns-clause-answer
returns-clause-answer c =
    let e = place-is (is_named c.args.name.now) _ c.self.inside.entries.items _ _ c.deref.ensures.value c.place_of.ensures c.in_ok-at.was in
    rw (← c.self.view_is) (sym (want_of-place c.args.name.now c.self.inside.entries.items c.in_ok-at.at c.remove.result e c.remove.ensures.value))

pub returns-clause-entries : goal.returns-clause-entries
returns-clause-entries c =
    let e = place-is (is_named c.args.name.now) _ c.self.inside.entries.items _ _ c.deref.ensures.value c.place_of.ensures c.in_ok-at.was in
    rw (← c.self.view_is) (c.remove.ensures.items ∙ sym (without-place c.args.name.now c.self.inside.entries.items c.in_ok-at.at c.self.invariant e))
