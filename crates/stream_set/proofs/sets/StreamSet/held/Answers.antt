use Rattle.std.proofs.Common.{◌∙◌, sym}
use Rattle.stream_set.specs.Streams.{is_named}
use Rattle.stream_set.proofs.Once.{place-is}
use Rattle.stream_set.proofs.Apart.{mark_of-none, mark_of-place}
use Rattle.stream_set.proofs.sets.StreamSet.held.Goals as goal

pub returns-in_err-at : goal.returns-in_err-at
returns-in_err-at c =
    let e = place-is (is_named c.args.name.now) _ c.self.inside.entries.items _ _ c.deref.ensures.value c.place_of.ensures c.in_err-at.was in
    rw (← c.self.view_is) (c.from_residual.ensures ∙ sym (mark_of-none c.args.name.now c.self.inside.entries.items e))

pub returns : goal.returns
returns c =
    let e = place-is (is_named c.args.name.now) _ c.self.inside.entries.items _ _ c.deref.ensures.value c.place_of.ensures c.in_ok-at.was in
    rw (← c.self.view_is) (sym (mark_of-place c.args.name.now c.self.inside.entries.items c.in_ok-at.at c.index.result.now e c.index.ensures))
