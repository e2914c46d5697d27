use Rattle.std.proofs.Common.{◌≡◌, false, ◌∙◌, sym, ap}
use Rattle.stream_set.specs.Streams.{Streams, wanted_now, has_name, has_want}
use Rattle.stream_set.proofs.Apart.{AreApart-push}
use Rattle.stream_set.proofs.sets.StreamSet.want_kept.Goals as goal

pub invariant_of-self : goal.invariant_of-self
invariant_of-self c =
    let new_name : has_name c.args.name c.self.inside.entries.items ≡ false = rw (← c.as_str.ensures, ← c.deref.ensures.value) (sym c.has.ensures ∙ c.if-has.false) in
    let new_want = ap (λ (v : Streams). has_want c.args.want v.entries) c.self.view_is ∙ c.requires.fresh in
    rw c.push_reserved.ensures.items (AreApart-push c.self.inside.entries.items (wanted_now c.args.name c.args.want) c.self.invariant new_name new_want)
