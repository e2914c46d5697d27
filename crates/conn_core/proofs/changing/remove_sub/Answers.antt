use Rattle.std.proofs.Common.{◌∙◌, ap, map}
use Rattle.stream_set.proofs.Once.{place-is}
use Rattle.conn_core.specs.Subscriptions.{shown, has_identifier}
use Rattle.conn_core.proofs.Mapped.{removed-place, removed-nowhere}
use Rattle.conn_core.proofs.OneSub.{identifier-once}
use Rattle.conn_core.proofs.changing.remove_sub.Goals as goal

pub returns-in-Some : goal.returns-in-Some
returns-in-Some c =
    let e = place-is (λ s. has_identifier c.args.identifier.now (shown s)) _ c.args.subs.now.items _ _ c.deref.ensures.value c.place_of_identifier.ensures c.in-Some.is in
    ap (map shown) c.remove.ensures.items ∙ removed-place shown (has_identifier c.args.identifier.now) c.args.subs.now.items c.in-Some.at (identifier-once _ _ c.requires) e

pub returns-in_default : goal.returns-in_default
returns-in_default c =
    let e = place-is (λ s. has_identifier c.args.identifier.now (shown s)) _ c.args.subs.now.items _ _ c.deref.ensures.value c.place_of_identifier.ensures c.in_default.is in
    removed-nowhere shown (has_identifier c.args.identifier.now) c.args.subs.now.items e
