use Rattle.std.proofs.Common.{◌∙◌, ◌++◌, length, map, refl}
use Rattle.stream_set.proofs.Once.{place-is, none-any, some-any, passes-place}
use Rattle.conn_core.specs.Subscriptions.{shown, has_identifier, stopped, wanted_from}
use Rattle.conn_core.proofs.Mapped.{written-place, position-map}
use Rattle.conn_core.proofs.OneSub.{identifier-once, room-at, new-at, below-at}
use Rattle.conn_core.proofs.changing.restream_sub.Goals as goal

pub unreachable-requires : goal.unreachable-requires
unreachable-requires c =
    let e = place-is (λ s. has_identifier c.args.identifier.now (shown s)) _ c.args.subs.now.items _ _ c.deref.ensures.value c.place_of_identifier.ensures c.in_default.is in
    let no = none-any (has_identifier c.args.identifier.now) (map shown c.args.subs.now.items) (position-map shown (has_identifier c.args.identifier.now) c.args.subs.now.items ∙ e) in
    absurd (cc (no, c.requires.subscribed))

pub restream-requires-clause-room : goal.restream-requires-clause-room
restream-requires-clause-room c =
    let e = place-is (λ s. has_identifier c.args.identifier.now (shown s)) _ c.args.subs.now.items _ _ c.deref.ensures.value c.place_of_identifier.ensures c.in-Some.is in
    let within = (some-any (λ s. has_identifier c.args.identifier.now (shown s)) c.args.subs.now.items c.in-Some.at e).2 in
    let named = passes-place (λ s. has_identifier c.args.identifier.now (shown s)) c.args.subs.now.items c.in-Some.at c.index_mut-sub.result.now e c.index_mut-sub.ensures.value in
    room-at c.args.identifier.now (length c.args.names.items) c.args.subs.now.items c.in-Some.at c.index_mut-sub.result.now within c.index_mut-sub.ensures.value named c.requires.room

pub restream-requires-clause-new : goal.restream-requires-clause-new
restream-requires-clause-new c =
    let e = place-is (λ s. has_identifier c.args.identifier.now (shown s)) _ c.args.subs.now.items _ _ c.deref.ensures.value c.place_of_identifier.ensures c.in-Some.is in
    let within = (some-any (λ s. has_identifier c.args.identifier.now (shown s)) c.args.subs.now.items c.in-Some.at e).2 in
    let named = passes-place (λ s. has_identifier c.args.identifier.now (shown s)) c.args.subs.now.items c.in-Some.at c.index_mut-sub.result.now e c.index_mut-sub.ensures.value in
    new-at c.args.identifier.now c.args.stops.now c.args.names.items c.args.subs.now.items c.in-Some.at c.index_mut-sub.result.now within c.index_mut-sub.ensures.value named c.requires.new

pub restream-requires-clause-below : goal.restream-requires-clause-below
restream-requires-clause-below c =
    let e = place-is (λ s. has_identifier c.args.identifier.now (shown s)) _ c.args.subs.now.items _ _ c.deref.ensures.value c.place_of_identifier.ensures c.in-Some.is in
    let within = (some-any (λ s. has_identifier c.args.identifier.now (shown s)) c.args.subs.now.items c.in-Some.at e).2 in
    below-at c.args.first c.args.subs.now.items c.in-Some.at c.index_mut-sub.result.now within c.index_mut-sub.ensures.value c.requires.below

pub returns : goal.returns
returns c =
    let e = place-is (λ s. has_identifier c.args.identifier.now (shown s)) _ c.args.subs.now.items _ _ c.deref.ensures.value c.place_of_identifier.ensures c.in-Some.is in
    written-place shown (has_identifier c.args.identifier.now) (λ s. record s { streams = stopped c.args.stops.now s.streams ++ wanted_from c.args.first.0 c.args.names.items }) c.args.subs.now.items c.in-Some.at c.index_mut-sub.result.now c.restream.new.self (identifier-once _ _ c.requires.apart) e c.index_mut-sub.ensures.value
    (rw (c.restream.ensures.number, c.restream.ensures.identifier, c.restream.ensures.entries) refl)
