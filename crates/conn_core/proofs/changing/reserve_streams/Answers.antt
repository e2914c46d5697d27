use Rattle.std.proofs.Common.{◌∙◌, ap, map, refl, sym, arith}
use Rattle.std.proofs.Math.Seq.{map-set_same}
use Rattle.std.proofs.lemmas.Result.{on_ok_weaker}
use Rattle.stream_set.proofs.Once.{place-is, none-any, some-any}
use Rattle.conn_core.specs.Subscriptions.{SubParts, shown, has_identifier}
use Rattle.conn_core.proofs.OneSub.{room-nowhere, room-set, room-made}
use Rattle.conn_core.proofs.changing.reserve_streams.Goals as goal

pub returns-in_default-clause-ok : goal.returns-in_default-clause-ok
returns-in_default-clause-ok c =
    let e = place-is (λ s. has_identifier c.args.identifier.now (shown s)) _ c.args.subs.now.items _ _ c.deref.ensures.value c.place_of_identifier.ensures c.in_default.is in
    room-nowhere c.args.identifier.now c.args.more c.args.subs.now.items (none-any (λ s. has_identifier c.args.identifier.now (shown s)) c.args.subs.now.items e)

pub returns-clause-shown : goal.returns-clause-shown
returns-clause-shown c =
    map-set_same shown c.args.subs.now.items c.in-Some.at c.reserve.new.self c.index_mut-sub.result.now
    (rw (c.reserve.ensures.number, c.reserve.ensures.identifier, c.reserve.ensures.entries) (ap shown c.index_mut-sub.ensures.value))

pub returns-clause-ok : goal.returns-clause-ok
returns-clause-ok c =
    let e = place-is (λ s. has_identifier c.args.identifier.now (shown s)) _ c.args.subs.now.items _ _ c.deref.ensures.value c.place_of_identifier.ensures c.in-Some.is in
    on_ok_weaker c.reserve.result (λ room. room-made c.args.identifier.now c.args.more c.args.subs.now.items c.in-Some.at c.reserve.new.self c.requires e room) c.reserve.ensures.ok

pub returns-clause-room : goal.returns-clause-room
returns-clause-room c =
    let e = place-is (λ s. has_identifier c.args.identifier.now (shown s)) _ c.args.subs.now.items _ _ c.deref.ensures.value c.place_of_identifier.ensures c.in-Some.is in
    let place = some-any (λ s. has_identifier c.args.identifier.now (shown s)) c.args.subs.now.items c.in-Some.at e in
    λ i n h. room-set i n c.args.subs.now.items c.in-Some.at c.index_mut-sub.result.now c.reserve.new.self place.2 c.index_mut-sub.ensures.value c.reserve.ensures.identifier c.reserve.ensures.spare h
