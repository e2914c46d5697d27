use Rattle.std.proofs.Common.{◌∙◌, ap, map, refl, sym, arith}
use Rattle.stream_set.specs.Streams.{waits, placed}
use Rattle.stream_set.proofs.Once.{place-is, none-any, some-any}
use Rattle.conn_core.specs.Subscriptions.{SubParts, Subscription, shown, has_number}
use Rattle.conn_core.proofs.Mapped.{written-place, written-nowhere, both-place, both-nowhere, position-map}
use Rattle.conn_core.proofs.OneSub.{number-once, room-set}
use Rattle.conn_core.proofs.changing.place_want.Goals as goal

pub returns-in_default-clause-answer : goal.returns-in_default-clause-answer
returns-in_default-clause-answer c =
    let e = place-is (λ s. has_number c.args.number (shown s)) _ c.args.subs.now.items _ _ c.deref.ensures.value c.place_of_number.ensures c.in_default.is in
    sym (both-nowhere (has_number c.args.number) (λ s. waits c.args.want s.streams) (map shown c.args.subs.now.items) (none-any (has_number c.args.number) (map shown c.args.subs.now.items) (position-map shown (has_number c.args.number) c.args.subs.now.items ∙ e)))

pub returns-in_default-clause-shown : goal.returns-in_default-clause-shown
returns-in_default-clause-shown c =
    let e = place-is (λ s. has_number c.args.number (shown s)) _ c.args.subs.now.items _ _ c.deref.ensures.value c.place_of_number.ensures c.in_default.is in
    written-nowhere shown (has_number c.args.number) (λ s. record s { streams = placed c.args.want c.args.mark s.streams }) c.args.subs.now.items e

pub returns-clause-answer : goal.returns-clause-answer
returns-clause-answer c =
    let e = place-is (λ s. has_number c.args.number (shown s)) _ c.args.subs.now.items _ _ c.deref.ensures.value c.place_of_number.ensures c.in-Some.is in
    c.place.ensures.answer ∙ sym (both-place shown (has_number c.args.number) (λ s. waits c.args.want s.streams) c.args.subs.now.items c.in-Some.at c.index_mut-sub.result.now (number-once _ _ c.requires) e c.index_mut-sub.ensures.value)

pub returns-clause-shown : goal.returns-clause-shown
returns-clause-shown c =
    let e = place-is (λ s. has_number c.args.number (shown s)) _ c.args.subs.now.items _ _ c.deref.ensures.value c.place_of_number.ensures c.in-Some.is in
    written-place shown (has_number c.args.number) (λ s. record s { streams = placed c.args.want c.args.mark s.streams }) c.args.subs.now.items c.in-Some.at c.index_mut-sub.result.now c.place.new.self (number-once _ _ c.requires) e c.index_mut-sub.ensures.value (rw (c.place.ensures.number, c.place.ensures.identifier, c.place.ensures.entries) refl)

pub returns-clause-room : goal.returns-clause-room
returns-clause-room c =
    let e = place-is (λ s. has_number c.args.number (shown s)) _ c.args.subs.now.items _ _ c.deref.ensures.value c.place_of_number.ensures c.in-Some.is in
    let place = some-any (λ s. has_number c.args.number (shown s)) c.args.subs.now.items c.in-Some.at e in
    λ i n h. room-set i n c.args.subs.now.items c.in-Some.at c.index_mut-sub.result.now c.place.new.self place.2 c.index_mut-sub.ensures.value c.place.ensures.identifier (omega (arith, c.place.ensures.spare)) h
