use Rattle.std.proofs.Common.{◌≡◌, true, false, sym, ap, ◌∙◌}
use Rattle.std.specs.Prelude.{is_some}
use Rattle.std.proofs.lemmas.Result.{on_ok_weaker}
use Rattle.node_seats.proofs.Faces.{wrote}
use Rattle.node_seats.proofs.OneQueue.{widens}
use Rattle.node_seats.proofs.Shown.{one-outbox, opened-missing, opened-same, tidy-still}
use Rattle.node_seats.proofs.seats.Seats.reserve_one.Goals as goal

pub invariant_of-self : goal.invariant_of-self
invariant_of-self c =
    let w = wrote c.args.conn.0 _ _ _ _ c.in-Some.ensures.value (c.get_mut.follows.holds c.reserve_outs.new.self).0 in
    tidy-still _ _ _ _ _ w _ c.reserve_outs.ensures.opened c.self.invariant

pub returns : goal.returns
returns c =
    let w = wrote c.args.conn.0 _ _ _ _ c.in-Some.ensures.value (c.get_mut.follows.holds c.reserve_outs.new.self).0 in
    let one = one-outbox _ _ _ _ _ w _ c.self.view_is in
    record {
      entries = opened-same _ _ _ _ _ w _ c.self.view_is c.reserve_outs.ensures.opened;
      same = widens _ _ _ _ _ one c.reserve_outs.ensures.same;
      ok = on_ok_weaker c.reserve_outs.result (λ room. rw one.is room) c.reserve_outs.ensures.ok;
    }

pub unreachable-requires : goal.unreachable-requires
unreachable-requires c =
    let no_way : true ≡ false = sym c.requires.opened ∙ ap is_some (opened-missing c.args.conn.0 _ _ c.self.view_is (sym c.in_default.ensures.value)) in
    cc
