use Rattle.std.proofs.Common.{◌≡◌, ◌<◌, ℕ, true, List, get_or, length, ap, ◌∙◌}
use Rattle.std.specs.List.{AllByRecursion}
use Rattle.std.specs.Prelude.{is_some}
use Rattle.std.proofs.lemmas.List.Elements.{All-from_recursion}
use Rattle.cable_base.specs.declared.numbers.ConnNo.{ConnNo}
use Rattle.node_seats.specs.Numbers.{Numbers, opened_at}
use Rattle.node_seats.proofs.QueueMaking.{roomier-still, room-more}
use Rattle.node_seats.proofs.seats.Seats.reserve_each.Goals as goal

opened-in : (conns : List ConnNo) (i : ℕ) (d : ConnNo) (old v : Numbers) → AllByRecursion (λ (x : ConnNo). is_some (opened_at x.0 old) ≡ true) conns
    → i < length conns → v ≡ old → is_some (opened_at (get_or conns i d).0 v) ≡ true
opened-in conns i d old v all below same =
    ap (λ (n : Numbers). is_some (opened_at (get_or conns i d).0 n)) same
    ∙ All-from_recursion (λ (x : ConnNo). is_some (opened_at x.0 old) ≡ true) conns all i d below

pub reserve_one-requires : goal.reserve_one-requires
reserve_one-requires c = record {
  opened = opened-in c.args.conns.now c.loop-conn.conn-index (record { 0 = 0 }) _ _ c.requires.opened c.loop-conn-test.true c.loop-conn.invariant.entries;
}

pub loop-conn-preserved : goal.loop-conn-preserved
loop-conn-preserved c =
    let first = c.args.self.now.outs in
    let old = c.loop-conn.self.outs in
    let new = c.reserve_one.new.self.outs in
    record {
      entries = c.reserve_one.ensures.entries ∙ c.loop-conn.invariant.entries;
      same = roomier-still first old new c.loop-conn.invariant.same c.reserve_one.ensures.same;
      made =
          room-more old new c.args.conns.now c.loop-conn.conn-index (record { 0 = 0 }) c.loop-conn.invariant.made c.reserve_one.ensures.same
          c.loop-conn-test.true c.in_ok-reserve_one.ensures.ok;
    }
