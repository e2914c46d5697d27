-- What a look at connections makes of the list of the ready ones.
use Rattle.std.specs.Prelude.{◌≡◌, true, cond, List, ◌++◌, filter, map}
use Rattle.cable_base.specs.declared.numbers.ConnNo.{ConnNo}
use Rattle.node_seats.specs.declared.turning.Delivery.{Delivery}
use Rattle.node_seats.specs.Numbers.{Numbers, may_take_at}
use Rattle.run_queue.specs.ReadyLists.{AreOnce, has_number}

-- each of those that were looked at is ready exactly where a piece of it may be taken, and each other one where it was. Those that stay ready
-- stay in their order, in front of those that become ready
pub record Refreshes (v : Numbers) (looked old new : List ConnNo) : Type 0 where
  pub ready : (c : ConnNo) → has_number c new ≡ cond (has_number c looked) (may_take_at c.0 v) (has_number c old)
  pub order : (more : List ConnNo) × (new ≡ filter (λ (c : ConnNo). cond (has_number c looked) (may_take_at c.0 v) true) old ++ more)

abbrev pub conn_of : Delivery → ConnNo
conn_of d = d.conn

-- the connections that these are for
abbrev pub conns_of : List Delivery → List ConnNo
conns_of ds = map conn_of ds

-- these are the connections of that list, each once
pub record ListsOnce (all conns : List ConnNo) : Type 0 where
  pub each : (c : ConnNo) → has_number c conns ≡ has_number c all
  pub once : AreOnce conns
