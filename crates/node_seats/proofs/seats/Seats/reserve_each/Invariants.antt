use Rattle.std.proofs.Common.{◌≡◌, ◌≤◌, ◌==◌, ℕ, true, take}
use Rattle.std.specs.List.{list_any}
use Rattle.node_seats.specs.Outboxes.{WidensAll, room_at}
use Rattle.node_seats.proofs.seats.Seats.reserve_each.Given as goal

-- there is no less room than at first, and some on those connections that were passed
abbrev pub invariant-loop-conn : goal.invariant-loop-conn
invariant-loop-conn l = record {
  entries : l.self.entries ≡ l.fn.self.entries;
  same : WidensAll l.fn.self.outs l.self.outs;
  made : (c : ℕ) → list_any (λ d. d.0 == c) (take l.conn-index l.conns) ≡ true → 1 ≤ room_at c l.self.outs;
}
