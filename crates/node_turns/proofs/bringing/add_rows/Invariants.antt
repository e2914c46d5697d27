use Rattle.std.proofs.Common.{◌≡◌, ◌≤◌, ◌+◌, ◌++◌, drop}
use Rattle.node_turns.specs.Holding.{rows_bring}
use Rattle.node_turns.proofs.bringing.add_rows.Given as goal

-- what was added, and what the rows left put behind it, make up the whole. Each row so far took at most one step
abbrev pub invariant-loop-row : goal.invariant-loop-row
invariant-loop-row g l = record {
  rows : l.deliveries.items ++ rows_bring l.holders (drop l.row-index l.rows) ≡ l.fn.deliveries.items ++ rows_bring l.holders l.rows;
  risen : l.fn.steps ≤ l.steps;
  few : l.steps ≤ l.fn.steps + l.row-index;
}
