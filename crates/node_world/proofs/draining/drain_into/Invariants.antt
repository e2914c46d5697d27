use Rattle.std.proofs.Common.{◌≡◌, ◌≤◌, ◌==◌, ◌++◌, ℕ, false, length}
use Rattle.cable_model.specs.Transcript.{queued}
use Rattle.node_core.specs.Nodes.{past, taken_out}
use Rattle.node_world.specs.Draining.{left_on}
use Rattle.node_world.proofs.draining.drain_into.Given as goal

-- the lines so far, and those that are left
abbrev pub invariant-loop : goal.invariant-loop
invariant-loop l = record {
  kept : l.node.kept ≡ l.fn.node.kept;
  no : l.node.no ≡ l.fn.node.no;
  within : taken_out l.conn.0 l.node ≤ length (queued l.conn.0 (past l.node));
  lines : l.lines ++ left_on l.node l.conn.0 ≡ l.fn.lines ++ left_on l.fn.node l.conn.0;
  others : (c : ℕ) → (c == l.conn.0) ≡ false → taken_out c l.node ≡ taken_out c l.fn.node;
}
