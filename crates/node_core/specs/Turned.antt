-- The turns of a node's listener, as its journal has them.
use Rattle.std.specs.Prelude.{◌≡◌, ◌==◌, ◌&&◌, ℤ, suc, Bool, map}
use Rattle.cable_base.specs.Hash.{channel_hash_of}
use Rattle.cable_model.specs.History.{held_names}
use Rattle.cable_model.specs.Possible.{is_out, last_turn}
use Rattle.cable_model.specs.Table.{contains}
use Rattle.cable_model.specs.Wants.{lower}
use Rattle.poll_turn.specs.Turns.{TurnState, CaughtState}
use Rattle.node_core.specs.Nodes.{NodeState, past}

-- the turn that the node asks next: behind its last one, from its lower, with the hashes of exactly the names that are held
pub record IsNextTurn (t : TurnState) (n : NodeState) : Type 0 where
  pub node : t.node ≡ n.no
  pub number : t.number ≡ suc (last_turn (past n))
  pub lower_is : t.lower.0 ≡ lower (past n)
  pub asks : (h : ℤ) → contains t.hashes h ≡ contains (map channel_hash_of (held_names (past n))) h

-- it was caught for the turn of this node that is out
abbrev pub is_expected : CaughtState → NodeState → Bool
is_expected k n = is_out (past n) && (k.node.0 == n.no.0 && (k.number == last_turn (past n) && k.lower.0 == lower (past n)))
