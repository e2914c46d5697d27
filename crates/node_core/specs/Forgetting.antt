-- When a node can forget a connection, and what becomes of its wants then.
use Rattle.std.specs.Prelude.{◌≡◌, ◌==◌, ℕ, Bool, false, not, ◌&&◌, List, [], length, leb}
use Rattle.cable_model.specs.Possible.{is_over}
use Rattle.cable_model.specs.Transcript.{queued}
use Rattle.node_seats.specs.Turned.{wanted_by}
use Rattle.node_core.specs.Nodes.{NodeState, is_forgotten, past, taken_out}

-- all that was queued on c was taken out
abbrev pub is_drained : ℕ → NodeState → Bool
is_drained c n = leb (length (queued c (past n))) (taken_out c n)

-- a connection that is over, that wasn't forgotten, and of which all that was queued was taken out
abbrev pub may_forget : ℕ → NodeState → Bool
may_forget c n = is_over c (past n) && (not (is_forgotten c n) && is_drained c n)

-- of the wants that turns are to take or that the turn out takes none of c is left, nor a confirmation that comes with one. Those of the
-- others stay
pub record DropsWants (c : ℕ) (old new : NodeState) : Type 0 where
  pub none : wanted_by c new.wants ≡ []
  pub others : (d : ℕ) → (d == c) ≡ false → wanted_by d new.wants ≡ wanted_by d old.wants
