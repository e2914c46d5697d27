-- A pump over a link in memory and a node that is nobody else's: which texts are said.
use Rattle.std.specs.Prelude.{◌≡◌, ◌+◌, ℕ, false, List, [], ◌∷◌, ◌++◌, length, map, flat_map, drop, Option, None, Some, Result, Ok, Err}
use Rattle.cable_base.specs.declared.numbers.ConnNo.{ConnNo}
use Rattle.cable_link.specs.Memory.{MemTalk}
use Rattle.cable_link.specs.Memory as memory
use Rattle.cable_model.specs.declared.lines.Line.{Line}
use Rattle.cable_model.specs.Possible.{is_receiving}
use Rattle.cable_model.specs.Steps.{Step}
use Rattle.cable_model.specs.Transcript.{queued}
use Rattle.node_core.specs.Desks.{Arrives, TakesOut, TellsOver}
use Rattle.node_core.specs.Desks as desks
use Rattle.node_core.specs.Nodes.{NodeState, line_on, past, taken_out}
use Rattle.conn_seat.specs.declared.outs.Out.{Out}
use Rattle.conn_seat.specs.declared.outs.Out.TheVariants as out
use Rattle.ws_session.specs.declared.outcomes.PumpFault.{PumpFault}
use Rattle.ws_session.specs.declared.outcomes.PumpFault.TheVariants as fault
use Rattle.ws_session.specs.declared.outcomes.Pumped.{Pumped}
use Rattle.ws_session.specs.declared.outcomes.Pumped.TheVariants as pumped
use Rattle.ws_session.specs.Calls.{Both, Calls, DeskCalls, LinkCalls}
use Rattle.ws_session.specs.Pumping.{Round}
use Rattle.ws_session.specs.Rounds.{said_in}

abbrev pub by_memory : LinkCalls MemTalk
by_memory = record { gives = memory.Gives; says = memory.Says; coming = λ l. Some l.coming; said = λ l. Some l.said; faults = λ l. l.faults }

abbrev pub by_node : DeskCalls NodeState
by_node = record { arrives = Arrives; goes = desks.Leaves; takes_out = TakesOut; tells_over = TellsOver }

abbrev pub over_node : Calls MemTalk NodeState
over_node = record { link = by_memory; desk = by_node }

-- others use the node: its journal grows, and nothing is taken out of this connection
pub record IsUsed (conn : ConnNo) (old new : NodeState) : Type 0 where
  pub more : List Step
  pub grows : past new ≡ more ++ past old
  pub taken : taken_out conn.0 new ≡ taken_out conn.0 old

-- what is left of the queue of a connection
abbrev pub left_of : ConnNo → NodeState → (queue : List Step) → List Line
left_of conn n queue = drop (taken_out conn.0 n) (queued conn.0 queue)

-- what was taken out in a round, that which the link refused among it
abbrev pub lost_out : Option (List ℕ) → List Out
lost_out None = []
lost_out (Some text) = out.Text text ∷ []

abbrev pub taken_in : Round → List Out
taken_in r = r.outs ++ lost_out r.lost

-- what was taken out in these rounds is what the journal queued behind what had been taken out before, in its order and each once. Its texts were
-- said, without those that the link refused
pub record SaysItsQueue (conn : ConnNo) (old : Both MemTalk NodeState) (rounds : List Round) (new : Both MemTalk NodeState) : Type 0 where
  pub queue : left_of conn old.desk (past new.desk) ≡ map (line_on conn.0) (flat_map taken_in rounds) ++ left_of conn new.desk (past new.desk)
  pub taken : taken_out conn.0 new.desk ≡ taken_out conn.0 old.desk + length (flat_map taken_in rounds)
  pub said : new.link.said ≡ old.link.said ++ flat_map said_in rounds

-- behind a call by which the session ended, or whose link failed, nothing more is put on the connection
pub record Ends (conn : ConnNo) (answer : Result Pumped PumpFault) (new : NodeState) : Type 0 where
  pub ended : answer ≡ Ok pumped.Ended → is_receiving conn.0 (past new) ≡ false
  pub failed : answer ≡ Err fault.LinkFault → is_receiving conn.0 (past new) ≡ false
