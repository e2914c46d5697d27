use Rattle.std.proofs.Common.{◌≡◌}
use Rattle.ws_handshake.proofs.shaking.write_answer.Given as goal

abbrev pub invariant-loop : goal.invariant-loop
invariant-loop l = l.answering.rules ≡ l.fn.answering.rules
