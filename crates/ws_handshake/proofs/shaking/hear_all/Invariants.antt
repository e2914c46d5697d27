use Rattle.std.proofs.Common.{◌≡◌}
use Rattle.ws_handshake.proofs.shaking.hear_all.Given as goal

abbrev pub invariant-loop : goal.invariant-loop
invariant-loop l = l.hearing.rules ≡ l.fn.hearing.rules
