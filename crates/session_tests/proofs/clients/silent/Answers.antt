use Rattle.session_tests.proofs.Coming.{none-come}
use Rattle.session_tests.proofs.clients.silent.Goals as goal

pub returns : goal.returns
returns c = none-come c.new.result.items c.new.ensures.items
