use Rattle.session_tests.proofs.Coming.{binary-comes}
use Rattle.session_tests.proofs.clients.with_binary.Goals as goal

pub returns : goal.returns
returns c = binary-comes c.args.coming.items c.push.new.self.items c.requires c.in_ok-push.ensures.items
