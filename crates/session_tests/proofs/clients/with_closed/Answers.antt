use Rattle.session_tests.proofs.Coming.{closed-comes}
use Rattle.session_tests.proofs.clients.with_closed.Goals as goal

pub returns : goal.returns
returns c = closed-comes c.args.coming.items c.push.new.self.items c.requires c.in_ok-push.ensures.items
