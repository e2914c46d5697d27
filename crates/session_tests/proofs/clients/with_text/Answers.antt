use Rattle.session_tests.proofs.Coming.{text-comes}
use Rattle.session_tests.proofs.clients.with_text.Goals as goal

pub returns : goal.returns
returns c = text-comes c.args.coming.items c.push.new.self.items _ c.requires c.in_ok-push.ensures.items
