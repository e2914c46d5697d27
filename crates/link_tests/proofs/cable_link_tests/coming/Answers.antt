use Rattle.cable_link.specs.Memory.{AllCome}
use Rattle.link_tests.proofs.cable_link_tests.coming.Goals as goal

pub returns : goal.returns
unfolding AllCome
returns c = rw (c.in_ok-push-3.ensures.items, c.in_ok-push-2.ensures.items, c.in_ok-push.ensures.items, c.new-coming.ensures.items) tt
