use Rattle.std.proofs.Common.{◌∙◌, ap, take}
use Rattle.table_core.specs.Keepers.{sought}
use Rattle.table_core.proofs.Kept.{found-messages, found-sought}
use Rattle.table_core.proofs.memory.MemKeeperKeeper.fetch.Goals as goal

pub returns-clause-ok : goal.returns-clause-ok
returns-clause-ok c =
    let same = ap (λ v. v.rows) c.self.view_is ∙ c.call.ensures.same in
    c.in_ok-found.ensures
    ∙ ap (take c.args.limit) (found-sought c.args.lower.0 c.args.hashes.now c.self.inside.rows.items c.count_upto-start.result c.self.invariant.0 c.count_upto-start.ensures.above ∙ ap (sought c.args.lower.0 c.args.hashes.now) same)

pub returns-clause-messages : goal.returns-clause-messages
returns-clause-messages c = found-messages c.args.hashes.now c.args.limit c.count_upto-start.result c.self.inside.rows.items c.in_ok-found.found.items c.self.invariant.0 c.in_ok-found.ensures
