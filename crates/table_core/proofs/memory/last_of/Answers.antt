use Rattle.std.proofs.Common.{◌<◌, ◌≡◌, ◌∙◌, ap, deque_len, length, rules}
use Rattle.table_core.proofs.Kept.{greatest-at-end}
use Rattle.table_core.proofs.memory.last_of.Goals as goal

pub returns-in-Some-clause-last : goal.returns-in-Some-clause-last
returns-in-Some-clause-last c =
    let some : 0 < length c.args.rows.now.items = search rules in
    let all : deque_len c.args.rows.now ≡ length c.args.rows.now.items = search rules in
    ap (λ k. k.row.id.0) c.in-Some.ensures.lookup ∙ greatest-at-end c.args.rows.now.items (deque_len c.args.rows.now) c.in-Some.kept.now c.requires all some
