use Rattle.std.proofs.Common.{◌≡◌, ◌∙◌, ◌+◌, ◌-◌, ◌<◌, ◌++◌, ◌∷◌, ap, drop, get_or, length, rules, sym, take}
use Rattle.std.proofs.lemmas.List.{drop_more}
use Rattle.table_core.specs.Inside.{asked}
use Rattle.table_core.proofs.Kept.{asked-more}
use Rattle.table_core.proofs.memory.copied_from.Goals as goal

pub loop-at-preserved : goal.loop-at-preserved
loop-at-preserved c =
    let rows = c.args.rows.now.items in
    let k = c.index.result.now in
    let inside : c.loop-at.at < length c.args.rows.now.items = search rules in
    let here : c.index.result.now ≡ get_or c.args.rows.now.items c.loop-at.at c.index.result.now = search rules in
    let few : length c.loop-at.found.items < c.args.limit = search rules in
    let next = drop_more rows c.loop-at.at k inside ∙ ap (λ y. y ∷ drop (c.loop-at.at + 1) rows) (sym here) in
    let before = ap (λ ks. c.loop-at.found.items ++ take (c.args.limit - length c.loop-at.found.items) (asked c.args.hashes.now ks)) (sym next) ∙ c.loop-at.invariant.made in
    let more = asked-more c.args.hashes.now c.args.limit c.loop-at.found.items c.add_asked.new.found.items _ k (drop (c.loop-at.at + 1) rows) few c.in_ok-add_asked.ensures before in
    record { made = more.0; most = more.1 }
