use Rattle.std.proofs.Common.{◌≡◌, ◌∙◌, ◌<◌, ap, sym, subst, w64}
use Rattle.std.proofs.lemmas.Int.{to_z-of_z}
use Rattle.std.specs.List.{All}
use Rattle.cable_base.specs.declared.rows.Row.{Row}
use Rattle.cable_base.specs.Hash.{channel_hash_of}
use Rattle.table_core.proofs.Kept.{kept-of, pushed-kept}
use Rattle.table_core.proofs.memory.MemKeeperKeeper.insert.Goals as goal

pub sorted_with-sorted_from-requires : goal.sorted_with-sorted_from-requires
sorted_with-sorted_from-requires c =
    let same = ap (λ v. v.rows) c.self.view_is ∙ c.call.ensures.same in
    record {
      sorted = c.self.invariant.1;
      above = subst (λ rows. All (λ x. x.id.0 < c.in_ok-row.row.id.0) rows) (sym same) (subst (λ (r : Row). All (λ x. x.id.0 < r.id.0) c.args.self.now.rows) (sym c.in_ok-row.ensures) c.requires.above);
    }

pub invariant_of-self-2 : goal.invariant_of-self-2
invariant_of-self-2 c =
    let row : c.new.result.row ≡ c.args.row.now = ap (λ k. k.row) c.new.ensures ∙ c.in_ok-row.ensures in
    let same = ap (λ v. v.rows) c.self.view_is ∙ c.call.ensures.same in
    let hash : c.new.result.hash ≡ channel_hash_of c.args.row.now.channel = ap (λ k. k.hash) c.new.ensures ∙ (to_z-of_z w64 c.args.hash c.ranges.hash ∙ c.requires.hash_is) in
    let kept = kept-of c.new.result c.args.row.now row hash c.requires.most c.requires.payload in
    rw c.in_ok-push_back.ensures.items (
      pushed-kept c.self.inside.rows.items c.new.result c.args.self.now.rows c.self.invariant.0 same kept (subst (λ r. 0 < r.id.0) (sym row) c.requires.some)
          (subst (λ (r : Row). All (λ x. x.id.0 < r.id.0) c.args.self.now.rows) (sym row) c.requires.above),
      c.sorted_with-sorted_from.ensures c.new.result (ap (λ k. k.row) c.new.ensures),
    )
