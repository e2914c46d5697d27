use Rattle.std.proofs.Common.{◌≡◌, ◌∙◌, ◌<◌, [], ap, refl, sym, subst, w64}
use Rattle.std.proofs.lemmas.Int.{to_z-of_z}
use Rattle.std.proofs.lemmas.List.Elements.{All-nil}
use Rattle.cable_base.specs.Hash.{channel_hash_of}
use Rattle.table_core.specs.Memory.{starting_row}
use Rattle.table_core.proofs.Kept.{kept-of, pushed-kept}
use Rattle.table_core.proofs.Null.{null-message}
use Rattle.table_core.proofs.Sorting.{sorted-none}
use Rattle.table_core.proofs.memory.MemKeeper.starting_at.Goals as goal

pub invariant_of-keeper : goal.invariant_of-keeper
invariant_of-keeper c =
    let row : c.new-3.result.row ≡ starting_row c.args.last = ap (λ k. k.row) c.new-3.ensures ∙ rw (c.in_ok-new.ensures, c.in_ok-new-2.ensures) refl in
    let hash : c.new-3.result.hash ≡ channel_hash_of (starting_row c.args.last).channel = ap (λ k. k.hash) c.new-3.ensures ∙ (to_z-of_z w64 c.channel_hash-hash.result (record { sfits = c.channel_hash-hash.type_inv }) ∙ c.channel_hash-hash.ensures) in
    let none = ap (λ v. v.rows) c.keeper.view_is ∙ ap (λ v. v.rows) c.empty-keeper.ensures in
    rw c.in_ok-push_back.ensures.items (
      pushed-kept c.keeper.inside.rows.items c.new-3.result [] c.keeper.invariant.0 none (kept-of c.new-3.result (starting_row c.args.last) row hash c.requires.most null-message)
          (subst (λ r. 0 < r.id.0) (sym row) c.requires.some) (All-nil (λ r. r.id.0 < c.new-3.result.row.id.0)),
      sorted-none c.keeper.inside.sorted_from.0 c.keeper.inside.rows.items c.new-3.result none,
    )
