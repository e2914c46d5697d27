use Rattle.std.proofs.Common.{◌≡◌, ◌+◌, ◌++◌, ◌∷◌, [], Some, refl, ap, arith, subst}
use Rattle.std.specs.Prelude.{IfSome}
use Rattle.cable_base.specs.declared.rows.Row.{Row}
use Rattle.table_core.proofs.Following.{enters-row}
use Rattle.table_core.proofs.Keeping.{committed-table}
use Rattle.table_core.proofs.tables.Table.commit.Goals as goal

pub invariant_of-self-2 : goal.invariant_of-self-2
invariant_of-self-2 g c = committed-table (g.K.Keeper.rows c.self.inside.keeper) _ c.self.inside.last.0 _ c.in_ok-row.row c.self.invariant (omega arith) (omega arith) (ap (λ r. r.id.0) c.in_ok-row.ensures) c.in_ok-insert.ensures.tells c.in_ok-insert.ensures.ok

pub returns-clause-entry : goal.returns-clause-entry
returns-clause-entry g c =
    rw (← c.self.view_is) (enters-row c.args.from c.args.channel.now c.args.payload.now c.args.at.0 (g.K.Keeper.rows c.self.inside.keeper) (g.K.Keeper.rows c.insert.new.self) c.self.inside.last.0 (c.self.inside.last.0 + 1)
    (record { 0 = c.self.inside.last.0 + 1 }) refl refl (subst (λ (r : Row). IfSome (g.K.Keeper.rows c.self.inside.keeper) (λ told. g.K.Keeper.rows c.insert.new.self ≡ Some (told ++ r ∷ []))) c.in_ok-row.ensures c.in_ok-insert.ensures.ok))
