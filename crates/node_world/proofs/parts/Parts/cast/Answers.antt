use Rattle.std.proofs.Common.{◌≡◌, Result, Ok, Err, refl, ap}
use Rattle.std.proofs.lemmas.Option.{same_Some}
use Rattle.std.proofs.lemmas.Result.{IfOk-weaker}
use Rattle.cable_model.specs.Script.{rules_of}
use Rattle.cable_base.specs.declared.numbers.RowId.{RowId}
use Rattle.table_core.specs.declared.faults.StoreFault.{StoreFault}
use Rattle.table_core.specs.declared.faults.StoreFault.TheVariants as store_fault
use Rattle.node_world.specs.Parts.{held}
use Rattle.node_world.proofs.FollowingTable.{commit_went, commit_failed, cast_steps, cast_refused}
use Rattle.node_world.proofs.parts.Parts.cast.Goals as goal

pub returns-in-Ok-clause-steps : goal.returns-in-Ok-clause-steps
returns-in-Ok-clause-steps c =
    let old = c.args.self.now.table in
    let new = c.commit.new.self in
    let calls = commit_went (Ok c.in-Ok.id) c.in-Ok.id old.keeper.failures new.keeper.failures refl c.in-Ok.ensures.call in
    IfOk-weaker c.one_line.result _ _
    (λ said is. cast_steps (rules_of c.args.self.now.book) (held c.args.self.now) c.commit.new.self c.args.at c.args.channel.now c.args.payload.now c.in-Ok.id said c.in-Ok.ensures.next c.in-Ok.ensures.last c.in-Ok.ensures.row calls is)
    c.one_line.ensures

pub returns-in-Err-Failed-clause-steps : goal.returns-in-Err-Failed-clause-steps
returns-in-Err-Failed-clause-steps c =
    let old = c.args.self.now.table in
    let new = c.commit.new.self in
    let result : Result RowId StoreFault = Err c.in-Err-Failed.field-0 in
    let failed : result ≡ Err store_fault.Failed = ap (λ (f : StoreFault). let r : Result RowId StoreFault = Err f in r) c.in-Err-Failed.field-0-is in
    let calls = commit_failed result old.keeper.failures new.keeper.failures failed c.in-Err-Failed.ensures.call in
    IfOk-weaker c.store_refused.result _ _
    (λ said is. cast_refused (rules_of c.args.self.now.book) (held c.args.self.now) c.commit.new.self c.args.at c.args.channel.now c.args.payload.now said
    (same_Some new.keeper.rows old.keeper.rows c.in-Err-Failed.ensures.err.0) c.in-Err-Failed.ensures.err.1 calls is)
    c.store_refused.ensures
