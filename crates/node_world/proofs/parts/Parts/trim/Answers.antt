use Rattle.std.proofs.Common.{ℕ, Result, Ok, Err, refl, ap}
use Rattle.std.proofs.lemmas.Option.{same_Some}
use Rattle.std.proofs.lemmas.Result.{IfOk-weaker}
use Rattle.cable_model.specs.Script.{rules_of}
use Rattle.table_core.specs.declared.faults.StoreFault.{StoreFault}
use Rattle.table_core.specs.declared.faults.StoreFault.TheVariants as store_fault
use Rattle.node_world.specs.Parts.{held}
use Rattle.node_world.proofs.FollowingTable.{went_well, no-fault, was_refused, trim_steps, trim_refused}
use Rattle.node_world.proofs.parts.Parts.trim.Goals as goal

pub returns-in-Ok-clause-steps : goal.returns-in-Ok-clause-steps
returns-in-Ok-clause-steps c =
    let calls = went_well c.args.self.now.table.keeper.failures c.trim.new.self.keeper.failures c.in-Ok.ensures.call (λ e. no-fault c.in-Ok.count (Ok c.in-Ok.count) store_fault.Failed refl e) in
    IfOk-weaker c.one_line.result _ _
    (λ said is. trim_steps (rules_of c.args.self.now.book) (held c.args.self.now) c.trim.new.self c.args.now c.args.retention c.args.batch c.in-Ok.count said c.in-Ok.ensures.ok c.in-Ok.ensures.count c.in-Ok.ensures.last calls is)
    c.one_line.ensures

pub returns-in-Err-Failed-clause-steps : goal.returns-in-Err-Failed-clause-steps
returns-in-Err-Failed-clause-steps c =
    let old = c.args.self.now.table in
    let new = c.trim.new.self in
    let calls = was_refused old.keeper.failures new.keeper.failures c.in-Err-Failed.ensures.call (ap (λ (f : StoreFault). let r : Result ℕ StoreFault = Err f in r) c.in-Err-Failed.field-0-is) in
    IfOk-weaker c.store_refused.result _ _
    (λ said is. trim_refused (rules_of c.args.self.now.book) (held c.args.self.now) c.trim.new.self c.args.now c.args.retention c.args.batch said
    (same_Some new.keeper.rows old.keeper.rows c.in-Err-Failed.ensures.err) c.in-Err-Failed.ensures.last calls is)
    c.store_refused.ensures
