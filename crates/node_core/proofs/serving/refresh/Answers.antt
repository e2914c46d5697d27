use Rattle.std.proofs.Common.{◌∙◌, sym}
use Rattle.node_core.proofs.Keeping.{on-ok}
use Rattle.node_core.proofs.Refreshing.{looks-put, looks-drop}
use Rattle.node_core.proofs.serving.refresh.Goals as goal

pub returns-then-may_take-clause-refreshes : goal.returns-then-may_take-clause-refreshes
returns-then-may_take-clause-refreshes c =
    looks-put c.args.seats.now.entries c.args.conn c.args.ready.now.waiting c.put.new.self.waiting (sym c.may_take.ensures ∙ c.if-may_take.true) (on-ok _ c.put.result (c.put.ensures.room c.requires) c.put.ensures.ok).waiting

pub returns-else-may_take-clause-refreshes : goal.returns-else-may_take-clause-refreshes
returns-else-may_take-clause-refreshes c =
    looks-drop c.args.seats.now.entries c.args.conn c.args.ready.now.waiting c.drop_out.new.self.waiting (sym c.may_take.ensures ∙ c.if-may_take.false) c.drop_out.ensures.waiting
