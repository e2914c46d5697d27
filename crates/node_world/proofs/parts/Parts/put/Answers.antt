use Rattle.std.proofs.Common.{◌≡◌, ◌++◌, ◌∷◌, [], ◌∙◌, ℕ, List, Some, Result, Ok, Err, refl, sym, ap, subst, length}
use Rattle.std.proofs.lemmas.Option.{same_Some, slice_get_within}
use Rattle.std.proofs.lemmas.Result.{IfOk-weaker}
use Rattle.cable_base.specs.declared.numbers.RowId.{RowId}
use Rattle.cable_model.specs.Journal.{offer_in}
use Rattle.cable_model.specs.Script.{rules_of}
use Rattle.cable_model.specs.Table.{row_with}
use Rattle.table_core.specs.declared.faults.StoreFault.{StoreFault}
use Rattle.table_core.specs.declared.faults.StoreFault.TheVariants as store_fault
use Rattle.node_world.specs.declared.outstanding.OutWork.{OutWork}
use Rattle.node_world.specs.Parts.{held, is_left, conn_at}
use Rattle.node_world.proofs.Following.{conn-written}
use Rattle.node_world.proofs.FollowingJobs.{unwritten, with-work, put_idle}
use Rattle.node_world.proofs.FollowingPuts.{none_left, put_steps, put_refused}
use Rattle.node_world.proofs.FollowingTable.{commit_went, commit_failed}
use Rattle.node_world.proofs.parts.Parts.put.Goals as goal

pub returns-in_default-next_cast-clause-steps : goal.returns-in_default-next_cast-clause-steps
returns-in_default-next_cast-clause-steps c =
    let o = c.in-Some.opened.now in
    let k = c.in-Some-as_mut.out.now in
    let found = sym c.in-Some.ensures.value in
    let out = sym c.in-Some-as_mut.ensures.value in
    let left = ap is_left out ∙ none_left k.work.plan.casts (length k.work.puts) c.in_default-next_cast.ensures.cast in
    let o' = with-work o (Some k) in
    let same = ap (with-work o) (sym out) in
    let conns = unwritten c.args.conn.0 c.args.self.now.conns.entries (c.get_mut.follows.lender o').entries o o' (c.get_mut.follows.holds o').0 found same in
    rw c.idle-in_default-next_cast.ensures
    (put_idle (rules_of c.args.self.now.book) (held c.args.self.now) _ c.args.conn c.args.at o found left (record { posts = λ n. refl; conns = λ d. ap (conn_at d) conns; table = refl }))

pub noted-requires : goal.noted-requires
noted-requires c = slice_get_within _ _ c.in-Some-next_cast.cast.now (sym c.in-Some-next_cast.ensures.cast)

pub noted-requires-in-Err-Failed : goal.noted-requires-in-Err-Failed
noted-requires-in-Err-Failed c = slice_get_within _ _ c.in-Some-next_cast.cast.now (sym c.in-Some-next_cast.ensures.cast)

pub returns-in-Ok-clause-steps : goal.returns-in-Ok-clause-steps
returns-in-Ok-clause-steps c =
    let old = c.args.self.now.table in
    let new = c.commit.new.self in
    let cast = c.in-Some-next_cast.cast.now in
    let id = c.in-Ok.id in
    let o = c.in-Some.opened.now in
    let k' : OutWork = record { work = c.noted.new.self } in
    let o' = with-work o (Some k') in
    let moved = conn-written c.args.conn.0 o o' c.args.self.now.conns (c.get_mut.follows.lender o') c.in-Some.ensures.value (c.get_mut.follows.holds o') in
    let named = subst (λ (n : List ℕ). Some new.keeper.rows ≡ Some (old.keeper.rows ++ row_with id.0 (offer_in n c.as_str-payload.result.now c.args.at.0) ∷ [])) c.as_str-channel.ensures c.in-Ok.ensures.row in
    let rows = subst (λ (p : List ℕ). Some new.keeper.rows ≡ Some (old.keeper.rows ++ row_with id.0 (offer_in cast.channel p c.args.at.0) ∷ [])) c.as_str-payload.ensures named in
    let calls = commit_went (Ok id) id old.keeper.failures new.keeper.failures refl c.in-Ok.ensures.call in
    IfOk-weaker c.one_line.result _ _
    (λ said is. put_steps (rules_of c.args.self.now.book) (held c.args.self.now) (c.get_mut.follows.lender o').entries new c.args.conn c.args.at o c.in-Some-as_mut.out.now k' cast id said moved.was
    (sym c.in-Some-as_mut.ensures.value) (sym c.in-Some-next_cast.ensures.cast) moved.now c.noted.ensures calls c.in-Ok.ensures.next c.in-Ok.ensures.last rows is)
    c.one_line.ensures

pub returns-in-Err-Failed-clause-steps : goal.returns-in-Err-Failed-clause-steps
returns-in-Err-Failed-clause-steps c =
    let old = c.args.self.now.table in
    let new = c.commit.new.self in
    let result : Result RowId StoreFault = Err c.in-Err-Failed.field-0 in
    let failed : result ≡ Err store_fault.Failed = ap (λ (f : StoreFault). let r : Result RowId StoreFault = Err f in r) c.in-Err-Failed.field-0-is in
    let o = c.in-Some.opened.now in
    let k' : OutWork = record { work = c.noted-in-Err-Failed.new.self } in
    let o' = with-work o (Some k') in
    let moved = conn-written c.args.conn.0 o o' c.args.self.now.conns (c.get_mut.follows.lender o') c.in-Some.ensures.value (c.get_mut.follows.holds o') in
    let calls = commit_failed result old.keeper.failures new.keeper.failures failed c.in-Err-Failed.ensures.call in
    IfOk-weaker c.noted-in-Err-Failed-2.result _ _
    (λ said is. put_refused (rules_of c.args.self.now.book) (held c.args.self.now) (c.get_mut.follows.lender o').entries new c.args.conn c.args.at o c.in-Some-as_mut.out.now k' c.in-Some-next_cast.cast.now said moved.was
    (sym c.in-Some-as_mut.ensures.value) (sym c.in-Some-next_cast.ensures.cast) moved.now c.noted-in-Err-Failed.ensures calls (same_Some new.keeper.rows old.keeper.rows c.in-Err-Failed.ensures.err.0)
    c.in-Err-Failed.ensures.err.1 is)
    c.noted-in-Err-Failed-2.ensures
