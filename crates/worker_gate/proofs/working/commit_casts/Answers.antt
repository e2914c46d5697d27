use Rattle.std.proofs.Common.{sym, length}
use Rattle.std.proofs.lemmas.Option.{slice_get_within}
use Rattle.worker_gate.proofs.Committing.{all-noted, fewer-left, noted-more, on-err, stopped}
use Rattle.worker_gate.proofs.working.commit_casts.Goals as goal

pub noted-requires : goal.noted-requires
noted-requires g c = slice_get_within c.loop-cast.work.plan.casts (length c.loop-cast.work.puts) c.in-Some.cast.now (sym c.in-Some.ensures.cast)

pub loop-cast-smaller : goal.loop-cast-smaller
loop-cast-smaller g c = fewer-left c.loop-cast.work _ c.in_ok-id.id (slice_get_within c.loop-cast.work.plan.casts (length c.loop-cast.work.puts) c.in-Some.cast.now (sym c.in-Some.ensures.cast)) c.noted.ensures

pub loop-cast-preserved : goal.loop-cast-preserved
loop-cast-preserved g c =
    noted-more g.S.Store.commits c.conn-conn.result c.args.at.0 c.args.store.now c.args.work.now c.loop-cast.work _ c.loop-cast.store c.in-Some.cast.now c.in_ok-id.id _
    c.conn-conn.ensures c.loop-cast.invariant c.in-Some.ensures.cast c.in_ok-id.ensures.ok c.noted.ensures

pub returns-clause-ok : goal.returns-clause-ok
returns-clause-ok g c = all-noted g.S.Store.commits c.args.at.0 c.args.store.now c.args.work.now c.loop-cast.work c.loop-cast.store c.loop-cast.invariant c.in_default.ensures.cast

pub returns-in_err-id-clause-err : goal.returns-in_err-id-clause-err
returns-in_err-id-clause-err g c =
    on-err c.from_residual.result
    (stopped g.S.Store.commits c.conn-conn.result c.args.at.0 c.args.store.now c.args.work.now c.loop-cast.work c.loop-cast.store c.in-Some.cast.now _
    c.conn-conn.ensures c.loop-cast.invariant c.in-Some.ensures.cast c.in_err-id.ensures.err)
