use Rattle.std.proofs.Common.{rules, ◌≡◌, ◌∙◌, [], ◌∷◌, Some, refl, sym, ap}
use Rattle.std.specs.Prelude.{is_some}
use Rattle.cable_model.specs.Journal.{Kept, past_of}
use Rattle.cable_model.specs.Steps.{Step}
use Rattle.node_seats.specs.Outboxes.{forgotten_at, taken_at}
use Rattle.node_seats.specs.Turned.{errand_at}
use Rattle.node_core.specs.Nodes.{NodeState}
use Rattle.node_core.proofs.Carrying.{out-json}
use Rattle.node_core.proofs.Refreshing.{looks-drop}
use Rattle.node_core.proofs.Standing.{takes-one, room-left}
use Rattle.node_core.proofs.StayingReady.{alike-moved, goes-nowhere, goes-on, may-is, still-ready, taken-out}
use Rattle.node_core.proofs.TakingJobs.{errand-is, errand-may, takes-job, given-back}
use Rattle.node_core.proofs.Telling.{worked}
use Rattle.node_core.proofs.Logging.{logs}
use Rattle.node_core.proofs.nodes.Node.take.Goals as goal

pub returns-in_err-reserve-clause-goes : goal.returns-in_err-reserve-clause-goes
returns-in_err-reserve-clause-goes c = rw (← c.self.view_is) (goes-nowhere _ _ c.self.invariant.stands c.self.invariant.ready (search rules))

pub returns-in_err-errand-clause-goes : goal.returns-in_err-errand-clause-goes
returns-in_err-errand-clause-goes c = rw (← c.self.view_is) (goes-nowhere _ _ c.self.invariant.stands c.self.invariant.ready (search rules))

pub returns-in_default-clause-answer : goal.returns-in_default-clause-answer
returns-in_default-clause-answer c =
    let v = c.self.inside.seats.entries in
    let none = sym c.in_ok-errand.ensures.answer ∙ c.in_default.is in
    rw (← c.self.view_is)
    (sym (ap is_some none)
    ∙ errand-is c.args.conn.0 (past_of c.self.inside.journal.kept) v (worked _ c.self.invariant.stands.legal) c.self.invariant.stands.numbers)

pub returns-in_default-clause-goes : goal.returns-in_default-clause-goes
returns-in_default-clause-goes c = rw (← c.self.view_is) (goes-nowhere _ _ c.self.invariant.stands c.self.invariant.ready (search rules))

pub invariant_of-result : goal.invariant_of-result
invariant_of-result c =
    let before = past_of c.self.inside.journal.kept in
    let v = c.self.inside.seats.entries in
    let errand = c.in-Some.errand in
    let told : errand_at c.args.conn.0 v ≡ Some errand = sym c.in_ok-errand.ensures.answer ∙ c.in-Some.is in
    let moved = c.in_ok-errand.ensures.taken (ap is_some c.in-Some.is) in
    let h = c.self.invariant.stands in
    let job = takes-job c.args.conn.0 before v c.take.new.self.entries errand (worked _ h.legal) h.numbers told moved in
    out-json c.args.conn.0 (Step.Take c.args.conn.0 ∷ before) errand.task c.self.invariant.stands.messages job.task_is

pub invariant_of-self-2 : goal.invariant_of-self-2
invariant_of-self-2 c =
    let conn = c.args.conn in
    let before = past_of c.self.inside.journal.kept in
    let v = c.self.inside.seats.entries in
    let new = c.take.new.self.entries in
    let told : errand_at conn.0 v ≡ Some c.in-Some.errand = sym c.in_ok-errand.ensures.answer ∙ c.in-Some.is in
    let moved = c.in_ok-errand.ensures.taken (ap is_some c.in-Some.is) in
    let may = sym (errand-is conn.0 before v (worked _ c.self.invariant.stands.legal) c.self.invariant.stands.numbers) ∙ ap is_some told in
    let out = taken-out conn.0 _ _ moved (may-is c.self.invariant.stands conn.0 ∙ may) in record {
      stands = rw (c.enter.ensures.entered, c.in_ok-reserve.ensures.kept, c.in_ok-errand.ensures.outs)
          (takes-one conn.0 new c.self.invariant.stands may moved (errand-may conn.0 v c.in-Some.errand told));
      turn_room = room-left _ c.reserve.new.self c.enter.new.self
          c.in_ok-reserve.ensures.room c.enter.ensures.spare;
      ready = still-ready v new (conn ∷ []) _ _ _ (alike-moved conn _ _ _ moved) c.self.invariant.ready refl
          (looks-drop _ conn _ _ out c.drop_out.ensures.waiting);
    }

pub returns-clause-answer : goal.returns-clause-answer
returns-clause-answer c =
    let v = c.self.inside.seats.entries in
    let told : errand_at c.args.conn.0 v ≡ Some c.in-Some.errand = sym c.in_ok-errand.ensures.answer ∙ c.in-Some.is in
    rw (← c.self.view_is)
    (sym (ap is_some told)
    ∙ errand-is c.args.conn.0 (past_of c.self.inside.journal.kept) v (worked _ c.self.invariant.stands.legal) c.self.invariant.stands.numbers)

pub returns-clause-job : goal.returns-clause-job
returns-clause-job c =
    let before = past_of c.self.inside.journal.kept in
    let v = c.self.inside.seats.entries in
    let errand = c.in-Some.errand in
    let told : errand_at c.args.conn.0 v ≡ Some errand = sym c.in_ok-errand.ensures.answer ∙ c.in-Some.is in
    let moved = c.in_ok-errand.ensures.taken (ap is_some c.in-Some.is) in
    let h = c.self.invariant.stands in
    let job = takes-job c.args.conn.0 before v c.take.new.self.entries errand (worked _ h.legal) h.numbers told moved in
    let now = c.enter.ensures.entered ∙ ap (λ (k : Kept). Step.Take c.args.conn.0 ∷ past_of k) c.in_ok-reserve.ensures.kept in
    let n : NodeState = record {
      no = c.self.inside.no;
      kept = c.enter.new.self.kept;
      stored = c.enter.new.self.stored;
      outs = c.take.new.self.outs;
      ready = c.drop_out.new.self.waiting;
      wants = c.self.inside.wants.wanted;
    } in
    λ j e. given-back n c.args.conn before errand j job now e

pub returns-clause-goes : goal.returns-clause-goes
returns-clause-goes c =
    let conn = c.args.conn in
    let before = past_of c.self.inside.journal.kept in
    let v = c.self.inside.seats.entries in
    let told : errand_at conn.0 v ≡ Some c.in-Some.errand = sym c.in_ok-errand.ensures.answer ∙ c.in-Some.is in
    let moved = c.in_ok-errand.ensures.taken (ap is_some c.in-Some.is) in
    let may = sym (errand-is conn.0 before v (worked _ c.self.invariant.stands.legal) c.self.invariant.stands.numbers) ∙ ap is_some told in
    let out = taken-out conn.0 _ _ moved (may-is c.self.invariant.stands conn.0 ∙ may) in
    rw (← c.self.view_is)
    (goes-on _ _ v (conn ∷ []) c.self.inside.ready.waiting (invariant_of-self-2 c).stands
    (λ d. ap (taken_at d) c.in_ok-errand.ensures.outs) (λ d. ap (forgotten_at d) c.in_ok-errand.ensures.outs)
    (alike-moved conn _ _ _ moved) c.self.invariant.ready refl
    (looks-drop _ conn _ _ out c.drop_out.ensures.waiting)
    (logs _ _ _ _ _ _ c.in_ok-reserve.ensures.kept c.in_ok-reserve.ensures.stored c.enter.ensures.kept c.enter.ensures.stored))
