use Rattle.std.proofs.Common.{◌∙◌, ℕ, List, [], ◌∷◌, Option, refl, ap, subst}
use Rattle.cable_model.specs.Journal.{Kept, past_of, user_beside}
use Rattle.cable_model.specs.Steps.{Step}
use Rattle.cable_model.specs.Transcript.{greeting}
use Rattle.conn_seat.specs.declared.outs.Out.{Out}
use Rattle.conn_seat.specs.declared.outs.Out.TheVariants as out
use Rattle.node_seats.specs.Outboxes.{Queues}
use Rattle.node_core.specs.Opening.{OpensAs}
use Rattle.node_core.proofs.Openings.{can-open, unused-at, room-for}
use Rattle.node_core.proofs.Refreshing.{looks-none}
use Rattle.node_core.proofs.Speaking.{opens-to}
use Rattle.node_core.proofs.Standing.{room-left}
use Rattle.node_core.proofs.StayingReady.{alike-opened, goes-on, still-so}
use Rattle.node_core.proofs.Logging.{logs}
use Rattle.node_core.proofs.nodes.Node.enter_open.Goals as goal

pub keep-requires-clause-unused : goal.keep-requires-clause-unused
keep-requires-clause-unused g c =
    let none = rw (← c.self.view_is) at c.requires in
    unused-at c.args.conn.0 _ c.self.inside.seats.entries c.self.invariant.stands.numbers (can-open c.args.conn.0 _ none)

pub keep-requires-clause-room : goal.keep-requires-clause-room
keep-requires-clause-room g c =
    let none = rw (← c.self.view_is) at c.requires in
    room-for c.args.conn.0 _ c.self.inside.seats.entries c.self.invariant.stands.numbers (can-open c.args.conn.0 _ none)

pub invariant_of-self-2 : goal.invariant_of-self-2
invariant_of-self-2 g c =
    let conn = c.args.conn in
    let v = c.self.inside.seats.entries in
    let none = rw (← c.self.view_is) at c.requires in
    let can = can-open conn.0 (past_of c.self.inside.journal.kept) none in
    let told = c.identify-user.ensures.user in
    let user = (g.C.Callbacks.answers c.args.callbacks.now).identify c.args.token.now in
    let opened = subst (λ (o : Option (List ℕ)). OpensAs conn.0 o v c.keep.new.seats.entries) told c.in_ok-keep.ensures.opens in
    let queued = subst (λ (o : Out). Queues (record { conn = c.args.conn; out = o } ∷ []) c.self.inside.seats.outs c.keep.new.seats.outs)
    (c.in_ok-greeting.ensures ∙ ap (λ (o : Option (List ℕ)). out.Text (greeting o)) told) c.in_ok-keep.ensures.queues in
    let kept_beside = c.in_ok-beside.ensures ∙ told in record {
      stands = opens-to conn c.args.token.now _ user _ c.keep.new.seats.entries c.keep.new.seats.outs _ _ _
          c.self.invariant.stands can.unused can.room opened c.in_ok-keep.ensures.rising queued
          (c.enter.ensures.entered
          ∙ (ap (λ (t : List ℕ). Step.Open conn.0 t (user_beside c.in_ok-beside.beside) ∷ past_of c.reserve-2.new.self.kept) c.in_ok-token.ensures
          ∙ (ap (λ (u : Option (List ℕ)). Step.Open conn.0 c.args.token.now u ∷ past_of c.reserve-2.new.self.kept) kept_beside
          ∙ ap (λ (k : Kept). Step.Open conn.0 c.args.token.now user ∷ past_of k) c.in_ok-reserve-2.ensures.kept)))
          told c.in_ok-reserve.ensures.wanted c.want_own.ensures.wanted
          (c.want_own.ensures.taken ∙ c.in_ok-reserve.ensures.taken);
      turn_room = room-left _ c.reserve-2.new.self c.enter.new.self
          c.in_ok-reserve-2.ensures.room c.enter.ensures.spare;
      ready = still-so v c.keep.new.seats.entries _ _
          (alike-opened conn.0 _ _ _ (unused-at conn.0 _ v c.self.invariant.stands.numbers can) c.in_ok-keep.ensures.opens) c.self.invariant.ready refl;
    }

pub returns-clause-goes : goal.returns-clause-goes
returns-clause-goes g c =
    let none = rw (← c.self.view_is) at c.requires in
    let unused = unused-at c.args.conn.0 _ c.self.inside.seats.entries c.self.invariant.stands.numbers (can-open c.args.conn.0 _ none) in
    let alike = alike-opened c.args.conn.0 _ _ _ unused c.in_ok-keep.ensures.opens in
    let queues = c.in_ok-keep.ensures.queues in
    rw (← c.self.view_is)
    (goes-on _ _ c.self.inside.seats.entries [] c.self.inside.ready.waiting (invariant_of-self-2 g c).stands queues.taken queues.forgotten
    (λ d e. alike d.0) c.self.invariant.ready refl
    (looks-none _ _ _ refl)
    (logs _ _ _ _ _ _ c.in_ok-reserve-2.ensures.kept c.in_ok-reserve-2.ensures.stored c.enter.ensures.kept c.enter.ensures.stored))
