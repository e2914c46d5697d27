-- A pump over a link in memory and a node: what is taken out stands in the queue of the node's journal, place by place.
use Rattle.std.proofs.Common.{◌≡◌, ◌≤◌, ℕ, suc, ◌+◌, Bool, true, false, List, [], ◌∷◌, ◌++◌, length, map, flat_map, drop, Option, Some, None, Result, Ok, Err, refl, sym, ap, subst, ◌∙◌, append_assoc, add-one, inl, inr, arith}
use Rattle.std.specs.Prelude.{IsOk}
use Rattle.std.proofs.Math.ListN.{drop_of_length-le}
use Rattle.std.proofs.lemmas.List.{append-nil, length-append, length-map, map-append}
use Rattle.cable_base.specs.declared.faults.OutOfMemory.{OutOfMemory}
use Rattle.cable_base.specs.declared.faults.Trouble.{Trouble}
use Rattle.cable_base.specs.declared.faults.Trouble.TheVariants as trouble
use Rattle.cable_base.specs.declared.numbers.ConnNo.{ConnNo}
use Rattle.cable_link.specs.Memory.{MemTalk}
use Rattle.cable_link.specs.declared.links.Came.{Came}
use Rattle.cable_link.specs.declared.links.Came.TheVariants as came
use Rattle.cable_model.specs.declared.lines.Line.{Line}
use Rattle.cable_model.specs.Journal.{Kept, past_of}
use Rattle.cable_model.specs.Transcript.{queued}
use Rattle.node_core.specs.Desks.{Arrives, Leaves, TakesOut}
use Rattle.node_core.specs.Nodes.{NodeState, line_on, past, taken_out}
use Rattle.node_core.specs.declared.arriving.ArriveFault.{ArriveFault}
use Rattle.conn_seat.specs.declared.outs.Out.{Out}
use Rattle.conn_seat.specs.declared.outs.Out.TheVariants as out
use Rattle.ws_session.specs.declared.outcomes.PumpFault.{PumpFault}
use Rattle.ws_session.specs.declared.outcomes.Pumped.{Pumped}
use Rattle.ws_session.specs.Calls.{Both, GivesUp}
use Rattle.ws_session.specs.OverNode.{IsUsed, SaysItsQueue, by_node, left_of, lost_out, over_node, taken_in}
use Rattle.ws_session.specs.Pumping.{Hears, Makes, Offer, Passes, Round, SaysAll, SaysEach, SaysSome}
use Rattle.ws_session.specs.Rounds.{PumpsOn}
use Rattle.ws_session.proofs.PassedOn.{rounds-pass}
use Rattle.ws_session.proofs.Queued.{StandAt, entries-queue, stand-append, stand-drop, stand-more}

-- ---- what takes nothing out

-- the queue is the same, and nothing was taken out
pub record Still (conn : ConnNo) (old new : NodeState) : Type 0 where
  pub queue : queued conn.0 (past new) ≡ queued conn.0 (past old)
  pub taken : taken_out conn.0 new ≡ taken_out conn.0 old

still-self : (conn : ConnNo) (old new : NodeState) → new ≡ old → Still conn old new
still-self conn old new is = record { queue = ap (λ (n : NodeState). queued conn.0 (past n)) is; taken = ap (taken_out conn.0) is }

still-then : (conn : ConnNo) (old mid new : NodeState) → Still conn old mid → Still conn mid new → Still conn old new
still-then conn old mid new a b = record { queue = b.queue ∙ a.queue; taken = b.taken ∙ a.taken }

arrives-still : (conn : ConnNo) (old : NodeState) (text : List ℕ) (answer : Result (Unit {0}) ArriveFault) (new : NodeState)
    → Arrives old conn text answer new → Still conn old new
arrives-still conn old text (Ok u) new h = record { queue = ap (queued conn.0) h.ok; taken = h.goes.taken conn.0 }
arrives-still conn old text (Err e) new h = record { queue = ap (λ (k : Kept). queued conn.0 (past_of k)) h.err.kept; taken = h.goes.taken conn.0 }

leaves-still : (conn : ConnNo) (old : NodeState) (answer : Result Bool OutOfMemory) (new : NodeState) → Leaves old conn answer new → Still conn old new
leaves-still conn old (Ok true) new h = record { queue = ap (queued conn.0) h.ok; taken = h.goes.taken conn.0 }
leaves-still conn old (Ok false) new h = record { queue = ap (queued conn.0) h.ok; taken = h.goes.taken conn.0 }
leaves-still conn old (Err e) new h = record { queue = ap (λ (k : Kept). queued conn.0 (past_of k)) h.err.kept; taken = h.goes.taken conn.0 }

gives-up-still : (conn : ConnNo) (old : NodeState) (trouble : Trouble) (f : PumpFault) (new : NodeState) → GivesUp Leaves conn old trouble f new
    → Still conn old new
gives-up-still conn old trouble.Failed f new h = leaves-still conn old h.0 new h.1
gives-up-still conn old trouble.OutOfMemory f new h = still-self conn old new h.0

passes-still : (conn : ConnNo) (old : NodeState) (got : Came) (offer : Option Offer) (kept : Option (List ℕ))
    (goes_on : Result (Unit {0}) OutOfMemory) (new : NodeState)
    → Passes by_node conn old got offer kept goes_on new → Still conn old new
passes-still conn old (came.Text text) offer kept goes_on new h = arrives-still conn old text h.answer new h.arrived
passes-still conn old came.Closed offer kept goes_on new h = leaves-still conn old h.0.answer new h.0.gone
passes-still conn old came.Binary offer kept goes_on new h = still-self conn old new h.0
passes-still conn old came.Quiet offer kept goes_on new h = still-self conn old new h.0

none-still : (conn : ConnNo) (old new : NodeState) → TakesOut old conn None new → Still conn old new
none-still conn old new h = record { queue = ap (λ (k : Kept). queued conn.0 (past_of k)) h.kept; taken = h.taken }

-- ---- what is taken out

-- these were taken out, as they stand in the queue
pub record Takes (conn : ConnNo) (old : NodeState) (outs : List Out) (new : NodeState) : Type 0 where
  pub queue : queued conn.0 (past new) ≡ queued conn.0 (past old)
  pub stand : StandAt (queued conn.0 (past old)) (taken_out conn.0 old) (map (line_on conn.0) outs)
  pub taken : taken_out conn.0 new ≡ taken_out conn.0 old + length outs

no-more : (n : ℕ) → n ≡ n + 0
no-more n = omega arith

takes-none : (conn : ConnNo) (old new : NodeState) → Still conn old new → Takes conn old [] new
takes-none conn old new s = record { queue = s.queue; stand = tt; taken = s.taken ∙ no-more (taken_out conn.0 old) }

takes-first : (conn : ConnNo) (old : NodeState) (o : Out) (mid : NodeState) (outs : List Out) (new : NodeState)
    → TakesOut old conn (Some o) mid → Takes conn mid outs new → Takes conn old (o ∷ outs) new
takes-first conn old o mid outs new h t =
    let same : queued conn.0 (past mid) ≡ queued conn.0 (past old) = ap (λ (k : Kept). queued conn.0 (past_of k)) h.kept in
    let next : taken_out conn.0 mid ≡ suc (taken_out conn.0 old) = h.taken ∙ add-one (taken_out conn.0 old) in
    let count : taken_out conn.0 new ≡ taken_out conn.0 mid + length outs = t.taken in
    record {
      queue = t.queue ∙ same;
      stand = (
        h.out,
        subst (λ n. StandAt (queued conn.0 (past old)) n (map (line_on conn.0) outs)) next
            (subst (λ q. StandAt q (taken_out conn.0 mid) (map (line_on conn.0) outs)) same t.stand),
      );
      taken = omega (arith, next, count);
    }

takes-still : (conn : ConnNo) (old mid : NodeState) (outs : List Out) (new : NodeState) → Still conn old mid → Takes conn mid outs new → Takes conn old outs new
takes-still conn old mid outs new s t = record {
  queue = t.queue ∙ s.queue;
  stand = subst (λ n. StandAt (queued conn.0 (past old)) n (map (line_on conn.0) outs)) s.taken
      (subst (λ q. StandAt q (taken_out conn.0 mid) (map (line_on conn.0) outs)) s.queue t.stand);
  taken = t.taken ∙ ap (λ n. n + length outs) s.taken;
}

takes-then : (conn : ConnNo) (old : NodeState) (outs : List Out) (mid : NodeState) (more : List Out) (new : NodeState) → Takes conn old outs mid
    → Takes conn mid more new
    → Takes conn old (outs ++ more) new
takes-then conn old outs mid more new a b =
    let many : length (map (line_on conn.0) outs) ≡ length outs = length-map outs (line_on conn.0) in
    let both : length (outs ++ more) ≡ length outs + length more = length-append outs more in
    let place : taken_out conn.0 mid ≡ taken_out conn.0 old + length (map (line_on conn.0) outs) = a.taken ∙ ap (λ n. taken_out conn.0 old + n) (sym many) in
    record {
      queue = b.queue ∙ a.queue;
      stand = subst (λ ls. StandAt (queued conn.0 (past old)) (taken_out conn.0 old) ls) (sym (map-append (line_on conn.0) outs more))
          (stand-append (queued conn.0 (past old)) (taken_out conn.0 old) (map (line_on conn.0) outs) (map (line_on conn.0) more) a.stand
          (subst (λ n. StandAt (queued conn.0 (past old)) n (map (line_on conn.0) more)) place
          (subst (λ q. StandAt q (taken_out conn.0 mid) (map (line_on conn.0) more)) a.queue b.stand)));
      taken = (let x = a.taken in let y = b.taken in omega (arith, x, y, both));
    }

each-takes : (conn : ConnNo) (old : Both MemTalk NodeState) (outs : List Out) (new : Both MemTalk NodeState) → SaysEach over_node conn old outs new
    → Takes conn old.desk outs new.desk
each-takes conn old [] new h = takes-none conn old.desk new.desk (still-self conn old.desk new.desk (ap (λ (b : Both MemTalk NodeState). b.desk) h))
each-takes conn old (o ∷ outs) new h = takes-first conn old.desk o h.0.desk outs new.desk h.1 (each-takes conn h.0 outs new h.3)

-- ---- a round

behind-heard : (conn : ConnNo) (kept : Option (List ℕ)) (old : Both MemTalk NodeState) (r : Round) (got : Came)
    (goes_on : Result (Unit {0}) OutOfMemory) (kept' : Option (List ℕ)) (mid new : Both MemTalk NodeState)
    (outs : List Out) → Hears over_node conn kept old r got goes_on kept' mid → Takes conn mid.desk outs new.desk → Takes conn old.desk outs new.desk
behind-heard conn kept old r got goes_on kept' mid new outs h t =
    takes-still conn old.desk mid.desk outs new.desk (passes-still conn old.desk got r.offer kept' goes_on mid.desk h.passes) t

none-behind : (conn : ConnNo) (old : NodeState) (r : Round) (new : NodeState) → r.lost ≡ None → Takes conn old r.outs new → Takes conn old (taken_in r) new
none-behind conn old r new is t = subst (λ os. Takes conn old os new) (sym (ap (λ l. r.outs ++ lost_out l) is ∙ append-nil r.outs)) t

all-takes : (conn : ConnNo) (old : Both MemTalk NodeState) (outs : List Out) (over : Bool) (new : Both MemTalk NodeState)
    → SaysAll over_node conn old outs over new → Takes conn old.desk outs new.desk
all-takes conn old outs over new s =
    subst (λ os. Takes conn old.desk os new.desk) (append-nil outs)
    (takes-then conn old.desk outs s.last.desk [] new.desk (each-takes conn old outs s.last s.each) (takes-none conn s.last.desk new.desk
    (none-still conn s.last.desk new.desk s.none)))

some-takes : (conn : ConnNo) (old : Both MemTalk NodeState) (outs : List Out) (lost : List ℕ) (f : PumpFault) (new : Both MemTalk NodeState)
    → SaysSome over_node conn old outs lost f new → Takes conn old.desk (outs ++ out.Text lost ∷ []) new.desk
some-takes conn old outs lost f new s =
    takes-then conn old.desk outs s.last.desk (out.Text lost ∷ []) new.desk (each-takes conn old outs s.last s.each)
    (takes-first conn s.last.desk (out.Text lost) s.between [] new.desk s.taken (takes-none conn s.between new.desk
    (gives-up-still conn s.between s.trouble f new.desk s.gives_up)))

pub round-takes : (conn : ConnNo) (kept : Option (List ℕ)) (old : Both MemTalk NodeState) (r : Round) (answer : Result Pumped PumpFault)
    (kept' : Option (List ℕ)) (new : Both MemTalk NodeState)
    → Makes over_node conn kept old r answer kept' new → Takes conn old.desk (taken_in r) new.desk
round-takes conn kept old r (Ok p) kept' new m =
    none-behind conn old.desk r new.desk m.none_lost
    (behind-heard conn kept old r m.got (Ok tt) kept' m.mid new r.outs m.hears (all-takes conn m.mid r.outs m.over new m.says))
round-takes conn kept old r (Err f) kept' new m =
    elim m [
      | inl a ↦ subst (λ x. Takes conn old.desk (taken_in x) new.desk) (sym a.round_is) (takes-none conn old.desk new.desk
          (gives-up-still conn old.desk a.trouble f new.desk a.gives_up))
      | inr b ↦ elim b [
        | inl d ↦ none-behind conn old.desk r new.desk d.none_lost
            (behind-heard conn kept old r d.got (Err d.wants) kept' new new r.outs d.hears
            (subst (λ os. Takes conn new.desk os new.desk) (sym d.none_out) (takes-none conn new.desk new.desk (still-self conn new.desk new.desk refl))))
        | inr c ↦ elim c [
          | inl s ↦ subst (λ l. Takes conn old.desk (r.outs ++ lost_out l) new.desk) (sym s.lost_is)
              (behind-heard conn kept old r s.got (Ok tt) kept' s.mid new (r.outs ++ out.Text s.lost ∷ []) s.hears
              (some-takes conn s.mid r.outs s.lost f new s.says))
          | inr n ↦ none-behind conn old.desk r new.desk n.none_lost
              (behind-heard conn kept old r n.got (Ok tt) kept' n.mid new r.outs n.hears (each-takes conn n.mid r.outs new n.says))
        ]
      ]
    ]

-- ---- rounds

-- these were taken out, while the queue grew
pub record TakesOn (conn : ConnNo) (old : NodeState) (outs : List Out) (new : NodeState) : Type 0 where
  pub more : List Line
  pub grows : queued conn.0 (past new) ≡ queued conn.0 (past old) ++ more
  pub stand : StandAt (queued conn.0 (past new)) (taken_out conn.0 old) (map (line_on conn.0) outs)
  pub taken : taken_out conn.0 new ≡ taken_out conn.0 old + length outs

used-takes : (conn : ConnNo) (old new : NodeState) → IsUsed conn old new → TakesOn conn old [] new
used-takes conn old new u =
    let q = entries-queue conn.0 u.more (past old) in
    record { more = q.0; grows = ap (queued conn.0) u.grows ∙ q.1; stand = tt; taken = u.taken ∙ no-more (taken_out conn.0 old) }

begun-takes : (conn : ConnNo) (old start : NodeState) (outs : List Out) (new : NodeState) → IsUsed conn old start → TakesOn conn start outs new
    → TakesOn conn old outs new
begun-takes conn old start outs new u t =
    let q = entries-queue conn.0 u.more (past old) in
    record {
      more = q.0 ++ t.more;
      grows = t.grows ∙ ap (λ ls. ls ++ t.more) (ap (queued conn.0) u.grows ∙ q.1) ∙ append_assoc (queued conn.0 (past old)) q.0 t.more;
      stand = subst (λ n. StandAt (queued conn.0 (past new)) n (map (line_on conn.0) outs)) u.taken t.stand;
      taken = t.taken ∙ ap (λ n. n + length outs) u.taken;
    }

on-then : (conn : ConnNo) (old : NodeState) (outs : List Out) (mid : NodeState) (more : List Out) (new : NodeState) → Takes conn old outs mid
    → TakesOn conn mid more new
    → TakesOn conn old (outs ++ more) new
on-then conn old outs mid more new a b =
    let many : length (map (line_on conn.0) outs) ≡ length outs = length-map outs (line_on conn.0) in
    let both : length (outs ++ more) ≡ length outs + length more = length-append outs more in
    let place : taken_out conn.0 mid ≡ taken_out conn.0 old + length (map (line_on conn.0) outs) = a.taken ∙ ap (λ n. taken_out conn.0 old + n) (sym many) in
    let grown : queued conn.0 (past new) ≡ queued conn.0 (past old) ++ b.more = b.grows ∙ ap (λ ls. ls ++ b.more) a.queue in
    record {
      more = b.more;
      grows = grown;
      stand = subst (λ ls. StandAt (queued conn.0 (past new)) (taken_out conn.0 old) ls) (sym (map-append (line_on conn.0) outs more))
          (stand-append (queued conn.0 (past new)) (taken_out conn.0 old) (map (line_on conn.0) outs) (map (line_on conn.0) more)
          (subst (λ q. StandAt q (taken_out conn.0 old) (map (line_on conn.0) outs)) (sym grown)
          (stand-more (queued conn.0 (past old)) b.more (taken_out conn.0 old) (map (line_on conn.0) outs) a.stand))
          (subst (λ n. StandAt (queued conn.0 (past new)) n (map (line_on conn.0) more)) place b.stand));
      taken = (let x = a.taken in let y = b.taken in omega (arith, x, y, both));
    }

rounds-take : (conn : ConnNo) (kept : Option (List ℕ)) (old : Both MemTalk NodeState) (rounds : List Round) (kept' : Option (List ℕ))
    (new : Both MemTalk NodeState)
    → PumpsOn over_node (IsUsed conn) conn kept old rounds kept' new → TakesOn conn old.desk (flat_map taken_in rounds) new.desk
rounds-take conn kept old [] kept' new h = used-takes conn old.desk new.desk h.2
rounds-take conn kept old (r ∷ rs) kept' new h =
    let begun : Both MemTalk NodeState = record { link = old.link; desk = h.0 } in
    begun-takes conn old.desk h.0 (taken_in r ++ flat_map taken_in rs) new.desk h.4
    (on-then conn h.0 (taken_in r) h.3.desk (flat_map taken_in rs) new.desk (round-takes conn kept begun r h.1 h.2 h.3 h.5)
    (rounds-take conn h.2 h.3 rs kept' new h.6))

pub rounds-say : (conn : ConnNo) (kept kept' : Option (List ℕ)) (old new : Both MemTalk NodeState) (rounds : List Round)
    → PumpsOn over_node (IsUsed conn) conn kept old rounds kept' new → SaysItsQueue conn old rounds new
rounds-say conn kept kept' old new rounds h =
    let t = rounds-take conn kept old rounds kept' new h in
    let lines : List Line = map (line_on conn.0) (flat_map taken_in rounds) in
    let many : length lines ≡ length (flat_map taken_in rounds) = length-map (flat_map taken_in rounds) (line_on conn.0) in
    record {
      queue = stand-drop (queued conn.0 (past new.desk)) (taken_out conn.0 old.desk) lines t.stand
          ∙ ap (λ n. lines ++ drop n (queued conn.0 (past new.desk))) (ap (λ n. taken_out conn.0 old.desk + n) many ∙ sym t.taken);
      taken = t.taken;
      said = (rounds-pass over_node (IsUsed conn) conn kept old rounds kept' new h).said;
    }

-- ---- all

pub all-said : (conn : ConnNo) (kept kept' : Option (List ℕ)) (old new : Both MemTalk NodeState) (r : Round) (answer : Result Pumped PumpFault)
    → Makes over_node conn kept old r answer kept' new → IsOk answer → left_of conn new.desk (past new.desk) ≡ []
all-said conn kept kept' old new r (Ok p) m ok =
    let n = none-still conn m.says.last.desk new.desk m.says.none in
    drop_of_length-le (queued conn.0 (past new.desk))
    (subst (λ q. length q ≤ taken_out conn.0 new.desk) (sym n.queue) (subst (λ k. length (queued conn.0 (past m.says.last.desk)) ≤ k)
    (sym n.taken) m.says.none.out))
all-said conn kept kept' old new r (Err f) m ok = absurd (let e : false ≡ true = ok in cc e)
