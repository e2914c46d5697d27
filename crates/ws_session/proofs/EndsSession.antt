-- A call by which a session ends, or whose link failed, leaves a connection on which nothing more is put.
use Rattle.std.proofs.Common.{◌≡◌, ◌⊎◌, ℕ, Bool, true, false, List, [], ◌∷◌, Option, Result, Ok, Err, refl, sym, ap, subst, ◌∙◌, inl, inr}
use Rattle.cable_base.specs.declared.faults.OutOfMemory.{OutOfMemory}
use Rattle.cable_base.specs.declared.faults.Trouble.{Trouble}
use Rattle.cable_base.specs.declared.faults.Trouble.TheVariants as trouble
use Rattle.cable_base.specs.declared.numbers.ConnNo.{ConnNo}
use Rattle.cable_link.specs.Memory.{MemTalk}
use Rattle.cable_link.specs.declared.links.Came.{Came}
use Rattle.cable_link.specs.declared.links.Came.TheVariants as came
use Rattle.cable_model.specs.Journal.{Kept, past_of}
use Rattle.cable_model.specs.Possible.{is_receiving}
use Rattle.conn_seat.specs.declared.outs.Out.{Out}
use Rattle.node_core.specs.Desks.{Leaves}
use Rattle.node_core.specs.Nodes.{NodeState, past}
use Rattle.ws_session.specs.declared.outcomes.PumpFault.{PumpFault}
use Rattle.ws_session.specs.declared.outcomes.PumpFault.TheVariants as fault
use Rattle.ws_session.specs.declared.outcomes.Pumped.{Pumped}
use Rattle.ws_session.specs.declared.outcomes.Pumped.TheVariants as pumped
use Rattle.ws_session.specs.Calls.{Both, GivesUp, fault_behind}
use Rattle.ws_session.specs.OverNode.{Ends, by_node, over_node}
use Rattle.ws_session.specs.Pumping.{Makes, Offer, Passes, Pumps, Round, SaysEach, goes_on_behind, pumped_as, texts_of}
use Rattle.ws_session.proofs.Closes.{gone-closes, over-closed}

-- ---- the journal stays while texts are taken out

each-keeps : (conn : ConnNo) (old : Both MemTalk NodeState) (outs : List Out) (new : Both MemTalk NodeState) → SaysEach over_node conn old outs new
    → new.desk.kept ≡ old.desk.kept
each-keeps conn old [] new h = ap (λ (b : Both MemTalk NodeState). b.desk.kept) h
each-keeps conn old (o ∷ outs) new h = each-keeps conn h.0 outs new h.3 ∙ h.1.kept

-- ---- the session ends

by-ended : (got : Came) (over : Bool) (said : List (List ℕ)) → pumped.Ended ≡ pumped_as got over said → (got ≡ came.Closed) ⊎ (over ≡ true)
by-ended came.Closed over said is = inl refl
by-ended (came.Text text) true said is = inr refl
by-ended (came.Text text) false said is = absurd (let e : pumped.Ended ≡ pumped.Went = is in cc e)
by-ended came.Binary true said is = inr refl
by-ended came.Binary false said is = absurd (let e : pumped.Ended ≡ pumped.Went = is in cc e)
by-ended came.Quiet true said is = inr refl
by-ended came.Quiet false [] is = absurd (let e : pumped.Ended ≡ pumped.Quiet = is in cc e)
by-ended came.Quiet false (text ∷ said) is = absurd (let e : pumped.Ended ≡ pumped.Went = is in cc e)

leaves-closed : (conn : ConnNo) (old : NodeState) (answer : Result Bool OutOfMemory) (new : NodeState) → Leaves old conn answer new → (closes : Bool)
    → answer ≡ Ok closes
    → is_receiving conn.0 (past new) ≡ false
leaves-closed conn old answer new h closes is = gone-closes conn old new closes (subst (λ (a : Result Bool OutOfMemory). Leaves old conn a new) is h)

passes-closed : (conn : ConnNo) (old : NodeState) (got : Came) (offer : Option Offer) (kept : Option (List ℕ)) (new : NodeState)
    → Passes by_node conn old got offer kept (Ok tt) new → got ≡ came.Closed → is_receiving conn.0 (past new) ≡ false
passes-closed conn old (came.Text text) offer kept new h is = absurd (let e : came.Text text ≡ came.Closed = is in cc e)
passes-closed conn old came.Binary offer kept new h is = absurd (let e : came.Binary ≡ came.Closed = is in cc e)
passes-closed conn old came.Quiet offer kept new h is = absurd (let e : came.Quiet ≡ came.Closed = is in cc e)
passes-closed conn old came.Closed offer kept new h is = gone-on h.0.answer refl
  where
    gone-on : (a : Result Bool OutOfMemory) → h.0.answer ≡ a → is_receiving conn.0 (past new) ≡ false
    gone-on (Ok closes) e = leaves-closed conn old h.0.answer new h.0.gone closes e
    gone-on (Err w) e = absurd (let f : Ok tt ≡ Err w = h.0.goes_on_is ∙ ap goes_on_behind e in cc f)

receives-same : (conn : ConnNo) (old new : NodeState) → new.kept ≡ old.kept → is_receiving conn.0 (past old) ≡ false → is_receiving conn.0 (past new) ≡ false
receives-same conn old new is h = ap (λ (k : Kept). is_receiving conn.0 (past_of k)) is ∙ h

ended-closed : (conn : ConnNo) (kept : Option (List ℕ)) (old : Both MemTalk NodeState) (r : Round) (p : Pumped) (kept' : Option (List ℕ))
    (new : Both MemTalk NodeState)
    → Pumps over_node conn kept old r p kept' new → pumped.Ended ≡ p → is_receiving conn.0 (past new.desk) ≡ false
ended-closed conn kept old r p kept' new m is =
    let last = m.says.last in
    let keeps : new.desk.kept ≡ last.desk.kept = m.says.none.kept in
    elim (by-ended m.got m.over (texts_of r.outs) (is ∙ m.answer)) [
      | inl closed ↦ receives-same conn m.mid.desk new.desk (keeps ∙ each-keeps conn m.mid r.outs last m.says.each)
          (passes-closed conn old.desk m.got r.offer kept' m.mid.desk m.hears.passes closed)
      | inr over ↦ receives-same conn last.desk new.desk keeps (over-closed conn.0 (past last.desk) (sym m.says.asked ∙ over))
    ]

-- ---- the link fails

gives-up-closed : (conn : ConnNo) (old : NodeState) (trouble : Trouble) (new : NodeState) → GivesUp Leaves conn old trouble fault.LinkFault new
    → is_receiving conn.0 (past new) ≡ false
gives-up-closed conn old trouble.OutOfMemory new h = absurd (let e : fault.LinkFault ≡ fault.OutOfMemory = h.1 in cc e)
gives-up-closed conn old trouble.Failed new h = gone-on h.0 refl
  where
    gone-on : (a : Result Bool OutOfMemory) → h.0 ≡ a → is_receiving conn.0 (past new) ≡ false
    gone-on (Ok closes) e = leaves-closed conn old h.0 new h.1 closes e
    gone-on (Err w) e = absurd (let f : fault.LinkFault ≡ fault.OutOfMemory = h.2 ∙ ap fault_behind e in cc f)

failed-closed : (conn : ConnNo) (kept : Option (List ℕ)) (old : Both MemTalk NodeState) (r : Round) (kept' : Option (List ℕ)) (new : Both MemTalk NodeState)
    → Makes over_node conn kept old r (Err fault.LinkFault) kept' new → is_receiving conn.0 (past new.desk) ≡ false
failed-closed conn kept old r kept' new m =
    elim m [
      | inl a ↦ gives-up-closed conn old.desk a.trouble new.desk a.gives_up
      | inr b ↦ elim b [
        | inl d ↦ absurd (let e : fault.LinkFault ≡ fault.OutOfMemory = d.answer in cc e)
        | inr c ↦ elim c [
          | inl s ↦ gives-up-closed conn s.says.between s.says.trouble new.desk s.says.gives_up
          | inr n ↦ absurd (let e : fault.LinkFault ≡ fault.OutOfMemory = n.answer in cc e)
        ]
      ]
    ]

pub ends-session : (conn : ConnNo) (kept kept' : Option (List ℕ)) (old new : Both MemTalk NodeState) (r : Round) (answer : Result Pumped PumpFault)
    → Makes over_node conn kept old r answer kept' new → Ends conn answer new.desk
ends-session conn kept kept' old new r (Ok p) m = record {
  ended = λ is. let e : p ≡ pumped.Ended = cc is in ended-closed conn kept old r p kept' new m (sym e);
  failed = λ is. absurd (let e : Ok p ≡ Err fault.LinkFault = is in cc e);
}
ends-session conn kept kept' old new r (Err f) m = record {
  ended = λ is. absurd (let e : Err f ≡ Ok pumped.Ended = is in cc e);
  failed = λ is. let e : f ≡ fault.LinkFault = cc is in failed-closed conn kept old r kept' new (subst (λ x. Makes over_node conn kept old r
      (Err x) kept' new) e m);
}
