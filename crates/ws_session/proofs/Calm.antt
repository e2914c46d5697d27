-- A call that isn't refused leaves the link's count of faults, and a failure of the link comes only where it rose.
use Rattle.std.proofs.Common.{◌≡◌, ℕ, List, [], ◌∷◌, Option, Some, None, Ok, Err, refl, ap, subst, ◌∙◌, inl, inr}
use Rattle.cable_base.specs.Causes.{Rose}
use Rattle.cable_base.specs.declared.faults.Trouble.{Trouble}
use Rattle.cable_base.specs.declared.faults.Trouble.TheVariants as trouble
use Rattle.cable_base.specs.declared.numbers.ConnNo.{ConnNo}
use Rattle.cable_link.specs.declared.links.Came.{Came}
use Rattle.conn_seat.specs.declared.outs.Out.{Out}
use Rattle.conn_seat.specs.declared.outs.Out.TheVariants as out
use Rattle.ws_session.specs.declared.outcomes.PumpFault.TheVariants as fault
use Rattle.ws_session.specs.declared.outcomes.Pumped.{Pumped}
use Rattle.ws_session.specs.Calls.{Both, Calls, Gives, GivesUp, Going, LinkCalls, Says, Sends}
use Rattle.ws_session.specs.Pumping.{Gets, PumpsOnce, SaysEach, SaysSome}

gets-calm : {L : Type 0} (by : LinkCalls L) (kept : Option (List ℕ)) (old : L) (given : Option Came) (got : Came) (new : L)
    → Gets by kept old given got new → by.faults new ≡ by.faults old
gets-calm by (Some text) old given got new h = ap by.faults h.2
gets-calm by None old given got new h = h.1.calm

sends-calm : {L : Type 0} (by : LinkCalls L) (old : L) (o : Out) (new : L) → Sends by old o new → by.faults new ≡ by.faults old
sends-calm by old (out.Text text) new h = h.calm
sends-calm by old (out.Note n) new h = ap by.faults h

each-calm : {L D : Type 0} (t : Calls L D) (conn : ConnNo) (old : Both L D) (outs : List Out) (new : Both L D) → SaysEach t conn old outs new
    → t.link.faults new.link ≡ t.link.faults old.link
each-calm {L} {D} t conn old [] new h = ap (λ (b : Both L D). t.link.faults b.link) h
each-calm t conn old (o ∷ outs) new h = each-calm t conn h.0 outs new h.3 ∙ sends-calm t.link old.link o h.0.link h.2

refusal-rose : {L D : Type 0} (by : LinkCalls L) (goes : Going D) (conn : ConnNo) (old new : L) (trouble : Trouble) (d e : D)
    → Gives by old (Err trouble) new → GivesUp goes conn d trouble fault.LinkFault e → Rose (by.faults old) (by.faults new)
refusal-rose by goes conn old new trouble.Failed d e h g = h.cause.failed refl
refusal-rose by goes conn old new trouble.OutOfMemory d e h g = absurd (let is : fault.LinkFault ≡ fault.OutOfMemory = g.1 in cc is)

unsaid-rose : {L D : Type 0} (by : LinkCalls L) (goes : Going D) (conn : ConnNo) (old new : L) (text : List ℕ) (trouble : Trouble) (d e : D)
    → Says by old text (Err trouble) new → GivesUp goes conn d trouble fault.LinkFault e → Rose (by.faults old) (by.faults new)
unsaid-rose by goes conn old new text trouble.Failed d e h g = h.cause.failed refl
unsaid-rose by goes conn old new text trouble.OutOfMemory d e h g = absurd (let is : fault.LinkFault ≡ fault.OutOfMemory = g.1 in cc is)

pub pumps-calm : {L D : Type 0} (t : Calls L D) (conn : ConnNo) (kept : Option (List ℕ)) (old : Both L D) (p : Pumped) (kept' : Option (List ℕ))
    (new : Both L D)
    → PumpsOnce t conn kept old (Ok p) kept' new → t.link.faults new.link ≡ t.link.faults old.link
pumps-calm t conn kept old p kept' new h =
    let m = h.1 in
    ap t.link.faults m.says.link_is ∙ (each-calm t conn m.mid h.0.outs m.says.last m.says.each
    ∙ gets-calm t.link kept old.link h.0.given m.got m.mid.link m.hears.gets)

say-rose : {L D : Type 0} (t : Calls L D) (conn : ConnNo) (kept : Option (List ℕ)) (old : Both L D) (given : Option Came) (got : Came)
    (mid : Both L D) (outs : List Out) (lost : List ℕ) (new : Both L D)
    → Gets t.link kept old.link given got mid.link → SaysSome t conn mid outs lost fault.LinkFault new → Rose (t.link.faults old.link) (t.link.faults new.link)
say-rose t conn kept old given got mid outs lost new g s =
    subst (λ n. Rose n (t.link.faults new.link)) (each-calm t conn mid outs s.last s.each ∙ gets-calm t.link kept old.link given got mid.link g)
    (unsaid-rose t.link t.desk.goes conn s.last.link new.link lost s.trouble s.between new.desk s.refused s.gives_up)

pub pumps-rose : {L D : Type 0} (t : Calls L D) (conn : ConnNo) (kept : Option (List ℕ)) (old : Both L D) (kept' : Option (List ℕ)) (new : Both L D)
    → PumpsOnce t conn kept old (Err fault.LinkFault) kept' new → Rose (t.link.faults old.link) (t.link.faults new.link)
pumps-rose t conn kept old kept' new h =
    elim h.1 [
      | inl a ↦ refusal-rose t.link t.desk.goes conn old.link new.link a.trouble old.desk new.desk a.refused a.gives_up
      | inr b ↦ elim b [
        | inl d ↦ absurd (let is : fault.LinkFault ≡ fault.OutOfMemory = d.answer in cc is)
        | inr c ↦ elim c [
          | inl s ↦ say-rose t conn kept old h.0.given s.got s.mid h.0.outs s.lost new s.hears.gets s.says
          | inr m ↦ absurd (let is : fault.LinkFault ≡ fault.OutOfMemory = m.answer in cc is)
        ]
      ]
    ]
