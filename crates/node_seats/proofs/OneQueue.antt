-- What is made of all queues where one of them becomes another.
use Rattle.std.proofs.Common.{◌≡◌, ◌≤◌, ◌+◌, ◌==◌, ℕ, Bool, true, false, List, [], ◌∷◌, ◌++◌, length, Option, Some, None, refl, sym, ap, subst, ◌∙◌, arith, append-nil}
use Rattle.std.specs.Prelude.{unwrap_or}
use Rattle.std.specs.Ordering.{nat_cmp}
use Rattle.std.specs.BTreeMap.{is_at, insert_entry}
use Rattle.std.specs.Map.{lookup}
use Rattle.cable_base.specs.declared.numbers.ConnNo.{ConnNo}
use Rattle.conn_seat.specs.declared.outs.Out.{Out}
use Rattle.conn_seat.specs.Outboxes.{OutboxState, Puts, PutsAll, Takes, Widens, forgotten_after, unused}
use Rattle.node_seats.specs.declared.queues.Queued.{Queued}
use Rattle.node_seats.specs.Outboxes.{OutboxesState, all_on, forgotten_at, outbox_at, outs_for, queue_at, taken_at}
use Rattle.node_seats.specs.Outboxes.{Forgets, Greets, Queues, Spends, TakesOut, WidensAll}
use Rattle.node_seats.proofs.Faces.{Written, found-now, others-now}
use Rattle.node_seats.proofs.Lookups.{new-there, new-elsewhere}
use Rattle.node_seats.proofs.Queueing.{same-number, self, turned, outs-on, outs-off}

abbrev pub queues : List (ℕ × OutboxState) → OutboxesState
queues es = record { entries = es }

-- what is queued on c becomes another one, and the others stay
pub record OnOne (c : ℕ) (kept became : OutboxState) (v new : OutboxesState) : Type 0 where
  pub was : outbox_at c v ≡ kept
  pub is : outbox_at c new ≡ became
  pub others : (d : ℕ) → (d == c) ≡ false → outbox_at d new ≡ outbox_at d v

abbrev or-unused : Option OutboxState → OutboxState
or-unused o = unwrap_or o unused

apart-from : (c d : ℕ) → (d == c) ≡ false → c ≡ d → ⊥
apart-from c d e same = absurd (let is : true ≡ false = sym (self c) ∙ ap (λ (x : ℕ). x == c) same ∙ e in cc)

pub on-one : (c : ℕ) (kept became : OutboxState) (v new : List (ℕ × OutboxState)) → Written c kept became v new → OnOne c kept became (queues v) (queues new)
on-one c kept became v new w =
    record {
      was = ap or-unused w.found;
      is = ap or-unused (found-now c kept became v new w);
      others = λ d e. ap or-unused (others-now c kept became v new w d (apart-from c d e));
    }

pub on-new : (c : ℕ) (o : OutboxState) (v new : List (ℕ × OutboxState)) → lookup (is_at (nat_cmp c)) v ≡ None → new ≡ insert_entry nat_cmp v c o
    → OnOne c unused o (queues v) (queues new)
on-new c o v new none now =
    record {
      was = ap or-unused none;
      is = ap or-unused (ap (lookup (is_at (nat_cmp c))) now ∙ new-there c o v);
      others = λ d e. ap or-unused (ap (lookup (is_at (nat_cmp d))) now ∙ new-elsewhere c d o v (apart-from c d e));
    }

-- ---- what is queued on one connection alone

all-mine : (conn : ConnNo) (outs : List Out) → outs_for conn.0 (all_on conn outs) ≡ outs
all-mine conn [] = refl
all-mine conn (o ∷ os) = outs-on conn.0 (record { conn = conn; out = o }) (all_on conn os) (self conn.0) ∙ ap (λ xs. o ∷ xs) (all-mine conn os)

none-other : (conn : ConnNo) (d : ℕ) (outs : List Out) → (d == conn.0) ≡ false → outs_for d (all_on conn outs) ≡ []
none-other conn d [] e = refl
none-other conn d (o ∷ os) e = outs-off d (record { conn = conn; out = o }) (all_on conn os) (turned d conn.0 e) ∙ none-other conn d os e

-- ---- what a call makes of it

module _ (c : ℕ) (kept became : OutboxState) (v new : OutboxesState) (one : OnOne c kept became v new) where
  -- what holds of it and what it became, and of each of the others, holds of all
  each : (P : ℕ → OutboxState → OutboxState → Type 0) → P c kept became → ((d : ℕ) (o : OutboxState) → (d == c) ≡ false → P d o o) → (d : ℕ)
      → P d (outbox_at d v) (outbox_at d new)
  each P here there d = by-test (d == c) refl
    where
      mine : P c (outbox_at c v) (outbox_at c new)
      mine = subst (λ (o : OutboxState). P c o (outbox_at c new)) (sym one.was) (subst (P c kept) (sym one.is) here)

      by-test : (b : Bool) → (d == c) ≡ b → P d (outbox_at d v) (outbox_at d new)
      by-test true e = subst (λ (x : ℕ). P x (outbox_at x v) (outbox_at x new)) (sym (same-number d c e)) mine
      by-test false e = subst (P d (outbox_at d v)) (sym (one.others d e)) (there d (outbox_at d v) e)

  pub widens : Widens kept became → WidensAll v new
  widens w = record {
    queue = each (λ d o p. p.queued ≡ o.queued) w.queued (λ d o e. refl);
    taken = each (λ d o p. p.taken ≡ o.taken) w.taken (λ d o e. refl);
    room = each (λ d o p. o.room ≤ p.room) w.room (λ d o e. omega arith);
    forgotten = each (λ d o p. p.forgotten ≡ o.forgotten) w.forgotten (λ d o e. refl);
  }

  pub forgets : kept.queued ≡ [] → became ≡ forgotten_after kept.taken → Forgets c v new
  forgets empty f = record {
    forgotten = ap (λ (o : OutboxState). o.forgotten) (one.is ∙ f);
    queue = each (λ d o p. p.queued ≡ o.queued) (ap (λ (o : OutboxState). o.queued) f ∙ sym empty) (λ d o e. refl);
    taken = each (λ d o p. p.taken ≡ o.taken) (ap (λ (o : OutboxState). o.taken) f) (λ d o e. refl);
    others = λ d e. ap (λ (o : OutboxState). o.forgotten) (one.others d e);
  }

  pub takes : (out : Option Out) → Takes out kept became → (became ≡ kept → new ≡ v) → TakesOut c out v new
  takes None t same = record {
    none = λ e. (ap (λ (o : OutboxState). o.queued) one.was ∙ t.0, same t.1);
    first = λ o e. absurd cc;
    queue = λ d e. ap (λ (o : OutboxState). o.queued) (one.others d e);
    taken = λ d e. ap (λ (o : OutboxState). o.taken) (one.others d e);
    forgotten = each (λ d o p. p.forgotten ≡ o.forgotten) (ap (λ (o : OutboxState). o.forgotten) t.1) (λ d o e. refl);
  }
  takes (Some out) t same = record {
    none = λ e. absurd cc;
    first = λ o e. (
      ap (λ (x : OutboxState). x.queued) one.was ∙ t.0 ∙ ap (λ x. x ∷ became.queued) (out-is o e) ∙ ap (λ (x : OutboxState). o ∷ x.queued) (sym one.is),
      ap (λ (x : OutboxState). x.taken) one.is ∙ t.1 ∙ ap (λ (x : OutboxState). x.taken + 1) (sym one.was),
    );
    queue = λ d e. ap (λ (o : OutboxState). o.queued) (one.others d e);
    taken = λ d e. ap (λ (o : OutboxState). o.taken) (one.others d e);
    forgotten = each (λ d o p. p.forgotten ≡ o.forgotten) t.2 (λ d o e. refl);
  }
    where
      out-is : (o : Out) → Some out ≡ Some o → out ≡ o
      out-is o e = cc e

pub takes-none : (c : ℕ) (out : Option Out) (v new : OutboxesState) → out ≡ None → outbox_at c v ≡ unused → new ≡ v → TakesOut c out v new
takes-none c out v new none empty same = record {
  none = λ e. (ap (λ (o : OutboxState). o.queued) empty, same);
  first = λ o e. absurd (let no_way : None ≡ Some o = sym none ∙ e in cc);
  queue = λ d e. ap (queue_at d) same;
  taken = λ d e. ap (taken_at d) same;
  forgotten = λ d. ap (forgotten_at d) same;
}

queues-on : (conn : ConnNo) (outs : List Out) (kept became : OutboxState) (v new : OutboxesState) → OnOne conn.0 kept became v new
    → became.queued ≡ kept.queued ++ outs → became.taken ≡ kept.taken → became.forgotten ≡ kept.forgotten → Queues (all_on conn outs) v new
queues-on conn outs kept became v new one queued taken forgotten = record {
  queue = each conn.0 kept became v new one (λ d o p. p.queued ≡ o.queued ++ outs_for d (all_on conn outs))
      (queued ∙ ap (λ (os : List Out). kept.queued ++ os) (sym (all-mine conn outs)))
      (λ d o e. sym (append-nil o.queued) ∙ ap (λ (os : List Out). o.queued ++ os) (sym (none-other conn d outs e)));
  taken = each conn.0 kept became v new one (λ d o p. p.taken ≡ o.taken) taken (λ d o e. refl);
  forgotten = each conn.0 kept became v new one (λ d o p. p.forgotten ≡ o.forgotten) forgotten (λ d o e. refl);
}

pub queues-all : (conn : ConnNo) (outs : List Out) (kept became : OutboxState) (v new : OutboxesState) → OnOne conn.0 kept became v new
    → PutsAll outs kept became → Queues (all_on conn outs) v new
queues-all conn outs kept became v new one p = queues-on conn outs kept became v new one p.queued p.taken p.forgotten

pub queues-one : (q : Queued) (kept became : OutboxState) (v new : OutboxesState) → OnOne q.conn.0 kept became v new → Puts q.out kept became → Queues (q ∷ []) v new
queues-one q kept became v new one p = queues-on q.conn (q.out ∷ []) kept became v new one p.queued p.taken p.forgotten

pub spends-one : (q : Queued) (kept became : OutboxState) (v new : OutboxesState) → OnOne q.conn.0 kept became v new → Puts q.out kept became → Spends (q ∷ []) v new
spends-one q kept became v new one p = each q.conn.0 kept became v new one (λ d o n. n.room + length (outs_for d (q ∷ [])) ≡ o.room)
    (let l = ap length (outs-on q.conn.0 q [] (self q.conn.0)) in let r = p.room in omega (arith, l, r))
    (λ d o e. let l = ap length (outs-off d q [] (turned d q.conn.0 e)) in omega (arith, l))

-- a connection more, and its greeting
pub greets : (conn : ConnNo) (greeting : Out) (o : OutboxState) (v new : OutboxesState) → OnOne conn.0 unused o v new → Greets greeting o
    → Queues (record { conn = conn; out = greeting } ∷ []) v new
greets conn greeting o v new one g = queues-on conn (greeting ∷ []) unused o v new one g.queued g.taken g.forgotten
