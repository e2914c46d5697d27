-- A list of ready connections that are looked at, one after the other.
use Rattle.std.proofs.Common.{◌≡◌, ◌<◌, ◌+◌, ◌==◌, ◌&&◌, ◌||◌, ℕ, Bool, true, false, cond, not, List, [], ◌∷◌, ◌++◌, filter, length, take, get_or, append-nil, append_assoc, refl, sym, ap, subst, ◌∙◌, arith}
use Rattle.std.proofs.lemmas.Bool.{eqb-true}
use Rattle.std.proofs.lemmas.Bool.Decides.{nat_tests}
use Rattle.std.proofs.lemmas.List.{take_more}
use Rattle.std.proofs.lemmas.List.Elements.{filter-append}
use Rattle.std.proofs.lemmas.List.Folds.{list_any-append}
use Rattle.cable_base.specs.declared.numbers.ConnNo.{ConnNo}
use Rattle.cable_base.proofs.Filters.{filter-same, filter-twice}
use Rattle.node_turns.proofs.HoldsOn.{filter-every}
use Rattle.node_seats.specs.Numbers.{Numbers, may_take_at}
use Rattle.node_seats.proofs.Entries.{self}
use Rattle.run_queue.specs.ReadyLists.{has_number}
use Rattle.node_core.specs.Serving.{Refreshes}

-- ---- numbers in lists

pub same-conn : (a b : ConnNo) → (a.0 == b.0) ≡ true → a ≡ b
same-conn a b e = λ i. record { 0 = eqb-true a.0 b.0 e i }

turned : (a b : ℕ) → (a == b) ≡ (b == a)
turned a b = grind (arith, nat_tests)

or-none : (b : Bool) → (b || false) ≡ b
or-none true = refl
or-none false = refl

pub has-one : (c conn : ConnNo) → has_number c (conn ∷ []) ≡ (conn.0 == c.0)
has-one c conn = or-none (conn.0 == c.0)

pub has-first : (c : ConnNo) (ns : List ConnNo) → has_number c (c ∷ ns) ≡ true
has-first c ns = ap (λ b. b || has_number c ns) (self c.0)

has-filter : (p : ConnNo → Bool) (c : ConnNo) (ns : List ConnNo) → has_number c (filter p ns) ≡ cond (p c) (has_number c ns) false
has-filter p c [] = by-test (p c)
  where
    by-test : (b : Bool) → false ≡ cond b false false
    by-test true = refl
    by-test false = refl
has-filter p c (n ∷ ns) = by-test (p n) refl (n.0 == c.0) refl (has-filter p c ns)
  where
    by-test : (a : Bool) → p n ≡ a → (b : Bool) → (n.0 == c.0) ≡ b → has_number c (filter p ns) ≡ cond (p c) (has_number c ns) false
        → has_number c (cond a (n ∷ filter p ns) (filter p ns)) ≡ cond (p c) (b || has_number c ns) false
    by-test true keeps true is ih =
        let mine : p c ≡ true = ap p (sym (same-conn n c is)) ∙ keeps in
        ap (λ b. b || has_number c (filter p ns)) is ∙ sym (ap (λ b. cond b true false) mine)
    by-test true keeps false is ih = ap (λ b. b || has_number c (filter p ns)) is ∙ ih
    by-test false keeps true is ih =
        let mine : p c ≡ false = ap p (sym (same-conn n c is)) ∙ keeps in
        ih ∙ ap (λ b. cond b (has_number c ns) false) mine ∙ sym (ap (λ b. cond b true false) mine)
    by-test false keeps false is ih = ih

has-behind : (c x : ConnNo) (ns : List ConnNo) → has_number c ns ≡ true → has_number c (x ∷ ns) ≡ true
has-behind c x ns h = by-test (x.0 == c.0) h
  where
    by-test : (b : Bool) → has_number c ns ≡ true → (b || has_number c ns) ≡ true
    by-test true h = refl
    by-test false h = h

-- two tests that agree on the numbers of a list choose the same ones
pub filter-among : (p q : ConnNo → Bool) (ns : List ConnNo) → ((c : ConnNo) → has_number c ns ≡ true → p c ≡ q c) → filter p ns ≡ filter q ns
filter-among p q [] same = refl
filter-among p q (n ∷ ns) same = by-test (p n) refl (q n) refl (same n (has-first n ns)) (filter-among p q ns (λ c h. same c (has-behind c n ns h)))
  where
    by-test : (a : Bool) → p n ≡ a → (b : Bool) → q n ≡ b → p n ≡ q n → filter p ns ≡ filter q ns → cond a (n ∷ filter p ns) (filter p ns) ≡ cond b (n ∷ filter q ns) (filter q ns)
    by-test true x true y e ih = ap (λ (ms : List ConnNo). n ∷ ms) ih
    by-test true x false y e ih = let f : true ≡ false = sym x ∙ e ∙ y in absurd cc
    by-test false x true y e ih = let f : false ≡ true = sym x ∙ e ∙ y in absurd cc
    by-test false x false y e ih = ih

-- ---- no look, and one look after another

pub looks-none : (v : Numbers) (old new : List ConnNo) → new ≡ old → Refreshes v [] old new
looks-none v old new same =
    record {
      ready = λ c. ap (has_number c) same;
      order = ([], same ∙ sym (append-nil (filter (λ (c : ConnNo). true) old) ∙ filter-every old));
    }

module _ (v : Numbers) (looked more : List ConnNo) where
  abbrev kept_by : List ConnNo → ConnNo → Bool
  kept_by ns c = cond (has_number c ns) (may_take_at c.0 v) true

  both-look : (a b m o : Bool) → cond b m (cond a m o) ≡ cond (a || b) m o
  both-look true true m o = refl
  both-look true false m o = refl
  both-look false true m o = refl
  both-look false false m o = refl

  both-keep : (a b m : Bool) → (cond a m true && cond b m true) ≡ cond (a || b) m true
  both-keep true true true = refl
  both-keep true true false = refl
  both-keep true false true = refl
  both-keep true false false = refl
  both-keep false b m = refl

  pub looks-on : (old mid new : List ConnNo) → Refreshes v looked old mid → Refreshes v more mid new → Refreshes v (looked ++ more) old new
  looks-on old mid new f g =
      record {
        ready = λ c.
            g.ready c
            ∙ (ap (λ b. cond (has_number c more) (may_take_at c.0 v) b) (f.ready c)
            ∙ (both-look (has_number c looked) (has_number c more) (may_take_at c.0 v) (has_number c old)
            ∙ sym (ap (λ b. cond b (may_take_at c.0 v) (has_number c old)) (list_any-append (λ (n : ConnNo). n.0 == c.0) looked more))));
        order = (
          filter (kept_by more) f.order.0 ++ g.order.0,
          g.order.1
              ∙ (ap (λ (ns : List ConnNo). filter (kept_by more) ns ++ g.order.0) f.order.1
              ∙ (ap (λ (ns : List ConnNo). ns ++ g.order.0) (filter-append (kept_by more) (filter (kept_by looked) old) f.order.0)
              ∙ (append_assoc (filter (kept_by more) (filter (kept_by looked) old)) (filter (kept_by more) f.order.0) g.order.0
              ∙ ap (λ (ns : List ConnNo). ns ++ (filter (kept_by more) f.order.0 ++ g.order.0))
              (filter-twice (kept_by looked) (kept_by more) old
              ∙ filter-same (λ (c : ConnNo). kept_by looked c && kept_by more c) (kept_by (looked ++ more)) old
              (λ c. both-keep (has_number c looked) (has_number c more) (may_take_at c.0 v)
              ∙ sym (ap (λ b. cond b (may_take_at c.0 v) true) (list_any-append (λ (n : ConnNo). n.0 == c.0) looked more))))))),
        );
      }

-- a look at the same numbers
pub looks-same : (v : Numbers) (looked all old new : List ConnNo) → ((c : ConnNo) → has_number c looked ≡ has_number c all) → Refreshes v looked old new → Refreshes v all old new
looks-same v looked all old new same f =
    record {
      ready = λ c. f.ready c ∙ ap (λ b. cond b (may_take_at c.0 v) (has_number c old)) (same c);
      order = (
        f.order.0,
        f.order.1
            ∙ ap (λ (ns : List ConnNo). ns ++ f.order.0)
            (filter-same (λ (c : ConnNo). cond (has_number c looked) (may_take_at c.0 v) true) (λ (c : ConnNo). cond (has_number c all) (may_take_at c.0 v) true) old
            (λ c. ap (λ b. cond b (may_take_at c.0 v) true) (same c))),
      );
    }

-- a loop's step
pub looks-more : (v : Numbers) (conns : List ConnNo) (i : ℕ) (d conn : ConnNo) (old mid new : List ConnNo) → i < length conns → conn ≡ get_or conns i d
    → Refreshes v (take i conns) old mid → Refreshes v (conn ∷ []) mid new → Refreshes v (take (i + 1) conns) old new
looks-more v conns i d conn old mid new l is f g =
    subst (λ (ns : List ConnNo). Refreshes v ns old new) (sym (take_more conns i d l ∙ ap (λ (x : ConnNo). take i conns ++ x ∷ []) (sym is)))
    (looks-on v (take i conns) (conn ∷ []) old mid new f g)

-- ---- one look

module _ (v : Numbers) (conn : ConnNo) where
  -- what one look leaves of the others
  pub one-other : (A : Type 0) (c : ConnNo) (x y : A) (b : Bool) → (conn.0 == c.0) ≡ b → cond (has_number c (conn ∷ [])) x y ≡ cond b x y
  one-other A c x y b is = ap (λ b. cond b x y) (has-one c conn ∙ is)

  may-same : (b : Bool) (c : ConnNo) → may_take_at conn.0 v ≡ b → (conn.0 == c.0) ≡ true → may_take_at c.0 v ≡ b
  may-same b c may is = ap (λ (x : ConnNo). may_take_at x.0 v) (sym (same-conn conn c is)) ∙ may

  pub looks-put : (old new : List ConnNo) → may_take_at conn.0 v ≡ true → new ≡ cond (has_number conn old) old (old ++ conn ∷ []) → Refreshes v (conn ∷ []) old new
  looks-put old new may is = subst (Refreshes v (conn ∷ []) old) (sym is) (by-there (has_number conn old) refl)
    where
      stays : (c : ConnNo) (b : Bool) → (conn.0 == c.0) ≡ b → cond (has_number c (conn ∷ [])) (may_take_at c.0 v) true ≡ true
      stays c true e = one-other Bool c (may_take_at c.0 v) true true e ∙ may-same true c may e
      stays c false e = one-other Bool c (may_take_at c.0 v) true false e

      all-kept : filter (λ (c : ConnNo). cond (has_number c (conn ∷ [])) (may_take_at c.0 v) true) old ≡ old
      all-kept = filter-same (λ (c : ConnNo). cond (has_number c (conn ∷ [])) (may_take_at c.0 v) true) (λ c. true) old (λ c. stays c (conn.0 == c.0) refl) ∙ filter-every old

      or-true : (b : Bool) → (b || true) ≡ true
      or-true true = refl
      or-true false = refl

      there : has_number conn old ≡ true → (c : ConnNo) (b : Bool) → (conn.0 == c.0) ≡ b → has_number c old ≡ cond (has_number c (conn ∷ [])) (may_take_at c.0 v) (has_number c old)
      there h c true e = ap (λ (x : ConnNo). has_number x old) (sym (same-conn conn c e)) ∙ h ∙ sym (one-other Bool c (may_take_at c.0 v) (has_number c old) true e ∙ may-same true c may e)
      there h c false e = sym (one-other Bool c (may_take_at c.0 v) (has_number c old) false e)

      behind : (c : ConnNo) (b : Bool) → (conn.0 == c.0) ≡ b → has_number c (old ++ conn ∷ []) ≡ cond (has_number c (conn ∷ [])) (may_take_at c.0 v) (has_number c old)
      behind c true e =
          list_any-append (λ (n : ConnNo). n.0 == c.0) old (conn ∷ []) ∙ ap (λ b. has_number c old || b) (has-one c conn ∙ e) ∙ or-true (has_number c old)
          ∙ sym (one-other Bool c (may_take_at c.0 v) (has_number c old) true e ∙ may-same true c may e)
      behind c false e =
          list_any-append (λ (n : ConnNo). n.0 == c.0) old (conn ∷ []) ∙ ap (λ b. has_number c old || b) (has-one c conn ∙ e) ∙ or-none (has_number c old)
          ∙ sym (one-other Bool c (may_take_at c.0 v) (has_number c old) false e)

      by-there : (b : Bool) → has_number conn old ≡ b → Refreshes v (conn ∷ []) old (cond b old (old ++ conn ∷ []))
      by-there true h = record { ready = λ c. there h c (conn.0 == c.0) refl; order = ([], sym (append-nil (filter (λ (c : ConnNo). cond (has_number c (conn ∷ [])) (may_take_at c.0 v) true) old) ∙ all-kept)) }
      by-there false h = record { ready = λ c. behind c (conn.0 == c.0) refl; order = (conn ∷ [], ap (λ (ns : List ConnNo). ns ++ conn ∷ []) (sym all-kept)) }

  pub looks-drop : (old new : List ConnNo) → may_take_at conn.0 v ≡ false → new ≡ filter (λ n. not (n.0 == conn.0)) old → Refreshes v (conn ∷ []) old new
  looks-drop old new may is =
      record {
        ready = λ c. ap (has_number c) is ∙ (has-filter (λ (n : ConnNo). not (n.0 == conn.0)) c old ∙ out c (conn.0 == c.0) refl);
        order = (
          [],
          is
              ∙ (filter-same (λ (n : ConnNo). not (n.0 == conn.0)) (λ (c : ConnNo). cond (has_number c (conn ∷ [])) (may_take_at c.0 v) true) old (λ c. kept c (conn.0 == c.0) refl)
              ∙ sym (append-nil (filter (λ (c : ConnNo). cond (has_number c (conn ∷ [])) (may_take_at c.0 v) true) old))),
        );
      }
    where
      out : (c : ConnNo) (b : Bool) → (conn.0 == c.0) ≡ b → cond (not (c.0 == conn.0)) (has_number c old) false ≡ cond (has_number c (conn ∷ [])) (may_take_at c.0 v) (has_number c old)
      out c true e = ap (λ b. cond (not b) (has_number c old) false) (turned c.0 conn.0 ∙ e) ∙ sym (one-other Bool c (may_take_at c.0 v) (has_number c old) true e ∙ may-same false c may e)
      out c false e = ap (λ b. cond (not b) (has_number c old) false) (turned c.0 conn.0 ∙ e) ∙ sym (one-other Bool c (may_take_at c.0 v) (has_number c old) false e)

      kept : (c : ConnNo) (b : Bool) → (conn.0 == c.0) ≡ b → not (c.0 == conn.0) ≡ cond (has_number c (conn ∷ [])) (may_take_at c.0 v) true
      kept c true e = ap not (turned c.0 conn.0 ∙ e) ∙ sym (one-other Bool c (may_take_at c.0 v) true true e ∙ may-same false c may e)
      kept c false e = ap not (turned c.0 conn.0 ∙ e) ∙ sym (one-other Bool c (may_take_at c.0 v) true false e)
