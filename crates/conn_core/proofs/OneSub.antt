-- One subscription of a connection is looked up by its number or its identifier, and changed.
use Rattle.std.proofs.Common.{ℕ, zero, suc, ◌+◌, ◌≡◌, ◌==◌, ◌<◌, ◌≤◌, Bool, true, false, cond, not, List, [], ◌∷◌, ◌++◌, length, map, get_or, set, Some, None, Option, refl, ap, sym, subst, ◌∙◌, arith, position}
use Rattle.std.specs.List.{list_any, position_or_len}
use Rattle.std.specs.Str.{bytes_eq}
use Rattle.std.proofs.lemmas.Bool.Decides.{nat_tests}
use Rattle.std.proofs.lemmas.Slice.Eq.{bytes_eq-Decides}
use Rattle.cable_base.specs.declared.numbers.SubNo.{SubNo}
use Rattle.cable_base.specs.declared.numbers.WantNo.{WantNo}
use Rattle.stream_set.proofs.Once.{IsOnce, none-any, some-any}
use Rattle.stream_set.proofs.Apart.{or-first, or-second}
use Rattle.conn_core.specs.Subscriptions.{SubParts, Subscription, shown, has_identifier, has_number, is_subscribed, AreApart, stopped, AreNew, WantsBelow}
use Rattle.conn_core.specs.Connections.{AllWantsBelow, AreNewIn}
use Rattle.conn_core.specs.Rooms.{HasRoom}
use Rattle.conn_core.proofs.Mapped.{any-map}

pub identifier-once : (identifier : List ℕ) (subs : List Subscription) → AreApart subs → IsOnce (has_identifier identifier) subs
identifier-once identifier [] a = tt
identifier-once identifier (s ∷ subs) a =
    (λ h. let same : s.identifier ≡ identifier = (bytes_eq-Decides s.identifier identifier).0 h in ap (λ i. is_subscribed i subs) (sym same) ∙ a.1, identifier-once identifier subs a.2)

pub number-once : (number : SubNo) (subs : List Subscription) → AreApart subs → IsOnce (has_number number) subs
number-once number [] a = tt
number-once number (s ∷ subs) a =
    (λ h. let same : s.number.0 ≡ number.0 = grind (arith, nat_tests) in ap (λ n. list_any (λ (t : Subscription). t.number.0 == n) subs) (sym same) ∙ a.0, number-once number subs a.2)

-- ---- room

pub room-set : (identifier : List ℕ) (n : ℕ) (ss : List SubParts) (at : ℕ) (s new : SubParts) → at < length ss → s ≡ get_or ss at s → new.identifier ≡ s.identifier → s.streams.spare ≤ new.streams.spare → HasRoom identifier n ss → HasRoom identifier n (set ss at new)
room-set identifier n [] at s new l e i p h = absurd (omega arith)
room-set identifier n (x ∷ ss) zero s new l e i p h =
    let same : s ≡ x = e in
    (λ k. let few = h.0 (ap (λ (y : SubParts). bytes_eq y.identifier identifier) (sym same) ∙ (ap (λ j. bytes_eq j identifier) (sym i) ∙ k)) in let spare = ap (λ (y : SubParts). y.streams.spare) same in omega (arith, few, spare, p), h.1)
room-set identifier n (x ∷ ss) (suc at) s new l e i p h = (h.0, room-set identifier n ss at s new (omega arith) e i p h.1)

pub room-nowhere : (identifier : List ℕ) (n : ℕ) (ss : List SubParts) → list_any (λ s. has_identifier identifier (shown s)) ss ≡ false → HasRoom identifier n ss
room-nowhere identifier n [] e = tt
room-nowhere identifier n (s ∷ ss) e =
    (λ k. let no = or-first (bytes_eq s.identifier identifier) (list_any (λ s. has_identifier identifier (shown s)) ss) e in absurd (cc (no, k)), room-nowhere identifier n ss (or-second (bytes_eq s.identifier identifier) (list_any (λ s. has_identifier identifier (shown s)) ss) e))

room-made-at : (identifier : List ℕ) (n : ℕ) (ss : List SubParts) (at : ℕ) (new : SubParts) → IsOnce (λ (s : SubParts). has_identifier identifier (shown s)) ss → at ≡ position_or_len (λ (s : SubParts). has_identifier identifier (shown s)) ss → at < length ss → n ≤ new.streams.spare → HasRoom identifier n (set ss at new)
room-made-at identifier n [] at new o e l p = absurd (omega arith)
room-made-at identifier n (x ∷ ss) at new o e l p = go (bytes_eq x.identifier identifier) refl at e l (room-made-at identifier n ss)
  where
    go : (b : Bool) → bytes_eq x.identifier identifier ≡ b → (at : ℕ) → at ≡ position_or_len (λ (s : SubParts). has_identifier identifier (shown s)) (x ∷ ss) → at < length (x ∷ ss)
        → ((at : ℕ) (new : SubParts) → IsOnce (λ (s : SubParts). has_identifier identifier (shown s)) ss → at ≡ position_or_len (λ (s : SubParts). has_identifier identifier (shown s)) ss → at < length ss → n ≤ new.streams.spare → HasRoom identifier n (set ss at new))
        → HasRoom identifier n (set (x ∷ ss) at new)
    go true b zero e l ih = (λ _. p, room-nowhere identifier n ss (o.0 b))
    go true b (suc at) e l ih = let e' = rw b at e in absurd (omega arith)
    go false b zero e l ih = let e' = rw b at e in absurd (omega arith)
    go false b (suc at) e l ih = let e' = rw b at e in (λ k. absurd (cc (b, k)), ih at new o.1 (omega arith) (omega arith) p)

once-shown : {X Y : Type 0} (f : X → Y) (p : Y → Bool) (xs : List X) → IsOnce p (map f xs) → IsOnce (λ x. p (f x)) xs
once-shown f p [] o = tt
once-shown f p (x ∷ xs) o = (λ h. sym (any-map f p xs) ∙ o.0 h, once-shown f p xs o.1)

pub room-made : (identifier : List ℕ) (n : ℕ) (ss : List SubParts) (at : ℕ) (new : SubParts) → AreApart (map shown ss) → position (λ s. has_identifier identifier (shown s)) ss ≡ Some at → n ≤ new.streams.spare → HasRoom identifier n (set ss at new)
room-made identifier n ss at new a e p =
    let place = some-any (λ (s : SubParts). has_identifier identifier (shown s)) ss at e in
    room-made-at identifier n ss at new (once-shown shown (has_identifier identifier) ss (identifier-once identifier (map shown ss) a)) place.1 place.2 p

-- ---- what is known of the subscription at a place

pub room-at : (identifier : List ℕ) (n : ℕ) (ss : List SubParts) (at : ℕ) (s : SubParts) → at < length ss → s ≡ get_or ss at s → bytes_eq s.identifier identifier ≡ true → HasRoom identifier n ss → n ≤ s.streams.spare
room-at identifier n [] at s l e i h = absurd (omega arith)
room-at identifier n (x ∷ ss) zero s l e i h =
    let same : s ≡ x = e in
    let few = h.0 (ap (λ (y : SubParts). bytes_eq y.identifier identifier) (sym same) ∙ i) in
    let spare = ap (λ (y : SubParts). y.streams.spare) same in
    omega (arith, few, spare)
room-at identifier n (x ∷ ss) (suc at) s l e i h = room-at identifier n ss at s (omega arith) e i h.1

pub new-at : (identifier : List ℕ) (stops names : List (List ℕ)) (ss : List SubParts) (at : ℕ) (s : SubParts) → at < length ss → s ≡ get_or ss at s → bytes_eq s.identifier identifier ≡ true → AreNewIn identifier stops names (map shown ss) → AreNew names (stopped stops s.streams.entries)
new-at identifier stops names [] at s l e i h = absurd (omega arith)
new-at identifier stops names (x ∷ ss) zero s l e i h =
    let same : s ≡ x = e in
    subst (λ (y : SubParts). AreNew names (stopped stops y.streams.entries)) (sym same) (h.0 (ap (λ (y : SubParts). bytes_eq y.identifier identifier) (sym same) ∙ i))
new-at identifier stops names (x ∷ ss) (suc at) s l e i h = new-at identifier stops names ss at s (omega arith) e i h.1

pub below-at : (first : WantNo) (ss : List SubParts) (at : ℕ) (s : SubParts) → at < length ss → s ≡ get_or ss at s → AllWantsBelow first (map shown ss) → WantsBelow first.0 s.streams.entries
below-at first [] at s l e h = absurd (omega arith)
below-at first (x ∷ ss) zero s l e h = let same : s ≡ x = e in subst (λ (y : SubParts). WantsBelow first.0 y.streams.entries) (sym same) h.0
below-at first (x ∷ ss) (suc at) s l e h = below-at first ss at s (omega arith) e h.1
