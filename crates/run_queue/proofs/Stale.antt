-- Numbers come and go in a queue of stamped numbers.
use Rattle.std.proofs.Common.{◌≡◌, ℕ, ◌+◌, ◌<◌, ◌≤◌, ◌==◌, ◌||◌, cond, not, Bool, true, false, List, [], ◌∷◌, ◌++◌, length, map, get_or, option_to_list, is_some, Option, Some, None, refl, sym, ap, subst, ◌∙◌, arith}
use Rattle.std.specs.List.{All, filter}
use Rattle.std.proofs.lemmas.Bool.{false≢true, eqb-true, eq-eqb}
use Rattle.std.proofs.lemmas.Bool.Decides.{nat_tests}
use Rattle.std.proofs.lemmas.List.{map-append}
use Rattle.std.proofs.lemmas.List.Elements.{filter-append, All-head, All-tail, All-nil, All-push, All-filter}
use Rattle.cable_base.specs.declared.numbers.ConnNo.{ConnNo}
use Rattle.run_queue.specs.declared.ready_lists.Queued.{Queued}
use Rattle.run_queue.specs.ReadyLists.{has_number, AreOnce}
use Rattle.run_queue.specs.Queued.{is_stamp, lives, ready_in, spare_of, AreStamped, StartsLive, IsReady, Skips}

-- ---- stamps

AreStamped-filter : (keep : Queued → Bool) (next : ℕ) (qs : List Queued) → AreStamped next qs → AreStamped next (filter keep qs)
AreStamped-filter keep next [] h = tt
AreStamped-filter keep next (q ∷ qs) h = go (keep q) (AreStamped-filter keep next qs h.2)
  where
    go : (b : Bool) → AreStamped next (filter keep qs) → AreStamped next (cond b (q ∷ filter keep qs) (filter keep qs))
    go true r = (h.0, All-filter keep (λ x. q.stamp < x.stamp) qs h.1, r)
    go false r = r

AreStamped-push : (next : ℕ) (qs : List Queued) (q : Queued) → AreStamped next qs → q.stamp ≡ next → AreStamped (next + 1) (qs ++ q ∷ [])
AreStamped-push next [] q h e = (omega arith, All-nil (λ (x : Queued). q.stamp < x.stamp), tt)
AreStamped-push next (x ∷ qs) q h e = (omega (arith, h.0), All-push (λ (y : Queued). x.stamp < y.stamp) qs q h.1 (omega (arith, h.0)), AreStamped-push next qs q h.2 e)

-- ---- passing over

-- those that live live on, and each other is stale
ready-skip : (f : ConnNo → Option ℕ) (q : Queued) (qs : List Queued) → lives f q ≡ false → ready_in f (q ∷ qs) ≡ ready_in f qs
ready-skip f q qs h = rw h refl

ready-live : (f : ConnNo → Option ℕ) (qs : List Queued) → ready_in f (filter (lives f) qs) ≡ ready_in f qs
ready-live f [] = refl
ready-live f (q ∷ qs) = go (lives f q) refl (ready-live f qs)
  where
    go : (b : Bool) → lives f q ≡ b → ready_in f (filter (lives f) qs) ≡ ready_in f qs → ready_in f (cond b (q ∷ filter (lives f) qs) (filter (lives f) qs)) ≡ map (λ q. q.conn) (cond b (q ∷ filter (lives f) qs) (filter (lives f) qs))
    go true e r = rw e (ap (λ ns. q.conn ∷ ns) r)
    go false e r = r

starts-live : (f : ConnNo → Option ℕ) (qs : List Queued) → StartsLive f (filter (lives f) qs)
starts-live f [] = tt
starts-live f (q ∷ qs) = go (lives f q) refl (starts-live f qs)
  where
    go : (b : Bool) → lives f q ≡ b → StartsLive f (filter (lives f) qs) → StartsLive f (cond b (q ∷ filter (lives f) qs) (filter (lives f) qs))
    go true e r = e
    go false e r = r

-- all stale ones are dropped
pub skip_all : (f : ConnNo → Option ℕ) (qs new : List Queued) → new ≡ filter (lives f) qs → Skips f qs new
skip_all f qs new e = rw e (record { same = ready-live f qs; first = starts-live f qs; stamped = λ next h. AreStamped-filter (lives f) next qs h })

-- the first one is dropped
pub skip_one : (f : ConnNo → Option ℕ) (qs rest : List Queued) (q : Queued) → qs ≡ q ∷ rest → lives f q ≡ false → ready_in f rest ≡ ready_in f qs
skip_one f qs rest q e h = rw e (sym (ready-skip f q rest h))

-- what `pop_front` took is what `front` showed
pub popped : (qs rest : List Queued) (q : Queued) (r : Option Queued) → qs ≡ option_to_list r ++ rest → ((d : Queued) → r ≡ Some (get_or qs 0 d)) → q ≡ get_or qs 0 q → qs ≡ q ∷ rest
popped qs rest q r e first at = rw (first q ∙ ap Some (sym at)) at e

pub stamped_rest : (qs rest : List Queued) (q : Queued) (next : ℕ) → qs ≡ q ∷ rest → AreStamped next qs → AreStamped next rest
stamped_rest qs rest q next e h = (subst (AreStamped next) e h).2

-- ---- the same stamps

-- g has the stamps of f
abbrev Same : (f g : ConnNo → Option ℕ) → Type 0
Same f g = (c : ConnNo) → g c ≡ f c

ready-same : (f g : ConnNo → Option ℕ) → Same f g → (qs : List Queued) → ready_in g qs ≡ ready_in f qs
ready-same f g h [] = refl
ready-same f g h (q ∷ qs) = rw (h q.conn) (go (lives f q) (ready-same f g h qs))
  where
    go : (b : Bool) → ready_in g qs ≡ ready_in f qs → map (λ q. q.conn) (cond b (q ∷ filter (lives g) qs) (filter (lives g) qs)) ≡ map (λ q. q.conn) (cond b (q ∷ filter (lives f) qs) (filter (lives f) qs))
    go true r = ap (λ ns. q.conn ∷ ns) r
    go false r = r

starts-same : (f g : ConnNo → Option ℕ) → Same f g → (qs : List Queued) → StartsLive f qs → StartsLive g qs
starts-same f g h [] s = tt
starts-same f g h (q ∷ qs) s = rw (h q.conn) s

pub IsReady-same : (f g : ConnNo → Option ℕ) (qs new : List Queued) (next : ℕ) → Same f g → new ≡ qs → IsReady f qs next → IsReady g new next
IsReady-same f g qs new next h e k =
    rw e (record { stamped = k.stamped; first = starts-same f g h qs k.first; known = λ c. ap is_some (h c) ∙ (k.known c ∙ ap (has_number c) (sym (ready-same f g h qs))) })

pub ready_same : (f g : ConnNo → Option ℕ) (qs new : List Queued) → Same f g → new ≡ qs → ready_in g new ≡ ready_in f qs
ready_same f g qs new h e = rw e (ready-same f g h qs)

-- ---- a number more

-- g has this stamp for the number, and else the stamps of f
abbrev Gains : ConnNo → ℕ → (f g : ConnNo → Option ℕ) → Type 0
Gains conn stamp f g = (c : ConnNo) → g c ≡ cond (conn.0 == c.0) (Some stamp) (f c)

not_some : {A : Type 0} (o : Option A) → is_some o ≡ false → o ≡ None
not_some None e = refl
not_some (Some x) e = absurd (false≢true (sym e))

same_number : (a b : ConnNo) → (a.0 == b.0) ≡ true → a ≡ b
same_number a b e = λ i. record { 0 = eqb-true a.0 b.0 e i }

lives-gained : (conn : ConnNo) (stamp : ℕ) (f g : ConnNo → Option ℕ) (q : Queued) → Gains conn stamp f g → is_some (f conn) ≡ false → q.stamp < stamp → lives g q ≡ lives f q
lives-gained conn stamp f g q h none l = go (conn.0 == q.conn.0) refl
  where
    go : (b : Bool) → (conn.0 == q.conn.0) ≡ b → lives g q ≡ lives f q
    go true e =
        let gone : f q.conn ≡ None = ap f (sym (same_number conn q.conn e)) ∙ not_some (f conn) none in
        let later : (stamp == q.stamp) ≡ false = grind (arith, nat_tests) in
        rw (h q.conn, e, gone) later
    go false e = rw (h q.conn, e) refl

lives-new : (conn : ConnNo) (stamp : ℕ) (f g : ConnNo → Option ℕ) → Gains conn stamp f g → lives g (record { conn = conn; stamp = stamp }) ≡ true
lives-new conn stamp f g h = rw (h conn, eq-eqb conn.0 conn.0 refl) (eq-eqb stamp stamp refl)

ready-gained : (conn : ConnNo) (stamp : ℕ) (f g : ConnNo → Option ℕ) (qs : List Queued) → Gains conn stamp f g → is_some (f conn) ≡ false → AreStamped stamp qs → ready_in g qs ≡ ready_in f qs
ready-gained conn stamp f g [] h none s = refl
ready-gained conn stamp f g (q ∷ qs) h none s = rw (lives-gained conn stamp f g q h none s.0) (go (lives f q) (ready-gained conn stamp f g qs h none s.2))
  where
    go : (b : Bool) → ready_in g qs ≡ ready_in f qs → map (λ q. q.conn) (cond b (q ∷ filter (lives g) qs) (filter (lives g) qs)) ≡ map (λ q. q.conn) (cond b (q ∷ filter (lives f) qs) (filter (lives f) qs))
    go true r = ap (λ ns. q.conn ∷ ns) r
    go false r = r

ready-append : (f : ConnNo → Option ℕ) (qs ps : List Queued) → ready_in f (qs ++ ps) ≡ ready_in f qs ++ ready_in f ps
ready-append f qs ps = ap (map (λ (q : Queued). q.conn)) (filter-append (lives f) qs ps) ∙ map-append (λ (q : Queued). q.conn) (filter (lives f) qs) (filter (lives f) ps)

ready-push : (conn : ConnNo) (stamp : ℕ) (f g : ConnNo → Option ℕ) (qs : List Queued) → Gains conn stamp f g → is_some (f conn) ≡ false → AreStamped stamp qs → ready_in g (qs ++ record { conn = conn; stamp = stamp } ∷ []) ≡ ready_in f qs ++ conn ∷ []
ready-push conn stamp f g qs h none s =
    let one : ready_in g (record { conn = conn; stamp = stamp } ∷ []) ≡ conn ∷ [] = rw (lives-new conn stamp f g h) refl in
    ready-append g qs (record { conn = conn; stamp = stamp } ∷ []) ∙ (ap (λ ns. ns ++ ready_in g (record { conn = conn; stamp = stamp } ∷ [])) (ready-gained conn stamp f g qs h none s) ∙ ap (λ ns. ready_in f qs ++ ns) one)

has-push : (c conn : ConnNo) (ns : List ConnNo) → has_number c (ns ++ conn ∷ []) ≡ cond (conn.0 == c.0) true (has_number c ns)
has-push c conn [] = elim (conn.0 == c.0) as (λ b. (b || false) ≡ cond b true false) [ true ↦ refl | false ↦ refl ]
has-push c conn (n ∷ ns) = go (n.0 == c.0) (has-push c conn ns)
  where
    go : (b : Bool) → has_number c (ns ++ conn ∷ []) ≡ cond (conn.0 == c.0) true (has_number c ns) → (b || has_number c (ns ++ conn ∷ [])) ≡ cond (conn.0 == c.0) true (b || has_number c ns)
    go true r = elim (conn.0 == c.0) as (λ b. true ≡ cond b true true) [ true ↦ refl | false ↦ refl ]
    go false r = r

starts-push : (conn : ConnNo) (stamp : ℕ) (f g : ConnNo → Option ℕ) (qs : List Queued) → Gains conn stamp f g → is_some (f conn) ≡ false → AreStamped stamp qs → StartsLive f qs → StartsLive g (qs ++ record { conn = conn; stamp = stamp } ∷ [])
starts-push conn stamp f g [] h none s t = lives-new conn stamp f g h
starts-push conn stamp f g (q ∷ qs) h none s t = lives-gained conn stamp f g q h none s.0 ∙ t

some-gained : (b : Bool) (stamp : ℕ) (o : Option ℕ) → is_some (cond b (Some stamp) o) ≡ cond b true (is_some o)
some-gained true stamp o = refl
some-gained false stamp o = refl

pub IsReady-push : (conn : ConnNo) (f g : ConnNo → Option ℕ) (qs same new : List Queued) (next : ℕ) → IsReady f qs next → is_some (f conn) ≡ false → same ≡ qs → Gains conn next f g → new ≡ same ++ record { conn = conn; stamp = next } ∷ [] → IsReady g new (next + 1)
IsReady-push conn f g qs same new next k none s h e =
    rw (e, s) (record {
      stamped = AreStamped-push next qs (record { conn = conn; stamp = next }) k.stamped refl;
      first = starts-push conn next f g qs h none k.stamped k.first;
      known = λ c. ap is_some (h c) ∙ (some-gained (conn.0 == c.0) next (f c) ∙ (ap (cond (conn.0 == c.0) true) (k.known c) ∙ (sym (has-push c conn (ready_in f qs)) ∙ ap (has_number c) (sym (ready-push conn next f g qs h none k.stamped)))));
    })

pub ready_pushed : (conn : ConnNo) (f g : ConnNo → Option ℕ) (qs same new : List Queued) (next : ℕ) → IsReady f qs next → is_some (f conn) ≡ false → same ≡ qs → Gains conn next f g → new ≡ same ++ record { conn = conn; stamp = next } ∷ []
    → ready_in g new ≡ cond (has_number conn (ready_in f qs)) (ready_in f qs) (ready_in f qs ++ conn ∷ [])
ready_pushed conn f g qs same new next k none s h e =
    rw (e, s, sym (k.known conn) ∙ none) (ready-push conn next f g qs h none k.stamped)

-- ---- a number less

-- g has no stamp for the number, and else the stamps of f
abbrev Loses : ConnNo → (f g : ConnNo → Option ℕ) → Type 0
Loses conn f g = (c : ConnNo) → g c ≡ cond (conn.0 == c.0) None (f c)

others : ConnNo → List ConnNo → List ConnNo
others conn ns = filter (λ n. not (n.0 == conn.0)) ns

lives-lost : (conn : ConnNo) (f g : ConnNo → Option ℕ) (q : Queued) → Loses conn f g → lives g q ≡ cond (conn.0 == q.conn.0) false (lives f q)
lives-lost conn f g q h = rw (h q.conn) (elim (conn.0 == q.conn.0) as (λ b. is_stamp (cond b None (f q.conn)) q.stamp ≡ cond b false (is_stamp (f q.conn) q.stamp)) [ true ↦ refl | false ↦ refl ])

turned : (a b : ℕ) → (a == b) ≡ (b == a)
turned a b = grind (arith, nat_tests)

ready-lost : (conn : ConnNo) (f g : ConnNo → Option ℕ) (qs : List Queued) → Loses conn f g → ready_in g qs ≡ others conn (ready_in f qs)
unfolding others
ready-lost conn f g [] h = refl
ready-lost conn f g (q ∷ qs) h = rw (lives-lost conn f g q h, turned conn.0 q.conn.0) (go (q.conn.0 == conn.0) (lives f q) refl (ready-lost conn f g qs h))
  where
    go : (a b : Bool) → (q.conn.0 == conn.0) ≡ a → ready_in g qs ≡ filter (λ n. not (n.0 == conn.0)) (ready_in f qs)
        → map (λ q. q.conn) (cond (cond a false b) (q ∷ filter (lives g) qs) (filter (lives g) qs)) ≡ filter (λ n. not (n.0 == conn.0)) (map (λ q. q.conn) (cond b (q ∷ filter (lives f) qs) (filter (lives f) qs)))
    go true true e r = rw e r
    go true false e r = r
    go false true e r = rw e (ap (λ ns. q.conn ∷ ns) r)
    go false false e r = r

has-others : (c conn : ConnNo) (ns : List ConnNo) → has_number c (others conn ns) ≡ cond (conn.0 == c.0) false (has_number c ns)
unfolding others
has-others c conn [] = elim (conn.0 == c.0) as (λ b. false ≡ cond b false false) [ true ↦ refl | false ↦ refl ]
has-others c conn (n ∷ ns) = go (n.0 == conn.0) (n.0 == c.0) (conn.0 == c.0) refl refl refl (has-others c conn ns)
  where
    R : List ConnNo
    R = filter (λ n. not (n.0 == conn.0)) ns

    go : (a b e : Bool) → (n.0 == conn.0) ≡ a → (n.0 == c.0) ≡ b → (conn.0 == c.0) ≡ e → has_number c (filter (λ n. not (n.0 == conn.0)) ns) ≡ cond e false (has_number c ns)
        → has_number c (cond (not a) (n ∷ filter (λ n. not (n.0 == conn.0)) ns) (filter (λ n. not (n.0 == conn.0)) ns)) ≡ cond e false (b || has_number c ns)
    go true true true x y z r = r
    go true true false x y z r = absurd (false≢true (sym z ∙ eq-eqb conn.0 c.0 (sym (eqb-true n.0 conn.0 x) ∙ eqb-true n.0 c.0 y)))
    go true false e x y z r = r
    go false true true x y z r = absurd (false≢true (sym x ∙ eq-eqb n.0 conn.0 (eqb-true n.0 c.0 y ∙ sym (eqb-true conn.0 c.0 z))))
    go false true false x y z r = rw y refl
    go false false e x y z r = rw y r

some-lost : (b : Bool) (o : Option ℕ) → is_some (cond b None o) ≡ cond b false (is_some o)
some-lost true o = refl
some-lost false o = refl

known-lost : (conn : ConnNo) (f g : ConnNo → Option ℕ) (qs : List Queued) → Loses conn f g → ((c : ConnNo) → is_some (f c) ≡ has_number c (ready_in f qs)) → (c : ConnNo) → is_some (g c) ≡ has_number c (ready_in g qs)
known-lost conn f g qs h k c =
    ap is_some (h c) ∙ (some-lost (conn.0 == c.0) (f c) ∙ (ap (cond (conn.0 == c.0) false) (k c) ∙ (sym (has-others c conn (ready_in f qs)) ∙ ap (has_number c) (sym (ready-lost conn f g qs h)))))

-- the queue is passed over behind the loss
pub IsReady-lost : (conn : ConnNo) (f g : ConnNo → Option ℕ) (qs new : List Queued) (next : ℕ) → IsReady f qs next → Loses conn f g → Skips g qs new → IsReady g new next
IsReady-lost conn f g qs new next k h s =
    record { stamped = s.stamped next k.stamped; first = s.first; known = λ c. known-lost conn f g qs h k.known c ∙ ap (has_number c) (sym s.same) }

pub ready_lost : (conn : ConnNo) (f g : ConnNo → Option ℕ) (qs new : List Queued) → Loses conn f g → Skips g qs new → ready_in g new ≡ filter (λ n. not (n.0 == conn.0)) (ready_in f qs)
ready_lost conn f g qs new h s = s.same ∙ unfold others in ready-lost conn f g qs h

-- ---- the first number

is-stamp : (o : Option ℕ) (s : ℕ) → is_stamp o s ≡ true → o ≡ Some s
is-stamp None s h = absurd (false≢true h)
is-stamp (Some t) s h = ap Some (eqb-true t s h)

-- behind a number that lives, its older stamps are stale
ready-behind : (q : Queued) (f g : ConnNo → Option ℕ) (qs : List Queued) → Loses q.conn f g → lives f q ≡ true → All (λ x. q.stamp < x.stamp) qs → ready_in g qs ≡ ready_in f qs
ready-behind q f g [] h l a = refl
ready-behind q f g (x ∷ qs) h l a = rw same (go (lives f x) (ready-behind q f g qs h l (All-tail (λ (x : Queued). q.stamp < x.stamp) x qs a)))
  where
    at : (b : Bool) → (q.conn.0 == x.conn.0) ≡ b → cond b false (lives f x) ≡ lives f x
    at true e =
        let stamp : f x.conn ≡ Some q.stamp = ap f (sym (same_number q.conn x.conn e)) ∙ is-stamp (f q.conn) q.stamp l in
        let above : q.stamp < x.stamp = All-head (λ (x : Queued). q.stamp < x.stamp) x qs a in
        let older : (q.stamp == x.stamp) ≡ false = grind (arith, nat_tests) in
        rw stamp (sym older)
    at false e = refl

    same : lives g x ≡ lives f x
    same = lives-lost q.conn f g x h ∙ at (q.conn.0 == x.conn.0) refl

    go : (b : Bool) → ready_in g qs ≡ ready_in f qs → map (λ q. q.conn) (cond b (x ∷ filter (lives g) qs) (filter (lives g) qs)) ≡ map (λ q. q.conn) (cond b (x ∷ filter (lives f) qs) (filter (lives f) qs))
    go true r = ap (λ ns. x.conn ∷ ns) r
    go false r = r

gone : (q : Queued) (f g : ConnNo → Option ℕ) → Loses q.conn f g → g q.conn ≡ None
gone q f g h = h q.conn ∙ ap (λ b. cond b None (f q.conn)) (eq-eqb q.conn.0 q.conn.0 refl)

ready-gone : (q : Queued) (f g : ConnNo → Option ℕ) (qs : List Queued) → Loses q.conn f g → ready_in g (q ∷ qs) ≡ ready_in g qs
ready-gone q f g qs h = rw (gone q f g h) refl

pub IsReady-next : (q : Queued) (f g : ConnNo → Option ℕ) (qs rest new : List Queued) (next : ℕ) → IsReady f qs next → qs ≡ q ∷ rest → Loses q.conn f g → Skips g rest new → IsReady g new next
IsReady-next q f g qs rest new next k e h s =
    record {
      stamped = s.stamped next (subst (AreStamped next) e k.stamped).2;
      first = s.first;
      known = λ c. known-lost q.conn f g qs h k.known c ∙ ap (has_number c) (ap (ready_in g) e ∙ (ready-gone q f g rest h ∙ sym s.same));
    }

pub ready_next : (q : Queued) (f g : ConnNo → Option ℕ) (qs rest new : List Queued) (next : ℕ) → IsReady f qs next → qs ≡ q ∷ rest → Loses q.conn f g → Skips g rest new → ready_in f qs ≡ q.conn ∷ ready_in g new
ready_next q f g qs rest new next k e h s =
    let live : lives f q ≡ true = subst (StartsLive f) e k.first in
    rw e (rw live (ap (λ ns. q.conn ∷ ns) (sym (ready-behind q f g rest h live (subst (AreStamped next) e k.stamped).1) ∙ sym s.same)))

pub next_once : (q : Queued) (f g : ConnNo → Option ℕ) (qs rest new : List Queued) (next : ℕ) → IsReady f qs next → qs ≡ q ∷ rest → Loses q.conn f g → Skips g rest new → has_number q.conn (ready_in g new) ≡ false
next_once q f g qs rest new next k e h s = sym ((IsReady-next q f g qs rest new next k e h s).known q.conn) ∙ ap is_some (gone q f g h)

-- ---- each number once

-- a number that lives doesn't stand among those behind it
once-behind : (q : Queued) (f : ConnNo → Option ℕ) (qs : List Queued) → lives f q ≡ true → All (λ x. q.stamp < x.stamp) qs → has_number q.conn (ready_in f qs) ≡ false
once-behind q f [] l a = refl
once-behind q f (x ∷ qs) l a = by-live (lives f x) refl (once-behind q f qs l (All-tail (λ (x : Queued). q.stamp < x.stamp) x qs a))
  where
    apart : (b : Bool) → (q.conn.0 == x.conn.0) ≡ b → lives f x ≡ true → (x.conn.0 == q.conn.0) ≡ false
    apart true e live =
        let stamp : f x.conn ≡ Some q.stamp = ap f (sym (same_number q.conn x.conn e)) ∙ is-stamp (f q.conn) q.stamp l in
        let above : q.stamp < x.stamp = All-head (λ (x : Queued). q.stamp < x.stamp) x qs a in
        let older : (q.stamp == x.stamp) ≡ false = grind (arith, nat_tests) in
        absurd (false≢true (sym older ∙ (ap (λ (o : Option ℕ). is_stamp o x.stamp) (sym stamp) ∙ live)))
    apart false e live = grind (arith, nat_tests)

    by-live : (b : Bool) → lives f x ≡ b → has_number q.conn (ready_in f qs) ≡ false → has_number q.conn (map (λ q. q.conn) (cond b (x ∷ filter (lives f) qs) (filter (lives f) qs))) ≡ false
    by-live true e r = rw (apart (q.conn.0 == x.conn.0) refl e) r
    by-live false e r = r

pub ready-once : (f : ConnNo → Option ℕ) (qs : List Queued) (next : ℕ) → AreStamped next qs → AreOnce (ready_in f qs)
ready-once f [] next h = tt
ready-once f (q ∷ qs) next h = by-live (lives f q) refl (ready-once f qs next h.2)
  where
    by-live : (b : Bool) → lives f q ≡ b → AreOnce (ready_in f qs) → AreOnce (map (λ q. q.conn) (cond b (q ∷ filter (lives f) qs) (filter (lives f) qs)))
    by-live true e r = (once-behind q f qs e h.1, r)
    by-live false e r = r

-- ---- room

pub spare_grows : (len cap room next len' cap' room' : ℕ) → len' ≤ len → cap ≤ cap' → room ≤ room' → spare_of len cap room next ≤ spare_of len' cap' room' next
spare_grows len cap room next len' cap' room' l c r = omega arith

pub spare_spent : (len cap room next len' cap' room' : ℕ) → len' ≡ len + 1 → cap ≤ cap' → room ≤ room' + 1 → spare_of len cap room next ≤ spare_of len' cap' room' (next + 1) + 1
spare_spent len cap room next len' cap' room' l c r = omega arith

-- an empty queue is one without numbers
pub none_ready : (f : ConnNo → Option ℕ) (qs : List Queued) → length qs ≡ 0 → ready_in f qs ≡ []
none_ready f [] h = refl
none_ready f (q ∷ qs) h = absurd (omega arith)
