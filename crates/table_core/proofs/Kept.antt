-- The rows of a keeper in memory: where a fetch begins, which rows it finds, and which id is the last.
use Rattle.std.proofs.Common.{ℕ, zero, suc, ◌+◌, ◌-◌, ◌<◌, ◌≤◌, ◌≡◌, Bool, true, false, cond, List, [], ◌∷◌, ◌++◌, length, refl, arith, sym, ap, subst, ◌∙◌, leb, ltb, get_or, drop, take, append_assoc, ℤ}
use Rattle.std.specs.List.{All, AllByRecursion, filter}
use Rattle.std.specs.List.Sorted.{IsPartitionPoint, IsPartitionedBy}
use Rattle.std.proofs.lemmas.Bool.Decides.{nat_tests}
use Rattle.std.proofs.lemmas.List.Elements.{All-drop, All-from_recursion, All-push, All-take, recursion_from_All}
use Rattle.std.proofs.lemmas.List.{append-nil, length_push, map-append}
use Rattle.cable_base.specs.Hash.{channel_hash_of}
use Rattle.cable_base.specs.Squeeze.{IsSqueezedJson}
use Rattle.cable_base.specs.declared.rows.Row.{Row}
use Rattle.cable_base.proofs.Filters.{filter-twice}
use Rattle.cable_base.proofs.Each.{All-implied}
use Rattle.cable_base.proofs.Rises.{Rises, Rises-append, increasing-rises}
use Rattle.table_core.proofs.Rows.{rises-increasing, rises-upto}
use Rattle.cable_model.specs.Table.{contains}
use Rattle.cable_model.proofs.Delivered.{id_of}
use Rattle.poll_turn.specs.Turns.{AreMessages}
use Rattle.table_core.specs.Keepers.{greatest_id, most_id, sought}
use Rattle.table_core.specs.Inside.{AreKept, IsKept, asked, rows_of}
use Rattle.table_core.specs.declared.memory.Kept.{Kept}

-- ---- where a fetch begins

rises-reach : {A : Type 0} (f : A → ℕ) (b : ℕ) (xs : List A) (e j : ℕ) (d : A) → Rises f b xs e → j < length xs → b < f (get_or xs j d)
rises-reach f b [] e j d h l = absurd (omega arith)
rises-reach f b (x ∷ xs) e zero d h l = h.0
rises-reach f b (x ∷ xs) e (suc j) d h l = let r = rises-reach f (f x) xs e j d h.1 (omega arith) in omega (arith, h.0)

rises-order : {A : Type 0} (f : A → ℕ) (b : ℕ) (xs : List A) (e i j : ℕ) (d : A) → Rises f b xs e → i ≤ j → j < length xs → f (get_or xs i d) ≤ f (get_or xs j d)
rises-order f b [] e i j d h m l = absurd (omega arith)
rises-order f b (x ∷ xs) e zero zero d h m l = omega arith
rises-order f b (x ∷ xs) e zero (suc j) d h m l = let r = rises-reach f (f x) xs e j d h.1 (omega arith) in omega arith
rises-order f b (x ∷ xs) e (suc i) zero d h m l = absurd (omega arith)
rises-order f b (x ∷ xs) e (suc i) (suc j) d h m l = rises-order f (f x) xs e i j d h.1 (omega arith) (omega arith)

kept-rises : (b e : ℕ) (ks : List Kept) → Rises id_of b (rows_of ks) e → Rises (λ k. k.row.id.0) b ks e
kept-rises b e [] h = h
kept-rises b e (k ∷ ks) h = (h.0, kept-rises k.row.id.0 e ks h.1)

-- no row up to the id stands behind one above it
pub parted : (id : ℕ) (ks : List Kept) → AreKept ks → IsPartitionedBy (λ k. leb k.row.id.0 id) ks
parted id ks a i j d m l t =
    let r = increasing-rises id_of 0 (rows_of ks) a.rising in
    let o = rises-order (λ k. k.row.id.0) 0 ks r.0 i j d (kept-rises 0 r.0 ks r.1) m l in
    grind (arith, nat_tests)

drop-parted : (id : ℕ) (ks : List Kept) (i : ℕ) → i ≤ length ks → ((k : ℕ) (d : Kept) → k < i → leb (get_or ks k d).row.id.0 id ≡ true)
    → ((k : ℕ) (d : Kept) → i ≤ k → k < length ks → leb (get_or ks k d).row.id.0 id ≡ false)
    → rows_of (drop i ks) ≡ filter (λ r. ltb id r.id.0) (rows_of ks)
drop-parted id [] zero l a b = refl
drop-parted id [] (suc i) l a b = refl
drop-parted id (k ∷ ks) zero l a b =
    let f = b 0 k (omega arith) (omega arith) in
    let t : ltb id k.row.id.0 ≡ true = grind (arith, nat_tests) in
    let rest = drop-parted id ks zero (omega arith) (λ n d m. absurd (omega arith)) (λ n d m o. b (suc n) d (omega arith) (omega arith)) in
    rw t (ap (λ ys. k.row ∷ ys) rest)
drop-parted id (k ∷ ks) (suc i) l a b =
    let f = a 0 k (omega arith) in
    let t : ltb id k.row.id.0 ≡ false = grind (arith, nat_tests) in
    rw t (drop-parted id ks i (omega arith) (λ n d m. a (suc n) d (omega arith)) (λ n d m o. b (suc n) d (omega arith) (omega arith)))

pub dropped : (id : ℕ) (ks : List Kept) (i : ℕ) → i ≤ length ks → IsPartitionPoint (λ k. leb k.row.id.0 id ≡ true) (λ k. leb k.row.id.0 id ≡ false) ks i
    → rows_of (drop i ks) ≡ filter (λ r. ltb id r.id.0) (rows_of ks)
dropped id ks i l p = drop-parted id ks i l (λ k d m. p.0 k d (omega arith) m) (λ k d m o. p.1 k d m o)

-- ---- what it finds

asked-rows : (hashes : List ℤ) (ks : List Kept) → AllByRecursion IsKept ks → asked hashes ks ≡ filter (λ r. contains hashes (channel_hash_of r.channel)) (rows_of ks)
asked-rows hashes [] a = refl
asked-rows hashes (k ∷ ks) a = go (contains hashes k.hash) refl (asked-rows hashes ks a.1)
  where
    go : (b : Bool) → contains hashes k.hash ≡ b → asked hashes ks ≡ filter (λ r. contains hashes (channel_hash_of r.channel)) (rows_of ks)
        → asked hashes (k ∷ ks) ≡ filter (λ r. contains hashes (channel_hash_of r.channel)) (rows_of (k ∷ ks))
    go true b ih =
        let b' : contains hashes (channel_hash_of k.row.channel) ≡ true = ap (contains hashes) (sym a.0.hash_is) ∙ b in
        rw (b, b') (ap (λ ys. k.row ∷ ys) ih)
    go false b ih =
        let b' : contains hashes (channel_hash_of k.row.channel) ≡ false = ap (contains hashes) (sym a.0.hash_is) ∙ b in
        rw (b, b') ih

pub found-sought : (lower : ℕ) (hashes : List ℤ) (ks : List Kept) (i : ℕ) → AreKept ks → rows_of (drop i ks) ≡ filter (λ r. ltb lower r.id.0) (rows_of ks)
    → asked hashes (drop i ks) ≡ sought lower hashes (rows_of ks)
found-sought lower hashes ks i a e =
    asked-rows hashes (drop i ks) (recursion_from_All IsKept (drop i ks) (All-drop IsKept i ks a.each))
    ∙ (ap (filter (λ r. contains hashes (channel_hash_of r.channel))) e
    ∙ filter-twice (λ r. ltb lower r.id.0) (λ r. contains hashes (channel_hash_of r.channel)) (rows_of ks))

-- ---- the last id

last-is-greatest : (b e : ℕ) (k : Kept) (ks : List Kept) (d : Kept) → Rises id_of b (rows_of (k ∷ ks)) e
    → ((get_or (k ∷ ks) (length ks) d).row.id.0 ≡ greatest_id (rows_of (k ∷ ks))) × (b < greatest_id (rows_of (k ∷ ks)))
last-is-greatest b e k [] d h = (omega arith, omega (arith, h.0))
last-is-greatest b e k (j ∷ ks) d h =
    let i = last-is-greatest k.row.id.0 e j ks d h.1 in
    (omega (arith, i.0, i.1), omega (arith, h.0, i.1))

pub greatest-at-end : (ks : List Kept) (n : ℕ) (d : Kept) → AreKept ks → n ≡ length ks → 0 < length ks → (get_or ks (n - 1) d).row.id.0 ≡ greatest_id (rows_of ks)
greatest-at-end [] n d a e l = absurd (omega arith)
greatest-at-end (k ∷ ks) n d a e l =
    let r = increasing-rises id_of 0 (rows_of (k ∷ ks)) a.rising in
    let m : n - 1 ≡ length ks = omega arith in
    rw m ((last-is-greatest 0 r.0 k ks d r.1).0)

-- ---- a row more

pub pushed-kept : (ks : List Kept) (k : Kept) (rows : List Row) → AreKept ks → rows_of ks ≡ rows → IsKept k → 0 < k.row.id.0 → All (λ r. r.id.0 < k.row.id.0) rows → AreKept (ks ++ k ∷ [])
pushed-kept ks k rows a e i l b =
    let r = increasing-rises id_of 0 (rows_of ks) a.rising in
    let below = recursion_from_All (λ r. r.id.0 < k.row.id.0) (rows_of ks) (subst (All (λ r. r.id.0 < k.row.id.0)) (sym e) b) in
    let u = rises-upto 0 (k.row.id.0 - 1) r.0 (rows_of ks) r.1 (omega arith) (All-implied (λ r. r.id.0 < k.row.id.0) (λ r. r.id.0 ≤ k.row.id.0 - 1) (rows_of ks) (λ r h. omega arith) below) in
    record {
      rising = rw (map-append (λ x. x.row) ks (k ∷ [])) (rises-increasing id_of 0 (rows_of ks ++ k.row ∷ []) k.row.id.0 (Rises-append id_of 0 (rows_of ks) (k.row ∷ []) (k.row.id.0 - 1) k.row.id.0 u (omega arith, omega arith)));
      each = All-push IsKept ks k a.each i;
    }

pub kept-of : (k : Kept) (row : Row) → k.row ≡ row → k.hash ≡ channel_hash_of row.channel → row.id.0 ≤ most_id → IsSqueezedJson row.payload → IsKept k
kept-of k row e h l m =
    record {
      most = subst (λ r. r.id.0 ≤ most_id) (sym e) l;
      message = subst (λ r. IsSqueezedJson r.payload) (sym e) m;
      hash_is = h ∙ ap (λ r. channel_hash_of r.channel) (sym e);
    }

-- ---- one row more of those found

pub asked-more : (hashes : List ℤ) (limit : ℕ) (found found' all : List Row) (k : Kept) (ks : List Kept) → length found < limit → found' ≡ found ++ asked hashes (k ∷ [])
    → found ++ take (limit - length found) (asked hashes (k ∷ ks)) ≡ all → (found' ++ take (limit - length found') (asked hashes ks) ≡ all) × (length found' ≤ limit)
asked-more hashes limit found found' all k ks l e h = go (contains hashes k.hash) refl
  where
    go : (b : Bool) → contains hashes k.hash ≡ b → (found' ++ take (limit - length found') (asked hashes ks) ≡ all) × (length found' ≤ limit)
    go true b =
        let e' : found' ≡ found ++ k.row ∷ [] = e ∙ ap (λ ys. found ++ ys) (rw b refl) in
        let n : length found' ≡ length found + 1 = ap length e' ∙ length_push found k.row in
        let m : limit - length found ≡ suc (limit - length found') = omega arith in
        let more : asked hashes (k ∷ ks) ≡ k.row ∷ asked hashes ks = rw b refl in
        let h' : found ++ k.row ∷ take (limit - length found') (asked hashes ks) ≡ all = ap (λ ys. found ++ ys) (ap (λ ys. k.row ∷ take (limit - length found') ys) refl ∙ sym (ap (take (limit - length found)) more ∙ ap (λ j. take j (k.row ∷ asked hashes ks)) m)) ∙ h in
        (ap (λ ys. ys ++ take (limit - length found') (asked hashes ks)) e' ∙ (append_assoc found (k.row ∷ []) (take (limit - length found') (asked hashes ks)) ∙ h'), omega arith)
    go false b =
        let e' : found' ≡ found = e ∙ (ap (λ ys. found ++ ys) (rw b refl) ∙ append-nil found) in
        let more : asked hashes (k ∷ ks) ≡ asked hashes ks = rw b refl in
        (ap (λ ys. ys ++ take (limit - length ys) (asked hashes ks)) e' ∙ (ap (λ ys. found ++ take (limit - length found) ys) (sym more) ∙ h), omega (arith, ap length e'))

-- the rows found are messages
asked-messages : (hashes : List ℤ) (ks : List Kept) → AllByRecursion IsKept ks → AllByRecursion (λ r. IsSqueezedJson r.payload) (asked hashes ks)
asked-messages hashes [] a = tt
asked-messages hashes (k ∷ ks) a =
    let ih = asked-messages hashes ks a.1 in
    elim (contains hashes k.hash) as (λ b. AllByRecursion (λ r. IsSqueezedJson r.payload) (rows_of (cond b (k ∷ filter (λ x. contains hashes x.hash) ks) (filter (λ x. contains hashes x.hash) ks)))) [ true ↦ (a.0.message, ih) | false ↦ ih ]

pub found-messages : (hashes : List ℤ) (limit i : ℕ) (ks : List Kept) (found : List Row) → AreKept ks → found ≡ take limit (asked hashes (drop i ks)) → AreMessages found
found-messages hashes limit i ks found a e =
    subst AreMessages (sym e)
    (All-take (λ r. IsSqueezedJson r.payload) limit (asked hashes (drop i ks)) (All-from_recursion (λ r. IsSqueezedJson r.payload) (asked hashes (drop i ks))
    (asked-messages hashes (drop i ks) (recursion_from_All IsKept (drop i ks) (All-drop IsKept i ks a.each)))))
