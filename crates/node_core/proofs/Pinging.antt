-- A ping on each connection that is live and not closing is what a Beat queues, and there is room for it.
use Rattle.std.proofs.Common.{◌≡◌, ◌≤◌, ℕ, suc, ◌==◌, Bool, true, false, cond, List, [], ◌∷◌, map, filter, length, Some, refl, sym, ap, ◌∙◌, arith}
use Rattle.std.specs.Prelude.{is_some}
use Rattle.std.specs.BTreeMap.{is_at}
use Rattle.std.specs.List.{list_any, AllByRecursion, IsDistinct}
use Rattle.std.specs.Ordering.{nat_cmp, eq_by_cmp}
use Rattle.std.proofs.lemmas.Bool.Decides.{nat_tests}
use Rattle.cable_base.specs.declared.numbers.ConnNo.{ConnNo}
use Rattle.cable_base.proofs.Each.{All-implied}
use Rattle.cable_model.specs.declared.lines.Line.{Line}
use Rattle.cable_model.specs.Transcript.{ping_line}
use Rattle.node_seats.specs.Numbers.{Numbers, Opened, is_receiving_in, opened_at, receiving_among}
use Rattle.node_seats.specs.Outboxes.{outs_for}
use Rattle.node_core.specs.Nodes.{ping_of}
use Rattle.node_core.proofs.Queueing.{lines_on}
use Rattle.node_seats.proofs.Lookups.{at-is, at-self}

ping-lines : (now c : ℕ) (cs : List ConnNo)
    → lines_on c (map (ping_of now) cs) ≡ map (λ (d : ℕ). ping_line now c) (filter (λ d. d == c) (map (λ (d : ConnNo). d.0) cs))
ping-lines now c [] = refl
ping-lines now c (x ∷ cs) = by-test (x.0 == c) refl (ping-lines now c cs)
  where
    by-test : (b : Bool) → (x.0 == c) ≡ b
        → lines_on c (map (ping_of now) cs) ≡ map (λ (d : ℕ). ping_line now c) (filter (λ d. d == c) (map (λ (d : ConnNo). d.0) cs))
        → lines_on c (map (ping_of now) (x ∷ cs)) ≡ map (λ (d : ℕ). ping_line now c) (filter (λ d. d == c) (x.0 ∷ map (λ (d : ConnNo). d.0) cs))
    by-test true e ih = rw e (ap (λ (ls : List Line). ping_line now c ∷ ls) ih)
    by-test false e ih = rw e ih

-- a number that isn't chosen isn't among the chosen
unchosen : (c : ℕ) (p : ℕ → Bool) (ks : List ℕ) → p c ≡ false → filter (λ d. d == c) (filter p ks) ≡ []
unchosen c p [] out = refl
unchosen c p (k ∷ ks) out = by-test (p k) refl (k == c) refl (unchosen c p ks out)
  where
    same : (k == c) ≡ true → k ≡ c
    same t = grind (arith, nat_tests)

    by-test : (a : Bool) → p k ≡ a → (b : Bool) → (k == c) ≡ b → filter (λ d. d == c) (filter p ks) ≡ []
        → filter (λ d. d == c) (cond a (k ∷ filter p ks) (filter p ks)) ≡ []
    by-test true a true b ih = let f : false ≡ true = sym out ∙ sym (ap p (same b)) ∙ a in absurd cc
    by-test true a false b ih = rw b ih
    by-test false a b is ih = ih

-- one that isn't there neither
absent : (c : ℕ) (p : ℕ → Bool) (ks : List ℕ) → AllByRecursion (λ y. (y == c) ≡ false) ks → filter (λ d. d == c) (filter p ks) ≡ []
absent c p [] none = refl
absent c p (k ∷ ks) none = by-test (p k) (absent c p ks none.1)
  where
    by-test : (a : Bool) → filter (λ d. d == c) (filter p ks) ≡ [] → filter (λ d. d == c) (cond a (k ∷ filter p ks) (filter p ks)) ≡ []
    by-test true ih = let f = none.0 in rw f ih
    by-test false ih = ih

others : (c k : ℕ) (ks : List ℕ) → (k == c) ≡ true → AllByRecursion (λ y. eq_by_cmp nat_cmp k y ≡ false) ks → AllByRecursion (λ y. (y == c) ≡ false) ks
others c k [] e h = tt
others c k (y ∷ ks) e h = (other (sym (at-is k y) ∙ h.0) e, others c k ks e h.1)
  where
    other : (y == k) ≡ false → (k == c) ≡ true → (y == c) ≡ false
    other f t = grind (arith, nat_tests)

-- one that is there and chosen is once among the chosen
pub once : (c : ℕ) (p : ℕ → Bool) (ks : List ℕ) → IsDistinct (eq_by_cmp nat_cmp) ks → list_any (λ d. d == c) ks ≡ true → p c ≡ true
    → filter (λ d. d == c) (filter p ks) ≡ c ∷ []
unfolding IsDistinct
once c p [] apart there chosen = absurd cc
once c p (k ∷ ks) apart there chosen = by-test (k == c) refl (p k) refl there (once c p ks apart.1)
  where
    same : (k == c) ≡ true → k ≡ c
    same t = grind (arith, nat_tests)

    by-test : (b : Bool) → (k == c) ≡ b → (a : Bool) → p k ≡ a → list_any (λ d. d == c) (k ∷ ks) ≡ true
        → (list_any (λ d. d == c) ks ≡ true → p c ≡ true → filter (λ d. d == c) (filter p ks) ≡ c ∷ [])
        → filter (λ d. d == c) (cond a (k ∷ filter p ks) (filter p ks)) ≡ c ∷ []
    by-test true b true a there ih =
        let f = absent c p ks (others c k ks b apart.0) in
        rw b (ap (λ (ds : List ℕ). k ∷ ds) f ∙ ap (λ (d : ℕ). d ∷ []) (same b))
    by-test true b false a there ih = let f : false ≡ true = sym a ∙ ap p (same b) ∙ chosen in absurd cc
    by-test false b true a there ih = let t = rw b at there in rw b (ih t chosen)
    by-test false b false a there ih = let t = rw b at there in ih t chosen

-- a ping on each of the chosen is one on c, where c is chosen
pub pinged : (now c : ℕ) (p : ℕ → Bool) (ks : List ℕ) (cs : List ConnNo) → IsDistinct (eq_by_cmp nat_cmp) ks → map (λ (d : ConnNo). d.0) cs ≡ filter p ks
    → (p c ≡ true → list_any (λ d. d == c) ks ≡ true) → lines_on c (map (ping_of now) cs) ≡ cond (p c) (ping_line now c ∷ []) []
pinged now c p ks cs apart is there =
    ping-lines now c cs ∙ ap (λ (ds : List ℕ). map (λ (d : ℕ). ping_line now c) (filter (λ d. d == c) ds)) is ∙ by-test (p c) refl
  where
    by-test : (b : Bool) → p c ≡ b → map (λ (d : ℕ). ping_line now c) (filter (λ d. d == c) (filter p ks)) ≡ cond b (ping_line now c ∷ []) []
    by-test true e = ap (map (λ (d : ℕ). ping_line now c)) (once c p ks apart (there e) e)
    by-test false e = ap (map (λ (d : ℕ). ping_line now c)) (unchosen c p ks e)

-- ---- the room for them

ping-count : (now c : ℕ) (cs : List ConnNo) → length (outs_for c (map (ping_of now) cs)) ≡ length (filter (λ d. d == c) (map (λ (d : ConnNo). d.0) cs))
ping-count now c [] = refl
ping-count now c (x ∷ cs) = by-test (x.0 == c) refl (ping-count now c cs)
  where
    by-test : (b : Bool) → (x.0 == c) ≡ b → length (outs_for c (map (ping_of now) cs)) ≡ length (filter (λ d. d == c) (map (λ (d : ConnNo). d.0) cs))
        → length (outs_for c (map (ping_of now) (x ∷ cs))) ≡ length (filter (λ d. d == c) (x.0 ∷ map (λ (d : ConnNo). d.0) cs))
    by-test true e ih = rw e (ap (λ (n : ℕ). suc n) ih)
    by-test false e ih = rw e ih

among-them : (c : ℕ) (cs : List ConnNo) → filter (λ d. d == c) (map (λ (d : ConnNo). d.0) cs) ≡ c ∷ [] → list_any (λ (d : ConnNo). d.0 == c) cs ≡ true
among-them c [] e = absurd cc
among-them c (x ∷ cs) e = by-test (x.0 == c) refl e (among-them c cs)
  where
    by-test : (b : Bool) → (x.0 == c) ≡ b
        → cond b (x.0 ∷ filter (λ d. d == c) (map (λ (d : ConnNo). d.0) cs)) (filter (λ d. d == c) (map (λ (d : ConnNo). d.0) cs)) ≡ c ∷ []
        → (filter (λ d. d == c) (map (λ (d : ConnNo). d.0) cs) ≡ c ∷ [] → list_any (λ (d : ConnNo). d.0 == c) cs ≡ true)
        → list_any (λ (d : ConnNo). d.0 == c) (x ∷ cs) ≡ true
    by-test true t e ih = rw t refl
    by-test false t e ih = rw t (ih e)

-- one is enough on each
pub ping-room : (now c : ℕ) (p : ℕ → Bool) (ks : List ℕ) (cs : List ConnNo) (room : ℕ) → IsDistinct (eq_by_cmp nat_cmp) ks
    → map (λ (d : ConnNo). d.0) cs ≡ filter p ks
    → (p c ≡ true → list_any (λ d. d == c) ks ≡ true) → (list_any (λ (d : ConnNo). d.0 == c) cs ≡ true → 1 ≤ room)
    → length (outs_for c (map (ping_of now) cs)) ≤ room
ping-room now c p ks cs room apart is there enough = by-test (p c) refl
  where
    by-test : (b : Bool) → p c ≡ b → length (outs_for c (map (ping_of now) cs)) ≤ room
    by-test true e =
        let one : filter (λ d. d == c) (map (λ (d : ConnNo). d.0) cs) ≡ c ∷ [] = ap (filter (λ d. d == c)) is ∙ once c p ks apart (there e) e in
        let room_is : 1 ≤ room = enough (among-them c cs one) in
        omega (arith, ping-count now c cs, ap length one, room_is)
    by-test false e =
        let none : filter (λ d. d == c) (map (λ (d : ConnNo). d.0) cs) ≡ [] = ap (filter (λ d. d == c)) is ∙ unchosen c p ks e in
        omega (arith, ping-count now c cs, ap length none)

-- ---- each of them was opened

opened-behind : (d : ℕ) (e : ℕ × Opened) (v : Numbers) → is_some (opened_at d v) ≡ true → is_some (opened_at d (e ∷ v)) ≡ true
opened-behind d e v o = by-test (is_at (nat_cmp d) e.0) o
  where
    by-test : (b : Bool) → is_some (opened_at d v) ≡ true → is_some (cond b (Some e.1) (opened_at d v)) ≡ true
    by-test true o = refl
    by-test false o = o

abbrev WasOpened : Numbers → ConnNo → Type 0
WasOpened v d = is_some (opened_at d.0 v) ≡ true

pub receivers-opened : (v : Numbers) → AllByRecursion (λ (d : ConnNo). is_some (opened_at d.0 v) ≡ true) (receiving_among v)
receivers-opened [] = tt
receivers-opened (e ∷ v) = by-test (is_receiving_in e.1) (receivers-opened v)
  where
    behind : AllByRecursion (WasOpened v) (receiving_among v) → AllByRecursion (WasOpened (e ∷ v)) (receiving_among v)
    behind all = All-implied (WasOpened v) (WasOpened (e ∷ v)) (receiving_among v) (λ d o. opened-behind d.0 e v o) all

    first : is_some (opened_at e.0 (e ∷ v)) ≡ true
    first = let s = at-self e.0 in rw s refl

    by-test : (b : Bool) → AllByRecursion (WasOpened v) (receiving_among v)
        → AllByRecursion (WasOpened (e ∷ v)) (cond b (record { 0 = e.0 } ∷ receiving_among v) (receiving_among v))
    by-test true all = (first, behind all)
    by-test false all = behind all
