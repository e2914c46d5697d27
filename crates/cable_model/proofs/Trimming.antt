-- A Trim takes only old rows, and never the newest.
use Rattle.std.proofs.Common.{ℕ, zero, suc, ◌+◌, ◌≡◌, ◌<◌, ◌==◌, Bool, true, false, cond, not, ◌&&◌, List, [], ◌∷◌, ◌++◌, length, take, Some, refl, ap, sym, subst, ◌∙◌, arith, inl, inr, ◌⊎◌, ltb, length-append, ℤ}
use Rattle.std.specs.Prelude.{Contains}
use Rattle.std.specs.List.{filter}
use Rattle.std.proofs.lemmas.Bool.Decides.{nat_tests}
use Rattle.cable_base.specs.declared.rows.Row.{Row}
use Rattle.cable_base.proofs.Rises.{Rises, Rises-append}
use Rattle.cable_model.specs.declared.events.Event.{Event}
use Rattle.cable_model.specs.Table.{TableStep, row_with, commits, last_id, is_old, has_id, gone, present, trimmed}
use Rattle.cable_model.specs.History.{Rules}
use Rattle.cable_model.specs.Journal.{table_journal}
use Rattle.cable_model.specs.Legal.{LegalTable}
use Rattle.cable_model.specs.Trims.{TakesOld, TakenOld, TrimsOld, HistoryTrims}
use Rattle.cable_model.proofs.Delivered.{id_of}
use Rattle.cable_model.proofs.TableLegal.{legal-table}

-- ---- being among rows

Among : Row → List Row → Type 0
Among x [] = ⊥
Among x (y ∷ ys) = (x ≡ y) ⊎ Among x ys

among-contained : (x : Row) (xs : List Row) → Contains xs x → Among x xs
unfolding Among
among-contained x [] h = absurd (omega (arith, h.1))
among-contained x (y ∷ ys) (zero, l, e) = inl (sym e)
among-contained x (y ∷ ys) (suc k, l, e) = inr (among-contained x ys (k, omega arith, e))

contained-among : (x : Row) (xs : List Row) → Among x xs → Contains xs x
unfolding Among
contained-among x [] h = absurd h
contained-among x (y ∷ ys) (inl e) = (zero, omega arith, sym e)
contained-among x (y ∷ ys) (inr h) = let r = contained-among x ys h in (suc r.0, omega (arith, r.1), r.2)

among-either : (x : Row) (xs ys : List Row) → Among x (xs ++ ys) → Among x xs ⊎ Among x ys
unfolding Among
among-either x [] ys h = inr h
among-either x (y ∷ xs) ys (inl e) = inl (inl e)
among-either x (y ∷ xs) ys (inr h) = elim (among-either x xs ys h) [ inl a ↦ inl (inr a) | inr a ↦ inr a ]

among-take : (x : Row) (n : ℕ) (xs : List Row) → Among x (take n xs) → Among x xs
unfolding Among
among-take x zero xs h = absurd h
among-take x (suc n) [] h = h
among-take x (suc n) (y ∷ ys) (inl e) = inl e
among-take x (suc n) (y ∷ ys) (inr h) = inr (among-take x n ys h)

among-filter : (x : Row) (p : Row → Bool) (xs : List Row) → Among x (filter p xs) → Among x xs × (p x ≡ true)
unfolding Among
among-filter x p [] h = absurd h
among-filter x p (y ∷ ys) h = go (p y) refl (among-filter x p ys)
  where
    go : (b : Bool) → p y ≡ b → (Among x (filter p ys) → Among x ys × (p x ≡ true)) → Among x (y ∷ ys) × (p x ≡ true)
    go true b ih =
        let h' : (x ≡ y) ⊎ Among x (filter p ys) = subst (λ t. Among x (cond t (y ∷ filter p ys) (filter p ys))) b h in
        elim h' [ inl e ↦ (inl e, ap p e ∙ b) | inr a ↦ (let r = ih a in (inr r.0, r.1)) ]
    go false b ih = let r = ih (subst (λ t. Among x (cond t (y ∷ filter p ys) (filter p ys))) b h) in (inr r.0, r.1)

-- a row with this id is among them
found-id : (x : Row) (xs : List Row) → has_id x xs ≡ true → (y : Row) × Among y xs × (y.id.0 ≡ x.id.0)
unfolding Among
found-id x [] h = absurd (cc (h))
found-id x (y ∷ ys) h = go (y.id.0 == x.id.0) refl (found-id x ys)
  where
    go : (b : Bool) → (y.id.0 == x.id.0) ≡ b → (has_id x ys ≡ true → (z : Row) × Among z ys × (z.id.0 ≡ x.id.0)) → (z : Row) × Among z (y ∷ ys) × (z.id.0 ≡ x.id.0)
    go true b ih = (y, inl refl, grind (arith, nat_tests))
    go false b ih = let h' = rw b at h in let r = ih h' in (r.0, inr r.1, r.2)

above-rises : (x : Row) (b : ℕ) (xs : List Row) (e : ℕ) → Rises id_of b xs e → Among x xs → b < x.id.0
unfolding Among
above-rises x b [] e r h = absurd h
above-rises x b (y ∷ ys) e r (inl q) = subst (λ z. b < z.id.0) (sym q) r.0
above-rises x b (y ∷ ys) e r (inr h) = let g = above-rises x y.id.0 ys e r.1 h in omega (arith, r.0)

-- where ids rise, a row is told by its id
same-row : (x y : Row) (b : ℕ) (xs : List Row) (e : ℕ) → Rises id_of b xs e → Among x xs → Among y xs → x.id.0 ≡ y.id.0 → x ≡ y
unfolding Among
same-row x y b [] e r h k q = absurd h
same-row x y b (z ∷ zs) e r (inl h) (inl k) q = h ∙ sym k
same-row x y b (z ∷ zs) e r (inl h) (inr k) q = let g = above-rises y z.id.0 zs e r.1 k in let i : x.id.0 ≡ z.id.0 = ap (λ a. a.id.0) h in absurd (omega arith)
same-row x y b (z ∷ zs) e r (inr h) (inl k) q = let g = above-rises x z.id.0 zs e r.1 h in let i : y.id.0 ≡ z.id.0 = ap (λ a. a.id.0) k in absurd (omega arith)
same-row x y b (z ∷ zs) e r (inr h) (inr k) q = same-row x y z.id.0 zs e r.1 h k q

-- ---- the table

-- the ids of a legal table rise
pub legal-rises : (hash : List ℕ → ℤ) (page : ℕ) (table : List TableStep) → LegalTable hash page table → Rises id_of 0 (commits table) (last_id table)
legal-rises hash page [] l = omega arith
legal-rises hash page (TableStep.Commit conn offer (Some id) ∷ past) l =
    let ih = legal-rises hash page past l.1 in
    Rises-append id_of 0 (commits past) (row_with id offer ∷ []) (last_id past) (length (commits past ++ row_with id offer ∷ [])) ih
    (omega (arith, l.0), omega (arith, l.0, length-append (commits past) (row_with id offer ∷ [])))
legal-rises hash page (_ ∷ past) l = legal-rises hash page past l.1

-- what a Trim took
record Took (now retention batch : ℕ) (past : List TableStep) (row : Row) : Type 0 where
  it : Row
  same : it.id.0 ≡ row.id.0
  there : Among it (trimmed now retention batch past)
  committed : Among it (commits past)
  old : it.created_at.0 + retention < now
  below : it.id.0 < last_id past

took : (now retention batch : ℕ) (past : List TableStep) (row : Row) → has_id row (trimmed now retention batch past) ≡ true → Took now retention batch past row
took now retention batch past row h =
    let f = found-id row (trimmed now retention batch past) h in
    let t = among-take f.0 batch (filter (is_old now retention (last_id past)) (present past)) f.1 in
    let o = among-filter f.0 (is_old now retention (last_id past)) (present past) t in
    let p = among-filter f.0 (λ r. not (gone past r)) (commits past) o.0 in
    let b = parts (ltb (f.0.created_at.0 + retention) now) refl (ltb f.0.id.0 (last_id past)) refl o.1 in
    record { it = f.0; same = f.2; there = f.1; committed = p.0; old = b.0; below = b.1 }
  where
    f : (y : Row) × Among y (trimmed now retention batch past) × (y.id.0 ≡ row.id.0)
    f = found-id row (trimmed now retention batch past) h

    parts : (a : Bool) → ltb (f.0.created_at.0 + retention) now ≡ a → (b : Bool) → ltb f.0.id.0 (last_id past) ≡ b → (a && b) ≡ true → (f.0.created_at.0 + retention < now) × (f.0.id.0 < last_id past)
    parts true a true b q = (grind (arith, nat_tests), grind (arith, nat_tests))
    parts true a false b q = absurd (cc (q))
    parts false a b b' q = absurd (cc (q))

-- what is gone stands below the last id
pub gone-below : (table : List TableStep) (row : Row) → gone table row ≡ true → row.id.0 < last_id table
gone-below [] row h = absurd (cc (h))
gone-below (TableStep.Trim now retention batch (Some taken) ∷ past) row h = go (gone past row) refl (has_id row (trimmed now retention batch past)) refl (gone-below past row)
  where
    go : (a : Bool) → gone past row ≡ a → (b : Bool) → has_id row (trimmed now retention batch past) ≡ b → (gone past row ≡ true → row.id.0 < last_id past) → row.id.0 < last_id past
    go true a b b' ih = ih a
    go false a true b ih = let t = took now retention batch past row b in omega (arith, t.same, t.below)
    go false a false b ih = let h' = rw (a, b) at h in absurd (cc (h'))
gone-below (TableStep.Commit conn offer (Some id) ∷ past) row h = let ih = gone-below past row h in omega (arith, length-append (commits past) (row_with id offer ∷ []))
gone-below (_ ∷ past) row h = gone-below past row h

taken-old : (hash : List ℕ → ℤ) (page : ℕ) (table : List TableStep) → LegalTable hash page table → (row : Row) → Among row (commits table) → gone table row ≡ true → TakenOld row table
unfolding Among
taken-old hash page [] l row a g = absurd (cc (g))
taken-old hash page (TableStep.Trim now retention batch (Some taken) ∷ past) l row a g = go (gone past row) refl (has_id row (trimmed now retention batch past)) refl (taken-old hash page past l.1 row a)
  where
    go : (x : Bool) → gone past row ≡ x → (b : Bool) → has_id row (trimmed now retention batch past) ≡ b → (gone past row ≡ true → TakenOld row past) → TakesOld row (TableStep.Trim now retention batch (Some taken)) past ⊎ TakenOld row past
    go true x b b' ih = inr (ih x)
    go false x true b ih =
        let t = took now retention batch past row b in
        let e = same-row t.it row 0 (commits past) (last_id past) (legal-rises hash page past l.1) t.committed a t.same in
        inl (subst (λ r. Contains (trimmed now retention batch past) r × (r.created_at.0 + retention < now) × (r.id.0 < last_id past)) e (contained-among t.it (trimmed now retention batch past) t.there, t.old, t.below))
    go false x false b ih = let g' = rw (x, b) at g in absurd (cc (g'))
taken-old hash page (TableStep.Commit conn offer (Some id) ∷ past) l row a g = inr (go (among-either row (commits past) (row_with id offer ∷ []) a) (λ h. taken-old hash page past l.1 row h g))
  where
    go : Among row (commits past) ⊎ Among row (row_with id offer ∷ []) → (Among row (commits past) → TakenOld row past) → TakenOld row past
    go (inl h) ih = ih h
    go (inr (inl e)) ih =
        let b = gone-below past row g in
        let i : row.id.0 ≡ id = ap (λ r. r.id.0) e in
        absurd (omega (arith, l.0))
    go (inr (inr h)) ih = absurd h
taken-old hash page (_ ∷ past) l row a g = inr (taken-old hash page past l.1 row a g)

pub trims_old : (hash : List ℕ → ℤ) (page : ℕ) (table : List TableStep) → LegalTable hash page table → TrimsOld table
trims_old hash page table l =
    record {
      old = λ row c g. taken-old hash page table l row (among-contained row (commits table) c) g;
      newest = λ row e. stays row e (gone table row) refl;
    }
  where
    stays : (row : Row) → row.id.0 ≡ last_id table → (b : Bool) → gone table row ≡ b → gone table row ≡ false
    stays row e true b = let l = gone-below table row b in absurd (omega arith)
    stays row e false b = b

pub history_trims : (r : Rules) (events : List Event) → HistoryTrims r events
history_trims r events = trims_old r.hash r.page (table_journal r events) (legal-table r events)
