-- The ids of a table's rows go on rising up to its last one.
use Rattle.std.proofs.Common.{ℕ, ◌<◌, ◌≤◌, ◌≡◌, Bool, List, [], ◌∷◌, ◌++◌, Option, Some, None, refl, arith, sym, subst, IfSome, is_some}
use Rattle.std.specs.List.{filter}
use Rattle.std.proofs.lemmas.List.Elements.{All-from_recursion, recursion_from_All}
use Rattle.cable_base.specs.declared.rows.Row.{Row}
use Rattle.cable_base.proofs.Rises.{Rises, Rises-append, Rises-filter, increasing-rises}
use Rattle.cable_model.proofs.Delivered.{id_of}
use Rattle.table_core.specs.Keepers.{AreRising, greatest_id, most_id}
use Rattle.table_core.specs.Tables.{IsTable}
use Rattle.table_core.proofs.Rows.{rises-increasing, rises-upto, rises-all, below-greatest}

-- a table's rows as rows that rise up to the last id
pub table-rises : (told : List Row) (last : ℕ) → IsTable (Some told) last → Rises id_of 0 told last
table-rises told last t =
    let r = increasing-rises id_of 0 told t.rising in
    rises-upto 0 last r.0 told r.1 (omega arith) (recursion_from_All (λ r. r.id.0 ≤ last) told t.within)

pub rises-table : (told : List Row) (last : ℕ) → last ≤ most_id → Rises id_of 0 told last → IsTable (Some told) last
rises-table told last l r =
    record {
      most = l;
      rising = rises-increasing id_of 0 told last r;
      within = All-from_recursion (λ r. r.id.0 ≤ last) told (rises-all 0 last told r);
    }

pub untold-table : (last : ℕ) → last ≤ most_id → IsTable None last
untold-table last l = record { most = l; rising = tt; within = tt }

pub none-stays : (told' : Option (List Row)) → is_some told' ≡ is_some {T = List Row} None → told' ≡ None
none-stays None e = refl
none-stays (Some rows) e = absurd (cc (e))

pub same-table : (told told' : Option (List Row)) (last : ℕ) → IsTable told last → told' ≡ told → IsTable told' last
same-table told told' last t e = subst (λ x. IsTable x last) (sym e) t

-- at the start
pub started-table : (told told' : Option (List Row)) (last : ℕ) → told' ≡ told → last ≤ most_id → IfSome told AreRising → IfSome told (λ rows. last ≡ greatest_id rows) → IsTable told' last
started-table told told' last e l r g = same-table told told' last (go told r g) e
  where
    go : (o : Option (List Row)) → IfSome o AreRising → IfSome o (λ rows. last ≡ greatest_id rows) → IsTable o last
    go None r g = untold-table last l
    go (Some rows) r g = record { most = l; rising = r; within = All-from_recursion (λ x. x.id.0 ≤ last) rows (below-greatest rows last (omega arith)) }

-- a row at the next id
pub committed-table : (told told' : Option (List Row)) (last id : ℕ) (row : Row) → IsTable told last → id ≤ most_id → last < id → row.id.0 ≡ id → is_some told' ≡ is_some told → IfSome told (λ rows. told' ≡ Some (rows ++ row ∷ [])) → IsTable told' id
committed-table None told' last id row t l n i s p = rw (none-stays told' s) (untold-table id l)
committed-table (Some rows) told' last id row t l n i s p =
    rw p (rises-table (rows ++ row ∷ []) id l (Rises-append id_of 0 rows (row ∷ []) last id (table-rises rows last t) (omega arith, omega arith)))

-- fewer rows
pub trimmed-table : (keeps : List Row → Row → Bool) (told told' : Option (List Row)) (last : ℕ) → IsTable told last → is_some told' ≡ is_some told → IfSome told (λ rows. told' ≡ Some (filter (keeps rows) rows)) → IsTable told' last
trimmed-table keeps None told' last t s p = rw (none-stays told' s) (untold-table last t.most)
trimmed-table keeps (Some rows) told' last t s p =
    rw p (rises-table (filter (keeps rows) rows) last t.most (Rises-filter id_of (keeps rows) 0 rows last (table-rises rows last t)))
