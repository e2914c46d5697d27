-- A page of rows is the rows up to the one that fills it. What is older than the retention is from before a moment.
use Rattle.std.proofs.Common.{ℕ, zero, suc, ◌+◌, ◌-◌, ◌<◌, ◌≤◌, ◌≡◌, true, false, List, [], ◌∷◌, Option, Some, None, refl, arith, sym, ap, ◌∙◌, take, length, ltb, leb, slice_get, ℤ, IfSome, lit<}
use Rattle.std.proofs.lemmas.Bool.Decides.{nat_tests}
use Rattle.std.proofs.lemmas.List.Elements.{filter_agree}
use Rattle.cable_base.specs.declared.numbers.RowId.{RowId}
use Rattle.cable_base.specs.declared.rows.Row.{Row}
use Rattle.poll_turn.specs.Turns.{CaughtState, TurnState, found_by}
use Rattle.cable_base.proofs.Rises.{Rises, Rises-filter}
use Rattle.cable_model.specs.Table.{id_or, upto_of, up_to, note_with, is_old, oldest}
use Rattle.cable_model.proofs.Delivered.{id_of}
use Rattle.cable_model.specs.Limits.{page_rows}
use Rattle.table_core.specs.Keepers.{is_before, first_before, is_sought, sought, without}
use Rattle.table_core.specs.Tables.{IsTable, read_note}
use Rattle.poll_turn.specs.Notes.{note_in}
use Rattle.table_core.proofs.Keeping.{table-rises}

none-above : (top b e : ℕ) (rows : List Row) → Rises id_of b rows e → top ≤ b → up_to top rows ≡ []
none-above top b e [] h l = refl
none-above top b e (r ∷ rows) h l =
    let t : leb r.id.0 top ≡ false = grind (arith, nat_tests, h.0) in
    rw t (none-above top r.id.0 e rows h.1 (omega (arith, h.0)))

-- the row that fills a page, or the last id, stands behind all before it
reaches : (b last n : ℕ) (rows : List Row) → Rises id_of b rows last → b ≤ id_or (slice_get rows n) last
reaches b last n [] h = h
reaches b last zero (r ∷ rows) h = omega (arith, h.0)
reaches b last (suc n) (r ∷ rows) h = let i = reaches r.id.0 last n rows h.1 in omega (arith, h.0)

page-cut : (b last n : ℕ) (rows : List Row) → Rises id_of b rows last → take (suc n) rows ≡ up_to (id_or (slice_get rows n) last) rows
page-cut b last n [] h = refl
page-cut b last zero (r ∷ rows) h =
    let t : leb r.id.0 r.id.0 ≡ true = grind (arith, nat_tests) in
    rw (t, none-above r.id.0 r.id.0 last rows h.1 (omega arith)) refl
page-cut b last (suc n) (r ∷ rows) h =
    let l = reaches r.id.0 last n rows h.1 in
    let t : leb r.id.0 (id_or (slice_get rows n) last) ≡ true = grind (arith, nat_tests, l) in
    rw t (ap (λ ys. r ∷ ys) (page-cut r.id.0 last n rows h.1))

get-take : (n : ℕ) (rows : List Row) → slice_get (take (suc n) rows) n ≡ slice_get rows n
get-take n [] = refl
get-take zero (r ∷ rows) = refl
get-take (suc n) (r ∷ rows) = get-take n rows

-- the note of a read that gave a page of the rows found
pub page-note : (page low last upto : ℕ) (rows found : List Row) → 0 < page → Rises id_of 0 rows last → found ≡ take page rows → upto ≡ upto_of page last found
    → note_with low last (upto_of page last rows) rows ≡ record { failed = false; lower = record { 0 = low }; upto = record { 0 = upto }; last = record { 0 = last }; rows = found }
page-note zero low last upto rows found p r f u = absurd (omega arith)
page-note (suc n) low last upto rows found p r f u =
    let s : suc n - 1 ≡ n = omega arith in
    let g : slice_get found (suc n - 1) ≡ slice_get rows (suc n - 1) = rw (f, s) (get-take n rows) in
    let top : upto ≡ id_or (slice_get rows (suc n - 1)) last = u ∙ ap (λ o. id_or o last) g in
    let cut : found ≡ up_to (id_or (slice_get rows (suc n - 1)) last) rows = rw s (f ∙ page-cut 0 last n rows r) in
    rw (top, cut) refl

-- what is older than the retention is from before the moment that lies so far back
old-before : (now retention last : ℕ) (r : Row) → is_before (now - retention) last r ≡ is_old now retention last r
old-before now retention last r =
    let t : ltb r.created_at.0 (now - retention) ≡ ltb (r.created_at.0 + retention) now = grind (arith, nat_tests) in
    rw t refl

pub oldest-before : (now retention batch last : ℕ) (rows : List Row) → first_before (now - retention) last batch rows ≡ oldest now retention batch last rows
oldest-before now retention batch last rows = ap (take batch) (filter_agree (is_before (now - retention) last) (is_old now retention last) (old-before now retention last) rows)

pub trimmed-old : (now retention batch last before : ℕ) (told told' : Option (List Row)) → before ≡ now - retention → IfSome told (λ rows. told' ≡ Some (without (first_before before last batch rows) rows))
    → IfSome told (λ rows. told' ≡ Some (without (oldest now retention batch last rows) rows))
trimmed-old now retention batch last before None told' b p = tt
trimmed-old now retention batch last before (Some rows) told' b p = p ∙ ap (λ taken. Some (without taken rows)) (ap (λ x. first_before x last batch rows) b ∙ oldest-before now retention batch last rows)

pub counted-old : (now retention batch last before count : ℕ) (told : Option (List Row)) → before ≡ now - retention → IfSome told (λ rows. count ≡ length (first_before before last batch rows))
    → IfSome told (λ rows. count ≡ length (oldest now retention batch last rows))
counted-old now retention batch last before count None b p = tt
counted-old now retention batch last before count (Some rows) b p = p ∙ ap length (ap (λ x. first_before x last batch rows) b ∙ oldest-before now retention batch last rows)

-- the note of a turn whose rows were found
pub found-note : (told : Option (List Row)) (turn : TurnState) (last low upto : RowId) (hashes : List ℤ) (found seen : List Row) (caught : CaughtState) → IsTable told last.0 → low ≡ turn.lower → hashes ≡ turn.hashes
    → IfSome told (λ rows. found ≡ take page_rows (sought low.0 hashes rows)) → seen ≡ found → upto.0 ≡ upto_of page_rows last.0 seen → caught ≡ found_by turn upto last found
    → IfSome told (λ rows. caught.is_missed ≡ false → note_in caught ≡ read_note turn.lower.0 last.0 turn.hashes rows)
found-note None turn last low upto hashes found seen caught t l h f s u e = tt
found-note (Some rows) turn last low upto hashes found seen caught t l h f s u e =
    let f' : found ≡ take page_rows (sought turn.lower.0 turn.hashes rows) = f ∙ (ap (λ x. take page_rows (sought x.0 hashes rows)) l ∙ ap (λ x. take page_rows (sought turn.lower.0 x rows)) h) in
    let u' : upto.0 ≡ upto_of page_rows last.0 found = u ∙ ap (upto_of page_rows last.0) s in
    λ missed. ap note_in e
    ∙ sym (page-note page_rows turn.lower.0 last.0 upto.0 (sought turn.lower.0 turn.hashes rows) found (lit< tt) (Rises-filter id_of (is_sought turn.lower.0 turn.hashes) 0 rows last.0 (table-rises rows last.0 t)) f' u')
