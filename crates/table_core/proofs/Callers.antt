-- For callers of a table whose keeper tells its rows: what it shows after a call that answered so.
use Rattle.std.proofs.Common.{ℕ, ◌+◌, ◌≡◌, ◌++◌, false, List, [], ◌∷◌, Option, Some, Result, Ok, Err, IfOk, OnOk, length, sym, subst, ◌∙◌, ℤ}
use Rattle.cable_base.specs.Hash.{channel_hash_of}
use Rattle.cable_base.specs.declared.numbers.RowId.{RowId}
use Rattle.cable_base.specs.declared.rows.Row.{Row}
use Rattle.cable_model.specs.Limits.{page_rows}
use Rattle.cable_model.specs.Table.{Offer, TableStep, note_of, oldest, row_with}
use Rattle.table_core.specs.Keepers.{without}
use Rattle.poll_turn.specs.Turns.{CaughtState}
use Rattle.table_core.specs.Shown.{Shows}
use Rattle.table_core.specs.Tables.{read_note}
use Rattle.poll_turn.specs.Notes.{note_in}
use Rattle.table_core.proofs.Following.{commits_follow, reads_follow, trims_follow}

-- a commit that went well
pub commit-shows : {E : Type 0} (r : Result RowId E) (rows rows' : List Row) (last last' : RowId) (conn : Option ℕ) (offer : Offer) → IfOk r (λ id. id.0 ≡ last.0 + 1) → IfOk r (λ id. last' ≡ id)
    → IfOk r (λ id. Some rows' ≡ Some (rows ++ row_with id.0 offer ∷ [])) → IfOk r (λ id. (past : List TableStep) → Shows rows last.0 past → Shows rows' last'.0 (TableStep.Commit conn offer (Some id.0) ∷ past))
commit-shows (Ok id) rows rows' last last' conn offer n l w = λ past s.
    let next = (commits_follow rows last.0 past s conn offer).shows in
    let by_id : Shows (rows ++ row_with id.0 offer ∷ []) id.0 (TableStep.Commit conn offer (Some id.0) ∷ past) = subst (λ i. Shows (rows ++ row_with i offer ∷ []) i (TableStep.Commit conn offer (Some i) ∷ past)) (sym n) next in
    let same : rows' ≡ rows ++ row_with id.0 offer ∷ [] = cc (w) in
    let by_rows : Shows rows' id.0 (TableStep.Commit conn offer (Some id.0) ∷ past) = subst (λ rs. Shows rs id.0 (TableStep.Commit conn offer (Some id.0) ∷ past)) (sym same) by_id in
    subst (λ (i : RowId). Shows rows' i.0 (TableStep.Commit conn offer (Some id.0) ∷ past)) (sym l) by_rows
commit-shows (Err e) rows rows' last last' conn offer n l w = tt

-- a trim that went well
pub trim-shows : {E : Type 0} (r : Result ℕ E) (rows rows' : List Row) (last last' : RowId) (now retention batch : ℕ) → OnOk r (Some rows' ≡ Some (without (oldest now retention batch last.0 rows) rows))
    → IfOk r (λ count. count ≡ length (oldest now retention batch last.0 rows)) → last' ≡ last
    → IfOk r (λ count. (past : List TableStep) → Shows rows last.0 past → Shows rows' last'.0 (TableStep.Trim now retention batch (Some count) ∷ past))
trim-shows (Ok count) rows rows' last last' now retention batch w n l = λ past s.
    let next = (trims_follow rows last.0 past s now retention batch).shows in
    let by_count : Shows (without (oldest now retention batch last.0 rows) rows) last.0 (TableStep.Trim now retention batch (Some count) ∷ past) = subst (λ i. Shows (without (oldest now retention batch last.0 rows) rows) last.0 (TableStep.Trim now retention batch (Some i) ∷ past)) (sym n) next in
    let same : rows' ≡ without (oldest now retention batch last.0 rows) rows = cc (w) in
    let by_rows : Shows rows' last.0 (TableStep.Trim now retention batch (Some count) ∷ past) = subst (λ rs. Shows rs last.0 (TableStep.Trim now retention batch (Some count) ∷ past)) (sym same) by_count in
    subst (λ (i : RowId). Shows rows' i.0 (TableStep.Trim now retention batch (Some count) ∷ past)) (sym l) by_rows
trim-shows (Err e) rows rows' last last' now retention batch w n l = tt

-- a read whose turn isn't missed
pub read-notes : {E : Type 0} (r : Result CaughtState E) (rows : List Row) (last low : ℕ) (hashes : List ℤ) → IfOk r (λ caught. caught.is_missed ≡ false → note_in caught ≡ read_note low last hashes rows)
    → IfOk r (λ caught. (past : List TableStep) → Shows rows last past → caught.is_missed ≡ false → note_in caught ≡ note_of channel_hash_of page_rows low hashes past)
read-notes (Ok caught) rows last low hashes w = λ past s m. w m ∙ (reads_follow rows last past s 0 0 low hashes).note
read-notes (Err e) rows last low hashes w = tt
