-- The rows of a table follow its journal.
use Rattle.std.proofs.Common.{ℕ, ◌+◌, ◌<◌, ◌≡◌, Bool, true, false, not, ◌&&◌, ◌||◌, List, [], ◌∷◌, ◌++◌, Option, Some, refl, arith, sym, ap, subst, ◌∙◌, inl, inr, length, length-append, ℤ}
use Rattle.std.specs.Prelude.{IfSome, Ok, Err}
use Rattle.std.specs.List.{filter}
use Rattle.std.proofs.lemmas.List.Elements.{filter-append}
use Rattle.cable_base.specs.Hash.{channel_hash_of}
use Rattle.cable_base.specs.declared.numbers.RowId.{RowId}
use Rattle.cable_base.specs.declared.rows.Row.{Row}
use Rattle.cable_base.proofs.Filters.{filter-same, filter-twice}
use Rattle.cable_model.specs.declared.journals.Origin.{Origin}
use Rattle.cable_model.specs.Journal.{conn_in, offer_in}
use Rattle.cable_model.specs.Limits.{page_rows}
use Rattle.cable_model.specs.Table.{Offer, TableStep, commits, gone, has_id, last_id, note_of, oldest, present, row_with}
use Rattle.cable_model.proofs.Trimming.{gone-below}
use Rattle.table_core.specs.Keepers.{without}
use Rattle.table_core.specs.Tables.{read_note}
use Rattle.table_core.specs.declared.faults.StoreFault.{StoreFault}
use Rattle.table_core.specs.declared.faults.StoreFault.TheVariants as store_fault
use Rattle.table_core.specs.Shown.{Shows, CommitsFollow, TrimsFollow, ReadsFollow, RefusalsFollow, EntersCommit}

-- no Trim took a row that is above the last id
fresh : (past : List TableStep) (row : Row) → last_id past < row.id.0 → gone past row ≡ false
fresh past row l = go (gone past row) refl
  where
    go : (b : Bool) → gone past row ≡ b → gone past row ≡ false
    go true b = let below = gone-below past row b in absurd (omega arith)
    go false b = b

present-commit : (past : List TableStep) (conn : Option ℕ) (offer : Offer) (id : ℕ) → last_id past < id
    → present past ++ row_with id offer ∷ [] ≡ present (TableStep.Commit conn offer (Some id) ∷ past)
present-commit past conn offer id l =
    let f = fresh past (row_with id offer) l in
    let one : filter (λ r. not (gone past r)) (row_with id offer ∷ []) ≡ row_with id offer ∷ [] = rw f refl in
    sym (filter-append (λ r. not (gone past r)) (commits past) (row_with id offer ∷ []) ∙ ap (λ ys. present past ++ ys) one)

neither : (a b : Bool) → (not a && not b) ≡ not (a || b)
neither true b = refl
neither false b = refl

present-trim : (past : List TableStep) (now retention batch count : ℕ)
    → without (oldest now retention batch (last_id past) (present past)) (present past) ≡ present (TableStep.Trim now retention batch (Some count) ∷ past)
present-trim past now retention batch count =
    filter-twice (λ r. not (gone past r)) (λ r. not (has_id r (oldest now retention batch (last_id past) (present past)))) (commits past)
    ∙ filter-same (λ r. not (gone past r) && not (has_id r (oldest now retention batch (last_id past) (present past)))) (λ r. not (gone past r || has_id r (oldest now retention batch (last_id past) (present past)))) (commits past)
    (λ r. neither (gone past r) (has_id r (oldest now retention batch (last_id past) (present past))))

pub commits_follow : CommitsFollow
commits_follow rows last past s conn offer =
    record {
      shows = record {
        rows_are = ap (λ ys. ys ++ row_with (last + 1) offer ∷ []) s.rows_are ∙ present-commit past conn offer (last + 1) (omega (arith, s.last_is));
        last_is = omega (arith, s.last_is, length-append (commits past) (row_with (last + 1) offer ∷ []));
      };
      legal = omega (arith, s.last_is);
    }

pub trims_follow : TrimsFollow
trims_follow rows last past s now retention batch =
    let e : oldest now retention batch last rows ≡ oldest now retention batch (last_id past) (present past) = ap (λ n. oldest now retention batch n rows) s.last_is ∙ ap (oldest now retention batch (last_id past)) s.rows_are in
    record {
      shows = record {
        rows_are =
            ap (λ taken. without taken rows) e
            ∙ (ap (without (oldest now retention batch (last_id past) (present past))) s.rows_are
            ∙ present-trim past now retention batch (length (oldest now retention batch last rows)));
        last_is = s.last_is;
      };
      legal = ap length e;
    }

same-note : (rows : List Row) (last : ℕ) (past : List TableStep) (low : ℕ) (hashes : List ℤ) → Shows rows last past → read_note low last hashes rows ≡ note_of channel_hash_of page_rows low hashes past
same-note rows last past low hashes s = ap (λ n. read_note low n hashes rows) s.last_is ∙ ap (read_note low (last_id past) hashes) s.rows_are

pub reads_follow : ReadsFollow
reads_follow rows last past s node turn low hashes =
    record {
      note = same-note rows last past low hashes s;
      next = record {
        shows = record { rows_are = s.rows_are; last_is = s.last_is };
        legal = inr (same-note rows last past low hashes s);
      };
    }

pub refusals_follow : RefusalsFollow
refusals_follow rows last past s =
    record {
      boot = λ node. record { shows = record { rows_are = s.rows_are; last_is = s.last_is }; legal = s.last_is };
      commit = λ conn offer. record { shows = record { rows_are = s.rows_are; last_is = s.last_is }; legal = tt };
      trim = λ now retention batch. record { shows = record { rows_are = s.rows_are; last_is = s.last_is }; legal = tt };
      read = λ node turn low hashes. record { shows = record { rows_are = s.rows_are; last_is = s.last_is }; legal = inl refl };
    }

-- ---- a commit, by its answer

module _ (from : Origin) (channel payload : List ℕ) (at : ℕ) (rows rows' : Option (List Row)) (last last' : ℕ) where
  pub enters-row : (id : RowId) → id.0 ≡ last + 1 → last' ≡ id.0 → IfSome rows (λ told. rows' ≡ Some (told ++ row_with id.0 (offer_in channel payload at) ∷ []))
      → EntersCommit from channel payload at (Ok id) rows rows' last last'
  enters-row id next is row past s =
      let offer = offer_in channel payload at in
      let now : rows' ≡ Some (present past ++ row_with id.0 offer ∷ []) =
      subst (λ (o : Option (List Row)). IfSome o (λ told. rows' ≡ Some (told ++ row_with id.0 offer ∷ []))) s.rows_are row in
      record {
        rows_are = now ∙ ap (λ (rs : List Row). Some rs) (present-commit past (conn_in from) offer id.0 (omega (arith, next, s.last_is)));
        last_is = omega (arith, is, next, s.last_is, length-append (commits past) (row_with id.0 offer ∷ []));
        legal = (omega (arith, next, s.last_is), s.legal);
      }

  pub enters-none : (f : StoreFault) → rows' ≡ rows → last' ≡ last → EntersCommit from channel payload at (Err f) rows rows' last last'
  enters-none store_fault.Failed same is past s = record { rows_are = same ∙ s.rows_are; last_is = is ∙ s.last_is; legal = (tt, s.legal) }
  enters-none store_fault.IdsSpent same is past s = record { rows_are = same ∙ s.rows_are; last_is = is ∙ s.last_is; legal = s.legal }
  enters-none store_fault.OutOfMemory same is past s = record { rows_are = same ∙ s.rows_are; last_is = is ∙ s.last_is; legal = s.legal }
