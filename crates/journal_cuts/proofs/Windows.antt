-- The window of a hold sees no entry of another connection.
use Rattle.std.proofs.Common.{ℕ, ◌≡◌, Bool, true, false, cond, not, ◌&&◌, List, [], ◌∷◌, Some, None, Option, refl, ap, ◌∙◌, leb, is_some}
use Rattle.std.specs.List.{AllByRecursion}
use Rattle.cable_base.specs.declared.rows.Row.{Row}
use Rattle.cable_model.specs.declared.journals.ReadNote.{ReadNote}
use Rattle.cable_model.specs.Steps.{Step}
use Rattle.cable_model.specs.Connection.{Planner}
use Rattle.cable_model.specs.Journal.{cut, cut_all, is_of}
use Rattle.cable_model.specs.Wants.{mark_of, marks}
use Rattle.cable_model.specs.Window.{Reach, Reads, first_of_two, first_reach, found_at, in_window, reaches, window}
use Rattle.journal_cuts.specs.Cuts.{SaysSame}
use Rattle.journal_cuts.proofs.Cutting.{cut-says}

-- two reaches are of the same turn, in journals that say the same of c
pub data Alike (c : ℕ) : Option Reach → Option Reach → Type 0 where
  neither : Alike c None None
  each : (turn : ℕ) (note : ReadNote) (now past : List Step) → SaysSame c now past
      → Alike c (Some (record { turn = turn; note = note; past = now })) (Some (record { turn = turn; note = note; past = past }))

first-alike : (c : ℕ) (a b x y : Option Reach) → Alike c a b → Alike c x y → Alike c (first_of_two a x) (first_of_two b y)
first-alike c _ _ x y neither l = l
first-alike c _ _ x y (each turn note now past s) l = each turn note now past s

reaches-alike : (c w id turn : ℕ) (note : ReadNote) (now past : List Step) → SaysSame c now past → Alike c (reaches c w id turn note now) (reaches c w id turn note past)
reaches-alike c w id turn note now past s =
    go (not note.failed && leb id note.upto.0 && is_some (mark_of w (marks c now))) (not note.failed && leb id note.upto.0 && is_some (mark_of w (marks c past)))
    (ap (λ ms. not note.failed && leb id note.upto.0 && is_some (mark_of w ms)) s.marks_is)
  where
    go : (a b : Bool) → a ≡ b
        → Alike c (cond a (Some (record { turn = turn; note = note; past = now })) None) (cond b (Some (record { turn = turn; note = note; past = past })) None)
    go true true e = each turn note now past s
    go false false e = neither
    go true false e = absurd (cc (e))
    go false true e = absurd (cc (e))

module _ (c d : ℕ) (differ : ¬ (c ≡ d)) where
  first-reach-alike : (w id : ℕ) (past : List Step) → Alike c (first_reach c w id (cut d past)) (first_reach c w id past)
  first-reach-alike w id [] = neither
  first-reach-alike w id (Step.Deliver turn note ∷ past) =
      first-alike c (first_reach c w id (cut d past)) (first_reach c w id past) (reaches c w id turn note (cut d past)) (reaches c w id turn note past)
      (first-reach-alike w id past) (reaches-alike c w id turn note (cut d past) past (cut-says c d differ past))
  first-reach-alike w id (e ∷ past) = go (is_of d e) (first-reach-alike w id past)
    where
      go : (b : Bool) → Alike c (first_reach c w id (cut d past)) (first_reach c w id past) → Alike c (first_reach c w id (cond b (cut d past) (e ∷ cut d past))) (first_reach c w id past)
      go true l = l
      go false l = l

  module _ (pl : Planner) (reads : Reads) (s w : ℕ) where
    found-alike : (row : Row) (a b : Option Reach) → Alike c a b → found_at pl reads c s w row a ≡ found_at pl reads c s w row b
    found-alike row _ _ neither = refl
    found-alike row _ _ (each turn note now past t) = cc (t.seat_is, t.user_is, t.marks_is)

    in-same : (past : List Step) (row : Row) → in_window pl reads c s w (cut d past) row ≡ in_window pl reads c s w past row
    in-same past row =
        let found = found-alike row (first_reach c w row.id.0 (cut d past)) (first_reach c w row.id.0 past) (first-reach-alike w row.id.0 past) in
        let marked = (cut-says c d differ past).marks_is in
        cc (found, marked)

    pub cut-window : (past : List Step) (rows : List Row) → window pl reads c s w (cut d past) rows ≡ window pl reads c s w past rows
    cut-window past [] = refl
    cut-window past (row ∷ rows) =
        ap (λ b. cond b (row ∷ window pl reads c s w (cut d past) rows) (window pl reads c s w (cut d past) rows)) (in-same past row)
        ∙ ap (λ rs. cond (in_window pl reads c s w past row) (row ∷ rs) rs) (cut-window past rows)

pub all-cut-window : (pl : Planner) (reads : Reads) (c s w : ℕ) (rows : List Row) (ds : List ℕ) (past : List Step) → AllByRecursion (λ d. ¬ (c ≡ d)) ds
    → window pl reads c s w (cut_all ds past) rows ≡ window pl reads c s w past rows
all-cut-window pl reads c s w rows [] past a = refl
all-cut-window pl reads c s w rows (d ∷ ds) past a = cut-window c d a.0 pl reads s w (cut_all ds past) rows ∙ all-cut-window pl reads c s w rows ds past a.1
