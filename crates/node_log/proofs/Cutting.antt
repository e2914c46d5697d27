-- A history that gains an entry is the journal with this entry, and one that loses the entries of a connection is the journal without them.
use Rattle.std.proofs.Common.{◌≡◌, ℕ, true, false, not, cond, ◌||◌, List, [], ◌∷◌, ◌++◌, length, refl, arith}
use Rattle.cable_base.specs.declared.numbers.ConnNo.{ConnNo}
use Rattle.cable_model.specs.declared.journals.Beside.{Beside}
use Rattle.cable_model.specs.declared.journals.Entry.{Entry}
use Rattle.cable_model.specs.declared.journals.Entry.TheVariants as entry
use Rattle.cable_model.specs.Journal.{cut, is_of, laid, step_of}
use Rattle.cable_model.specs.Steps.{Step}
use Rattle.node_log.specs.Logs.{beside_left, is_entry_of, left_of}

pub laid-push : (past : List Step) (log : List Entry) (beside : List Beside) (e : Entry) (b : Beside) → length log ≡ length beside
    → laid past (log ++ e ∷ []) (beside ++ b ∷ []) ≡ step_of e b ∷ laid past log beside
laid-push past [] [] e b even = refl
laid-push past [] (y ∷ bs) e b even = absurd cc
laid-push past (x ∷ es) [] e b even = absurd cc
laid-push past (x ∷ es) (y ∷ bs) e b even = laid-push (step_of x y ∷ past) es bs e b (omega (arith, even))

-- whose an entry is does not hang on what is kept beside it
same-of : (c : ℕ) (e : Entry) (b : Beside) → is_of c (step_of e b) ≡ is_entry_of c e
same-of c (entry.Boot last) b = refl
same-of c (entry.Open conn token) b = refl
same-of c (entry.In conn text) b = refl
same-of c (entry.Drop conn) b = refl
same-of c entry.Stop b = refl
same-of c (entry.Take conn) b = refl
same-of c (entry.Finish conn puts) b = refl
same-of c (entry.Ask turn) b = refl
same-of c (entry.Deliver turn note) b = refl
same-of c (entry.Beat now) b = refl

abbrev only : ℕ → List ConnNo
only c = record { 0 = c } ∷ []

pub laid-cut : (c : ℕ) (past : List Step) (es : List Entry) (bs : List Beside) → length es ≡ length bs
    → laid (cut c past) (left_of (only c) es) (beside_left c es bs) ≡ cut c (laid past es bs)
laid-cut c past [] bs even = refl
laid-cut c past (e ∷ es) [] even = absurd cc
laid-cut c past (e ∷ es) (b ∷ bs) even =
    (elim (is_entry_of c e) as (λ t. is_of c (step_of e b) ≡ t
    → laid (cut c past) (cond (not (t || false)) (e ∷ left_of (only c) es) (left_of (only c) es)) (cond t (beside_left c es bs) (b ∷ beside_left c es bs))
    ≡ cut c (laid (step_of e b ∷ past) es bs)) [
      | true ↦ λ s. rw s at (laid-cut c (step_of e b ∷ past) es bs (omega (arith, even)))
      | false ↦ λ s. rw s at (laid-cut c (step_of e b ∷ past) es bs (omega (arith, even)))
    ]) (same-of c e b)

-- as many are left of the one as of the other
pub even-left : (c : ℕ) (es : List Entry) (bs : List Beside) → length es ≡ length bs → length (left_of (only c) es) ≡ length (beside_left c es bs)
even-left c [] bs even = refl
even-left c (e ∷ es) [] even = absurd cc
even-left c (e ∷ es) (b ∷ bs) even =
    elim (is_entry_of c e) as (λ t. length (cond (not (t || false)) (e ∷ left_of (only c) es) (left_of (only c) es)) ≡ length (cond t (beside_left c es bs) (b ∷ beside_left c es bs))) [
      | true ↦ even-left c es bs (omega (arith, even))
      | false ↦ omega (arith, even-left c es bs (omega (arith, even)))
    ]
