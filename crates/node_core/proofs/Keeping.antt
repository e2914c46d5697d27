-- What a log lays, and what a call promises where it succeeds.
use Rattle.std.proofs.Common.{◌≡◌, ◌+◌, List, [], ◌∷◌, length, Result, Ok, Err, IsOk, IfOk, OnOk, arith}
use Rattle.cable_model.specs.declared.journals.Beside.{Beside}
use Rattle.cable_model.specs.declared.journals.Entry.{Entry}
use Rattle.cable_model.specs.Journal.{laid, step_of}
use Rattle.cable_model.specs.Steps.{Step}

-- a log with as many things beside it lays an entry for each of its own
pub laid-length : (past : List Step) (log : List Entry) (beside : List Beside) → length log ≡ length beside → length (laid past log beside) ≡ length past + length log
laid-length past [] bs even = omega arith
laid-length past (x ∷ es) [] even = absurd cc
laid-length past (x ∷ es) (y ∷ bs) even = omega (arith, laid-length (step_of x y ∷ past) es bs (omega (arith, even)))

-- what a call promises where it succeeds, where it does
pub on-ok : {A E : Type 0} (P : Type 0) (r : Result A E) → IsOk r → OnOk r P → P
on-ok P (Ok x) is h = h
on-ok P (Err e) is h = absurd cc

-- what a call promises of what it gives, in other words
pub if-implied : {A E : Type 0} (P Q : A → Type 0) (r : Result A E) → ((x : A) → P x → Q x) → IfOk r P → IfOk r Q
if-implied P Q (Ok x) f h = f x h
if-implied P Q (Err e) f h = h
