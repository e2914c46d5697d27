-- A link in memory, whose calls can be made to fail.
use Rattle.std.specs.Prelude.{◌≡◌, ◌↔◌, ℕ, List, [], ◌∷◌, false, Result, Ok, IsErrOf, IsTrue}
use Rattle.cable_base.specs.Memory.{PlannedFailures, after_call, fails_next}
use Rattle.cable_base.specs.declared.faults.Trouble.{Trouble}
use Rattle.cable_base.specs.declared.faults.Trouble.TheVariants as trouble
use Rattle.cable_link.specs.declared.links.Came.{Came}
use Rattle.cable_link.specs.declared.links.Came.TheVariants as came

-- what is to come, what was said, which calls fail, and the count of faults so far
pub record MemTalk : Type 0 where
  pub coming : List Came
  pub said : List (List ℕ)
  pub failing : PlannedFailures
  pub faults : ℕ

-- none of these is quiet
unfoldable pub AllCome : List Came → Type 0
AllCome [] = Unit {0}
AllCome (came.Quiet ∷ cs) = ⊥
AllCome (came.Text t ∷ cs) = AllCome cs
AllCome (came.Binary ∷ cs) = AllCome cs
AllCome (came.Closed ∷ cs) = AllCome cs

-- `next` fails exactly at the calls that are to fail, and at another one it is quiet exactly where nothing is to come
pub record Gives (old : MemTalk) (result : Result Came Trouble) (new : MemTalk) : Type 0 where
  pub exact : IsErrOf result trouble.Failed ↔ IsTrue (fails_next old.failing)
  pub quiet : fails_next old.failing ≡ false → (result ≡ Ok came.Quiet ↔ old.coming ≡ [])
  pub calls : new.failing ≡ after_call old.failing

-- `say` fails exactly at the calls that are to fail
pub record Says (old : MemTalk) (text : List ℕ) (result : Result (Unit {0}) Trouble) (new : MemTalk) : Type 0 where
  pub exact : IsErrOf result trouble.Failed ↔ IsTrue (fails_next old.failing)
  pub calls : new.failing ≡ after_call old.failing
