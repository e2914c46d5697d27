-- Which turn takes a want, and the mark of its hold. Read over a journal, newest entry first.
use Rattle.std.specs.Prelude.{ℕ, ◌+◌, ◌==◌, cond, List, [], ◌∷◌, ◌++◌, length, Option, None, Some, leb}
use Rattle.cable_model.specs.declared.journals.ReadNote.{ReadNote}
use Rattle.cable_model.specs.declared.plans.Change.{Change}
use Rattle.cable_model.specs.declared.plans.Change.TheVariants as change
use Rattle.cable_model.specs.Steps.{Step, Boot, Open, Finish, Ask, Deliver}

-- how many wants a change makes
abbrev pub makes : Change → ℕ
makes change.Nothing = 0
makes (change.Add identifier streams) = length streams
makes (change.Streams identifier stops streams) = length streams
makes (change.Remove identifier) = 0
makes change.Close = 0

-- how many wants the Finishes of c have made
abbrev pub made : ℕ → List Step → ℕ
made c [] = 0
made c (Finish d puts plan ∷ past) = cond (d == c) (made c past + makes plan.change) (made c past)
made c (_ ∷ past) = made c past

-- the user that c was opened with, if it was opened with one
abbrev pub user_of : ℕ → List Step → Option (List ℕ)
user_of c [] = None
user_of c (Open d token user ∷ past) = cond (d == c) user (user_of c past)
user_of c (_ ∷ past) = user_of c past

-- what stood before the last Ask
abbrev pub at_ask : List Step → List Step
at_ask [] = []
at_ask (Ask turn ∷ past) = past
at_ask (_ ∷ past) = at_ask past

-- a turn that was not missed: how many wants of a connection its Ask found made, and the table's last id at its Read
pub record Mark : Type 0 where
  pub seen : ℕ
  pub last : ℕ

-- what c has of a turn. One that began before c was opened has nothing of it, and a missed one neither
abbrev pub marked : (user : Option (List ℕ)) → (seen : ℕ) → ReadNote → List Mark
marked None seen note = []
marked (Some user) seen note = cond note.failed [] (record { seen = seen; last = note.last.0 } ∷ [])

-- the turn whose Deliver stands behind this past. Wants are numbered as they are made, so the turn takes those up to `seen` that no earlier turn took
abbrev pub turn_mark : ℕ → ReadNote → List Step → List Mark
turn_mark c note past = marked (user_of c (at_ask past)) (made c (at_ask past)) note

-- the turns of c that were not missed, in order
abbrev pub marks : ℕ → List Step → List Mark
marks c [] = []
marks c (Deliver turn note ∷ past) = marks c past ++ turn_mark c note past
marks c (_ ∷ past) = marks c past

-- the first of these turns that found the want made takes it: its last id is the mark of the want's hold. The connection's own want is number 0
abbrev pub mark_of : ℕ → List Mark → Option ℕ
mark_of w [] = None
mark_of w (t ∷ ts) = cond (leb w t.seen) (Some t.last) (mark_of w ts)

-- where the node's next turn begins
abbrev pub lower : List Step → ℕ
lower [] = 0
lower (Boot last ∷ past) = last
lower (Deliver turn note ∷ past) = cond note.failed (lower past) note.upto.0
lower (_ ∷ past) = lower past
