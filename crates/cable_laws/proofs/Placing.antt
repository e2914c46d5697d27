-- The mark of a hold is the table's last id at the Read of the turn that placed it.
use Rattle.std.proofs.Common.{ℕ, ◌≡◌, cond, List, [], ◌∷◌, Some, None, Option, refl, ap, ◌∙◌, is_some}
use Rattle.std.specs.Prelude.{option_map}
use Rattle.cable_model.specs.Steps.{Step}
use Rattle.cable_model.specs.Wants.{marks, mark_of, turn_mark}
use Rattle.cable_model.specs.Table.{TableStep}
use Rattle.cable_model.specs.HistoryLaws.{last_at, first_turn, placing}
use Rattle.cable_model.proofs.Marks.{first_mark, mark_of-append, turn-mark}
use Rattle.cable_model.proofs.NodeSound.{LastsAre}

pub mark-placed : (n : ℕ) (table : List TableStep) (c w : ℕ) (past : List Step) → LastsAre n table past → mark_of w (marks c past) ≡ option_map (λ t. last_at n t table) (placing c w past)
mark-placed n table c w [] l = refl
mark-placed n table c w (Step.Deliver turn note ∷ past) l =
    mark_of-append w (marks c past) (turn_mark c note past)
    ∙ (ap (λ o. first_mark o (mark_of w (turn_mark c note past))) (mark-placed n table c w past l.1) ∙ go (placing c w past) (mark_of w (turn_mark c note past)) refl)
  where
    go : (p o : Option ℕ) → mark_of w (turn_mark c note past) ≡ o
        → first_mark (option_map (λ t. last_at n t table) p) o ≡ option_map (λ t. last_at n t table) (first_turn p (cond (is_some o) (Some turn) None))
    go (Some t) o e = refl
    go None None e = refl
    go None (Some m) e = let t = turn-mark c w m note past e in ap (λ x. Some x) (t.0 ∙ l.0 t.2)
mark-placed n table c w (_ ∷ past) l = mark-placed n table c w past l.1
