-- What a reply tells of a ruling, and a ruling of the end of a handshake.
use Rattle.std.proofs.Common.{◌≡◌, List, ℕ, subst}
use Rattle.std.proofs.Math.Logic.{∥∥₁_map}
use Rattle.ws_gate.specs.declared.verdicts.Rules.{Rules}
use Rattle.ws_gate.specs.declared.verdicts.Admission.{Admission}
use Rattle.ws_gate.specs.declared.verdicts.Denial.{Denial}
use Rattle.ws_handshake.specs.Replies.{IsLetIn, IsKeptOut, FollowsRules}
use Rattle.ws_handshake.specs.Stages.{IsRulingBy}
use Rattle.ws_handshake.specs.declared.replies.Reply.{Reply}
use Rattle.ws_handshake.specs.declared.replies.Reply.TheVariants as reply
use Rattle.ws_handshake.specs.declared.rulings.Ruling.{Ruling}
use Rattle.ws_handshake.specs.declared.rulings.Ruling.TheVariants as ruling

pub let_in : (head : List ℕ) (rules : Rules) (r : Reply) (admission : Admission) (answer : _) → FollowsRules head rules r → r ≡ reply.Admitted admission answer
    → ∥ IsRulingBy rules (ruling.LetIn admission answer) ∥₁
let_in head rules r admission answer follows is = ∣ (head, subst (λ (x : Reply). FollowsRules head rules x) is follows) ∣₁

pub kept_out : (head : List ℕ) (rules : Rules) (r : Reply) (denial : Denial) → FollowsRules head rules r → r ≡ reply.Denied denial
    → ∥ IsRulingBy rules (ruling.KeptOut denial) ∥₁
kept_out head rules r denial follows is = ∣ (head, subst (λ (x : Reply). FollowsRules head rules x) is follows) ∣₁

pub done : (rules : Rules) (r : Ruling) (admission : Admission) (answer : _) → ∥ IsRulingBy rules r ∥₁ → r ≡ ruling.LetIn admission answer
    → ∥ ((head : List ℕ) × (bytes : List ℕ) × IsLetIn head rules admission bytes) ∥₁
done rules r admission answer by is =
    ∥∥₁_map (subst (λ (x : Ruling). ∥ IsRulingBy rules x ∥₁) is by) (λ found. (found.0, answer.items, found.1))

pub denied : (rules : Rules) (r : Ruling) (denial : Denial) → ∥ IsRulingBy rules r ∥₁ → r ≡ ruling.KeptOut denial
    → ∥ ((head : List ℕ) × IsKeptOut head rules denial) ∥₁
denied rules r denial by is = subst (λ (x : Ruling). ∥ IsRulingBy rules x ∥₁) is by
