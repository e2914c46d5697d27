use Rattle.std.proofs.Common.{◌≡◌, ℕ, List, ◌++◌, codes, decimal, ap, ◌∙◌, append_assoc}
use Rattle.std.proofs.lemmas.Result.{IfOk-weaker}
use Rattle.replay_cli.specs.Made.{Draw, speak_text}
use Rattle.replay_cli.specs.contracts.draws.Draw.{the_view}
use Rattle.replay_cli.proofs.draws.Draw.speak.Goals as goal

regroup : (p q b n c : List ℕ) → p ++ (q ++ (b ++ (n ++ c))) ≡ (((p ++ q) ++ b) ++ n) ++ c
regroup p q b n c = simp append_assoc

-- the room's number stands in the identifier, and the identifier in the text
speak_is : (d : Draw) (text : List ℕ) → text ≡ codes "{\"command\":\"message\",\"identifier\":\"{\\\"channel\\\":\\\"Chat\\\",\\\"room\\\":" ++ (decimal d.room ++ (codes "}\"" ++ (codes ",\"data\":\"{\\\"action\\\":\\\"speak\\\",\\\"i\\\":" ++ (decimal d.place ++ codes "}\"}")))) → text ≡ speak_text d
speak_is d text e = e ∙ ap (λ (t : List ℕ). codes "{\"command\":\"message\",\"identifier\":\"{\\\"channel\\\":\\\"Chat\\\",\\\"room\\\":" ++ t) (regroup (decimal d.room) (codes "}\"") (codes ",\"data\":\"{\\\"action\\\":\\\"speak\\\",\\\"i\\\":") (decimal d.place) (codes "}\"}"))

pub returns : goal.returns
returns c =
    IfOk-weaker c.of.result _ _ (λ t is. speak_is (the_view c.self.inside) _ (is ∙ c.in_ok-format.ensures.ok) ∙ ap speak_text c.self.view_is) c.of.ensures
