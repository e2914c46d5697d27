use Rattle.std.proofs.Common.{◌≡◌, ℕ, List, ◌++◌, codes, decimal, ap, ◌∙◌, append_assoc, sym}
use Rattle.std.proofs.lemmas.Result.{IfOk-weaker}
use Rattle.replay_cli.specs.Made.{Draw, subscribe_text}
use Rattle.replay_cli.specs.contracts.draws.Draw.{the_view}
use Rattle.replay_cli.proofs.draws.Draw.subscribe.Goals as goal

-- the room's number stands in the identifier, and the identifier in the text
subscribe_is : (d : Draw) (text : List ℕ) → text ≡ codes "{\"command\":\"subscribe\",\"identifier\":\"{\\\"channel\\\":\\\"Chat\\\",\\\"room\\\":" ++ (decimal d.room ++ (codes "}\"" ++ codes "}")) → text ≡ subscribe_text d
subscribe_is d text e = e ∙ ap (λ (t : List ℕ). codes "{\"command\":\"subscribe\",\"identifier\":\"{\\\"channel\\\":\\\"Chat\\\",\\\"room\\\":" ++ t) (sym (append_assoc (decimal d.room) (codes "}\"") (codes "}")))

pub returns : goal.returns
returns c =
    IfOk-weaker c.of.result _ _ (λ t is. subscribe_is (the_view c.self.inside) _ (is ∙ c.in_ok-format.ensures.ok) ∙ ap subscribe_text c.self.view_is) c.of.ensures
