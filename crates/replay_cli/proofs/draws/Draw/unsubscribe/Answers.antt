use Rattle.std.proofs.Common.{◌≡◌, ℕ, List, ◌++◌, codes, decimal, ap, ◌∙◌, append_assoc, sym}
use Rattle.std.proofs.lemmas.Result.{IfOk-weaker}
use Rattle.replay_cli.specs.Made.{Draw, unsubscribe_text}
use Rattle.replay_cli.specs.contracts.draws.Draw.{the_view}
use Rattle.replay_cli.proofs.draws.Draw.unsubscribe.Goals as goal

-- the room's number stands in the identifier, and the identifier in the text
unsubscribe_is : (d : Draw) (text : List ℕ) → text ≡ codes "{\"command\":\"unsubscribe\",\"identifier\":\"{\\\"channel\\\":\\\"Chat\\\",\\\"room\\\":" ++ (decimal d.room ++ (codes "}\"" ++ codes "}")) → text ≡ unsubscribe_text d
unsubscribe_is d text e = e ∙ ap (λ (t : List ℕ). codes "{\"command\":\"unsubscribe\",\"identifier\":\"{\\\"channel\\\":\\\"Chat\\\",\\\"room\\\":" ++ t) (sym (append_assoc (decimal d.room) (codes "}\"") (codes "}")))

pub returns : goal.returns
returns c =
    IfOk-weaker c.of.result _ _ (λ t is. unsubscribe_is (the_view c.self.inside) _ (is ∙ c.in_ok-format.ensures.ok) ∙ ap unsubscribe_text c.self.view_is) c.of.ensures
