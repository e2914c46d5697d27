use Rattle.std.proofs.Common.{◌≡◌, ◌≢◌, Bool, true, false, cond, List, [], ◌∷◌, unwrap_or, ap, sym, subst, ◌∙◌}
use Rattle.std.specs.Str.{bytes_eq}
use Rattle.std.specs.Ordering.{nat_cmp}
use Rattle.std.specs.Cmp.Lexicographic.{slice_cmp}
use Rattle.std.specs.FinMap.{get-empty}
use Rattle.std.specs.FinMap as maps
use Rattle.std.proofs.lemmas.List.Elements.{All-cons, All-nil}
use Rattle.subscriber_map.specs.declared.holding.Hold.{Hold}
use Rattle.subscriber_map.specs.Holds.{IsNewAmong, with_hold}
use Rattle.subscriber_map.specs.HoldMaps.{HoldMap, holds_at}
use Rattle.node_turns.specs.declared.placing.Placing.{Placing}
use Rattle.node_turns.specs.Holding.{AreNew}
use Rattle.node_turns.proofs.PlacingHolds.{holds-placed, IsOther}
use Rattle.node_parts_tests.proofs.node_turns_placing_tests.hold_two.Goals as goal

none-held : (m : HoldMap) (name : List _) → m ≡ maps.empty → holds_at m name ≡ []
none-held m name e = ap (λ n. holds_at n name) e ∙ ap (λ o. unwrap_or o []) (get-empty (slice_cmp nat_cmp) name)

two-new : (p q : Placing) (m : HoldMap) → m ≡ maps.empty → (p.hold.conn.0 ≢ q.hold.conn.0) → AreNew (p ∷ q ∷ []) m
two-new p q m e ne = (
  subst (IsNewAmong p.hold) (sym (none-held m p.name e)) (All-nil (λ (x : Hold). x.conn ≡ p.hold.conn → IsOther p.hold x)),
  (subst (IsNewAmong q.hold) (sym (holds-placed m p.name q.name p.hold ∙ ap (λ hs. cond (bytes_eq p.name q.name) (with_hold p.hold hs) hs) (none-held m q.name e))) (go (bytes_eq p.name q.name)), tt),
)
  where
    go : (b : Bool) → IsNewAmong q.hold (cond b (p.hold ∷ []) [])
    go true = All-cons (λ (x : Hold). x.conn ≡ q.hold.conn → IsOther q.hold x) p.hold [] (λ h. absurd (ne (ap (λ c. c.0) h))) (All-nil (λ (x : Hold). x.conn ≡ q.hold.conn → IsOther q.hold x))
    go false = All-nil (λ (x : Hold). x.conn ≡ q.hold.conn → IsOther q.hold x)

pub hold_all-requires : goal.hold_all-requires
hold_all-requires c = record { new = two-new c.args.first c.args.second _ c.empty-holders.ensures c.requires }
