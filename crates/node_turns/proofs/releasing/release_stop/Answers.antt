use Rattle.std.proofs.Common.{Bool, cond, List, [], ◌∷◌, map, ℕ, ap, sym, ◌∙◌}
use Rattle.cable_model.specs.Connection.{among}
use Rattle.subscriber_map.specs.HoldMaps.{without_at}
use Rattle.node_turns.specs.Holding.{named, without_all}
use Rattle.node_turns.proofs.releasing.release_stop.Goals as goal

pub returns-then-among : goal.returns-then-among
returns-then-among c =
    c.remove.ensures.left
    ∙ (ap (λ (n : List ℕ). without_at c.args.holders.now n c.args.conn c.args.stream.now.want) c.as_str-then-among.ensures
    ∙ sym (ap (λ (b : Bool). without_all c.args.conn.0 (map named (cond b (c.args.stream.now ∷ []) [])) c.args.holders.now)
    (ap (among c.args.stops.now) (sym c.as_str.ensures) ∙ (sym c.among.ensures ∙ c.if-among.true))))
