use Rattle.std.proofs.Common.{◌∙◌, ◌≡◌, ◌≤◌, ap, length, not, rules, subst, sym, take}
use Rattle.std.proofs.lemmas.Fn.{filter_same}
use Rattle.node_seats.specs.Turned.{is_by}
use Rattle.node_turns.specs.Wants.{WantsState, wanted_but}
use Rattle.node_turns.proofs.Wishing.{but-within}
use Rattle.node_turns.proofs.wants.Wants.drop_those_of.Goals as goal

left : (c : goal.After-retain) → c.retain.new.self.items ≡ wanted_but c.args.conn.0 c.self.inside.wanted.items
left c = filter_same _ (λ w. not (is_by c.args.conn.0 w)) _ (λ x b f' k. search rules) _ _ c.retain.ensures.filtered

pub returns-clause-wanted : goal.returns-clause-wanted
returns-clause-wanted c = left c ∙ ap (λ (w : WantsState). wanted_but c.args.conn.0 w.wanted) c.self.view_is

pub invariant_of-self : goal.invariant_of-self
invariant_of-self c =
    let state = c.args.self.now in
    subst (λ n. n ≤ length c.retain.new.self.items) (sym c.taken_but-self-inside.ensures)
    (subst (λ ws. length (wanted_but c.args.conn.0 (take state.taken state.wanted)) ≤ length ws) (sym (returns-clause-wanted c))
    (but-within c.args.conn.0 state.taken state.wanted))
