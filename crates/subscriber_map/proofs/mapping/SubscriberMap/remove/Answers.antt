use Rattle.std.proofs.Common.{Some, None, sym, ap, ◌∙◌}
use Rattle.std.specs.List.{list_any}
use Rattle.subscriber_map.specs.Holds.{is_of}
use Rattle.subscriber_map.specs.Entries.{map_of}
use Rattle.subscriber_map.proofs.ByName.{got, holds_got, held_as, puts, puts_through, puts_over, entries_kept, left_nowhere, left_none, left_some, some_left}
use Rattle.subscriber_map.proofs.mapping.SubscriberMap.remove.Goals.{in-Some-1, in-None-1}
use Rattle.subscriber_map.proofs.mapping.SubscriberMap.remove.Goals as goal

pub returns-in_default-clause-was : goal.returns-in_default-clause-was
returns-in_default-clause-was c = ap (list_any (is_of c.args.conn c.args.want)) (sym (holds_got c.args.name.now c.self.inside.names.entries c.args.self.now None c.self.view_is c.in_default.ensures.value))

pub returns-in_default-clause-left : goal.returns-in_default-clause-left
returns-in_default-clause-left c =
    ap (λ m. map_of m.entries) c.get_mut.follows.holds-at-none
    ∙ (c.self.view_is ∙ left_nowhere c.args.conn c.args.want c.args.name.now c.args.self.now (got c.args.name.now c.self.inside.names.entries c.args.self.now None c.self.view_is c.in_default.ensures.value))

pub invariant_of-self-then-is_empty : goal.invariant_of-self-then-is_empty
invariant_of-self-then-is_empty c = entries_kept c.args.name.now None c.self.inside.names.entries c.swap_remove.new.self.entries c.self.invariant
    (puts_over c.args.name.now (Some (record { hash = c.in-Some.held.now.hash; holds = c.remove-was.new.self })) None c.self.inside.names.entries (c.get_mut.follows.lender (record { hash = c.in-Some.held.now.hash; holds = c.remove-was.new.self })).entries c.swap_remove.new.self.entries
    (puts_through c.self.inside.names _ c.args.name.now c.in-Some.held.now _ c.in-Some.ensures.value (c.get_mut.follows.holds (record { hash = c.in-Some.held.now.hash; holds = c.remove-was.new.self })))
    (puts (c.get_mut.follows.lender (record { hash = c.in-Some.held.now.hash; holds = c.remove-was.new.self })) c.swap_remove.new.self c.args.name.now None c.swap_remove.ensures.updates))
    tt

pub invariant_of-self-else-is_empty : goal.invariant_of-self-else-is_empty
invariant_of-self-else-is_empty c =
    entries_kept c.args.name.now (Some (record { hash = c.in-Some.held.now.hash; holds = c.remove-was.new.self })) c.self.inside.names.entries _ c.self.invariant
    (puts_through c.self.inside.names _ c.args.name.now c.in-Some.held.now _ c.in-Some.ensures.value (c.get_mut.follows.holds (record { hash = c.in-Some.held.now.hash; holds = c.remove-was.new.self })))
    (record { hash = (held_as c.args.name.now c.self.inside.names.entries c.in-Some.held.now c.self.invariant c.in-Some.ensures.value).hash; held = some_left c.remove-was.new.self (sym c.is_empty.ensures ∙ c.if-is_empty.false) })

pub returns-then-is_empty-clause-was : goal.returns-then-is_empty-clause-was
returns-then-is_empty-clause-was c = c.remove-was.ensures.was ∙ ap (list_any (is_of c.args.conn c.args.want)) (sym (holds_got c.args.name.now c.self.inside.names.entries c.args.self.now (Some c.in-Some.held.now) c.self.view_is c.in-Some.ensures.value))

pub returns-then-is_empty-clause-left : goal.returns-then-is_empty-clause-left
returns-then-is_empty-clause-left c =
    let left = left_none c.args.conn c.args.want c.args.name.now c.in-Some.held.now c.remove-was.new.self c.self.inside.names.entries c.swap_remove.new.self.entries c.args.self.now c.self.view_is c.in-Some.ensures.value c.remove-was.ensures.left
    (sym c.is_empty.ensures ∙ c.if-is_empty.true)
    (puts_over c.args.name.now (Some (record { hash = c.in-Some.held.now.hash; holds = c.remove-was.new.self })) None c.self.inside.names.entries (c.get_mut.follows.lender (record { hash = c.in-Some.held.now.hash; holds = c.remove-was.new.self })).entries c.swap_remove.new.self.entries
    (puts_through c.self.inside.names _ c.args.name.now c.in-Some.held.now _ c.in-Some.ensures.value (c.get_mut.follows.holds (record { hash = c.in-Some.held.now.hash; holds = c.remove-was.new.self })))
    (puts (c.get_mut.follows.lender (record { hash = c.in-Some.held.now.hash; holds = c.remove-was.new.self })) c.swap_remove.new.self c.args.name.now None c.swap_remove.ensures.updates)) in
    elim c.match-swap_remove.branch [
      | in-Some-1 w ↦ w.self-is ∙ left
      | in-None-1 w ↦ w.self-is ∙ left
    ]

pub returns-else-is_empty-clause-was : goal.returns-else-is_empty-clause-was
returns-else-is_empty-clause-was c = c.remove-was.ensures.was ∙ ap (list_any (is_of c.args.conn c.args.want)) (sym (holds_got c.args.name.now c.self.inside.names.entries c.args.self.now (Some c.in-Some.held.now) c.self.view_is c.in-Some.ensures.value))

pub returns-else-is_empty-clause-left : goal.returns-else-is_empty-clause-left
returns-else-is_empty-clause-left c =
    left_some c.args.conn c.args.want c.args.name.now c.in-Some.held.now (record { hash = c.in-Some.held.now.hash; holds = c.remove-was.new.self }) c.self.inside.names.entries _ c.args.self.now c.self.view_is c.in-Some.ensures.value c.remove-was.ensures.left
    (sym c.is_empty.ensures ∙ c.if-is_empty.false)
    (puts_through c.self.inside.names _ c.args.name.now c.in-Some.held.now _ c.in-Some.ensures.value (c.get_mut.follows.holds (record { hash = c.in-Some.held.now.hash; holds = c.remove-was.new.self })))
