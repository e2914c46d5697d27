use Rattle.std.proofs.Common.{Some, None, subst}
use Rattle.std.proofs.lemmas.Result.{on_ok_weaker, on_err_weaker}
use Rattle.subscriber_map.specs.Holds.{IsNewAmong}
use Rattle.subscriber_map.proofs.ByName.{got, holds_got, held_as, puts_through, puts_new, entries_kept, added, unchanged, holds_kept}
use Rattle.subscriber_map.proofs.Back.{back-nowhere, back-there}
use Rattle.subscriber_map.proofs.mapping.SubscriberMap.add.Goals as goal

pub returns-in_err-held-clause-back : goal.returns-in_err-held-clause-back
returns-in_err-held-clause-back c = back-nowhere c.args.hold c.args.name.now c.args.self.now (got c.args.name.now c.self.inside.names.entries c.args.self.now None c.self.view_is c.in_default.ensures.value)

pub returns-in_err-from_str-clause-back : goal.returns-in_err-from_str-clause-back
returns-in_err-from_str-clause-back c = back-nowhere c.args.hold c.args.name.now c.args.self.now (got c.args.name.now c.self.inside.names.entries c.args.self.now None c.self.view_is c.in_default.ensures.value)

pub returns-in_err-insert-clause-back : goal.returns-in_err-insert-clause-back
returns-in_err-insert-clause-back c = back-nowhere c.args.hold c.args.name.now c.args.self.now (got c.args.name.now c.self.inside.names.entries c.args.self.now None c.self.view_is c.in_default.ensures.value)

pub invariant_of-self-in_default : goal.invariant_of-self-in_default
invariant_of-self-in_default c =
    entries_kept c.args.name.now (Some c.in_ok-held.held) c.self.inside.names.entries c.insert.new.self.entries c.self.invariant
    (puts_new c.self.inside.names c.insert.new.self c.args.name.now c.in_ok-from_str.field-0 c.in_ok-held.held c.in_ok-from_str.ensures.ok (rw c.get_mut.follows.holds-at-none at c.in_ok-insert.ensures.updates))
    (record { hash = c.in_ok-held.ensures.hash; held = λ e. absurd (cc (e, c.in_ok-held.ensures.holds)) })

pub returns-in_default-clause-ok : goal.returns-in_default-clause-ok
returns-in_default-clause-ok c =
    added c.args.hold c.args.name.now None c.in_ok-held.held c.self.inside.names.entries c.insert.new.self.entries c.args.self.now c.self.view_is c.in_default.ensures.value
    (puts_new c.self.inside.names c.insert.new.self c.args.name.now c.in_ok-from_str.field-0 c.in_ok-held.held c.in_ok-from_str.ensures.ok (rw c.get_mut.follows.holds-at-none at c.in_ok-insert.ensures.updates))
    c.in_ok-held.ensures.holds

pub returns-in_default-clause-back : goal.returns-in_default-clause-back
returns-in_default-clause-back c = back-nowhere c.args.hold c.args.name.now c.args.self.now (got c.args.name.now c.self.inside.names.entries c.args.self.now None c.self.view_is c.in_default.ensures.value)

pub add-requires : goal.add-requires
add-requires c = subst (IsNewAmong c.args.hold) (holds_got c.args.name.now c.self.inside.names.entries c.args.self.now (Some c.in-Some.held.now) c.self.view_is c.in-Some.ensures.value) c.requires

pub invariant_of-self-2 : goal.invariant_of-self-2
invariant_of-self-2 c =
    let was = held_as c.args.name.now c.self.inside.names.entries c.in-Some.held.now c.self.invariant c.in-Some.ensures.value in
    entries_kept c.args.name.now (Some (record { hash = c.in-Some.held.now.hash; holds = c.add.new.self })) c.self.inside.names.entries _ c.self.invariant
    (puts_through c.self.inside.names _ c.args.name.now c.in-Some.held.now _ c.in-Some.ensures.value (c.get_mut.follows.holds (record { hash = c.in-Some.held.now.hash; holds = c.add.new.self })))
    (record { hash = was.hash; held = holds_kept c.args.hold c.in-Some.held.now.holds c.add.new.self c.add.result was.held c.add.ensures.ok c.add.ensures.err })

pub returns-clause-ok : goal.returns-clause-ok
returns-clause-ok c =
    on_ok_weaker c.add.result (added c.args.hold c.args.name.now (Some c.in-Some.held.now) (record { hash = c.in-Some.held.now.hash; holds = c.add.new.self }) c.self.inside.names.entries _ c.args.self.now c.self.view_is c.in-Some.ensures.value
    (puts_through c.self.inside.names _ c.args.name.now c.in-Some.held.now _ c.in-Some.ensures.value (c.get_mut.follows.holds (record { hash = c.in-Some.held.now.hash; holds = c.add.new.self })))) c.add.ensures.ok

pub returns-clause-err : goal.returns-clause-err
returns-clause-err c =
    on_err_weaker c.add.result (unchanged c.args.name.now c.in-Some.held.now (record { hash = c.in-Some.held.now.hash; holds = c.add.new.self }) c.self.inside.names.entries _ c.args.self.now c.self.view_is c.in-Some.ensures.value
    (puts_through c.self.inside.names _ c.args.name.now c.in-Some.held.now _ c.in-Some.ensures.value (c.get_mut.follows.holds (record { hash = c.in-Some.held.now.hash; holds = c.add.new.self })))) c.add.ensures.err

pub returns-clause-back : goal.returns-clause-back
returns-clause-back c =
    back-there c.args.hold c.args.name.now c.args.self.now c.in-Some.held.now.holds (got c.args.name.now c.self.inside.names.entries c.args.self.now (Some c.in-Some.held.now) c.self.view_is c.in-Some.ensures.value)
    (held_as c.args.name.now c.self.inside.names.entries c.in-Some.held.now c.self.invariant c.in-Some.ensures.value).held c.add.ensures.back
