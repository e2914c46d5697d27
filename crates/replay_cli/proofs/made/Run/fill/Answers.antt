use Rattle.std.proofs.Common.{◌+◌, ◌-◌, List, ◌∷◌, subst}
use Rattle.cable_model.specs.declared.verbs.Verb.{Verb}
use Rattle.replay_cli.specs.Made.{node_no, opening, opens}
use Rattle.replay_cli.specs.MadeRuns.{IsUpTo, boots, coming}
use Rattle.replay_cli.proofs.MadeLines.{all_left, coming-next, coming-none, none_left, one_more, opening-coming}
use Rattle.replay_cli.proofs.made.Run.fill.Goals as goal

pub loop-client-init : goal.loop-client-init
loop-client-init c =
    let start = subst (λ (rest : List Verb). IsUpTo opening rest c.args.self.now.world c.args.self.now.world c.args.self.now.tally c.args.self.now.tally) opening-coming (all_left opening c.args.self.now.world c.args.self.now.tally) in
    one_more opening (boots (node_no 2)) (coming 8 1) _ _ _ _ _ _ (one_more opening (boots (node_no 1)) (boots (node_no 2) ∷ coming 8 1) _ _ _ _ _ _ start c.in_ok-boot.ensures) c.in_ok-boot-2.ensures

pub loop-client-preserved : goal.loop-client-preserved
loop-client-preserved c =
    let client = c.loop-client.client in
    one_more opening (opens client) (coming (9 - (client + 1)) (client + 1)) _ _ _ _ _ _
    (subst (λ (rest : List Verb). IsUpTo opening rest c.args.self.now.world c.loop-client.self.world c.args.self.now.tally c.loop-client.self.tally) (coming-next client c.loop-client-test.true) c.loop-client.invariant)
    c.in_ok-open.ensures

pub returns : goal.returns
returns c = none_left opening _ _ _ _ _ (coming-none c.loop-client.client c.loop-client-test.false) c.loop-client.invariant
