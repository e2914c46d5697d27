use Rattle.std.proofs.Common.{List, ℕ, ◌++◌, sym, ap, ◌∙◌, append-nil}
use Rattle.std.proofs.lemmas.Bool.{eqb-true}
use Rattle.std.proofs.lemmas.List.{nil_from_length}
use Rattle.replay_cli.specs.declared.replaying.Replaying.{Replaying}
use Rattle.replay_cli.proofs.ScriptsEnd.{has_replayed, tail_for}
use Rattle.replay_cli.proofs.replaying.Replaying.end.Goals as goal
use Rattle.replay_cli.proofs.replaying.Replaying.end.Goals.{in-Run+in_ok-tail-in-Lines+in_ok-extend_from_slice-in-Lines, in_default}

pub returns-in-Lines-clause-ends : goal.returns-in-Lines-clause-ends
returns-in-Lines-clause-ends c given taken r =
    elim c.match-work.branch [
      | in-Run+in_ok-tail-in-Lines+in_ok-extend_from_slice-in-Lines w ↦ has_replayed given taken c.args.self.now c.match-work.self c.in-Lines.next c.in-Lines.work r (nil_from_length c.args.self.now.line.items (sym c.args.self.now.line.ok.0 ∙ eqb-true _ _ (sym c.if-not-is_empty.ensures))) c.in-Lines.is
          (ap (λ (x : Replaying). x.mode) w.self-is) (ap (λ (x : Replaying). x.stage) w.self-is)
          (ap (λ (x : Replaying). x.out.items) w.self-is ∙ w.in_ok-extend_from_slice-in-Lines.ensures.items ∙ ap (λ (x : List ℕ). c.args.self.now.out.items ++ x)
          (w.as_bytes.ensures.value ∙ w.as_str.ensures.value ∙ w.in_ok-tail-in-Lines.ensures ∙ sym (ap (tail_for c.args.self.now.mode) w.in-Run.is)))
      | in_default w ↦ has_replayed given taken c.args.self.now c.match-work.self c.in-Lines.next c.in-Lines.work r (nil_from_length c.args.self.now.line.items (sym c.args.self.now.line.ok.0 ∙ eqb-true _ _ (sym c.if-not-is_empty.ensures))) c.in-Lines.is
          (ap (λ (x : Replaying). x.mode) w.self-is) (ap (λ (x : Replaying). x.stage) w.self-is)
          (ap (λ (x : Replaying). x.out.items) w.self-is ∙ sym (append-nil c.args.self.now.out.items) ∙ ap (λ (x : List ℕ). c.args.self.now.out.items ++ x) (sym (ap (tail_for c.args.self.now.mode) w.in_default.is)))
    ]
