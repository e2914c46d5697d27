-- The end of a whole script.
use Rattle.std.proofs.Common.{◌≡◌, ℕ, List, [], ◌++◌, refl, sym, ap, subst, ◌∙◌, append_assoc, append-nil}
use Rattle.cable_model.specs.Breaks.{GoodLines, Nothing, Header, Session, Splits}
use Rattle.cable_model.specs.Script.{Script, IsScript, events_of, rules_of}
use Rattle.replay_cli.specs.declared.modes.Mode.{Mode}
use Rattle.replay_cli.specs.declared.modes.Mode.TheVariants as mode
use Rattle.replay_cli.specs.declared.replaying.Replaying.{Replaying}
use Rattle.replay_cli.specs.declared.running.Tally.{Tally}
use Rattle.replay_cli.specs.declared.stages.Stage.TheVariants as stage
use Rattle.replay_cli.specs.declared.stages.Work.{Work}
use Rattle.replay_cli.specs.declared.stages.Work.TheVariants as work
use Rattle.replay_cli.specs.Modes.{written, tail_of, tail_lines}
use Rattle.replay_cli.specs.Reading.{HasRead, HasReplayed}
use Rattle.replay_cli.specs.Running.{IsTallyOf}
use Rattle.replay_cli.specs.Stages.{IsAt}

-- what stands behind the lines is told by the counts
tail_is : (m : Mode) (s : Script) (tally : Tally) → IsTallyOf (rules_of s.book) (events_of s) tally → tail_lines m tally.events tally.idle tally.totals ≡ tail_of m s
tail_is mode.Transcript s tally t = rw (t.counted, t.idle) refl
tail_is mode.Totals s tally t = rw (t.counted, t.idle, t.totals) refl
tail_is mode.Print s tally t = refl

-- what is written behind the lines where they were worked so
abbrev pub tail_for : Mode → Work → List ℕ
tail_for m (work.Run world tally) = tail_lines m tally.events tally.idle tally.totals
tail_for m work.Print = []

tail_for_is : (m : Mode) (s : Script) (next : ℕ) (w : Work) → IsAt m (Session s) (stage.Lines next w) → tail_for m w ≡ tail_of m s
tail_for_is mode.Transcript s next (work.Run world tally) at = tail_is mode.Transcript s tally at.1.1
tail_for_is mode.Totals s next (work.Run world tally) at = tail_is mode.Totals s tally at.1.1
tail_for_is mode.Print s next (work.Run world tally) at = refl
tail_for_is mode.Transcript s next work.Print at = absurd at.1
tail_for_is mode.Totals s next work.Print at = absurd at.1
tail_for_is mode.Print s next work.Print at = refl

script_of : (given rest : List ℕ) (s : Script) → Splits given (Session s) rest → rest ≡ [] → IsScript given s
script_of given rest s p e = subst (λ (b : List ℕ). IsScript b s) (sym (p.parts ∙ ap (λ (x : List ℕ). p.before ++ x) e ∙ append-nil p.before)) p.good

wrote_all : (m m' : Mode) (s : Script) (taken out out' tail : List ℕ) → m' ≡ m → out' ≡ out ++ tail → tail ≡ tail_of m s → taken ++ out ≡ written m (Session s)
    → taken ++ out' ≡ written m' (Session s) ++ tail_of m' s
wrote_all m m' s taken out out' tail e f t h =
    rw e (ap (λ (x : List ℕ). taken ++ x) f ∙ sym (append_assoc taken out tail) ∙ ap (λ (x : List ℕ). x ++ tail) h ∙ ap (λ (x : List ℕ). written m (Session s) ++ x) t)

replayed : (lines : GoodLines) (m : Mode) (given rest taken out : List ℕ) (next : ℕ) (w : Work) (new : Replaying) → Splits given lines rest → rest ≡ [] → IsAt m lines (stage.Lines next w)
    → taken ++ out ≡ written m lines → new.mode ≡ m → new.stage ≡ stage.Lines next w → new.out.items ≡ out ++ tail_for m w → HasReplayed given taken new
replayed Nothing m given rest taken out next w new p e at h mode stage tail = absurd at
replayed Header m given rest taken out next w new p e at h mode stage tail = absurd at
replayed (Session s) m given rest taken out next w new p e at h mode stage tail =
    record {
      script = s;
      is_script = script_of given rest s p e;
      at = rw (mode, stage) at;
      wrote = wrote_all m new.mode s taken out new.out.items (tail_for m w) mode tail (tail_for_is m s next w at) h;
    }

-- no line has begun behind the whole lines, and what stands behind them is put to what is to be written
pub has_replayed : (given taken : List ℕ) (old new : Replaying) (next : ℕ) (w : Work) → HasRead given taken old → old.line.items ≡ [] → old.stage ≡ stage.Lines next w
    → new.mode ≡ old.mode → new.stage ≡ old.stage → new.out.items ≡ old.out.items ++ tail_for old.mode w → HasReplayed given taken new
has_replayed given taken old new next w r e at mode stage tail =
    replayed r.lines old.mode given old.line.items taken old.out.items next w new r.splits e (subst (IsAt old.mode r.lines) at r.at) r.wrote mode (stage ∙ at) tail
