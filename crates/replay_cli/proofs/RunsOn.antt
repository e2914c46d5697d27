-- Events that are run one behind the other say what they say together.
use Rattle.std.proofs.Common.{◌≡◌, ℕ, ◌+◌, List, [], ◌∷◌, ◌++◌, refl, sym, ap, subst, ◌∙◌, append_assoc, append-nil, length-append, arith}
use Rattle.std.proofs.lemmas.Grind.{flat_map-append}
use Rattle.channel_book.specs.Shapes.{Declared}
use Rattle.cable_model.specs.declared.events.Event.{Event}
use Rattle.cable_model.specs.declared.lines.Line.{Line}
use Rattle.cable_model.specs.History.{Rules, World, start, happen, run}
use Rattle.cable_model.specs.Script.{rules_of}
use Rattle.cable_model.specs.declared.lines.Totals.{Totals}
use Rattle.cable_model.specs.Transcript.{said, said_all, idle_count, lines_text, line_text, ended, with_line, with_lines}
use Rattle.node_world.specs.Worlds.{WorldState, StandsFor, after}
use Rattle.replay_cli.specs.declared.running.Tally.{Tally}
use Rattle.replay_cli.specs.Running.{CountsAs, RunsAs}

pub run-append : (r : Rules) (w : World) (es fs : List Event) → run r w (es ++ fs) ≡ run r (run r w es) fs
run-append r w [] fs = refl
run-append r w (e ∷ es) fs = run-append r (happen r w e) es fs

pub said_all-append : (r : Rules) (w : World) (es fs : List Event) → said_all r w (es ++ fs) ≡ said_all r w es ++ said_all r (run r w es) fs
said_all-append r w [] fs = refl
said_all-append r w (e ∷ es) fs =
    ap (λ ls. said r w e ++ ls) (said_all-append r (happen r w e) es fs) ∙ sym (append_assoc (said r w e) (said_all r (happen r w e) es) (said_all r (run r (happen r w e) es) fs))

pub idle_count-append : (r : Rules) (w : World) (es fs : List Event) → idle_count r w (es ++ fs) ≡ idle_count r w es + idle_count r (run r w es) fs
idle_count-append r w [] fs = omega arith
idle_count-append r w (e ∷ es) fs = omega (arith, idle_count-append r (happen r w e) es fs)

pub lines_text-append : (xs ys : List Line) → lines_text (xs ++ ys) ≡ lines_text xs ++ lines_text ys
lines_text-append xs ys = flat_map-append (λ l. ended (line_text l)) xs ys

pub with_lines-append : (t : Totals) (xs ys : List Line) → with_lines t (xs ++ ys) ≡ with_lines (with_lines t xs) ys
with_lines-append t [] ys = refl
with_lines-append t (x ∷ xs) ys = with_lines-append (with_line t x) xs ys

-- the totals of events that follow others
pub totals-append : (r : Rules) (w : World) (es fs : List Event) (t0 t1 t2 : Totals) → t1 ≡ with_lines t0 (said_all r w es) → t2 ≡ with_lines t1 (said_all r (run r w es) fs)
    → t2 ≡ with_lines t0 (said_all r w (es ++ fs))
totals-append r w es fs t0 t1 t2 p q =
    let first = said_all r w es in
    let second = said_all r (run r w es) fs in
    q ∙ ap (λ t. with_lines t second) p ∙ sym (with_lines-append t0 first second) ∙ ap (with_lines t0) (sym (said_all-append r w es fs))

-- what events say behind others that were run under the same book
pub said_on : (old new : WorldState) (before es fs : List Event) → new.book ≡ old.book
    → said_all (rules_of new.book) (after new (before ++ es)) fs ≡ said_all (rules_of old.book) (run (rules_of old.book) (after old before) es) fs
said_on old new before es fs e =
    ap (λ (b : Declared). said_all (rules_of b) (run (rules_of b) start (before ++ es)) fs) e ∙ ap (λ (w : World). said_all (rules_of old.book) w fs) (run-append (rules_of old.book) start before es)

-- and how many of them are idle
pub idle_on : (old new : WorldState) (before es fs : List Event) → new.book ≡ old.book
    → idle_count (rules_of new.book) (after new (before ++ es)) fs ≡ idle_count (rules_of old.book) (run (rules_of old.book) (after old before) es) fs
idle_on old new before es fs e =
    ap (λ (b : Declared). idle_count (rules_of b) (run (rules_of b) start (before ++ es)) fs) e ∙ ap (λ (w : World). idle_count (rules_of old.book) w fs) (run-append (rules_of old.book) start before es)

-- events that were counted one behind the other are counted together
pub counts_on : (es fs : List Event) (w0 w1 w2 : WorldState) (a0 a1 a2 : Tally) → w1.book ≡ w0.book → CountsAs es w0 w1 a0 a1 → CountsAs fs w1 w2 a1 a2 → CountsAs (es ++ fs) w0 w2 a0 a2
counts_on es fs w0 w1 w2 a0 a1 a2 e p q =
    let r = rules_of w0.book in
    record {
      counted = omega (arith, p.counted, q.counted, length-append es fs);
      idle = λ before s. omega (arith, p.idle before s, q.idle (before ++ es) (p.stands before s), idle_on w0 w1 before es fs e, idle_count-append r (after w0 before) es fs);
      totals = λ before s.
          totals-append r (after w0 before) es fs a0.totals a1.totals a2.totals (p.totals before s)
          (q.totals (before ++ es) (p.stands before s) ∙ ap (with_lines a1.totals) (said_on w0 w1 before es fs e));
      stands = λ before s. subst (λ (x : List Event). StandsFor w2 x) (append_assoc before es fs) (q.stands (before ++ es) (p.stands before s));
    }

-- and those that were run
pub runs_on : (es fs : List Event) (w0 w1 w2 : WorldState) (t0 t1 t2 : List ℕ) (a0 a1 a2 : Tally) → w1.book ≡ w0.book → RunsAs es w0 w1 t0 t1 a0 a1 → RunsAs fs w1 w2 t1 t2 a1 a2 → RunsAs (es ++ fs) w0 w2 t0 t2 a0 a2
runs_on es fs w0 w1 w2 t0 t1 t2 a0 a1 a2 e p q =
    let r = rules_of w0.book in
    record {
      counts = counts_on es fs w0 w1 w2 a0 a1 a2 e p.counts q.counts;
      wrote = λ before s.
          let w = after w0 before in
          let first = lines_text (said_all r w es) in
          let second = lines_text (said_all r (run r w es) fs) in
          q.wrote (before ++ es) (p.counts.stands before s) ∙ ap (λ (ls : List Line). t1 ++ lines_text ls) (said_on w0 w1 before es fs e)
          ∙ ap (λ (t : List ℕ). t ++ second) (p.wrote before s) ∙ append_assoc t0 first second
          ∙ ap (λ (t : List ℕ). t0 ++ t) (sym (lines_text-append (said_all r w es) (said_all r (run r w es) fs)) ∙ ap lines_text (sym (said_all-append r w es fs)));
    }

-- no events are counted
pub counts_none : (w : WorldState) (a : Tally) → CountsAs [] w w a a
counts_none w a =
    record {
      counted = omega arith;
      idle = λ before s. omega arith;
      totals = λ before s. refl;
      stands = λ before s. subst (λ (x : List Event). StandsFor w x) (sym (append-nil before)) s;
    }

pub runs_none : (w : WorldState) (t : List ℕ) (a : Tally) → RunsAs [] w w t t a a
runs_none w t a = record { counts = counts_none w a; wrote = λ before s. sym (append-nil t) }
