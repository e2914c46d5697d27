-- What a script came to that was read and worked, before and behind the last write.
use Rattle.std.proofs.Common.{◌≡◌, inl, inr, ℕ, ◌≤◌, List, ◌++◌, Option, Result, Ok, Err, refl, sym, ap, subst, ◌∙◌, append_assoc, arith}
use Rattle.std.specs.Io.KnownBytes.{Appends}
use Rattle.std.proofs.KnownBytes.{Appends-trans}
use Rattle.cable_base.specs.Causes.{Rose}
use Rattle.cable_model.specs.declared.events.Event.{Event}
use Rattle.cable_model.specs.declared.statuses.Status.{Status}
use Rattle.cable_model.specs.declared.statuses.Status.TheVariants as status
use Rattle.cable_model.specs.Breaks.{GoodLines, Splits, Refuses, RefusesLine, RefusesEnd}
use Rattle.cable_model.specs.Breaks.GoodLines.{Nothing, Header, Session}
use Rattle.cable_model.specs.History.{Rules}
use Rattle.cable_model.specs.HistoryLaws.{HistoryWindows}
use Rattle.cable_model.specs.Script.{rules_of}
use Rattle.node_world.specs.Worlds.{WorldState}
use Rattle.replay_cli.specs.declared.modes.Mode.{Mode}
use Rattle.replay_cli.specs.declared.modes.Mode.TheVariants as mode
use Rattle.replay_cli.specs.declared.replaying.Replaying.{Replaying}
use Rattle.replay_cli.specs.Inputs.{Reading, Gave, GaveAll}
use Rattle.replay_cli.specs.Modes.{written, output_of}
use Rattle.replay_cli.specs.Outputs.{Writing, Took, IsFront}
use Rattle.replay_cli.specs.Reading.{HasRead, HasEnded, WroteFront, EndDoes, Flushes}
use Rattle.replay_cli.specs.Replay.{Call, ReadOutcome, HaveWindows, HandsOut, Worked, WroteSome, Broke, Met, Hands}
use Rattle.replay_cli.specs.Stages.{IsAt}

-- ---- before the last write

-- the first break of a script is told so
abbrev IsBreak : Status → Type 0
IsBreak status.Unended = Unit {0}
IsBreak (status.BadScript line why) = Unit {0}
IsBreak (status.BadBook fault) = Unit {0}
IsBreak (status.TooLong line) = Unit {0}
IsBreak _ = ⊥

-- a line is refused with a break
line_breaks : (lines : GoodLines) (line : List ℕ) (s : Status) → RefusesLine lines line s → IsBreak s
line_breaks lines line (status.BadScript number why) r = tt
line_breaks Header line (status.BadBook fault) r = tt
line_breaks Nothing line s r = absurd r
line_breaks Header line s r = absurd r
line_breaks (Session t) line s r = absurd r

-- and so are bytes, whatever comes behind them
rest_breaks : (lines : GoodLines) (rest : List ℕ) (s : Status) → Refuses lines rest s → IsBreak s
rest_breaks lines rest (status.TooLong number) r = tt
rest_breaks lines rest s r = line_breaks lines r.0 s r.1.1

-- and bytes behind which nothing comes
end_breaks : (lines : GoodLines) (rest : List ℕ) (s : Status) → RefusesEnd lines rest s → IsBreak s
end_breaks lines rest status.Unended r = tt
end_breaks lines rest (status.BadScript line why) r = tt
end_breaks Nothing rest s r = absurd r
end_breaks Header rest s r = absurd r
end_breaks (Session t) rest s r = absurd r

-- so what is told of a first break is a break
pub breaks : (r : Reading) (given : List ℕ) (lines : GoodLines) (s : Status) → Broke r given lines s → IsBreak s
breaks r given lines s (inl b) = rest_breaks lines b.1.rest s b.1.refuses
breaks r given lines s (inr b) = end_breaks lines b.1.rest s b.1.refuses

-- what was taken is a front of what is to be written for the lines that came
front_kept : (m : Mode) (given taken : List ℕ) (r : Replaying) → r.mode ≡ m → HasRead given taken r → WroteFront m given taken
front_kept m given taken r e h = record { lines = h.lines; rest = r.line.items; splits = h.splits; front_of = (r.out.items, h.wrote ∙ ap (λ k. written k h.lines) e) }

-- the script broke behind these lines
met_break : (m : Mode) (r : Reading) (w : Writing) (new : Replaying) (given taken : List ℕ) (lines : GoodLines) (s : Status) → IsBreak s
    → Broke r given lines s → Took w taken → HasEnded lines taken new → Met m r w new s
met_break m r w new given taken lines status.Unended is b t h = (given, taken, lines, (b, t, h))
met_break m r w new given taken lines (status.BadScript line why) is b t h = (given, taken, lines, (b, t, h))
met_break m r w new given taken lines (status.BadBook fault) is b t h = (given, taken, lines, (b, t, h))
met_break m r w new given taken lines (status.TooLong line) is b t h = (given, taken, lines, (b, t, h))
met_break m r w new given taken lines s is b t h = absurd is

-- all was read, and the end was refused
pub met_end : (m : Mode) (r : Reading) (w : Writing) (given taken : List ℕ) (mid new : Replaying) (s : Status)
    → GaveAll r given → Took w taken → mid.mode ≡ m → HasRead given taken mid → EndDoes given taken new (Err s) → Met m r w new s
met_end m r w given taken mid new s g t e h (inl o) = rw o (given, taken, (g.gave.gave, t, front_kept m given taken mid e h))
met_end m r w given taken mid new s g t e h (inr b) = met_break m r w new given taken b.0 s (end_breaks b.0 b.1.0.rest s b.1.0.refuses) (inr (g, b.1.0)) t b.1.1

-- ---- behind the last write

-- a call that wrote in two steps
abbrev pub call_of : (words : List (List ℕ)) → Reading → (t0 t2 : Option (List ℕ)) → (f0 f2 : ℕ) → Option WorldState → Call
call_of words r t0 t2 f0 f2 world = record { words = words; source = r; sink = record { taken = t0; taken_behind = t2; faults = f0; faults_behind = f2 }; world = world }

-- one of the two
abbrev pub writing_of : (t0 t1 : Option (List ℕ)) → (f0 f1 : ℕ) → Writing
writing_of t0 t1 f0 f1 = record { taken = t0; taken_behind = t1; faults = f0; faults_behind = f1 }

-- a count that rose later rose
Rose-later : (a b c : ℕ) → a ≤ b → Rose b c → Rose a c
Rose-later a b c le r = omega arith

-- the rows of every script are those of the windows
windows_of : ((r : Rules) (events : List Event) → HistoryWindows r events) → (m : Mode) (lines : GoodLines) → HaveWindows m lines
windows_of law mode.Print lines = tt
windows_of law mode.Transcript Nothing = tt
windows_of law mode.Transcript Header = tt
windows_of law mode.Transcript (Session s) = λ worked rest e. law (rules_of s.book) worked
windows_of law mode.Totals Nothing = tt
windows_of law mode.Totals Header = tt
windows_of law mode.Totals (Session s) = λ worked rest e. law (rules_of s.book) worked

module _ (law : (r : Rules) (events : List Event) → HistoryWindows r events) (m : Mode) (words : List (List ℕ)) (r : Reading)
    (t0 t1 t2 : Option (List ℕ)) (f0 f1 f2 : ℕ) (old new : Replaying) (world : Option WorldState) (same : old.mode ≡ m) where
  -- the last write
  abbrev Goes : Result (Unit {0}) Status → Type 0
  Goes result = Flushes (writing_of t1 t2 f1 f2) old new result

  -- what was written before it
  abbrev Came : List ℕ → Type 0
  Came taken = Took (writing_of t0 t1 f0 f1) taken

  -- writing leaves the world as it is
  handed : (lines : GoodLines) → IsAt old.mode lines old.stage → Goes (Ok tt) → Hands new world → HandsOut m lines world
  handed lines at f hands =
      subst (λ k. HandsOut k lines world) (f.2 ∙ same) (hands lines (subst (λ s. IsAt new.mode lines s) (sym f.3) (subst (λ k. IsAt k lines old.stage) (sym f.2) at)))

  -- both writes together wrote the whole
  took : (taken whole : List ℕ) → Came taken → taken ++ old.out.items ≡ whole → Goes (Ok tt) → Appends t0 t2 whole
  took taken whole t e f = subst (Appends t0 t2) e (Appends-trans t0 t1 t2 taken old.out.items t f.0)

  -- so the lines before a refusal were worked
  worked : (taken : List ℕ) (lines : GoodLines) → Came taken → IsAt old.mode lines old.stage → taken ++ old.out.items ≡ written old.mode lines
      → Goes (Ok tt) → Hands new world → Worked m lines (call_of words r t0 t2 f0 f2 world)
  worked taken lines t at e f hands = record {
    wrote = took taken (written m lines) t (e ∙ ap (λ k. written k lines) same) f;
    world = handed lines at f hands;
    windows = windows_of law m lines;
  }

  -- the same of lines that were worked to their end
  ended : (taken : List ℕ) (lines : GoodLines) → Came taken → HasEnded lines taken old → Goes (Ok tt) → Hands new world → Worked m lines (call_of words r t0 t2 f0 f2 world)
  ended taken lines t h f hands = worked taken lines t h.at h.wrote f hands

  -- all that was to be written went out
  pub flushed : (s : Status) → (s ≡ status.WriteFault → ⊥) → (s ≡ status.OutOfMemory → ⊥) → Met m r (writing_of t0 t1 f0 f1) old s → Goes (Ok tt) → Hands new world
      → ReadOutcome m s (call_of words r t0 t2 f0 f2 world)
  flushed status.Ok x y p f hands =
      let h = p.2.2 in
      (p.0, h.script, (p.2.0, h.is_script, took p.1 (output_of m h.script) p.2.1 (h.wrote ∙ ap (λ k. output_of k h.script) same) f, handed (Session h.script) h.at f hands, windows_of law m (Session h.script)))
  flushed status.ReadFault x y p f hands =
      let h = p.2.3 in
      (p.0, h.lines, (p.2.0, record { rest = old.line.items; splits = h.splits; begun = h.begun }, p.2.2, worked p.1 h.lines p.2.1 h.at h.wrote f hands))
  flushed status.TooMuch x y p f hands =
      let h = p.3.4 in
      (p.0, p.1, h.lines, (p.3.0, p.3.1, p.3.2, record { rest = old.line.items; splits = h.splits; begun = h.begun }, worked p.2 h.lines p.3.3 h.at h.wrote f hands))
  flushed status.WriteFault x y p f hands = absurd (x refl)
  flushed status.OutOfMemory x y p f hands = absurd (y refl)
  flushed (status.BadScript line why) x y p f hands = (p.0, p.2, (p.3.0, ended p.1 p.2 p.3.1 p.3.2 f hands))
  flushed (status.BadBook fault) x y p f hands = (p.0, p.2, (p.3.0, ended p.1 p.2 p.3.1 p.3.2 f hands))
  flushed status.Unended x y p f hands = (p.0, p.2, (p.3.0, ended p.1 p.2 p.3.1 p.3.2 f hands))
  flushed (status.TooLong line) x y p f hands = (p.0, p.2, (p.3.0, ended p.1 p.2 p.3.1 p.3.2 f hands))
  flushed status.Usage x y p f hands = absurd (breaks r p.0 p.2 status.Usage p.3.0)
  flushed status.StoreFault x y p f hands = absurd (breaks r p.0 p.2 status.StoreFault p.3.0)
  flushed status.NetFault x y p f hands = absurd (breaks r p.0 p.2 status.NetFault p.3.0)

  -- a front of what was still to be written went out
  further : (taken front whole : List ℕ) → IsFront front old.out.items → taken ++ old.out.items ≡ whole → IsFront (taken ++ front) whole
  further taken front whole f e = (f.0, append_assoc taken front f.0 ∙ ap (λ xs. taken ++ xs) f.1 ∙ e)

  -- what was written is a front of what is to be written for the lines
  some_lines : (given taken front : List ℕ) (lines : GoodLines) (rest : List ℕ) → Gave r given → Splits given lines rest → Came taken
      → taken ++ old.out.items ≡ written old.mode lines → Appends t1 t2 front → IsFront front old.out.items → WroteSome m (call_of words r t0 t2 f0 f2 world)
  some_lines given taken front lines rest g sp t e a f = record {
    given = given;
    gave = g;
    front = taken ++ front;
    took = Appends-trans t0 t1 t2 taken front t a;
    front_of = inl (record { lines = lines; rest = rest; splits = sp; front_of = further taken front (written m lines) f (e ∙ ap (λ k. written k lines) same) });
    windows = windows_of law m;
  }

  -- so it is where a line broke
  some_break : (given taken front : List ℕ) (lines : GoodLines) (s : Status) → Broke r given lines s → Came taken → HasEnded lines taken old
      → Appends t1 t2 front → IsFront front old.out.items → WroteSome m (call_of words r t0 t2 f0 f2 world)
  some_break given taken front lines s (inl b) t h a f = some_lines given taken front lines b.1.rest b.0.gave b.1.splits t h.wrote a f
  some_break given taken front lines s (inr b) t h a f = some_lines given taken front lines b.1.rest b.0.gave.gave b.1.splits t h.wrote a f

  -- and in each other case
  some : (s : Status) → (s ≡ status.WriteFault → ⊥) → (s ≡ status.OutOfMemory → ⊥) → Met m r (writing_of t0 t1 f0 f1) old s
      → (front : List ℕ) → Appends t1 t2 front → IsFront front old.out.items → WroteSome m (call_of words r t0 t2 f0 f2 world)
  some status.Ok x y p front a f =
      let h = p.2.2 in
      record {
        given = p.0;
        gave = p.2.0.gave.gave;
        front = p.1 ++ front;
        took = Appends-trans t0 t1 t2 p.1 front p.2.1 a;
        front_of = inr (h.script, (p.2.0, h.is_script, further p.1 front (output_of m h.script) f (h.wrote ∙ ap (λ k. output_of k h.script) same)));
        windows = windows_of law m;
      }
  some status.ReadFault x y p front a f = some_lines p.0 p.1 front p.2.3.lines old.line.items p.2.0.gave p.2.3.splits p.2.1 p.2.3.wrote a f
  some status.TooMuch x y p front a f =
      let h = p.3.4 in
      let behind : Splits (p.0 ++ p.1) h.lines (old.line.items ++ p.1) =
      record { before = h.splits.before; good = h.splits.good; parts = ap (λ xs. xs ++ p.1) h.splits.parts ∙ append_assoc h.splits.before old.line.items p.1 } in
      some_lines (p.0 ++ p.1) p.2 front h.lines (old.line.items ++ p.1) p.3.0 behind p.3.3 h.wrote a f
  some status.WriteFault x y p front a f = absurd (x refl)
  some status.OutOfMemory x y p front a f = absurd (y refl)
  some s x y p front a f = some_break p.0 p.1 front p.2 s p.3.0 p.3.1 p.3.2 a f

  -- the last write was refused
  pub unflushed : (s fault : Status) → (s ≡ status.WriteFault → ⊥) → (s ≡ status.OutOfMemory → ⊥) → f0 ≤ f1 → Met m r (writing_of t0 t1 f0 f1) old s
      → Goes (Err fault) → ReadOutcome m fault (call_of words r t0 t2 f0 f2 world)
  unflushed s status.WriteFault x y le p f = (Rose-later f0 f1 f2 le f.1.2, some s x y p f.0 f.1.0 f.1.1)
  unflushed s status.OutOfMemory x y le p f = some s x y p f.0 f.1.0 f.1.1
  unflushed s fault x y le p f = absurd f
