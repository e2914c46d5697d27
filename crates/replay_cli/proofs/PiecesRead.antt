-- Pieces of a script that come one behind the other.
use Rattle.std.proofs.Common.{◌≡◌, ℕ, ◌≤◌, inl, inr, List, [], ◌∷◌, ◌++◌, Option, Result, Ok, Err, refl, sym, ap, subst, ◌∙◌, arith, append_assoc, append-nil}
use Rattle.std.specs.Result.{OnOk}
use Rattle.std.proofs.KnownBytes.{Appends-nil, Appends-trans}
use Rattle.cable_base.specs.Causes.{Rose}
use Rattle.cable_model.specs.declared.statuses.Status.{Status}
use Rattle.cable_model.specs.declared.statuses.Status.TheVariants as status
use Rattle.cable_model.specs.Breaks.{GoodLines, Splits, IsBegun, BreaksIn}
use Rattle.cable_model.specs.Script.{HasNoFeed}
use Rattle.replay_cli.specs.declared.modes.Mode.{Mode}
use Rattle.replay_cli.specs.declared.replaying.Replaying.{Replaying}
use Rattle.replay_cli.specs.declared.stages.Stage.{Stage}
use Rattle.replay_cli.specs.Modes.{written}
use Rattle.replay_cli.specs.Outputs.{Writing}
use Rattle.replay_cli.specs.Begun.{KeepsWork, Extended, Extends, EndsLine}
use Rattle.replay_cli.specs.Reading.{HasRead, HasEnded, WroteFront, Flushes, PieceRefused, PieceDoes}
use Rattle.replay_cli.specs.Stages.{IsAt, TakesLine}
use Rattle.replay_cli.proofs.LinesGoOn.{IsOfLine, of_line, no_feed-append, splits-append, splits-line, breaks-append, breaks-line, breaks-long}

abbrev pub writing : (t t' : Option (List ℕ)) (f f' : ℕ) → Writing
writing t t' f f' = record { taken = t; taken_behind = t'; faults = f; faults_behind = f' }

pub Rose-later : (a b c : ℕ) → a ≤ b → Rose b c → Rose a c
Rose-later a b c le r = omega arith

-- ---- what is as it was

at_kept : (m m' : Mode) (lines : GoodLines) (s s' : Stage) → m' ≡ m → s' ≡ s → IsAt m lines s → IsAt m' lines s'
at_kept m m' lines s s' e f h = rw (e, f) h

held : (m m' : Mode) (lines : GoodLines) (taken out out' : List ℕ) → m' ≡ m → out' ≡ out → taken ++ out ≡ written m lines → (taken ++ []) ++ out' ≡ written m' lines
held m m' lines taken out out' e f h = rw (e, f, append-nil taken) h

kept : (given taken : List ℕ) (old new : Replaying) → KeepsWork old new → (r : HasRead given taken old) → HasEnded r.lines (taken ++ []) new
kept given taken old new k r =
    record {
      at = at_kept old.mode new.mode r.lines old.stage new.stage k.mode k.stage r.at;
      wrote = held old.mode new.mode r.lines taken old.out.items new.out.items k.mode (ap (λ v. v.items) k.out) r.wrote;
    }

-- what was taken is a front of what is to be written
front_read : (given taken more front behind : List ℕ) (old : Replaying) → front ++ behind ≡ old.out.items → HasRead given taken old → WroteFront old.mode (given ++ more) (taken ++ front)
front_read given taken more front behind old e r =
    record {
      lines = r.lines;
      rest = old.line.items ++ more;
      splits = splits-append given more old.line.items r.lines r.splits;
      front_of = (behind, append_assoc taken front behind ∙ ap (λ x. taken ++ x) e ∙ r.wrote);
    }

-- ---- what the calls do to the bytes

-- a line is refused, so the bytes are
refused_line : (m : Mode) (given taken : List ℕ) (w : Writing) (new : Replaying) (s : Status) → IsOfLine s → (lines : GoodLines) → BreaksIn given lines s → HasEnded lines taken new
    → PieceRefused m given taken w new s
refused_line m given taken w new (status.BadScript n why) of lines b e = (lines, (b, e))
refused_line m given taken w new (status.BadBook fault) of lines b e = (lines, (b, e))
refused_line m given taken w new s of lines b e = absurd of

-- the line that has begun goes on, or becomes too long
pub extended : (t : Option (List ℕ)) (f : ℕ) (given taken bytes : List ℕ) (old new : Replaying) (result : Result (Unit {0}) Status)
    → HasNoFeed bytes → Extends bytes old new result → HasRead given taken old → PieceDoes old.mode given taken bytes (writing t t f f) new result
extended t f given taken bytes old new (Ok u) none e r =
    let k = kept given taken old new e.keeps r in (
      [],
      (
        Appends-nil t,
        record {
          lines = r.lines;
          splits = subst (Splits (given ++ bytes) r.lines) (sym e.line) (splits-append given bytes old.line.items r.lines r.splits);
          begun = record { one = subst HasNoFeed (sym e.line) (no_feed-append old.line.items bytes r.begun.one none); short = e.short };
          at = k.at;
          wrote = k.wrote;
        },
      ),
    )
extended t f given taken bytes old new (Err (status.TooLong n)) none e r =
    ([], (Appends-nil t, (r.lines, (breaks-long given old.line.items bytes r.lines n r.splits r.begun none e.long (e.numbered old.mode r.lines r.at), kept given taken old new e.keeps r))))
extended t f given taken bytes old new (Err status.OutOfMemory) none e r = ([], (Appends-nil t, front_read given taken bytes [] old.out.items old refl r))
extended t f given taken bytes old new (Err s) none e r = absurd e

-- the line that has begun ends, and is good or refused
pub line_ended : (t : Option (List ℕ)) (f : ℕ) (given taken : List ℕ) (old new : Replaying) (result : Result (Unit {0}) Status)
    → new.mode ≡ old.mode → OnOk result (new.line.items ≡ []) → EndsLine old new result → HasRead given taken old → PieceDoes old.mode given taken (10 ∷ []) (writing t t f f) new result
line_ended t f given taken old new (Ok u) mode clear e r =
    let d : TakesLine old.mode r.lines old.line.items new.stage old.out.items new.out.items = e r.lines r.at in (
      [],
      (
        Appends-nil t,
        record {
          lines = d.lines';
          splits = subst (Splits (given ++ 10 ∷ []) d.lines') (sym clear) (splits-line given old.line.items r.lines d.lines' r.splits d.goes_on);
          begun = subst IsBegun (sym clear) (record { one = refl; short = omega arith });
          at = at_kept old.mode new.mode d.lines' new.stage new.stage mode refl d.at;
          wrote = held old.mode new.mode d.lines' taken new.out.items new.out.items mode refl (d.wrote taken r.wrote);
        },
      ),
    )
line_ended t f given taken old new (Err s) mode clear e r =
    elim (e r.lines r.at) [
      | inl o ↦ subst (λ (x : Status). PieceDoes old.mode given taken (10 ∷ []) (writing t t f f) new (Err x)) (sym o) ([], (Appends-nil t, front_read given taken (10 ∷ []) [] old.out.items old refl r))
      | inr x ↦ (
        [],
        (
          Appends-nil t,
          refused_line old.mode (given ++ 10 ∷ []) (taken ++ []) (writing t t f f) new s (of_line r.lines old.line.items s x.refuses) r.lines
              (breaks-line given old.line.items r.lines s r.splits r.begun x.refuses)
              (record {
                at = at_kept old.mode new.mode r.lines new.stage new.stage mode refl x.at;
                wrote = held old.mode new.mode r.lines taken old.out.items new.out.items mode x.same r.wrote;
              }),
        ),
      )
    ]

-- what is to be written is written, or a front of it
pub flushed : (w : Writing) (given taken : List ℕ) (old new : Replaying) (result : Result (Unit {0}) Status) → Flushes w old new result → HasRead given taken old → PieceDoes old.mode given taken [] w new result
flushed w given taken old new (Ok u) (took, none, mode, stage, line) r = (
  old.out.items,
  (
    took,
    record {
      lines = r.lines;
      splits = rw (append-nil given, line) r.splits;
      begun = rw line r.begun;
      at = at_kept old.mode new.mode r.lines old.stage new.stage mode stage r.at;
      wrote = rw (none, append-nil (taken ++ old.out.items), mode) r.wrote;
    },
  ),
)
flushed w given taken old new (Err status.WriteFault) (front, (took, (behind, e), rose)) r = (front, (took, (rose, front_read given taken [] front behind old e r)))
flushed w given taken old new (Err status.OutOfMemory) (front, (took, (behind, e))) r = (front, (took, front_read given taken [] front behind old e r))
flushed w given taken old new (Err s) e r = absurd e

-- ---- one piece behind the other

front_more : (m : Mode) (given more front : List ℕ) → WroteFront m given front → WroteFront m (given ++ more) front
front_more m given more front f = record { lines = f.lines; rest = f.rest ++ more; splits = splits-append given more f.rest f.lines f.splits; front_of = f.front_of }

-- what is refused stays so when further bytes come
refused_more : (m : Mode) (given more taken : List ℕ) (w : Writing) (new : Replaying) (s : Status) → PieceRefused m given taken w new s → PieceRefused m (given ++ more) taken w new s
refused_more m given more taken w new status.WriteFault r = (r.0, front_more m given more taken r.1)
refused_more m given more taken w new status.OutOfMemory r = front_more m given more taken r
refused_more m given more taken w new s r = (r.0, (breaks-append given more r.0 s r.1.0, r.1.1))

refused_later : (m : Mode) (given taken : List ℕ) (t0 t1 t2 : Option (List ℕ)) (f0 f1 f2 : ℕ) (new : Replaying) (s : Status) → f0 ≤ f1
    → PieceRefused m given taken (writing t1 t2 f1 f2) new s → PieceRefused m given taken (writing t0 t2 f0 f2) new s
refused_later m given taken t0 t1 t2 f0 f1 f2 new status.WriteFault le r = (Rose-later f0 f1 f2 le r.0, r.1)
refused_later m given taken t0 t1 t2 f0 f1 f2 new s le r = r

pub piece_more : (m : Mode) (given taken a b : List ℕ) (w : Writing) (new : Replaying) (s : Status) → PieceDoes m given taken a w new (Err s) → PieceDoes m given taken (a ++ b) w new (Err s)
piece_more m given taken a b w new s (more, (took, r)) =
    (more, (took, subst (λ (g : List ℕ). PieceRefused m g (taken ++ more) w new s) (append_assoc given a b) (refused_more m (given ++ a) b (taken ++ more) w new s r)))

-- a piece was taken, and another behind it
pub piece_then : (m : Mode) (given taken a b : List ℕ) (t0 t1 t2 : Option (List ℕ)) (f0 f1 f2 : ℕ) (mid new : Replaying) (result : Result (Unit {0}) Status) → f0 ≤ f1
    → PieceDoes m given taken a (writing t0 t1 f0 f1) mid (Ok tt)
    → ((g t : List ℕ) → HasRead g t mid → PieceDoes m g t b (writing t1 t2 f1 f2) new result)
    → PieceDoes m given taken (a ++ b) (writing t0 t2 f0 f2) new result
piece_then m given taken a b t0 t1 t2 f0 f1 f2 mid new (Ok u) le (more, (took, read)) next =
    let q = next (given ++ a) (taken ++ more) read in (
      more ++ q.0,
      (
        Appends-trans t0 t1 t2 more q.0 took q.1.0,
        subst (λ (g : List ℕ). HasRead g (taken ++ (more ++ q.0)) new) (append_assoc given a b)
            (subst (λ (t : List ℕ). HasRead ((given ++ a) ++ b) t new) (append_assoc taken more q.0) q.1.1),
      ),
    )
piece_then m given taken a b t0 t1 t2 f0 f1 f2 mid new (Err s) le (more, (took, read)) next =
    let q = next (given ++ a) (taken ++ more) read in (
      more ++ q.0,
      (
        Appends-trans t0 t1 t2 more q.0 took q.1.0,
        refused_later m (given ++ (a ++ b)) (taken ++ (more ++ q.0)) t0 t1 t2 f0 f1 f2 new s le
            (subst (λ (g : List ℕ). PieceRefused m g (taken ++ (more ++ q.0)) (writing t1 t2 f1 f2) new s) (append_assoc given a b)
            (subst (λ (t : List ℕ). PieceRefused m ((given ++ a) ++ b) t (writing t1 t2 f1 f2) new s) (append_assoc taken more q.0) q.1.1)),
      ),
    )

-- ---- a whole line

-- its last bytes came, and its line feed
pub line_taken : (t : Option (List ℕ)) (f : ℕ) (given taken bytes : List ℕ) (old mid new : Replaying) (result : Result (Unit {0}) Status) → HasNoFeed bytes → Extended bytes old mid
    → new.mode ≡ mid.mode → OnOk result (new.line.items ≡ []) → EndsLine mid new result → HasRead given taken old → PieceDoes old.mode given taken (bytes ++ 10 ∷ []) (writing t t f f) new result
line_taken t f given taken bytes old mid new result none e mode clear works r =
    piece_then old.mode given taken bytes (10 ∷ []) t t t f f f mid new result (omega arith)
    (extended t f given taken bytes old mid (Ok tt) none e r)
    (λ x y h. subst (λ (m : Mode). PieceDoes m x y (10 ∷ []) (writing t t f f) new result) e.keeps.mode (line_ended t f x y mid new result mode clear works h))

-- and what is to be written was written
pub line_flushed : (t t' : Option (List ℕ)) (f f' : ℕ) (given taken bytes : List ℕ) (old mid end new : Replaying) (result : Result (Unit {0}) Status) → HasNoFeed bytes → Extended bytes old mid
    → end.mode ≡ mid.mode → end.line.items ≡ [] → EndsLine mid end (Ok tt) → f ≤ f' → Flushes (writing t t' f f') end new result → HasRead given taken old
    → PieceDoes old.mode given taken (bytes ++ 10 ∷ []) (writing t t' f f') new result
line_flushed t t' f f' given taken bytes old mid end new result none e mode clear works le flush r =
    subst (λ (b : List ℕ). PieceDoes old.mode given taken b (writing t t' f f') new result) (append-nil (bytes ++ 10 ∷ []))
    (piece_then old.mode given taken (bytes ++ 10 ∷ []) [] t t t' f f f' end new result (omega arith)
    (line_taken t f given taken bytes old mid end (Ok tt) none e mode clear works r)
    (λ x y h. subst (λ (m : Mode). PieceDoes m x y [] (writing t t' f f') new result) (mode ∙ e.keeps.mode) (flushed (writing t t' f f') x y end new result flush h)))
