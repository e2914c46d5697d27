-- A line behind the book: what it is, how it is refused, and what is written for it.
use Rattle.std.proofs.Common.{◌≡◌, ℕ, ◌+◌, List, [], ◌∷◌, ◌++◌, length, inl, inr, Result, Err, refl, sym, ap, subst, ◌∙◌, append_assoc, append-nil, length-append, arith}
use Rattle.std.proofs.lemmas.Grind.{flat_map-append}
use Rattle.cable_base.specs.Squeeze.{squeezed}
use Rattle.channel_book.specs.Shapes.{Declared}
use Rattle.cable_model.specs.declared.events.Event.{Event}
use Rattle.cable_model.specs.declared.statuses.BreakReason.TheVariants as reason
use Rattle.cable_model.specs.declared.statuses.Status.{Status}
use Rattle.cable_model.specs.declared.verbs.Verb.{Verb}
use Rattle.cable_model.specs.Breaks.{GoodLines}
use Rattle.cable_model.specs.Breaks.GoodLines.{Nothing, Header, Session}
use Rattle.cable_model.specs.History.{Rules, start, run}
use Rattle.cable_model.specs.Printed.{event_line, printed, printed_events}
use Rattle.cable_model.specs.Script.{Script, IsLine, Spells, book_line, events_of, expand, expand_all, header, rules_of}
use Rattle.cable_model.specs.Transcript.{ended, idle_count, lines_text, no_totals, said_all, said_text, with_lines}
use Rattle.cable_script.specs.declared.faults.LineFault.{LineFault}
use Rattle.cable_script.specs.declared.faults.LineFault.TheVariants as fault
use Rattle.cable_script.specs.LineFaults.{HasFault}
use Rattle.cable_script.specs.Reading.{Faults, verb_of}
use Rattle.node_world.specs.Worlds.{WorldState, StandsFor}
use Rattle.replay_cli.specs.declared.modes.Mode.{Mode}
use Rattle.replay_cli.specs.declared.modes.Mode.TheVariants as mode
use Rattle.replay_cli.specs.declared.running.Tally.{Tally}
use Rattle.replay_cli.specs.declared.stages.Stage.{Stage}
use Rattle.replay_cli.specs.declared.stages.Stage.TheVariants as stage
use Rattle.replay_cli.specs.declared.stages.Work.{Work}
use Rattle.replay_cli.specs.declared.stages.Work.TheVariants as work
use Rattle.replay_cli.specs.Running.{RunsAs, IsTallyOf}
use Rattle.replay_cli.specs.Stages.{Holds, IsAt, IsBroken, IsWorkOf, IsWorldOf, LineDoes, WorksAs, TakesLine, refusal_of}
use Rattle.replay_cli.proofs.RunsOn.{said_all-append, idle_count-append, lines_text-append, totals-append}

-- ---- a line that is refused

pub broken_is : (number : ℕ) (f : LineFault) (line : List ℕ) → ((g : LineFault) → verb_of line ≡ Err g → HasFault g line) → Faults f (verb_of line) → IsBroken number line (refusal_of number f)
broken_is number fault.NotUtf8 line has e = inr (reason.NotUtf8, (refl, has fault.NotUtf8 e))
broken_is number fault.UnknownVerb line has e = inr (reason.UnknownVerb, (refl, has fault.UnknownVerb e))
broken_is number fault.BadWords line has e = inr (reason.BadWords, (refl, has fault.BadWords e))
broken_is number fault.BadNumber line has e = inr (reason.BadNumber, (refl, has fault.BadNumber e))
broken_is number fault.BadJson line has e = inr (reason.BadJson, (refl, has fault.BadJson e))
broken_is number fault.TooLarge line has e = inr (reason.TooLarge, (refl, has fault.TooLarge e))
broken_is number fault.OutOfMemory line has e = inl refl

-- ---- the script with a line more

abbrev pub with_verb : Script → Verb → Script
with_verb s v = record { text = s.text; book = s.book; verbs = s.verbs ++ v ∷ [] }

expand_all-append : (us vs : List Verb) → expand_all (us ++ vs) ≡ expand_all us ++ expand_all vs
expand_all-append [] vs = refl
expand_all-append (u ∷ us) vs = ap (λ es. expand u ++ es) (expand_all-append us vs) ∙ sym (append_assoc (expand u) (expand_all us) (expand_all vs))

events_more : (s : Script) (v : Verb) → events_of (with_verb s v) ≡ events_of s ++ expand v
events_more s v = expand_all-append s.verbs (v ∷ []) ∙ ap (λ es. events_of s ++ es) (append-nil (expand v))

-- ---- its events were run

-- what events came to behind others, under these rules
record Worked (r : Rules) (es fs : List Event) (tally tally' : Tally) (out out' : List ℕ) : Type 0 where
  events : tally'.events ≡ tally.events + length fs
  idle : tally'.idle ≡ tally.idle + idle_count r (run r start es) fs
  totals : tally'.totals ≡ with_lines tally.totals (said_all r (run r start es) fs)
  wrote : out' ≡ out ++ lines_text (said_all r (run r start es) fs)

-- the rules are those of the script's book
worked_under : (book : Declared) (es fs : List Event) (w w' : WorldState) (tally tally' : Tally) (out out' : List ℕ) → w.book ≡ book → StandsFor w es → RunsAs fs w w' out out' tally tally'
    → Worked (rules_of book) es fs tally tally' out out'
worked_under book es fs w w' tally tally' out out' e s p =
    subst (λ (b : Declared). Worked (rules_of b) es fs tally tally' out out') e
    (record { events = p.counts.counted; idle = p.counts.idle es s; totals = p.counts.totals es s; wrote = p.wrote es s })

tally_more : (r : Rules) (es fs : List Event) (t t' : Tally) (out out' : List ℕ) → IsTallyOf r es t → Worked r es fs t t' out out' → IsTallyOf r (es ++ fs) t'
tally_more r es fs t t' out out' i w =
    record {
      counted = omega (arith, i.counted, w.events, length-append es fs);
      idle = omega (arith, i.idle, w.idle, idle_count-append r start es fs);
      totals = totals-append r start es fs no_totals t.totals t'.totals i.totals w.totals;
    }

said_more : (r : Rules) (es fs : List Event) → said_text r (es ++ fs) ≡ said_text r es ++ lines_text (said_all r (run r start es) fs)
said_more r es fs = ap lines_text (said_all-append r start es fs) ∙ lines_text-append (said_all r start es) (said_all r (run r start es) fs)

-- what was written behind a text
behind : (before out out' more said : List ℕ) → out' ≡ out ++ more → before ++ out ≡ said → before ++ out' ≡ said ++ more
behind before out out' more said p h = ap (λ (x : List ℕ). before ++ x) p ∙ sym (append_assoc before out more) ∙ ap (λ (x : List ℕ). x ++ more) h

run_more : (s : Script) (v : Verb) (w w' : WorldState) (t t' : Tally) (out out' : List ℕ) → IsWorldOf s w → IsTallyOf (rules_of s.book) (events_of s) t → RunsAs (expand v) w w' out out' t t' → w'.book ≡ w.book
    → IsWorldOf (with_verb s v) w' × IsTallyOf (rules_of s.book) (events_of (with_verb s v)) t'
run_more s v w w' t t' out out' p i q e =
    let worked = worked_under s.book (events_of s) (expand v) w w' t t' out out' p.book p.stands q in (
      record { book = e ∙ p.book; stands = subst (λ (es : List Event). StandsFor w' es) (sym (events_more s v)) (q.counts.stands (events_of s) p.stands) },
      subst (λ (es : List Event). IsTallyOf (rules_of s.book) es t') (sym (events_more s v)) (tally_more (rules_of s.book) (events_of s) (expand v) t t' out out' i worked),
    )

run_written : (s : Script) (v : Verb) (w w' : WorldState) (t t' : Tally) (out out' before : List ℕ) → IsWorldOf s w → RunsAs (expand v) w w' out out' t t'
    → before ++ out ≡ said_text (rules_of s.book) (events_of s) → before ++ out' ≡ said_text (rules_of s.book) (events_of (with_verb s v))
run_written s v w w' t t' out out' before p q h =
    let worked = worked_under s.book (events_of s) (expand v) w w' t t' out out' p.book p.stands q in
    behind before out out' _ _ worked.wrote h ∙ sym (said_more (rules_of s.book) (events_of s) (expand v)) ∙ ap (λ (es : List Event). said_text (rules_of s.book) es) (sym (events_more s v))

-- ---- its events were printed

regroup : (a b c d : List ℕ) → (a ++ (b ++ c)) ++ d ≡ a ++ (b ++ (c ++ d))
regroup a b c d = simp append_assoc

printed_more : (s : Script) (v : Verb) → printed s ++ printed_events (expand v) ≡ printed (with_verb s v)
printed_more s v =
    let first = ended header in
    let second = ended (book_line (squeezed s.text)) in
    regroup first second (printed_events (events_of s)) (printed_events (expand v))
    ∙ ap (λ (x : List ℕ). first ++ (second ++ x)) (sym (flat_map-append (λ (e : Event). ended (event_line e)) (events_of s) (expand v)) ∙ ap printed_events (sym (events_more s v)))

-- ---- the line was taken

pub work_goes_on : (m : Mode) (s : Script) (v : Verb) (old new : Work) (out out' : List ℕ) → IsWorkOf m s old → WorksAs (expand v) old new out out' → IsWorkOf m (with_verb s v) new
work_goes_on mode.Print s v (work.Run w t) new out out' i p = absurd i
work_goes_on mode.Print s v work.Print (work.Run w t) out out' i p = absurd p
work_goes_on mode.Print s v work.Print work.Print out out' i p = tt
work_goes_on mode.Transcript s v work.Print new out out' i p = absurd i
work_goes_on mode.Transcript s v (work.Run w t) work.Print out out' i p = absurd p
work_goes_on mode.Transcript s v (work.Run w t) (work.Run w' t') out out' i p = run_more s v w w' t t' out out' i.0 i.1 p.0 p.1
work_goes_on mode.Totals s v work.Print new out out' i p = absurd i
work_goes_on mode.Totals s v (work.Run w t) work.Print out out' i p = absurd p
work_goes_on mode.Totals s v (work.Run w t) (work.Run w' t') out out' i p = run_more s v w w' t t' out out' i.0 i.1 p.0 p.1

pub work_written : (m : Mode) (s : Script) (v : Verb) (old new : Work) (out out' before : List ℕ) → IsWorkOf m s old → WorksAs (expand v) old new out out' → Holds m (Session s) out before
    → Holds m (Session (with_verb s v)) out' before
work_written mode.Print s v (work.Run w t) new out out' before i p h = absurd i
work_written mode.Print s v work.Print (work.Run w t) out out' before i p h = absurd p
work_written mode.Print s v work.Print work.Print out out' before i p h = behind before out out' _ _ p h ∙ printed_more s v
work_written mode.Transcript s v work.Print new out out' before i p h = absurd i
work_written mode.Transcript s v (work.Run w t) work.Print out out' before i p h = absurd p
work_written mode.Transcript s v (work.Run w t) (work.Run w' t') out out' before i p h = run_written s v w w' t t' out out' before i.0 p.0 h
work_written mode.Totals s v work.Print new out out' before i p h = absurd i
work_written mode.Totals s v (work.Run w t) work.Print out out' before i p h = absurd p
work_written mode.Totals s v (work.Run w t) (work.Run w' t') out out' before i p h = run_written s v w w' t t' out out' before i.0 p.0 h

pub further_taken : (m : Mode) (s : Script) (line : List ℕ) (v : Verb) (old new : Work) (next : ℕ) (out out' : List ℕ) → IsLine line → Spells v line → next ≡ (3 + length s.verbs) + 1
    → IsWorkOf m s old → WorksAs (expand v) old new out out' → TakesLine m (Session s) line (stage.Lines next new) out out'
further_taken m s line v old new next out out' is spells n i p =
    record {
      lines' = Session (with_verb s v);
      goes_on = (v, (is, spells, refl));
      at = (omega (arith, n, length-append s.verbs (v ∷ [])), work_goes_on m s v old new out out' i p);
      wrote = λ before h. work_written m s v old new out out' before i p h;
    }

-- lines that come to a stage behind the book are those of a script
pub by_session : (m : Mode) (lines : GoodLines) (line : List ℕ) (next : ℕ) (w : Work) (new : Stage) (out out' : List ℕ) (result : Result (Unit {0}) Status) → IsAt m lines (stage.Lines next w)
    → ((s : Script) → IsAt m (Session s) (stage.Lines next w) → LineDoes m (Session s) line new out out' result) → LineDoes m lines line new out out' result
by_session m Nothing line next w new out out' result at does = absurd at
by_session m Header line next w new out out' result at does = absurd at
by_session m (Session s) line next w new out out' result at does = does s at
