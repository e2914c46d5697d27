-- The first two lines of a script: what they are, how they are refused, and what is written for them.
use Rattle.std.proofs.Common.{◌≡◌, ℕ, List, [], ◌++◌, inr, Some, None, Ok, refl, sym, ap, ◌∙◌, append_assoc, append-nil}
use Rattle.std.specs.Prelude.{IsUtf8}
use Rattle.std.proofs.lemmas.Str.{is_utf8-from_IsUtf8, IsUtf8-from_is_utf8}
use Rattle.std.proofs.lemmas.Option.{cond_some}
use Rattle.cable_base.specs.Squeeze.{squeezed}
use Rattle.channel_book.specs.Shapes.{Declared}
use Rattle.channel_book.specs.Books.{book_of}
use Rattle.cable_model.specs.declared.statuses.BreakReason.{BreakReason}
use Rattle.cable_model.specs.declared.statuses.Status.TheVariants as status
use Rattle.cable_model.specs.Breaks.{BreaksHeader, IsBegun}
use Rattle.cable_model.specs.Breaks.GoodLines.{Nothing, Header, Session}
use Rattle.cable_model.specs.Script.{Script, book_line, header}
use Rattle.cable_model.specs.Transcript.{ended, no_totals}
use Rattle.cable_script.specs.Reading.{text_of}
use Rattle.node_world.specs.Worlds.{WorldState, StandsFor}
use Rattle.replay_cli.specs.declared.modes.Mode.{Mode}
use Rattle.replay_cli.specs.declared.modes.Mode.TheVariants as mode
use Rattle.replay_cli.specs.declared.running.Tally.{Tally}
use Rattle.replay_cli.specs.declared.stages.Stage.TheVariants as stage
use Rattle.replay_cli.specs.declared.stages.Work.{Work}
use Rattle.replay_cli.specs.declared.stages.Work.TheVariants as work
use Rattle.replay_cli.specs.Stages.{Holds, IsRefused, IsWorkOf, NamesBook, TakesLine}

-- ---- the text of a line

pub some_text : (line text : List ℕ) → Some text ≡ text_of line → IsUtf8 line × (text ≡ line)
some_text line text e = let c = cond_some _ line text (sym e) in (IsUtf8-from_is_utf8 line c.0, sym c.1)

pub no_text : (line : List ℕ) → None ≡ text_of line → IsUtf8 line → ⊥
no_text line e u = let t = is_utf8-from_IsUtf8 line u in let n : None ≡ text_of line = e in absurd (cc (rw t at n))

-- ---- the header

pub header_refused : (line out : List ℕ) (why : BreakReason) → BreaksHeader why line → IsRefused Nothing line out out (status.BadScript 1 why)
header_refused line out why b = inr ((b, refl), refl)

pub header_printed : (line out out' : List ℕ) → line ≡ header → out' ≡ out ++ ended header → TakesLine mode.Print Nothing line stage.Book out out'
header_printed line out out' e p =
    record {
      lines' = Header;
      goes_on = e;
      at = tt;
      wrote = λ before h. ap (λ (x : List ℕ). before ++ x) p ∙ sym (append_assoc before out (ended header)) ∙ ap (λ (x : List ℕ). x ++ ended header) h;
    }

pub header_kept : (m : Mode) (line out : List ℕ) → ¬ (m ≡ mode.Print) → line ≡ header → TakesLine m Nothing line stage.Book out out
header_kept mode.Print line out other e = absurd (other refl)
header_kept mode.Transcript line out other e = record { lines' = Header; goes_on = e; at = tt; wrote = λ before h. h }
header_kept mode.Totals line out other e = record { lines' = Header; goes_on = e; at = tt; wrote = λ before h. h }

-- ---- the line of a book

-- a script without lines behind its book
abbrev pub opened : List ℕ → Declared → Script
opened text book = record { text = text; book = book; verbs = [] }

pub book_taken : (m : Mode) (line text out out' : List ℕ) (book : Declared) (w : Work) → IsBegun line → NamesBook line text → book_of text ≡ Ok book → IsWorkOf m (opened text book) w
    → ((before : List ℕ) → Holds m Header out before → Holds m (Session (opened text book)) out' before) → TakesLine m Header line (stage.Lines 3 w) out out'
book_taken m line text out out' book w begun names declares works wrote =
    record {
      lines' = Session (opened text book);
      goes_on = (record { utf8 = names.utf8; short = begun.short; one = begun.one }, names.names, declares, refl);
      at = (refl, works);
      wrote = wrote;
    }

pub book_printed : (line text out out' : List ℕ) (book : Declared) → IsBegun line → NamesBook line text → book_of text ≡ Ok book → out' ≡ out ++ ended (book_line (squeezed text))
    → TakesLine mode.Print Header line (stage.Lines 3 work.Print) out out'
book_printed line text out out' book begun names declares p =
    let more = ended (book_line (squeezed text)) in
    book_taken mode.Print line text out out' book work.Print begun names declares tt
    (λ before h.
    ap (λ (x : List ℕ). before ++ x) p ∙ sym (append_assoc before out more) ∙ ap (λ (x : List ℕ). x ++ more) h ∙ ap (λ (x : List ℕ). ended header ++ x) (sym (append-nil more)))

pub book_opened : (m : Mode) (line text out : List ℕ) (book : Declared) (w : WorldState) (tally : Tally) → ¬ (m ≡ mode.Print) → IsBegun line → NamesBook line text → book_of text ≡ Ok book → w.book ≡ book
    → StandsFor w [] → tally ≡ record { events = 0; idle = 0; totals = no_totals } → TakesLine m Header line (stage.Lines 3 (work.Run w tally)) out out
book_opened mode.Print line text out book w tally other begun names declares same stands none = absurd (other refl)
book_opened mode.Transcript line text out book w tally other begun names declares same stands none =
    book_taken mode.Transcript line text out out book (work.Run w tally) begun names declares
    (record { book = same; stands = stands }, rw none (record { counted = refl; idle = refl; totals = refl })) (λ before h. h)
book_opened mode.Totals line text out book w tally other begun names declares same stands none =
    book_taken mode.Totals line text out out book (work.Run w tally) begun names declares
    (record { book = same; stands = stands }, rw none (record { counted = refl; idle = refl; totals = refl })) (λ before h. h)
