-- A line that is refused has one status, and no line goes on where it stands.
use Rattle.std.proofs.Common.{◌≡◌, ◌⊎◌, inl, inr, ℕ, List, ◌∷◌, ◌++◌, Result, Ok, Err, refl, sym, ap, subst, ◌∙◌}
use Rattle.std.specs.Prelude.{IsUtf8}
use Rattle.json.proofs.Printed.Utf8.{IsUtf8-are_ascii}
use Rattle.channel_book.specs.declared.faults.BookFault.{BookFault}
use Rattle.channel_book.specs.Shapes.{Declared}
use Rattle.channel_book.specs.Books.{book_of}
use Rattle.cable_model.specs.declared.statuses.BreakReason.{BreakReason}
use Rattle.cable_model.specs.declared.statuses.BreakReason.TheVariants as reason
use Rattle.cable_model.specs.declared.statuses.Status.{Status}
use Rattle.cable_model.specs.declared.statuses.Status.TheVariants as status
use Rattle.cable_model.specs.declared.verbs.Verb.{Verb}
use Rattle.cable_model.specs.LineBreaks.{BreaksFirst}
use Rattle.cable_model.specs.Script.{HasNoFeed, header, book_line}
use Rattle.cable_model.specs.Breaks.{GoodLines, Nothing, Header, Session, BreaksHeader, BreaksBook, BreaksRule, RefusesBook, RefusesLine, next_number}
use Rattle.cable_script.specs.declared.faults.LineFault.{LineFault}
use Rattle.cable_script.specs.declared.faults.LineFault.TheVariants as fault
use Rattle.cable_script.specs.Reading.{verb_of}
use Rattle.cable_script.proofs.FirstFaults.{answered}
use Rattle.cable_script.proofs.GrammarRead.{line_of}
use Rattle.cable_script.proofs.Feeds.{one_line}
use Rattle.cable_script.proofs.Places.{IsStuck, text_same}

-- ---- the rule of a place that a line breaks

header_text : IsUtf8 header
header_text = IsUtf8-are_ascii header refl

-- a line that doesn't begin so
record IsBare (own : BreakReason) (line : List ℕ) (why : BreakReason) : Type 0 where
  which : ((why ≡ reason.NotUtf8) × (¬ IsUtf8 line)) ⊎ ((why ≡ own) × IsUtf8 line)

bare_same : (own : BreakReason) (line : List ℕ) (why how : BreakReason) → IsBare own line why → IsBare own line how → why ≡ how
bare_same own line why how p q = by_which p.which q.which
  where
    by_which : ((why ≡ reason.NotUtf8) × (¬ IsUtf8 line)) ⊎ ((why ≡ own) × IsUtf8 line) → ((how ≡ reason.NotUtf8) × (¬ IsUtf8 line)) ⊎ ((how ≡ own) × IsUtf8 line) → why ≡ how
    by_which (inl x) (inl y) = x.0 ∙ sym y.0
    by_which (inl x) (inr y) = absurd (x.1 y.1)
    by_which (inr x) (inl y) = absurd (y.1 x.1)
    by_which (inr x) (inr y) = x.0 ∙ sym y.0

header_bare : (why : BreakReason) (line : List ℕ) → BreaksHeader why line → IsBare reason.NoHeader line why
header_bare reason.NotUtf8 line b = record { which = inl (refl, b) }
header_bare reason.NoHeader line b = record { which = inr (refl, b.0) }
header_bare reason.NoBook line b = absurd b
header_bare reason.UnknownVerb line b = absurd b
header_bare reason.BadWords line b = absurd b
header_bare reason.BadNumber line b = absurd b
header_bare reason.BadJson line b = absurd b
header_bare reason.TooLarge line b = absurd b

no_header : (why : BreakReason) (line : List ℕ) → BreaksHeader why line → ¬ (line ≡ header)
no_header reason.NotUtf8 line b e = b (subst IsUtf8 (sym e) header_text)
no_header reason.NoHeader line b e = b.1 e
no_header reason.NoBook line b e = b
no_header reason.UnknownVerb line b e = b
no_header reason.BadWords line b e = b
no_header reason.BadNumber line b e = b
no_header reason.BadJson line b e = b
no_header reason.TooLarge line b e = b

book_bare : (why : BreakReason) (line : List ℕ) → BreaksBook why line → IsBare reason.NoBook line why
book_bare reason.NotUtf8 line b = record { which = inl (refl, b) }
book_bare reason.NoBook line b = record { which = inr (refl, b.0) }
book_bare reason.NoHeader line b = absurd b
book_bare reason.UnknownVerb line b = absurd b
book_bare reason.BadWords line b = absurd b
book_bare reason.BadNumber line b = absurd b
book_bare reason.BadJson line b = absurd b
book_bare reason.TooLarge line b = absurd b

no_book : (why : BreakReason) (line text : List ℕ) → BreaksBook why line → IsUtf8 line → ¬ (line ≡ book_line text)
no_book reason.NotUtf8 line text b u e = b u
no_book reason.NoBook line text b u e = b.1 text e
no_book reason.NoHeader line text b u e = b
no_book reason.UnknownVerb line text b u e = b
no_book reason.BadWords line text b u e = b
no_book reason.BadNumber line text b u e = b
no_book reason.BadJson line text b u e = b
no_book reason.TooLarge line text b u e = b

-- the rule that a fault stands for
abbrev rule_of : LineFault → BreakReason
rule_of fault.NotUtf8 = reason.NotUtf8
rule_of fault.UnknownVerb = reason.UnknownVerb
rule_of fault.BadWords = reason.BadWords
rule_of fault.BadNumber = reason.BadNumber
rule_of fault.BadJson = reason.BadJson
rule_of fault.TooLarge = reason.TooLarge
rule_of fault.OutOfMemory = reason.NotUtf8

-- the line is read as a fault of this rule
record Faults (line : List ℕ) (why : BreakReason) : Type 0 where
  found : LineFault
  read : verb_of line ≡ Err found
  rule : rule_of found ≡ why

faults : (why : BreakReason) (line : List ℕ) → BreaksFirst why line → Faults line why
faults reason.NoHeader line b = absurd b
faults reason.NoBook line b = absurd b
faults reason.NotUtf8 line b = record { found = fault.NotUtf8; read = answered line fault.NotUtf8 b; rule = refl }
faults reason.UnknownVerb line b = record { found = fault.UnknownVerb; read = answered line fault.UnknownVerb b; rule = refl }
faults reason.BadWords line b = record { found = fault.BadWords; read = answered line fault.BadWords b; rule = refl }
faults reason.BadNumber line b = record { found = fault.BadNumber; read = answered line fault.BadNumber b; rule = refl }
faults reason.BadJson line b = record { found = fault.BadJson; read = answered line fault.BadJson b; rule = refl }
faults reason.TooLarge line b = record { found = fault.TooLarge; read = answered line fault.TooLarge b; rule = refl }

err_same : (r : Result Verb LineFault) (f g : LineFault) → r ≡ Err f → r ≡ Err g → f ≡ g
err_same r f g a b = cc

no_both : (r : Result Verb LineFault) (f : LineFault) (v : Verb) → r ≡ Err f → r ≡ Ok v → ⊥
no_both r f v a b = absurd cc

-- a line breaks one rule first
rule_same : (lines : GoodLines) (line : List ℕ) (why how : BreakReason) → BreaksRule lines why line → BreaksRule lines how line → why ≡ how
rule_same Nothing line why how p q = bare_same reason.NoHeader line why how (header_bare why line p) (header_bare how line q)
rule_same Header line why how p q = bare_same reason.NoBook line why how (book_bare why line p) (book_bare how line q)
rule_same (Session s) line why how p q =
    let x = faults why line p in
    let y = faults how line q in
    sym x.rule ∙ ap rule_of (err_same (verb_of line) x.found y.found x.read y.read) ∙ y.rule

-- ---- how a line is refused

record ByRule (lines : GoodLines) (line : List ℕ) (s : Status) : Type 0 where
  why : BreakReason
  breaks : BreaksRule lines why line
  is : s ≡ status.BadScript (next_number lines) why

record ByBook (lines : GoodLines) (line : List ℕ) (s : Status) : Type 0 where
  second : lines ≡ Header
  found : BookFault
  refuses : RefusesBook found line
  is : s ≡ status.BadBook found

number_is : (number next : ℕ) (why : BreakReason) → number ≡ next → status.BadScript number why ≡ status.BadScript next why
number_is number next why e = cc

refused_line : (lines : GoodLines) (line : List ℕ) (s : Status) → RefusesLine lines line s → ByRule lines line s ⊎ ByBook lines line s
refused_line lines line (status.BadScript number why) r = inl (record { why = why; breaks = r.0; is = number_is number (next_number lines) why r.1 })
refused_line Header line (status.BadBook found) r = inr (record { second = refl; found = found; refuses = r; is = refl })
refused_line Nothing line (status.BadBook found) r = absurd r
refused_line (Session s) line (status.BadBook found) r = absurd r
refused_line lines line status.Ok r = absurd r
refused_line lines line status.Usage r = absurd r
refused_line lines line status.Unended r = absurd r
refused_line lines line (status.TooLong number) r = absurd r
refused_line lines line status.ReadFault r = absurd r
refused_line lines line status.WriteFault r = absurd r
refused_line lines line status.OutOfMemory r = absurd r
refused_line lines line status.StoreFault r = absurd r
refused_line lines line status.NetFault r = absurd r
refused_line lines line status.TooMuch r = absurd r

fault_same : (r : Result Declared BookFault) (f g : BookFault) → r ≡ Err f → r ≡ Err g → f ≡ g
fault_same r f g a b = cc

refused_same : (lines : GoodLines) (line : List ℕ) (s t : Status) → ByRule lines line s ⊎ ByBook lines line s → ByRule lines line t ⊎ ByBook lines line t → s ≡ t
refused_same lines line s t (inl x) (inl y) =
    x.is ∙ ap (λ (why : BreakReason). status.BadScript (next_number lines) why) (rule_same lines line x.why y.why x.breaks y.breaks) ∙ sym y.is
refused_same lines line s t (inl x) (inr y) =
    absurd (no_book x.why line y.refuses.text (subst (λ (k : GoodLines). BreaksRule k x.why line) y.second x.breaks) y.refuses.utf8 y.refuses.names)
refused_same lines line s t (inr x) (inl y) =
    absurd (no_book y.why line x.refuses.text (subst (λ (k : GoodLines). BreaksRule k y.why line) x.second y.breaks) x.refuses.utf8 x.refuses.names)
refused_same lines line s t (inr x) (inr y) =
    let text = text_same x.refuses.text y.refuses.text (sym x.refuses.names ∙ y.refuses.names) in
    let found = fault_same (book_of y.refuses.text) x.found y.found (subst (λ (k : List ℕ). book_of k ≡ Err x.found) text x.refuses.refused) y.refuses.refused in
    x.is ∙ ap (λ (f : BookFault). status.BadBook f) found ∙ sym y.is

-- a line is refused with one status
pub one_refusal : (lines : GoodLines) (line : List ℕ) (s t : Status) → RefusesLine lines line s → RefusesLine lines line t → s ≡ t
one_refusal lines line s t p q = refused_same lines line s t (refused_line lines line s p) (refused_line lines line t q)

-- ---- where it stands

rule_stuck : (lines : GoodLines) (line next rest : List ℕ) (why : BreakReason) → BreaksRule lines why line → HasNoFeed line → rest ≡ line ++ 10 ∷ next → IsStuck lines rest
rule_stuck Nothing line next rest why b one e = λ other f. no_header why line b (one_line line header next other one refl (sym e ∙ f)).0
rule_stuck Header line next rest why b one e = λ text other book l d f.
    let same = (one_line line (book_line text) next other one l.one (sym e ∙ f)).0 in
    no_book why line text b (subst IsUtf8 (sym same) l.utf8) same
rule_stuck (Session s) line next rest why b one e = λ v other more l spells f.
    let same = (one_line line other next more one l.one (sym e ∙ f)).0 in
    let found = faults why line b in
    no_both (verb_of line) found.found v found.read (ap verb_of same ∙ line_of other v l.utf8 spells)

declared_or_not : (r : Result Declared BookFault) (f : BookFault) (b : Declared) → r ≡ Err f → r ≡ Ok b → ⊥
declared_or_not r f b x y = absurd cc

book_stuck : (line next rest : List ℕ) (found : BookFault) → RefusesBook found line → HasNoFeed line → rest ≡ line ++ 10 ∷ next → IsStuck Header rest
book_stuck line next rest found r one e = λ text other book l d f.
    let same = (one_line line (book_line text) next other one l.one (sym e ∙ f)).0 in
    let names = text_same r.text text (sym r.names ∙ same) in
    declared_or_not (book_of text) found book (subst (λ (k : List ℕ). book_of k ≡ Err found) names r.refused) d

-- no line goes on where a line is refused
pub refused_stuck : (lines : GoodLines) (line next rest : List ℕ) (s : Status) → RefusesLine lines line s → HasNoFeed line → rest ≡ line ++ 10 ∷ next → IsStuck lines rest
refused_stuck lines line next rest s r one e = by_which (refused_line lines line s r)
  where
    by_which : ByRule lines line s ⊎ ByBook lines line s → IsStuck lines rest
    by_which (inl x) = rule_stuck lines line next rest x.why x.breaks one e
    by_which (inr x) = subst (λ (k : GoodLines). IsStuck k rest) (sym x.second) (book_stuck line next rest x.found x.refuses one e)
