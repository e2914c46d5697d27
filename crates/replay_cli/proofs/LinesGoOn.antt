-- Good lines with a further line behind them, and how far bytes are good when further bytes come.
use Rattle.std.proofs.Common.{◌≡◌, ℕ, ◌<◌, List, [], ◌∷◌, ◌++◌, length, refl, sym, ap, subst, ◌∙◌, append_assoc, append-nil}
use Rattle.std.specs.Prelude.{◌==◌}
use Rattle.std.proofs.lemmas.List.Folds.{list_any-append}
use Rattle.cable_model.specs.declared.statuses.Status.{Status}
use Rattle.cable_model.specs.declared.statuses.Status.TheVariants as status
use Rattle.cable_model.specs.declared.verbs.Verb.{Verb}
use Rattle.cable_model.specs.Breaks.{GoodLines, Nothing, Header, Session, AreGood, GoesOn, Splits, IsBegun, BeginsTooLong, BeginsWithLine, RefusesLine, Refuses, BreaksIn, next_number}
use Rattle.cable_model.specs.Limits.{most_line}
use Rattle.cable_model.specs.Script.{Script, IsScript, IsLine, Spells, AllSpell, HasNoFeed, bytes_of_lines, header, book_line}

-- ---- line feeds

-- neither of two parts has one
pub no_feed-append : (a b : List ℕ) → HasNoFeed a → HasNoFeed b → HasNoFeed (a ++ b)
no_feed-append a b p q = list_any-append (λ x. x == 10) a b ∙ rw (p, q) refl

-- ---- a further line

lines-append : (xs bs : List (List ℕ)) → bytes_of_lines (xs ++ bs) ≡ bytes_of_lines xs ++ bytes_of_lines bs
lines-append [] bs = refl
lines-append (a ∷ xs) bs = ap (λ (rest : List ℕ). a ++ 10 ∷ rest) (lines-append xs bs) ∙ sym (append_assoc a (10 ∷ bytes_of_lines xs) (bytes_of_lines bs))

spell-append : (vs : List Verb) (ls : List (List ℕ)) (v : Verb) (line : List ℕ) → AllSpell vs ls → IsLine line → Spells v line → AllSpell (vs ++ v ∷ []) (ls ++ line ∷ [])
spell-append [] [] v line s l p = (l, p, tt)
spell-append [] (m ∷ ls) v line s l p = absurd s
spell-append (w ∷ vs) [] v line s l p = absurd s
spell-append (w ∷ vs) (m ∷ ls) v line s l p = (s.0, s.1, spell-append vs ls v line s.2 l p)

script-more : (s t : Script) (before line : List ℕ) (v : Verb) → IsScript before s → IsLine line → Spells v line → t ≡ record { text = s.text; book = s.book; verbs = s.verbs ++ v ∷ [] }
    → IsScript (before ++ (line ++ 10 ∷ [])) t
script-more s t before line v g l p e =
    subst (IsScript (before ++ (line ++ 10 ∷ []))) (sym e)
    (record {
      lines = g.lines ++ line ∷ [];
      parts = ap (λ (b : List ℕ). b ++ (line ++ 10 ∷ [])) g.parts ∙ sym (lines-append (header ∷ book_line s.text ∷ g.lines) (line ∷ []));
      second = g.second;
      declares = g.declares;
      spelled = spell-append s.verbs g.lines v line g.spelled l p;
    })

script-begun : (s : Script) (before line : List ℕ) → before ≡ bytes_of_lines (header ∷ []) → GoesOn Header line (Session s) → IsScript (before ++ (line ++ 10 ∷ [])) s
script-begun s before line e g =
    record {
      lines = [];
      parts = ap (λ (b : List ℕ). b ++ (line ++ 10 ∷ [])) e ∙ ap (λ (l : List ℕ). bytes_of_lines (header ∷ []) ++ (l ++ 10 ∷ [])) g.1 ∙ sym (lines-append (header ∷ []) (book_line s.text ∷ []));
      second = subst IsLine g.1 g.0;
      declares = g.2;
      spelled = subst (λ (vs : List Verb). AllSpell vs []) (sym g.3) tt;
    }

-- with a line that goes on behind them, lines are good
pub good-more : (lines lines' : GoodLines) (before line : List ℕ) → AreGood lines before → GoesOn lines line lines' → AreGood lines' (before ++ (line ++ 10 ∷ []))
good-more Nothing Nothing before line good on = absurd on
good-more Nothing Header before line good on = rw (good, on) refl
good-more Nothing (Session t) before line good on = absurd on
good-more Header Nothing before line good on = absurd on
good-more Header Header before line good on = absurd on
good-more Header (Session t) before line good on = script-begun t before line good on
good-more (Session s) Nothing before line good on = absurd on
good-more (Session s) Header before line good on = absurd on
good-more (Session s) (Session t) before line good on = script-more s t before line on.0 good on.1.0 on.1.1 on.1.2

-- ---- further bytes

-- they stand behind the rest
pub splits-append : (bytes more rest : List ℕ) (lines : GoodLines) → Splits bytes lines rest → Splits (bytes ++ more) lines (rest ++ more)
splits-append bytes more rest lines s = record { before = s.before; good = s.good; parts = ap (λ (b : List ℕ). b ++ more) s.parts ∙ append_assoc s.before rest more }

-- a line feed ends the line that has begun, and it goes on
pub splits-line : (bytes line : List ℕ) (lines lines' : GoodLines) → Splits bytes lines line → GoesOn lines line lines' → Splits (bytes ++ 10 ∷ []) lines' []
splits-line bytes line lines lines' s on =
    record {
      before = s.before ++ (line ++ 10 ∷ []);
      good = good-more lines lines' s.before line s.good on;
      parts = ap (λ (b : List ℕ). b ++ 10 ∷ []) s.parts ∙ append_assoc s.before line (10 ∷ []) ∙ sym (append-nil (s.before ++ (line ++ 10 ∷ [])));
    }

-- ---- the first break

pub line-append : (bytes line more : List ℕ) → BeginsWithLine bytes line → BeginsWithLine (bytes ++ more) line
line-append bytes line more b =
    record { one = b.one; short = b.short; rest = b.rest ++ more; parts = ap (λ (x : List ℕ). x ++ more) b.parts ∙ append_assoc line (10 ∷ b.rest) more }

long-append : (bytes more : List ℕ) → BeginsTooLong bytes → BeginsTooLong (bytes ++ more)
long-append bytes more b =
    record { front = b.front; one = b.one; long = b.long; rest = b.rest ++ more; parts = ap (λ (x : List ℕ). x ++ more) b.parts ∙ append_assoc b.front b.rest more }

-- what a refused line begins is refused, whatever comes behind
refuses-append : (lines : GoodLines) (rest more : List ℕ) (s : Status) → Refuses lines rest s → Refuses lines (rest ++ more) s
refuses-append lines rest more (status.TooLong n) r = (long-append rest more r.0, r.1)
refuses-append lines rest more s r = (r.0, (line-append rest r.0 more r.1.0, r.1.1))

pub breaks-append : (bytes more : List ℕ) (lines : GoodLines) (s : Status) → BreaksIn bytes lines s → BreaksIn (bytes ++ more) lines s
breaks-append bytes more lines s b =
    record { rest = b.rest ++ more; splits = splits-append bytes more b.rest lines b.splits; refuses = refuses-append lines b.rest more s b.refuses }

-- the statuses with which a line is refused that isn't too long
abbrev pub IsOfLine : Status → Type 0
IsOfLine (status.BadScript n why) = Unit {0}
IsOfLine (status.BadBook fault) = Unit {0}
IsOfLine _ = ⊥

pub of_line : (lines : GoodLines) (line : List ℕ) (s : Status) → RefusesLine lines line s → IsOfLine s
of_line lines line (status.BadScript n why) r = tt
of_line Header line (status.BadBook fault) r = tt
of_line Nothing line s r = absurd r
of_line Header line s r = absurd r
of_line (Session t) line s r = absurd r

refuses_line : (lines : GoodLines) (rest line : List ℕ) (s : Status) → IsOfLine s → BeginsWithLine rest line → RefusesLine lines line s → Refuses lines rest s
refuses_line lines rest line (status.BadScript n why) of b r = (line, (b, r))
refuses_line lines rest line (status.BadBook fault) of b r = (line, (b, r))
refuses_line lines rest line s of b r = absurd of

-- a line feed ends the line that has begun, and it is refused
pub breaks-line : (bytes line : List ℕ) (lines : GoodLines) (s : Status) → Splits bytes lines line → IsBegun line → RefusesLine lines line s → BreaksIn (bytes ++ 10 ∷ []) lines s
breaks-line bytes line lines s p b r =
    record {
      rest = line ++ 10 ∷ [];
      splits = splits-append bytes (10 ∷ []) line lines p;
      refuses = refuses_line lines (line ++ 10 ∷ []) line s (of_line lines line s r) (record { one = b.one; short = b.short; rest = []; parts = refl }) r;
    }

-- with these bytes the line that has begun is too long
pub breaks-long : (bytes line more : List ℕ) (lines : GoodLines) (n : ℕ) → Splits bytes lines line → IsBegun line → HasNoFeed more → most_line < length (line ++ more) → n ≡ next_number lines
    → BreaksIn (bytes ++ more) lines (status.TooLong n)
breaks-long bytes line more lines n p b none long e =
    record {
      rest = line ++ more;
      splits = splits-append bytes more line lines p;
      refuses = (record { front = line ++ more; one = no_feed-append line more b.one none; long = long; rest = []; parts = sym (append-nil (line ++ more)) }, e);
    }
