-- Behind the good lines of bytes there is one first break at most.
use Rattle.std.proofs.Common.{◌≡◌, ◌⊎◌, inl, inr, ℕ, ◌≤◌, List, [], ◌∷◌, ◌++◌, length, Option, Some, None, refl, sym, ap, subst, ◌∙◌, arith, append_assoc, append-nil}
use Rattle.std.proofs.lemmas.Option.{same_Some}
use Rattle.cable_model.specs.Limits.{most_line}
use Rattle.cable_model.specs.declared.statuses.BreakReason.{BreakReason}
use Rattle.cable_model.specs.declared.statuses.BreakReason.TheVariants as reason
use Rattle.cable_model.specs.declared.statuses.Status.{Status}
use Rattle.cable_model.specs.declared.statuses.Status.TheVariants as status
use Rattle.cable_model.specs.Script.{Script, IsScript, HasNoFeed, header, book_line}
use Rattle.cable_model.specs.Breaks.{GoodLines, Nothing, Header, Session, Splits, RefusesLine, BeginsWithLine, BeginsTooLong, IsBegun, Refuses, RefusesEnd, BreaksIn, FirstBreak, IsUnbroken, next_number}
use Rattle.cable_script.proofs.Feeds.{one_line, long_or_line, begun_or_line, long_or_begun}
use Rattle.cable_script.proofs.Places.{IsStuck, Meets, one_place}
use Rattle.cable_script.proofs.Refusals.{one_refusal, refused_stuck}

-- ---- the ways in which the rest is refused

-- whatever comes behind it
data Shows (lines : GoodLines) (rest : List ℕ) (s : Status) : Type 0 where
  Long : BeginsTooLong rest → s ≡ status.TooLong (next_number lines) → Shows lines rest s
  Refused : (line : List ℕ) → BeginsWithLine rest line → RefusesLine lines line s → Shows lines rest s

-- the status where bytes end so. A script may end there
abbrev end_of : GoodLines → List ℕ → Option Status
end_of lines (b ∷ rest) = Some status.Unended
end_of Nothing [] = Some (status.BadScript 1 reason.NoHeader)
end_of Header [] = Some (status.BadScript 2 reason.NoBook)
end_of (Session s) [] = None

-- nothing comes behind it
record Ends (lines : GoodLines) (rest : List ℕ) (s : Status) : Type 0 where
  begun : IsBegun rest
  is : end_of lines rest ≡ Some s

long_is : (number next : ℕ) → number ≡ next → status.TooLong number ≡ status.TooLong next
long_is number next e = cc

shows : (lines : GoodLines) (rest : List ℕ) (s : Status) → Refuses lines rest s → Shows lines rest s
shows lines rest (status.TooLong number) r = Long r.0 (long_is number (next_number lines) r.1)
shows lines rest (status.BadScript number why) r = Refused r.0 r.1.0 r.1.1
shows lines rest (status.BadBook found) r = Refused r.0 r.1.0 r.1.1
shows lines rest status.Ok r = Refused r.0 r.1.0 r.1.1
shows lines rest status.Usage r = Refused r.0 r.1.0 r.1.1
shows lines rest status.Unended r = Refused r.0 r.1.0 r.1.1
shows lines rest status.ReadFault r = Refused r.0 r.1.0 r.1.1
shows lines rest status.WriteFault r = Refused r.0 r.1.0 r.1.1
shows lines rest status.OutOfMemory r = Refused r.0 r.1.0 r.1.1
shows lines rest status.StoreFault r = Refused r.0 r.1.0 r.1.1
shows lines rest status.NetFault r = Refused r.0 r.1.0 r.1.1
shows lines rest status.TooMuch r = Refused r.0 r.1.0 r.1.1

nothing_begun : IsBegun []
nothing_begun = record { one = refl; short = omega arith }

end_is : (number next : ℕ) (why own : BreakReason) → why ≡ own → number ≡ next → Some (status.BadScript next own) ≡ Some (status.BadScript number why)
end_is number next why own e f = cc

ends : (lines : GoodLines) (rest : List ℕ) (s : Status) → RefusesEnd lines rest s → Ends lines rest s
ends lines [] status.Unended r = let some = r.1 in absurd (omega arith)
ends lines (b ∷ rest) status.Unended r = record { begun = r.0; is = refl }
ends Nothing [] (status.BadScript number why) r = record { begun = nothing_begun; is = end_is number 1 why reason.NoHeader r.1 r.2 }
ends Nothing (b ∷ rest) (status.BadScript number why) r = let none = r.0 in absurd cc
ends Header [] (status.BadScript number why) r = record { begun = nothing_begun; is = end_is number 2 why reason.NoBook r.1 r.2 }
ends Header (b ∷ rest) (status.BadScript number why) r = let none = r.0 in absurd cc
ends (Session s) rest (status.BadScript number why) r = absurd r
ends lines rest (status.BadBook found) r = absurd r
ends lines rest (status.TooLong number) r = absurd r
ends lines rest status.Ok r = absurd r
ends lines rest status.Usage r = absurd r
ends lines rest status.ReadFault r = absurd r
ends lines rest status.WriteFault r = absurd r
ends lines rest status.OutOfMemory r = absurd r
ends lines rest status.StoreFault r = absurd r
ends lines rest status.NetFault r = absurd r
ends lines rest status.TooMuch r = absurd r

-- ---- one of them at most, with one status

shows_or_begun : (lines : GoodLines) (rest : List ℕ) (s : Status) → Shows lines rest s → ¬ IsBegun rest
shows_or_begun lines rest s (Long long is) begun = long_or_begun rest long begun
shows_or_begun lines rest s (Refused line begins r) begun = begun_or_line rest line begins.rest begun begins.parts

shows_same : (lines : GoodLines) (rest : List ℕ) (s t : Status) → Shows lines rest s → Shows lines rest t → s ≡ t
shows_same lines rest s t (Long long is) (Long other so) = is ∙ sym so
shows_same lines rest s t (Long long is) (Refused line begins r) = absurd (long_or_line rest line begins.rest long begins.short begins.parts)
shows_same lines rest s t (Refused line begins r) (Long long is) = absurd (long_or_line rest line begins.rest long begins.short begins.parts)
shows_same lines rest s t (Refused line begins r) (Refused other stands q) =
    let same = (one_line line other begins.rest stands.rest begins.one stands.one (sym begins.parts ∙ stands.parts)).0 in
    one_refusal lines line s t r (subst (λ (l : List ℕ). RefusesLine lines l t) (sym same) q)

abbrev Breaks : GoodLines → List ℕ → Status → Type 0
Breaks lines rest s = Shows lines rest s ⊎ Ends lines rest s

status_same : (lines : GoodLines) (rest : List ℕ) (s t : Status) → Breaks lines rest s → Breaks lines rest t → s ≡ t
status_same lines rest s t (inl x) (inl y) = shows_same lines rest s t x y
status_same lines rest s t (inl x) (inr y) = absurd (shows_or_begun lines rest s x y.begun)
status_same lines rest s t (inr x) (inl y) = absurd (shows_or_begun lines rest t y x.begun)
status_same lines rest s t (inr x) (inr y) = same_Some s t (sym x.is ∙ y.is)

-- ---- no line goes on there

no_line_stuck : (lines : GoodLines) (rest : List ℕ) → ((line next : List ℕ) → HasNoFeed line → length line ≤ most_line → ¬ (rest ≡ line ++ 10 ∷ next)) → IsStuck lines rest
no_line_stuck Nothing rest none = λ next. none header next refl (omega arith)
no_line_stuck Header rest none = λ text next book l d. none (book_line text) next l.one l.short
no_line_stuck (Session s) rest none = λ v line next l spells. none line next l.one l.short

begun_stuck : (lines : GoodLines) (rest : List ℕ) → IsBegun rest → IsStuck lines rest
begun_stuck lines rest begun = no_line_stuck lines rest (λ line next one short. begun_or_line rest line next begun)

shows_stuck : (lines : GoodLines) (rest : List ℕ) (s : Status) → Shows lines rest s → IsStuck lines rest
shows_stuck lines rest s (Long long is) = no_line_stuck lines rest (λ line next one short. long_or_line rest line next long short)
shows_stuck lines rest s (Refused line begins r) = refused_stuck lines line begins.rest rest s r begins.one begins.parts

breaks_stuck : (lines : GoodLines) (rest : List ℕ) (s : Status) → Breaks lines rest s → IsStuck lines rest
breaks_stuck lines rest s (inl x) = shows_stuck lines rest s x
breaks_stuck lines rest s (inr x) = begun_stuck lines rest x.begun

-- ---- the bytes

-- where the first break is
record Stands (bytes : List ℕ) (lines : GoodLines) (s : Status) : Type 0 where
  rest : List ℕ
  splits : Splits bytes lines rest
  breaks : Breaks lines rest s

stands : (bytes : List ℕ) (lines : GoodLines) (s : Status) → FirstBreak bytes lines s → Stands bytes lines s
stands bytes lines s (inl b) = record { rest = b.rest; splits = b.splits; breaks = inl (shows lines b.rest s b.refuses) }
stands bytes lines s (inr b) = record { rest = b.rest; splits = b.splits; breaks = inr (ends lines b.rest s b.refuses) }

place : (bytes : List ℕ) (a b : GoodLines) (s t : Status) (x : Stands bytes a s) (y : Stands bytes b t) → Meets a b x.rest y.rest
place bytes a b s t x y = one_place bytes a b x.rest y.rest x.splits y.splits (breaks_stuck a x.rest s x.breaks) (breaks_stuck b y.rest t y.breaks)

-- a break of these lines and this rest is one of the same lines and the same rest
moved : (a b : GoodLines) (x y : List ℕ) (s : Status) → Meets a b x y → Breaks a x s → Breaks b y s
moved a b x y s m h = subst (λ (r : List ℕ). Breaks b r s) m.rest (subst (λ (k : GoodLines). Breaks k x s) m.lines h)

-- the good lines before first breaks of the same bytes are the same
pub lines_same : (bytes : List ℕ) (a b : GoodLines) (s t : Status) → FirstBreak bytes a s → FirstBreak bytes b t → a ≡ b
lines_same bytes a b s t p q = (place bytes a b s t (stands bytes a s p) (stands bytes b t q)).lines

-- and so are their statuses
pub breaks_same : (bytes : List ℕ) (a b : GoodLines) (s t : Status) → FirstBreak bytes a s → FirstBreak bytes b t → s ≡ t
breaks_same bytes a b s t p q =
    let x = stands bytes a s p in
    let y = stands bytes b t q in
    status_same b y.rest s t (moved a b x.rest y.rest s (place bytes a b s t x y) x.breaks) y.breaks

-- a script is whole lines, and nothing behind them
script_splits : (bytes : List ℕ) (script : Script) → IsScript bytes script → Splits bytes (Session script) []
script_splits bytes script i = record { before = bytes; good = i; parts = sym (append-nil bytes) }

whole_unbroken : (script : Script) (s : Status) → ¬ Breaks (Session script) [] s
whole_unbroken script s (inl x) = shows_or_begun (Session script) [] s x nothing_begun
whole_unbroken script s (inr x) = let is = x.is in absurd cc

-- bytes with a first break are no script
pub no_script : (bytes : List ℕ) (a : GoodLines) (s : Status) (script : Script) → FirstBreak bytes a s → ¬ IsScript bytes script
no_script bytes a s script p i =
    let x = stands bytes a s p in
    let m = one_place bytes a (Session script) x.rest [] x.splits (script_splits bytes script i) (breaks_stuck a x.rest s x.breaks) (begun_stuck (Session script) [] nothing_begun) in
    whole_unbroken script s (moved a (Session script) x.rest [] s m x.breaks)

-- bytes with a break that shows don't go on unbroken
pub no_open : (bytes : List ℕ) (a b : GoodLines) (s : Status) → BreaksIn bytes a s → ¬ IsUnbroken bytes b
no_open bytes a b s p u =
    let x = shows a p.rest s p.refuses in
    let m = one_place bytes a b p.rest u.rest p.splits u.splits (shows_stuck a p.rest s x) (begun_stuck b u.rest u.begun) in
    shows_or_begun a p.rest s x (subst IsBegun (sym m.rest) u.begun)

session_is : (s t : Script) → Session s ≡ Session t → s ≡ t
session_is s t e = cc

-- bytes are one script at most
pub one_script : (bytes : List ℕ) (s t : Script) → IsScript bytes s → IsScript bytes t → s ≡ t
one_script bytes s t i j =
    let m = one_place bytes (Session s) (Session t) [] [] (script_splits bytes s i) (script_splits bytes t j) (begun_stuck (Session s) [] nothing_begun) (begun_stuck (Session t) [] nothing_begun) in
    session_is s t m.lines

-- ---- more bytes behind

long_stays : (rest more : List ℕ) → BeginsTooLong rest → BeginsTooLong (rest ++ more)
long_stays rest more b =
    record { front = b.front; one = b.one; long = b.long; rest = b.rest ++ more; parts = ap (λ (r : List ℕ). r ++ more) b.parts ∙ append_assoc b.front b.rest more }

line_stays : (rest more line : List ℕ) → BeginsWithLine rest line → BeginsWithLine (rest ++ more) line
line_stays rest more line b =
    record { one = b.one; short = b.short; rest = b.rest ++ more; parts = ap (λ (r : List ℕ). r ++ more) b.parts ∙ append_assoc line (10 ∷ b.rest) more }

refuses_stays : (lines : GoodLines) (rest more : List ℕ) (s : Status) → Refuses lines rest s → Refuses lines (rest ++ more) s
refuses_stays lines rest more (status.TooLong number) r = (long_stays rest more r.0, r.1)
refuses_stays lines rest more (status.BadScript number why) r = (r.0, (line_stays rest more r.0 r.1.0, r.1.1))
refuses_stays lines rest more (status.BadBook found) r = (r.0, (line_stays rest more r.0 r.1.0, r.1.1))
refuses_stays lines rest more status.Ok r = (r.0, (line_stays rest more r.0 r.1.0, r.1.1))
refuses_stays lines rest more status.Usage r = (r.0, (line_stays rest more r.0 r.1.0, r.1.1))
refuses_stays lines rest more status.Unended r = (r.0, (line_stays rest more r.0 r.1.0, r.1.1))
refuses_stays lines rest more status.ReadFault r = (r.0, (line_stays rest more r.0 r.1.0, r.1.1))
refuses_stays lines rest more status.WriteFault r = (r.0, (line_stays rest more r.0 r.1.0, r.1.1))
refuses_stays lines rest more status.OutOfMemory r = (r.0, (line_stays rest more r.0 r.1.0, r.1.1))
refuses_stays lines rest more status.StoreFault r = (r.0, (line_stays rest more r.0 r.1.0, r.1.1))
refuses_stays lines rest more status.NetFault r = (r.0, (line_stays rest more r.0 r.1.0, r.1.1))
refuses_stays lines rest more status.TooMuch r = (r.0, (line_stays rest more r.0 r.1.0, r.1.1))

splits_stays : (bytes more rest : List ℕ) (lines : GoodLines) → Splits bytes lines rest → Splits (bytes ++ more) lines (rest ++ more)
splits_stays bytes more rest lines s =
    record { before = s.before; good = s.good; parts = ap (λ (b : List ℕ). b ++ more) s.parts ∙ append_assoc s.before rest more }

-- a break that shows stays when more bytes come behind
pub break_stays : (bytes more : List ℕ) (a : GoodLines) (s : Status) → BreaksIn bytes a s → BreaksIn (bytes ++ more) a s
break_stays bytes more a s b =
    record { rest = b.rest ++ more; splits = splits_stays bytes more b.rest a b.splits; refuses = refuses_stays a b.rest more s b.refuses }
