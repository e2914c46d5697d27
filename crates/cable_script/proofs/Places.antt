-- Places in bytes behind which no line goes on: the same bytes come to one at most.
use Rattle.std.proofs.Common.{◌≡◌, ℕ, List, [], ◌∷◌, ◌++◌, Ok, refl, sym, ap, subst, ◌∙◌, append_assoc}
use Rattle.channel_book.specs.Shapes.{Declared}
use Rattle.channel_book.specs.Books.{book_of}
use Rattle.cable_model.specs.declared.verbs.Verb.{Verb}
use Rattle.cable_model.specs.Script.{Script, IsLine, AllSpell, Spells, bytes_of_lines, header, book_line}
use Rattle.cable_model.specs.Breaks.{GoodLines, Nothing, Header, Session, Splits}
use Rattle.cable_script.proofs.GrammarRead.{line_of}
use Rattle.cable_script.proofs.Feeds.{one_line}

-- no line that goes on stands there
abbrev pub NoHeader : List ℕ → Type 0
NoHeader rest = (next : List ℕ) → ¬ (rest ≡ header ++ 10 ∷ next)

abbrev pub NoBook : List ℕ → Type 0
NoBook rest = (text next : List ℕ) (book : Declared) → IsLine (book_line text) → book_of text ≡ Ok book → ¬ (rest ≡ book_line text ++ 10 ∷ next)

abbrev pub NoVerb : List ℕ → Type 0
NoVerb rest = (v : Verb) (line next : List ℕ) → IsLine line → Spells v line → ¬ (rest ≡ line ++ 10 ∷ next)

abbrev pub IsStuck : GoodLines → List ℕ → Type 0
IsStuck Nothing rest = NoHeader rest
IsStuck Header rest = NoBook rest
IsStuck (Session s) rest = NoVerb rest

-- ---- behind the book

ok_same : (v w : Verb) (line : List ℕ) → IsLine line → Spells v line → Spells w line → v ≡ w
ok_same v w line l s t = let a = line_of line v l.utf8 s in let b = line_of line w l.utf8 t in cc

-- the same verbs, and the same rest
abbrev Same : (vs ws : List Verb) (x y : List ℕ) → Type 0
Same vs ws x y = (vs ≡ ws) × (x ≡ y)

next_same : (v w : Verb) (vs ws : List Verb) (x y : List ℕ) → v ≡ w → Same vs ws x y → Same (v ∷ vs) (w ∷ ws) x y
next_same v w vs ws x y e h = let first = h.0 in (cc, h.1)

-- lines that spell verbs, from the front of the same bytes, up to where none goes on
verbs_same : (vs ws : List Verb) (ls ms : List (List ℕ)) (x y : List ℕ) → AllSpell vs ls → AllSpell ws ms → bytes_of_lines ls ++ x ≡ bytes_of_lines ms ++ y
    → NoVerb x → NoVerb y → Same vs ws x y
verbs_same [] [] [] [] x y s t e p q = (refl, e)
verbs_same [] [] [] (m ∷ ms) x y s t e p q = absurd t
verbs_same [] [] (l ∷ ls) ms x y s t e p q = absurd s
verbs_same [] (w ∷ ws) [] [] x y s t e p q = absurd t
verbs_same [] (w ∷ ws) (l ∷ ls) ms x y s t e p q = absurd s
verbs_same [] (w ∷ ws) [] (m ∷ ms) x y s t e p q = absurd (p w m (bytes_of_lines ms ++ y) t.0 t.1 (e ∙ append_assoc m (10 ∷ bytes_of_lines ms) y))
verbs_same (v ∷ vs) ws [] ms x y s t e p q = absurd s
verbs_same (v ∷ vs) [] (l ∷ ls) [] x y s t e p q = absurd (q v l (bytes_of_lines ls ++ x) s.0 s.1 (sym e ∙ append_assoc l (10 ∷ bytes_of_lines ls) x))
verbs_same (v ∷ vs) [] (l ∷ ls) (m ∷ ms) x y s t e p q = absurd t
verbs_same (v ∷ vs) (w ∷ ws) (l ∷ ls) [] x y s t e p q = absurd t
verbs_same (v ∷ vs) (w ∷ ws) (l ∷ ls) (m ∷ ms) x y s t e p q =
    let cut = one_line l m (bytes_of_lines ls ++ x) (bytes_of_lines ms ++ y) s.0.one t.0.one
    (sym (append_assoc l (10 ∷ bytes_of_lines ls) x) ∙ e ∙ append_assoc m (10 ∷ bytes_of_lines ms) y) in
    next_same v w vs ws x y (ok_same v w l s.0 s.1 (subst (λ (k : List ℕ). Spells w k) (sym cut.0) t.1)) (verbs_same vs ws ls ms x y s.2 t.2 cut.1 p q)

-- ---- the whole bytes

-- what good lines and the rest behind them are, from the front
abbrev Reads : GoodLines → (bytes rest : List ℕ) → Type 0
Reads Nothing bytes rest = bytes ≡ rest
Reads Header bytes rest = bytes ≡ header ++ 10 ∷ rest
Reads (Session s) bytes rest =
    (lines : List (List ℕ)) × (IsLine (book_line s.text) × (book_of s.text ≡ Ok s.book) × AllSpell s.verbs lines
    × (bytes ≡ header ++ 10 ∷ (book_line s.text ++ 10 ∷ (bytes_of_lines lines ++ rest))))

reads_of : (lines : GoodLines) (bytes rest : List ℕ) → Splits bytes lines rest → Reads lines bytes rest
reads_of Nothing bytes rest s = s.parts ∙ ap (λ (b : List ℕ). b ++ rest) s.good
reads_of Header bytes rest s = s.parts ∙ ap (λ (b : List ℕ). b ++ rest) s.good
reads_of (Session t) bytes rest s =
    let g = s.good in
    (g.lines, (g.second, g.declares, g.spelled, s.parts ∙ ap (λ (b : List ℕ). b ++ rest) g.parts ∙ simp append_assoc refl))

-- the same lines, and the same rest
pub record Meets (a b : GoodLines) (x y : List ℕ) : Type 0 where
  pub lines : a ≡ b
  pub rest : x ≡ y

header_same : (x y : List ℕ) → header ++ 10 ∷ x ≡ header ++ 10 ∷ y → x ≡ y
header_same x y e = (one_line header header x y refl refl e).1

pub text_same : (t u : List ℕ) → book_line t ≡ book_line u → t ≡ u
text_same t u e = cc

book_same : (text : List ℕ) (b c : Declared) → book_of text ≡ Ok b → book_of text ≡ Ok c → b ≡ c
book_same text b c e f = cc

abbrev script_with : List ℕ → Declared → List Verb → Script
script_with text book verbs = record { text = text; book = book; verbs = verbs }

parts_same : (t u : List ℕ) (b c : Declared) (vs ws : List Verb) → t ≡ u → b ≡ c → vs ≡ ws → script_with t b vs ≡ script_with u c ws
parts_same t u b c vs ws e f g = cc

script_same : (s t : Script) → s.text ≡ t.text → s.book ≡ t.book → s.verbs ≡ t.verbs → s ≡ t
script_same s t e f g = parts_same s.text t.text s.book t.book s.verbs t.verbs e f g

session_same : (s t : Script) (bytes x y : List ℕ) → Reads (Session s) bytes x → Reads (Session t) bytes y → NoVerb x → NoVerb y → Meets (Session s) (Session t) x y
session_same s t bytes x y (ls, (l, d, r, e)) (ms, (m, f, q, g)) p o =
    let behind = header_same (book_line s.text ++ 10 ∷ (bytes_of_lines ls ++ x)) (book_line t.text ++ 10 ∷ (bytes_of_lines ms ++ y)) (sym e ∙ g) in
    let cut = one_line (book_line s.text) (book_line t.text) (bytes_of_lines ls ++ x) (bytes_of_lines ms ++ y) l.one m.one behind in
    let text = text_same s.text t.text cut.0 in
    let book = book_same t.text s.book t.book (subst (λ (k : List ℕ). book_of k ≡ Ok s.book) text d) f in
    let verbs = verbs_same s.verbs t.verbs ls ms x y r q cut.1 p o in
    record { lines = ap Session (script_same s t text book verbs.0); rest = verbs.1 }

meets : (a b : GoodLines) (bytes x y : List ℕ) → Reads a bytes x → Reads b bytes y → IsStuck a x → IsStuck b y → Meets a b x y
meets Nothing Nothing bytes x y r q p o = record { lines = refl; rest = sym r ∙ q }
meets Nothing Header bytes x y r q p o = absurd (p y (sym r ∙ q))
meets Nothing (Session t) bytes x y r q p o = absurd (p (book_line t.text ++ 10 ∷ (bytes_of_lines q.0 ++ y)) (sym r ∙ q.1.3))
meets Header Nothing bytes x y r q p o = absurd (o x (sym q ∙ r))
meets Header Header bytes x y r q p o = record { lines = refl; rest = header_same x y (sym r ∙ q) }
meets Header (Session t) bytes x y r q p o =
    absurd (p t.text (bytes_of_lines q.0 ++ y) t.book q.1.0 q.1.1 (header_same x (book_line t.text ++ 10 ∷ (bytes_of_lines q.0 ++ y)) (sym r ∙ q.1.3)))
meets (Session s) Nothing bytes x y r q p o = absurd (o (book_line s.text ++ 10 ∷ (bytes_of_lines r.0 ++ x)) (sym q ∙ r.1.3))
meets (Session s) Header bytes x y r q p o =
    absurd (o s.text (bytes_of_lines r.0 ++ x) s.book r.1.0 r.1.1 (header_same y (book_line s.text ++ 10 ∷ (bytes_of_lines r.0 ++ x)) (sym q ∙ r.1.3)))
meets (Session s) (Session t) bytes x y r q p o = session_same s t bytes x y r q p o

-- the same bytes come to one place at most behind which no line goes on
pub one_place : (bytes : List ℕ) (a b : GoodLines) (x y : List ℕ) → Splits bytes a x → Splits bytes b y → IsStuck a x → IsStuck b y → Meets a b x y
one_place bytes a b x y s t p o = meets a b bytes x y (reads_of a bytes x s) (reads_of b bytes y t) p o
