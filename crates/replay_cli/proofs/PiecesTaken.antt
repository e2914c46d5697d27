-- A piece that is taken line by line.
use Rattle.std.proofs.Common.{◌≡◌, ℕ, ◌≤◌, List, [], ◌∷◌, ◌++◌, Option, Result, Ok, Err, refl, sym, ap, subst, ◌∙◌, arith, append_assoc, append-nil}
use Rattle.std.proofs.KnownBytes.{Appends-nil}
use Rattle.cable_model.specs.declared.statuses.Status.{Status}
use Rattle.cable_model.specs.Breaks.{IsBegun}
use Rattle.cable_model.specs.Script.{HasNoFeed}
use Rattle.replay_cli.specs.declared.modes.Mode.{Mode}
use Rattle.replay_cli.specs.declared.replaying.Replaying.{Replaying}
use Rattle.replay_cli.specs.Begun.{IsCut, Extends}
use Rattle.replay_cli.specs.Outputs.{Writing}
use Rattle.replay_cli.specs.Reading.{HasRead, PieceDoes}
use Rattle.replay_cli.proofs.PiecesRead.{writing, extended, piece_more, piece_then}

-- all of the piece came but the rest
pub record Came (w : Writing) (piece rest : List ℕ) (old now : Replaying) : Type 0 where
  pub front : List ℕ
  pub parts : piece ≡ front ++ rest
  pub does : (given taken : List ℕ) → HasRead given taken old → PieceDoes old.mode given taken front w now (Ok tt)

-- nothing came yet
pub came_none : (t : Option (List ℕ)) (f : ℕ) (piece : List ℕ) (old : Replaying) → Came (writing t t f f) piece piece old old
came_none t f piece old =
    record {
      front = [];
      parts = refl;
      does = λ given taken r. ([], (Appends-nil t, rw (append-nil given, append-nil taken) r));
    }

-- what a call does to what comes next
abbrev pub Does : (b : List ℕ) → Writing → (mid new : Replaying) → Result (Unit {0}) Status → Type 0
Does b w mid new result = (given taken : List ℕ) → HasRead given taken mid → PieceDoes mid.mode given taken b w new result

joined : (t0 t1 t2 : Option (List ℕ)) (f0 f1 f2 : ℕ) (piece rest b : List ℕ) (old mid new : Replaying) (result : Result (Unit {0}) Status) → f0 ≤ f1 → mid.mode ≡ old.mode
    → (k : Came (writing t0 t1 f0 f1) piece rest old mid) → Does b (writing t1 t2 f1 f2) mid new result → Does (k.front ++ b) (writing t0 t2 f0 f2) old new result
joined t0 t1 t2 f0 f1 f2 piece rest b old mid new result le mode k does given taken r =
    piece_then old.mode given taken k.front b t0 t1 t2 f0 f1 f2 mid new result le (k.does given taken r)
    (λ x y h. subst (λ (m : Mode). PieceDoes m x y b (writing t1 t2 f1 f2) new result) mode (does x y h))

-- the line and its line feed stand in front of what is behind them
cut_parts : (piece front rest line behind : List ℕ) → piece ≡ front ++ rest → rest ≡ line ++ 10 ∷ behind → piece ≡ (front ++ (line ++ 10 ∷ [])) ++ behind
cut_parts piece front rest line behind e f = e ∙ ap (λ (x : List ℕ). front ++ x) f ∙ simp append_assoc refl

-- a further line of it came
pub came_line : (t0 t1 t2 : Option (List ℕ)) (f0 f1 f2 : ℕ) (piece rest line behind : List ℕ) (old mid new : Replaying) → f0 ≤ f1 → mid.mode ≡ old.mode → IsCut rest line behind
    → Came (writing t0 t1 f0 f1) piece rest old mid → Does (line ++ 10 ∷ []) (writing t1 t2 f1 f2) mid new (Ok tt) → Came (writing t0 t2 f0 f2) piece behind old new
came_line t0 t1 t2 f0 f1 f2 piece rest line behind old mid new le mode cut k does =
    record {
      front = k.front ++ (line ++ 10 ∷ []);
      parts = cut_parts piece k.front rest line behind k.parts cut.parts;
      does = joined t0 t1 t2 f0 f1 f2 piece rest (line ++ 10 ∷ []) old mid new (Ok tt) le mode k does;
    }

-- a line of it was refused
pub refused_at : (t0 t1 t2 : Option (List ℕ)) (f0 f1 f2 : ℕ) (piece rest line behind : List ℕ) (old mid new : Replaying) (s : Status) → f0 ≤ f1 → mid.mode ≡ old.mode → IsCut rest line behind
    → Came (writing t0 t1 f0 f1) piece rest old mid → Does (line ++ 10 ∷ []) (writing t1 t2 f1 f2) mid new (Err s) → Does piece (writing t0 t2 f0 f2) old new (Err s)
refused_at t0 t1 t2 f0 f1 f2 piece rest line behind old mid new s le mode cut k does given taken r =
    subst (λ (p : List ℕ). PieceDoes old.mode given taken p (writing t0 t2 f0 f2) new (Err s)) (sym (cut_parts piece k.front rest line behind k.parts cut.parts))
    (piece_more old.mode given taken (k.front ++ (line ++ 10 ∷ [])) behind (writing t0 t2 f0 f2) new s
    (joined t0 t1 t2 f0 f1 f2 piece rest (line ++ 10 ∷ []) old mid new (Err s) le mode k does given taken r))

-- what has no line feed goes behind the line that has begun
pub came_whole : (t0 t1 : Option (List ℕ)) (f0 f1 : ℕ) (piece rest : List ℕ) (old mid new : Replaying) (result : Result (Unit {0}) Status) → f0 ≤ f1 → mid.mode ≡ old.mode → HasNoFeed rest
    → Came (writing t0 t1 f0 f1) piece rest old mid → Extends rest mid new result → Does piece (writing t0 t1 f0 f1) old new result
came_whole t0 t1 f0 f1 piece rest old mid new result le mode none k e given taken r =
    subst (λ (p : List ℕ). PieceDoes old.mode given taken p (writing t0 t1 f0 f1) new result) (sym k.parts)
    (joined t0 t1 t1 f0 f1 f1 piece rest rest old mid new result le mode k (λ x y h. extended t1 f1 x y rest mid new result none e h) given taken r)

-- no line has begun
pub begun_none : (line : List ℕ) → line ≡ [] → IsBegun line
begun_none line e = rw e (record { one = refl; short = omega arith })
