-- The marks of a connection's turns, and how many wants were made before each.
use Rattle.std.proofs.Common.{ℕ, ◌+◌, ◌≡◌, ◌≤◌, ◌==◌, Bool, true, false, List, [], ◌∷◌, ◌++◌, Some, None, Option, refl, ap, ◌∙◌, arith, leb}
use Rattle.std.proofs.lemmas.List.{append-nil}
use Rattle.std.proofs.lemmas.Bool.Decides.{nat_tests}
use Rattle.cable_model.specs.declared.journals.ReadNote.{ReadNote}
use Rattle.cable_model.specs.declared.plans.Change.{Change}
use Rattle.cable_model.specs.declared.plans.Change.TheVariants as change
use Rattle.cable_model.specs.Steps.{Step, Finish, Ask, Deliver}
use Rattle.cable_model.specs.Connection.{Conn, changed}
use Rattle.cable_model.specs.Wants.{Mark, marks, mark_of, turn_mark, user_of, made, makes, at_ask}
use Rattle.cable_model.specs.Pieces.{seat}
use Rattle.cable_model.proofs.Entries.{unfinished}

pub made-at_ask : (c : ℕ) (past : List Step) → made c (at_ask past) ≤ made c past
made-at_ask c [] = omega arith
made-at_ask c (Ask turn ∷ past) = omega arith
made-at_ask c (Finish d puts plan ∷ past) = go (d == c) refl (made-at_ask c past)
  where
    go : (b : Bool) → (d == c) ≡ b → made c (at_ask past) ≤ made c past → made c (at_ask past) ≤ made c (Finish d puts plan ∷ past)
    go true b ih = rw b (omega arith)
    go false b ih = rw b ih
made-at_ask c (_ ∷ past) = made-at_ask c past

-- a mark, or else the other
abbrev pub first_mark : Option ℕ → Option ℕ → Option ℕ
first_mark None o = o
first_mark (Some m) o = Some m

pub mark_of-append : (w : ℕ) (xs ys : List Mark) → mark_of w (xs ++ ys) ≡ first_mark (mark_of w xs) (mark_of w ys)
mark_of-append w [] ys = refl
mark_of-append w (x ∷ xs) ys = go (leb w x.seen) refl (mark_of-append w xs ys)
  where
    go : (b : Bool) → leb w x.seen ≡ b → mark_of w (xs ++ ys) ≡ first_mark (mark_of w xs) (mark_of w ys) → mark_of w ((x ∷ xs) ++ ys) ≡ first_mark (mark_of w (x ∷ xs)) (mark_of w ys)
    go true b ih = rw b refl
    go false b ih = rw b ih

-- the mark that a turn gives is the last id at its Read, and the want was made before its Ask
pub turn-mark : (c w m : ℕ) (note : ReadNote) (past : List Step) → mark_of w (turn_mark c note past) ≡ Some m → (m ≡ note.last.0) × (w ≤ made c (at_ask past)) × (note.failed ≡ false)
turn-mark c w m note past = go (user_of c (at_ask past)) refl note.failed refl (leb w (made c (at_ask past))) refl
  where
    go : (u : Option (List ℕ)) → user_of c (at_ask past) ≡ u → (f : Bool) → note.failed ≡ f → (b : Bool) → leb w (made c (at_ask past)) ≡ b
        → mark_of w (turn_mark c note past) ≡ Some m → (m ≡ note.last.0) × (w ≤ made c (at_ask past)) × (note.failed ≡ false)
    go None u f f' b b' q = let q' = rw u at q in absurd (cc (q'))
    go (Some u) u' true f b b' q = let q' = rw (u', f) at q in absurd (cc (q'))
    go (Some u) u' false f true b q = let q' = rw (u', f, b) at q in (cc (q'), grind (arith, nat_tests), f)
    go (Some u) u' false f false b q = let q' = rw (u', f, b) at q in absurd (cc (q'))

pub marked-made : (c w m : ℕ) (past : List Step) → mark_of w (marks c past) ≡ Some m → w ≤ made c past
marked-made c w m [] q = absurd (cc (q))
marked-made c w m (Deliver turn note ∷ past) q = go (mark_of w (marks c past)) refl (λ n. marked-made c w n past)
  where
    go : (o : Option ℕ) → mark_of w (marks c past) ≡ o → ((n : ℕ) → mark_of w (marks c past) ≡ Some n → w ≤ made c past) → w ≤ made c past
    go (Some n) e ih = ih n e
    go None e ih =
        let q' = rw (mark_of-append w (marks c past) (turn_mark c note past), e) at q in
        let t = turn-mark c w m note past q' in
        let l = made-at_ask c past in omega (arith, t.1)
marked-made c w m (Finish d puts plan ∷ past) q = go (d == c) refl (marked-made c w m past q)
  where
    go : (b : Bool) → (d == c) ≡ b → w ≤ made c past → w ≤ made c (Finish d puts plan ∷ past)
    go true b ih = rw b (omega arith)
    go false b ih = rw b ih
marked-made c w m (_ ∷ past) q = marked-made c w m past q

pub changed-makes : (x : Change) (p : ℕ) (k : Conn) → (changed x p k).made ≡ k.made + makes x
changed-makes (change.Add identifier streams) p k = refl
changed-makes (change.Streams identifier stops streams) p k = refl
changed-makes _ p k = omega arith

pub made-conn : (c : ℕ) (past : List Step) → (seat c past).conn.made ≡ made c past
made-conn c [] = refl
made-conn c (Finish d puts plan ∷ past) = go (d == c) refl (made-conn c past)
  where
    go : (b : Bool) → (d == c) ≡ b → (seat c past).conn.made ≡ made c past → (seat c (Finish d puts plan ∷ past)).conn.made ≡ made c (Finish d puts plan ∷ past)
    go true b ih = rw b (changed-makes plan.change (seat c past).taken (seat c past).conn ∙ ap (λ n. n + makes plan.change) ih)
    go false b ih = rw b ih
made-conn c (e ∷ past) = ap (λ (k : Conn). k.made) (unfinished c e past refl).conn ∙ made-conn c past

-- a missed turn marks nothing
pub missed-marks : (c turn : ℕ) (note : ReadNote) (past : List Step) → note.failed ≡ true → marks c (Deliver turn note ∷ past) ≡ marks c past
missed-marks c turn note past f = go (user_of c (at_ask past)) refl
  where
    go : (u : Option (List ℕ)) → user_of c (at_ask past) ≡ u → marks c (Deliver turn note ∷ past) ≡ marks c past
    go None u = rw u (append-nil (marks c past))
    go (Some x) u = rw (u, f) (append-nil (marks c past))
