-- Rows whose ids rise.
use Rattle.std.proofs.Common.{ℕ, zero, suc, ◌+◌, ◌<◌, ◌≤◌, ◌≡◌, List, [], ◌∷◌, length, map, arith}
use Rattle.std.specs.List.{AllByRecursion}
use Rattle.std.specs.List.Sorted.{IsStrictlyIncreasing}
use Rattle.cable_base.specs.declared.rows.Row.{Row}
use Rattle.cable_base.proofs.Rises.{Rises, Rises-within}
use Rattle.cable_model.proofs.Delivered.{id_of}
use Rattle.table_core.specs.Keepers.{greatest_id}

-- what rises behind a number is strictly increasing with it
pub rises-increasing : {A : Type 0} (f : A → ℕ) (b : ℕ) (xs : List A) (e : ℕ) → Rises f b xs e → IsStrictlyIncreasing (b ∷ map f xs)
rises-increasing f b [] e h k l = absurd (omega arith)
rises-increasing f b (x ∷ xs) e h zero l = h.0
rises-increasing f b (x ∷ xs) e h (suc k) l =
    let n : suc k + 1 ≡ suc (k + 1) = omega arith in
    let l' : k + 1 < length (f x ∷ map f xs) = omega arith in
    rw n (rises-increasing f (f x) xs e h.1 k l')

-- what rises within a bound rises up to it
pub rises-upto : (b last e : ℕ) (rows : List Row) → Rises id_of b rows e → b ≤ last → AllByRecursion (λ r. r.id.0 ≤ last) rows → Rises id_of b rows last
rises-upto b last e [] h l a = l
rises-upto b last e (r ∷ rows) h l a = (h.0, rises-upto r.id.0 last e rows h.1 a.0 a.1)

pub rises-all : (b last : ℕ) (rows : List Row) → Rises id_of b rows last → AllByRecursion (λ r. r.id.0 ≤ last) rows
rises-all b last [] h = tt
rises-all b last (r ∷ rows) h = (Rises-within id_of r.id.0 rows last h.1, rises-all r.id.0 last rows h.1)

pub below-greatest : (rows : List Row) (n : ℕ) → greatest_id rows ≤ n → AllByRecursion (λ r. r.id.0 ≤ n) rows
below-greatest [] n l = tt
below-greatest (r ∷ rows) n l = (omega arith, below-greatest rows n (omega arith))
