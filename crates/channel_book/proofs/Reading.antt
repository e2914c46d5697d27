-- The loops that read a book's lists: what was read so far, and what is read of the rest.
use Rattle.std.proofs.Common.{ℕ, List, ◌++◌}
use Rattle.std.specs.Prelude.{Result, Ok}
use Rattle.channel_book.specs.Steps.{◌>>=◌}

-- what was read so far stands before what is read of the rest
abbrev pub behind : {X : Type 0} → List X → Result (List X) (List ℕ) → Result (List X) (List ℕ)
behind front read = read >>= λ more. Ok (front ++ more)
