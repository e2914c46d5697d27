-- What the words of the command line ask for.
use Rattle.std.proofs.Common.{◌≡◌, ℕ, ◌≤◌, ◌^◌, ◌-◌, Bool, true, false, cond, List, [], ◌∷◌, Some, None, arith}
use Rattle.cable_script.specs.Words.{number_in}
use Rattle.cable_script.proofs.Spellings.{number_is}
use Rattle.cable_script.proofs.WordsRead.{bind_is}
use Rattle.replay_cli.specs.declared.modes.Mode.TheVariants as mode
use Rattle.replay_cli.specs.declared.modes.Order.TheVariants as order
use Rattle.replay_cli.specs.Modes.{order_of, made_order, most_made}

-- a count of lines that may be drawn
abbrev pub IsCount : ℕ → Type 0
IsCount count = (1 ≤ count) × (count ≤ most_made)

-- one word asks for no made script
one_word : (a b : Bool) (seed count : ℕ) → cond a (Some (order.Read mode.Totals)) (cond b (Some (order.Read mode.Print)) None) ≡ Some (order.Make seed count) → ⊥
one_word true b seed count e = absurd cc
one_word false true seed count e = absurd cc
one_word false false seed count e = absurd cc

-- the third word of a made script is its count
made_count : (seed_word count_word : List ℕ) (seed count : ℕ) → made_order seed_word count_word ≡ Some (order.Make seed count) → IsCount count
unfolding made_order
made_count seed_word count_word seed count e =
    let first = bind_is (number_in 0 (2 ^ 64 - 1) seed_word) _ (order.Make seed count) e in
    let second = bind_is (number_in 1 most_made count_word) _ (order.Make seed count) first.1.1 in
    let same : second.0 ≡ count = cc (second.1.1) in
    let is = number_is 1 most_made second.0 count_word (omega arith) second.1.0 in
    (omega (arith, is.1, same), omega (arith, is.2, same))

-- only the word for a made script asks for one
three_words : (a : Bool) (seed_word count_word : List ℕ) (seed count : ℕ) → cond a (made_order seed_word count_word) None ≡ Some (order.Make seed count) → IsCount count
three_words true seed_word count_word seed count e = made_count seed_word count_word seed count e
three_words false seed_word count_word seed count e = absurd cc

-- a made script has from 1 to `most_made` lines that are drawn
pub asked_count : (words : List (List ℕ)) (seed count : ℕ) → order_of words ≡ Some (order.Make seed count) → IsCount count
asked_count [] seed count e = absurd cc
asked_count (word ∷ []) seed count e = absurd (one_word _ _ seed count e)
asked_count (word ∷ s ∷ []) seed count e = absurd cc
asked_count (word ∷ s ∷ n ∷ []) seed count e = three_words _ s n seed count e
asked_count (word ∷ s ∷ n ∷ next ∷ words) seed count e = absurd cc
