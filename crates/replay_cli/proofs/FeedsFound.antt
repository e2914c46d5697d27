-- Where the first line feed was looked for.
use Rattle.std.proofs.Common.{◌≡◌, ℕ, suc, ◌+◌, ◌-◌, ◌≤◌, List, [], ◌∷◌, length, take, drop, Bool, true, false, not, cond, Option, Some, None, refl, subst, arith}
use Rattle.std.specs.Prelude.{nat_lt, ◌==◌, position}
use Rattle.std.specs.List.{position_or_len}
use Rattle.std.proofs.lemmas.Bool.{ltb-false}
use Rattle.std.proofs.lemmas.List.{take_rest}
use Rattle.std.proofs.lemmas.Option.{cond_some}
use Rattle.cable_model.specs.Script.{HasNoFeed}
use Rattle.cable_script.proofs.Cuts.{cut_is}
use Rattle.replay_cli.specs.Begun.{IsCut}
use Rattle.replay_cli.specs.Reading.{is_feed}

-- what stands before it and behind it
pub feed_cut : (bytes : List ℕ) (at : ℕ) → position is_feed bytes ≡ Some at → IsCut bytes (take at bytes) (take (length bytes - (at + 1)) (drop (at + 1) bytes))
feed_cut bytes at e =
    let h = cond_some (nat_lt (position_or_len is_feed bytes) (length bytes)) (position_or_len is_feed bytes) at e in
    let cut = cut_is 10 bytes (take (position_or_len is_feed bytes) bytes) (drop (position_or_len is_feed bytes + 1) bytes) (rw h.0 refl) in
    rw take_rest (subst (λ (n : ℕ). IsCut bytes (take n bytes) (drop (n + 1) bytes)) h.1 (record { parts = cut.parts; one = cut.none }))

none_passes : (bytes : List ℕ) → length bytes ≤ position_or_len is_feed bytes → HasNoFeed bytes
none_passes [] le = refl
none_passes (b ∷ bytes) le = by_test (b == 10) refl (none_passes bytes) le
  where
    by_test : (t : Bool) → (b == 10) ≡ t → (length bytes ≤ position_or_len is_feed bytes → HasNoFeed bytes) → suc (length bytes) ≤ cond (not t) (1 + position_or_len is_feed bytes) 0 → HasNoFeed (b ∷ bytes)
    by_test true e ih le = absurd (omega arith)
    by_test false e ih le = rw e (ih (omega arith))

-- there is none
pub feed_none : (bytes : List ℕ) → position is_feed bytes ≡ None → HasNoFeed bytes
feed_none bytes e = by_test (nat_lt (position_or_len is_feed bytes) (length bytes)) refl e
  where
    by_test : (t : Bool) → nat_lt (position_or_len is_feed bytes) (length bytes) ≡ t → cond {A = Option ℕ} t (Some (position_or_len is_feed bytes)) None ≡ None → HasNoFeed bytes
    by_test true t e = absurd cc
    by_test false t e = none_passes bytes (ltb-false _ _ t)
