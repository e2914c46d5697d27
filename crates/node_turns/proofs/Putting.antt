-- The wants of a change put one after another, and the number of a named subscription.
use Rattle.std.proofs.Common.{ℕ, ◌+◌, ◌<◌, ◌≤◌, ◌≡◌, ◌==◌, Bool, false, ◌&&◌, List, [], ◌∷◌, ◌++◌, length, drop, get_or, drop-cons, add-one, refl, ap, sym, ◌∙◌}
use Rattle.std.proofs.Common.{arith, map, None, Some}
use Rattle.std.proofs.lemmas.List.{append-nil, append_assoc, drop_all}
use Rattle.std.proofs.lemmas.Bool.Decides.{nat_tests}
use Rattle.std.specs.Prelude.{find, option_map, unwrap_or}
use Rattle.std.proofs.Math.Bool.{and-false, and-true}
use Rattle.cable_model.specs.Connection.{Sub}
use Rattle.conn_core.specs.Bare.{bare, bare_sub}
use Rattle.conn_core.specs.Subscriptions.{SubParts, shown, has_identifier}
use Rattle.conn_core.proofs.Bared.{sub_named_is}
use Rattle.node_seats.specs.declared.turning.Wanted.{Wanted}
use Rattle.node_turns.specs.Wished.{wanted_as, wanted_above, number_named}

-- the number of a named subscription, in the words of the call that finds it
pub number_found : (identifier : List ℕ) (ss : List SubParts)
    → number_named identifier (bare (map shown ss)).subs ≡ unwrap_or (option_map (λ s. s.number.0) (find (λ s. has_identifier identifier (shown s)) ss)) 0
number_found identifier ss =
    ap (λ o. unwrap_or (option_map (λ (s : Sub). s.number) o) 0) (sub_named_is identifier ss)
    ∙ elim (find (λ s. has_identifier identifier (shown s)) ss) as (λ o.
    unwrap_or (option_map (λ (s : Sub). s.number) (option_map (λ s. bare_sub (shown s)) o)) 0 ≡ unwrap_or (option_map (λ (s : SubParts). s.number.0) o) 0)
    [ None ↦ refl | Some s ↦ refl ]

-- so many of a subscription's wants were put
pub record Putting (c s made : ℕ) (confirms : Bool) (names : List (List ℕ)) (old : List Wanted) (kept count : ℕ) (wanted : List Wanted)
    (taken spare : ℕ) : Type 0 where
  pub all : wanted ++ wanted_above c s (made + count) (confirms && (count == 0)) (drop count names) ≡ old ++ wanted_above c s made confirms names
  pub taken_is : taken ≡ kept
  pub room : length names ≤ spare + count

pub put-begins : (c s made : ℕ) (confirms : Bool) (names : List (List ℕ)) (old : List Wanted) (taken spare : ℕ) → length names ≤ spare
    → Putting c s made confirms names old taken 0 old taken spare
put-begins c s made confirms names old taken spare l =
    let n : made + 0 ≡ made = omega arith in
    record { all = rw (n, and-true confirms) refl; taken_is = refl; room = omega arith }

pub put-step : (c s made : ℕ) (confirms : Bool) (names : List (List ℕ)) (old : List Wanted) (kept count : ℕ) (wanted : List Wanted) (taken spare : ℕ)
    (new : List Wanted) (taken' spare' : ℕ)
    → Putting c s made confirms names old kept count wanted taken spare → count < length names
    → new ≡ wanted ++ wanted_as c s (made + count + 1) (confirms && (count == 0)) ∷ [] → taken' ≡ taken → spare' + 1 ≡ spare
    → Putting c s made confirms names old kept (count + 1) new taken' spare'
put-step c s made confirms names old kept count wanted taken spare new taken' spare' h l e t r =
    record {
      all = rw e
          (append_assoc wanted (wanted_as c s (made + count + 1) (confirms && (count == 0)) ∷ []) _ ∙ (ap (λ ws. wanted ++ ws) (sym next) ∙ h.all));
      taken_is =
          t ∙ h.taken_is;
      room = omega (arith, h.room);
    }
  where
    later : (count + 1 == 0) ≡ false
    later = grind (arith, nat_tests)

    next : wanted_above c s (made + count) (confirms && (count == 0)) (drop count names)
        ≡ wanted_as c s (made + count + 1) (confirms && (count == 0))
        ∷ wanted_above c s (made + (count + 1)) (confirms && (count + 1 == 0)) (drop (count + 1) names)
    next =
        let m : made + (count + 1) ≡ made + count + 1 = omega arith in
        let d : drop count names ≡ get_or names count [] ∷ drop (count + 1) names = rw add-one (drop-cons names count [] l) in
        rw (d, m, later, and-false confirms) refl

pub put-ends : (c s made : ℕ) (confirms : Bool) (names : List (List ℕ)) (old : List Wanted) (kept count : ℕ) (wanted : List Wanted) (taken spare : ℕ)
    → Putting c s made confirms names old kept count wanted taken spare → length names ≤ count → wanted ≡ old ++ wanted_above c s made confirms names
put-ends c s made confirms names old kept count wanted taken spare h l =
    let none = drop_all count names l in
    let all = h.all in
    let all' : wanted ++ [] ≡ old ++ wanted_above c s made confirms names = rw none at all in
    sym (append-nil wanted) ∙ all'
