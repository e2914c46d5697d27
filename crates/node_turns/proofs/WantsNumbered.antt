-- The wants of a connection are numbered as they are made, from its own on, which is number 0 and alone is of no subscription.
use Rattle.std.proofs.Common.{ℕ, zero, suc, ◌+◌, ◌≡◌, ◌<◌, ◌==◌, Bool, true, false, List, [], ◌∷◌, ◌++◌, length, drop, Option, Some, None, refl, ap, sym, subst}
use Rattle.std.proofs.Common.{◌∙◌, arith, bytes_eq}
use Rattle.std.specs.Prelude.{option_map, unwrap_or}
use Rattle.std.specs.List.{find}
use Rattle.std.proofs.lemmas.Option.{same_Some}
use Rattle.std.proofs.lemmas.Bool.Decides.{nat_tests}
use Rattle.cable_base.proofs.Rises.{Rises}
use Rattle.cable_model.specs.declared.plans.Change.{Change}
use Rattle.cable_model.specs.declared.plans.Change.TheVariants as change
use Rattle.cable_model.specs.Connection.{Sub, Conn}
use Rattle.cable_model.specs.Legal.{Legal, stored_plans}
use Rattle.cable_model.specs.Pieces.{seat}
use Rattle.cable_model.specs.Possible.{has_job}
use Rattle.cable_model.specs.Steps.{Step}
use Rattle.cable_model.specs.Wants.{marks, made, at_ask}
use Rattle.cable_model.proofs.Inbox.{valid-at}
use Rattle.cable_model.proofs.Stored.{HasPlan, has-plan, stored-works}
use Rattle.cable_model.proofs.Valid.{Valid}
use Rattle.cable_model.proofs.Working.{working}
use Rattle.cable_model.specs.Window.{finished}
use Rattle.node_seats.specs.declared.turning.Wanted.{Wanted}
use Rattle.node_turns.specs.Wished.{wanted_above, wanted_with, number_named, own_wanted, wants_of, taken_count, found_made}
use Rattle.node_turns.proofs.WantsCounted.{finish-user, legal-at_ask, wants-length}
use Rattle.node_turns.proofs.DistinctNames.{Suits, finish-suits}

-- these wants are numbered from n on, and the one numbered 0 alone is of no subscription
abbrev pub Numbered : ℕ → List Wanted → Type 0
Numbered n [] = Unit {0}
Numbered n (w ∷ ws) = (w.want.0 ≡ n) × ((w.sub.0 == 0) ≡ (n == 0)) × Numbered (suc n) ws

Numbered-append : (n k : ℕ) (xs ys : List Wanted) → k ≡ n + length xs → Numbered n xs → Numbered k ys → Numbered n (xs ++ ys)
Numbered-append n k [] ys e a b = let same : k ≡ n = omega (arith, e) in subst (λ x. Numbered x ys) same b
Numbered-append n k (x ∷ xs) ys e a b = (a.0, a.1, Numbered-append (suc n) k xs ys (omega (arith, e)) a.2 b)

Numbered-drop : (n k : ℕ) (ws : List Wanted) → Numbered n ws → Numbered (n + k) (drop k ws)
Numbered-drop n zero ws h = let e : n ≡ n + 0 = omega arith in subst (λ x. Numbered x (drop 0 ws)) e (whole ws h)
  where
    whole : (xs : List Wanted) → Numbered n xs → Numbered n (drop 0 xs)
    whole [] g = g
    whole (x ∷ xs) g = g
Numbered-drop n (suc k) [] h = tt
Numbered-drop n (suc k) (w ∷ ws) h = let e : suc n + k ≡ n + suc k = omega arith in subst (λ x. Numbered x (drop k ws)) e (Numbered-drop (suc n) k ws h.2)

above-numbered : (c s n : ℕ) (confirms : Bool) (names : List (List ℕ)) → (s == 0) ≡ false → Numbered (n + 1) (wanted_above c s n confirms names)
above-numbered c s n confirms [] f = tt
above-numbered c s n confirms (name ∷ names) f =
    let high : (n + 1 == 0) ≡ false = grind (arith, nat_tests) in
    let e : n + 1 + 1 ≡ suc (n + 1) = omega arith in
    (refl, f ∙ sym high, subst (λ x. Numbered x (wanted_above c s (n + 1) false names)) e (above-numbered c s (n + 1) false names f))

found-high : (identifier : List ℕ) (b : ℕ) (subs : List Sub) (e : ℕ) (s : Sub) → Rises (λ (x : Sub). x.number) b subs e
    → find (λ (x : Sub). bytes_eq x.identifier identifier) subs ≡ Some s → b < s.number
found-high identifier b [] e s r f = absurd (cc (f))
found-high identifier b (x ∷ subs) e s r f = go (bytes_eq x.identifier identifier) refl (found-high identifier x.number subs e s r.1)
  where
    go : (t : Bool) → bytes_eq x.identifier identifier ≡ t → (find (λ (y : Sub). bytes_eq y.identifier identifier) subs ≡ Some s → x.number < s.number)
        → b < s.number
    go true t ih =
        let f' = rw t at f in
        let this : x.number ≡ s.number = ap (λ (y : Sub). y.number) (same_Some x s f') in
        let low = r.0 in omega (arith, low, this)
    go false t ih =
        let f' = rw t at f in
        let high = ih f' in
        let low = r.0 in omega (arith, low, high)

with-numbered : (c place n : ℕ) (k : Conn) (d : ℕ) (x : Change) → Valid d k → Suits x k → (place == 0) ≡ false
    → Numbered (n + 1) (wanted_with c place n k.subs x)
with-numbered c place n k d change.Nothing v u p = tt
with-numbered c place n k d (change.Add identifier streams) v u p = above-numbered c place n true streams p
with-numbered c place n k d (change.Streams identifier stops streams) v u p =
    let high = found-high identifier 0 k.subs d u.0 v.subs u.1 in
    let is : number_named identifier k.subs ≡ u.0.number = ap (λ o. unwrap_or (option_map (λ (s : Sub). s.number) o) 0) u.1 in
    let f : (number_named identifier k.subs == 0) ≡ false = ap (λ x. x == 0) is ∙ (grind (arith, nat_tests)) in
    above-numbered c (number_named identifier k.subs) n false streams f
with-numbered c place n k d (change.Remove identifier) v u p = tt
with-numbered c place n k d change.Close v u p = tt

pub valid-legal : (c : ℕ) (past : List Step) → Legal past → Valid (seat c past).done (seat c past).conn
valid-legal c past l =
    valid-at (stored_plans c past) (seat c past) (λ sub want. finished c sub want past) (working (stored_plans c past) c past (stored-works c past l))

-- all wants of a connection are numbered from its own on
pub wants-numbered : (c : ℕ) (past : List Step) → Legal past → Numbered 0 (wants_of c past)
wants-numbered c [] l = tt
wants-numbered c (Step.Open d token user ∷ past) l = go (d == c) refl (wants-numbered c past l.1)
  where
    own : (u : Option (List ℕ)) → Numbered 0 (own_wanted c u)
    own None = tt
    own (Some name) = (refl, refl, tt)

    go : (b : Bool) → (d == c) ≡ b → Numbered 0 (wants_of c past) → Numbered 0 (wants_of c (Step.Open d token user ∷ past))
    go true b ih = rw b (own user)
    go false b ih = rw b ih
wants-numbered c (Step.Finish d puts plan ∷ past) l = go (d == c) refl (wants-numbered c past l.1)
  where
    found : HasPlan l.0.0.callbacks d past plan
    found = has-plan l.0.0.callbacks d past plan l.0.0.planned

    go : (b : Bool) → (d == c) ≡ b → Numbered 0 (wants_of c past) → Numbered 0 (wants_of c (Step.Finish d puts plan ∷ past))
    go false b ih = rw b ih
    go true b ih =
        let e : d ≡ c = grind (arith, nat_tests) in
        let user = finish-user c d puts plan past l b in
        let many : length (wants_of c past) ≡ suc (made c past) = wants-length c user.0 past l.1 user.1 in
        let out : has_job (seat c past) ≡ true = subst (λ x. has_job (seat x past) ≡ true) e found.out in
        let place : ((seat c past).taken == 0) ≡ false = grind (arith, nat_tests) in
        let suits : Suits plan.change (seat c past).conn = subst (λ x. Suits plan.change (seat x past).conn) e (finish-suits d puts plan past l) in
        let new = with-numbered c (seat c past).taken (made c past) (seat c past).conn (seat c past).done plan.change (valid-legal c past l.1) suits place in
        rw b (Numbered-append 0 (made c past + 1) (wants_of c past) (wanted_with c (seat c past).taken (made c past) (seat c past).conn.subs plan.change)
        (omega (arith, many)) ih new)
wants-numbered c (Step.Boot last ∷ past) l = wants-numbered c past l.1
wants-numbered c (Step.In d text ∷ past) l = wants-numbered c past l.1
wants-numbered c (Step.Drop d ∷ past) l = wants-numbered c past l.1
wants-numbered c (Step.Stop ∷ past) l = wants-numbered c past l.1
wants-numbered c (Step.Take d ∷ past) l = wants-numbered c past l.1
wants-numbered c (Step.Ask turn ∷ past) l = wants-numbered c past l.1
wants-numbered c (Step.Deliver turn note ∷ past) l = wants-numbered c past l.1
wants-numbered c (Step.Beat now ∷ past) l = wants-numbered c past l.1

-- those that a turn takes from the first that no earlier turn took
pub made-numbered : (c : ℕ) (past : List Step) → Legal past → Numbered (taken_count (marks c past)) (found_made c past)
made-numbered c past l =
    let e : 0 + taken_count (marks c past) ≡ taken_count (marks c past) = omega arith in
    subst (λ n. Numbered n (found_made c past)) e
    (Numbered-drop 0 (taken_count (marks c past)) (wants_of c (at_ask past)) (wants-numbered c (at_ask past) (legal-at_ask past l)))
