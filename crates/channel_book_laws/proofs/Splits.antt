-- Two places of one list: they are the same, or one stands in front of the other. So there is one first item that is bad.
use Rattle.std.proofs.Common.{◌≡◌, List, [], ◌∷◌, ◌++◌, refl, ap, sym, subst, ◌∙◌}
use Rattle.std.specs.List.{AllByRecursion}
use Rattle.channel_book_laws.specs.Lists.{IsFirst}

pub data Places {X : Type 0} (before front : List X) (x y : X) : Type 0 where
  same : before ≡ front → x ≡ y → Places before front x y
  behind : (between : List X) → before ≡ front ++ y ∷ between → Places before front x y
  ahead : (between : List X) → front ≡ before ++ x ∷ between → Places before front x y

pub places : {X : Type 0} (before front after back : List X) (x y : X) → before ++ x ∷ after ≡ front ++ y ∷ back → Places before front x y
places [] [] after back x y e = same refl cc
places [] (z ∷ front) after back x y e = let first : z ≡ x = cc in ahead front (ap (λ w. w ∷ front) first)
places (z ∷ before) [] after back x y e = let first : z ≡ y = cc in behind before (ap (λ w. w ∷ before) first)
places (z ∷ before) (w ∷ front) after back x y e = longer (places before front after back x y cc)
  where
    longer : Places before front x y → Places (z ∷ before) (w ∷ front) x y
    longer p = let first : z ≡ w = cc in elim p [
      | same b s ↦ same (cc) s
      | behind between b ↦ behind between cc
      | ahead between b ↦ ahead between cc
    ]

-- what holds of all holds of one of them
pub all_at : {X : Type 0} (P : X → Type 0) (front back : List X) (x : X) → AllByRecursion P (front ++ x ∷ back) → P x
all_at P [] back x a = a.0
all_at P (y ∷ front) back x a = all_at P front back x a.1

-- where all are good, none is bad
pub all_or_first : {X : Type 0} (Good Bad : X → Type 0) → ((x : X) → Good x → Bad x → ⊥) → (xs : List X) (x : X) → AllByRecursion Good xs → IsFirst Good Bad xs x → ⊥
all_or_first Good Bad apart xs x all w = apart x (all_at Good w.before w.after x (subst (AllByRecursion Good) w.split all)) w.bad

pub one_first : {X : Type 0} (Good Bad : X → Type 0) → ((x : X) → Good x → Bad x → ⊥) → (xs : List X) (x y : X) → IsFirst Good Bad xs x → IsFirst Good Bad xs y → x ≡ y
one_first Good Bad apart xs x y v w =
    elim (places v.before w.before v.after w.after x y (sym v.split ∙ w.split)) [
      | same b s ↦ s
      | behind between b ↦ absurd (apart y (all_at Good w.before between y (subst (AllByRecursion Good) b v.good)) w.bad)
      | ahead between b ↦ absurd (apart x (all_at Good v.before between x (subst (AllByRecursion Good) b w.good)) v.bad)
    ]
