-- What comes first is taken, since it isn't quiet.
use Rattle.std.proofs.Common.{◌≡◌, List, [], ◌∷◌, Ok, refl, false, rules}
use Rattle.cable_base.specs.Memory.{after_call, fails_next}
use Rattle.cable_link.specs.declared.links.Came.{Came}
use Rattle.cable_link.specs.declared.links.Came.TheVariants as came
use Rattle.cable_link.specs.Links.{taken_by}
use Rattle.cable_link.specs.Memory.{AllCome, Gives, MemTalk}

pub first_is_taken : (c : Came) (cs : List Came) → AllCome (c ∷ cs) → taken_by (Ok c) ≡ c ∷ []
unfolding AllCome
first_is_taken (came.Text t) cs all = refl
first_is_taken came.Binary cs all = refl
first_is_taken came.Closed cs all = refl
first_is_taken came.Quiet cs all = absurd all

pub others_come : (c : Came) (cs : List Came) → AllCome (c ∷ cs) → AllCome cs
unfolding AllCome
others_come (came.Text t) cs all = all
others_come came.Binary cs all = all
others_come came.Closed cs all = all
others_come came.Quiet cs all = absurd all

pub first_is_told : (c : Came) (cs : List Came) → AllCome (c ∷ cs) → c ≡ came.Quiet → ⊥
unfolding AllCome
first_is_told (came.Text t) cs all same = absurd (let e = same in cc)
first_is_told came.Binary cs all same = absurd (let e = same in cc)
first_is_told came.Closed cs all same = absurd (let e = same in cc)
first_is_told came.Quiet cs all same = absurd all

pub gives_first : (old : MemTalk) (c : Came) (rest : List Came) (new : MemTalk)
    → AllCome old.coming → old.coming ≡ c ∷ rest → fails_next old.failing ≡ false → new.failing ≡ after_call old.failing
    → Gives old (Ok c) new
gives_first old c rest new all first calm calls = record {
  exact = ((λ wrong. absurd (let e = wrong in cc)), (λ fails. absurd (let e = fails in cc)));
  quiet = λ _. (
    (λ same. absurd (first_is_told c rest (rw first at all) (search (same, rules)))),
    (λ none. absurd (let e = none in cc)),
  );
  calls = calls;
}
