-- What comes behind what is to come is to come, too.
use Rattle.std.proofs.Common.{◌≡◌, ℕ, List, [], ◌∷◌, ◌++◌, subst, sym}
use Rattle.cable_link.specs.declared.links.Came.{Came}
use Rattle.cable_link.specs.declared.links.Came.TheVariants as came
use Rattle.cable_link.specs.Memory.{AllCome}

pub none-come : (cs : List Came) → cs ≡ [] → AllCome cs
unfolding AllCome
none-come cs is = subst AllCome (sym is) tt

more-come : (cs : List Came) (c : Came) → AllCome cs → AllCome (c ∷ []) → AllCome (cs ++ c ∷ [])
unfolding AllCome
more-come [] c h i = i
more-come (came.Text t ∷ cs) c h i = more-come cs c h i
more-come (came.Binary ∷ cs) c h i = more-come cs c h i
more-come (came.Closed ∷ cs) c h i = more-come cs c h i
more-come (came.Quiet ∷ cs) c h i = absurd h

pub text-comes : (cs all : List Came) (text : List ℕ) → AllCome cs → all ≡ cs ++ came.Text text ∷ [] → AllCome all
unfolding AllCome
text-comes cs all text h is = subst AllCome (sym is) (more-come cs (came.Text text) h tt)

pub binary-comes : (cs all : List Came) → AllCome cs → all ≡ cs ++ came.Binary ∷ [] → AllCome all
unfolding AllCome
binary-comes cs all h is = subst AllCome (sym is) (more-come cs came.Binary h tt)

pub closed-comes : (cs all : List Came) → AllCome cs → all ≡ cs ++ came.Closed ∷ [] → AllCome all
unfolding AllCome
closed-comes cs all h is = subst AllCome (sym is) (more-come cs came.Closed h tt)
