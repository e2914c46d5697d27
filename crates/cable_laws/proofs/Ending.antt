-- Once a want has ended, no row is finished for it.
use Rattle.std.proofs.Common.{ℕ, ◌≡◌, ◌≤◌, ◌==◌, Bool, true, false, List, [], ◌∷◌, ◌++◌, Some, None, Option, refl, ap, sym, subst, ◌∙◌, arith, inl, inr, is_some}
use Rattle.std.proofs.lemmas.List.{append-nil}
use Rattle.std.proofs.lemmas.Bool.Decides.{nat_tests}
use Rattle.cable_model.specs.declared.events.Event.{Event}
use Rattle.cable_model.specs.declared.pieces.Piece.{Piece}
use Rattle.cable_model.specs.declared.pieces.Piece.TheVariants as piece
use Rattle.cable_model.specs.Steps.{Step}
use Rattle.cable_model.specs.Connection.{Conn, Planner, name_of, still}
use Rattle.cable_model.specs.Wants.{made, user_of}
use Rattle.cable_model.specs.Pieces.{seat}
use Rattle.cable_model.specs.Window.{row_in, row_worked, finished}
use Rattle.cable_model.specs.History.{Rules, World, start, happen, run}
use Rattle.cable_model.specs.HistoryLaws.{planner_of, NoneAfterEnd}
use Rattle.cable_model.specs.Promise.{AllWorked}
use Rattle.cable_model.proofs.Working.{working}
use Rattle.cable_model.proofs.Holding.{conn-keeps}
use Rattle.cable_model.proofs.Jobs.{job-piece}
use Rattle.cable_laws.proofs.Growing.{happen-grown, run-append}
use Rattle.cable_model.proofs.NodeSound.{plans-for}
use Rattle.cable_model.proofs.Sound.{Sound, start-sound, run-sound, happen-sound}

-- ---- over a journal

-- no entry takes back a number that was given to a want
pub made-grows : (c : ℕ) (e : Step) (past : List Step) → made c past ≤ made c (e ∷ past)
made-grows c (Step.Finish d puts plan) past = go (d == c) refl
  where
    go : (b : Bool) → (d == c) ≡ b → made c past ≤ made c (Step.Finish d puts plan ∷ past)
    go true b = rw b (omega arith)
    go false b = rw b (omega arith)
made-grows c _ past = omega arith

-- a row whose want doesn't stand is no job
ended-row : (s w : ℕ) (k : Conn) (q : Piece) → still k q ≡ true → name_of s w k ≡ None → row_in s w q ≡ []
ended-row s w k (piece.Row sub want row) h e = go (sub.0 == s) refl (want.0 == w) refl
  where
    go : (a : Bool) → (sub.0 == s) ≡ a → (b : Bool) → (want.0 == w) ≡ b → row_in s w (piece.Row sub want row) ≡ []
    go true a true b =
        let x : sub.0 ≡ s = grind (arith, nat_tests) in
        let y : want.0 ≡ w = grind (arith, nat_tests) in
        let h' : is_some (name_of s w k) ≡ true = subst (λ i. is_some (name_of i w k) ≡ true) x (subst (λ j. is_some (name_of sub.0 j k) ≡ true) y h) in
        let h'' = rw e at h' in
        absurd (cc (h''))
    go true a false b = rw (a, b) refl
    go false a b b' = rw a refl
ended-row s w k _ h e = refl

-- the want was made and doesn't stand
pub record HasEnded (c s w : ℕ) (past : List Step) : Type 0 where
  pub was : w ≤ made c past
  pub over : name_of s w (seat c past).conn ≡ None

module _ (pl : Planner) (c s w : ℕ) where
  -- it stays so
  pub still-ended : (e : Step) (past : List Step) → AllWorked pl c (e ∷ past) → HasEnded c s w past → HasEnded c s w (e ∷ past)
  still-ended e past a h = record { was = let g = made-grows c e past in omega (arith, h.was); over = go (name_of s w (seat c (e ∷ past)).conn) refl }
    where
      go : (o : Option (List ℕ)) → name_of s w (seat c (e ∷ past)).conn ≡ o → o ≡ None
      go None q = refl
      go (Some name) q = let x = conn-keeps pl c s w name e past a h.was q in let n = h.over in absurd (cc (n, x))

  -- and nothing more is finished for it
  pub finished-stays : (e : Step) (past : List Step) → AllWorked pl c (e ∷ past) → HasEnded c s w past → finished c s w (e ∷ past) ≡ finished c s w past
  finished-stays (Step.Finish d puts plan) past a h = go (d == c) refl
    where
      go : (b : Bool) → (d == c) ≡ b → finished c s w (Step.Finish d puts plan ∷ past) ≡ finished c s w past
      go true b =
          let j = job-piece pl (seat c past) (λ sub want. finished c sub want past) (working pl c past a.1) (a.0 (grind (arith, nat_tests))).0 in
          rw b (ap (λ o. finished c s w past ++ row_worked s w o) j.is ∙ (ap (λ rows. finished c s w past ++ rows) (ended-row s w (seat c past).conn j.piece j.stands h.over) ∙ append-nil (finished c s w past)))
      go false b = rw b refl
  finished-stays _ past a h = refl

-- ---- over a history

module _ (r : Rules) where
  module _ (n c s w : ℕ) where
    one-event : (world : World) (e : Event) → Sound r (happen r world e) → HasEnded c s w (world.nodes n)
        → HasEnded c s w ((happen r world e).nodes n) × (finished c s w ((happen r world e).nodes n) ≡ finished c s w (world.nodes n))
    one-event world e sound h = elim (happen-grown r world e n) [ inl same ↦ (subst (HasEnded c s w) (sym same) h, ap (finished c s w) same) | inr more ↦ go more.0 more.1 ]
      where
        go : (step : Step) → (happen r world e).nodes n ≡ step ∷ world.nodes n → HasEnded c s w ((happen r world e).nodes n) × (finished c s w ((happen r world e).nodes n) ≡ finished c s w (world.nodes n))
        go step is =
            let user = user_of c ((happen r world e).nodes n) in
            let pl = planner_of r.callbacks user in
            let a : AllWorked pl c (step ∷ world.nodes n) = subst (AllWorked pl c) is ((sound.nodes n).worked c pl (plans-for r.callbacks user)) in
            (subst (HasEnded c s w) (sym is) (still-ended pl c s w step (world.nodes n) a h), ap (finished c s w) is ∙ finished-stays pl c s w step (world.nodes n) a h)

    later-events : (world : World) (es : List Event) → Sound r world → HasEnded c s w (world.nodes n) → finished c s w ((run r world es).nodes n) ≡ finished c s w (world.nodes n)
    later-events world [] sound h = refl
    later-events world (e ∷ es) sound h =
        let sound' = happen-sound r world e sound in
        let one = one-event world e sound' h in
        later-events (happen r world e) es sound' one.0 ∙ one.1

  pub none-after-end : (before after : List Event) → NoneAfterEnd r before after
  none-after-end before after n c s w was over =
      ap (λ (x : World). finished c s w (x.nodes n)) (run-append r start before after)
      ∙ later-events n c s w (run r start before) after (run-sound r start before (start-sound r)) (record { was = was; over = over })
