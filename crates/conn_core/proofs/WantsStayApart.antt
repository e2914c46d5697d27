-- That no want number stands in two subscriptions is kept by each change.
use Rattle.std.proofs.Common.{ℕ, zero, suc, ◌+◌, ◌≡◌, ◌==◌, ◌<◌, ◌≤◌, Bool, true, false, cond, not, ◌||◌, List, [], ◌∷◌, ◌++◌, length, map, refl, ap, sym, subst, ◌∙◌, arith, inl, inr, ◌⊎◌}
use Rattle.std.specs.List.{filter, list_any}
use Rattle.std.specs.Str.{bytes_eq}
use Rattle.std.proofs.lemmas.Bool.{cases_lt}
use Rattle.std.proofs.lemmas.Bool.Decides.{nat_tests}
use Rattle.std.proofs.lemmas.Slice.Eq.{bytes_eq-Decides}
use Rattle.std.proofs.lemmas.List.Folds.{list_any-append}
use Rattle.cable_base.specs.declared.numbers.RowId.{RowId}
use Rattle.cable_base.specs.declared.numbers.SubNo.{SubNo}
use Rattle.cable_base.specs.declared.numbers.WantNo.{WantNo}
use Rattle.stream_set.specs.declared.entries.StreamEntry.{StreamEntry}
use Rattle.stream_set.specs.Streams.{has_want, is_wanted_as, placed}
use Rattle.stream_set.proofs.Apart.{or-first, or-second, or-false, any-push, any-filter, has_want-placed}
use Rattle.cable_model.specs.Connection.{among}
use Rattle.cable_model.specs.declared.plans.Change.{Change}
use Rattle.cable_model.specs.declared.plans.Change.TheVariants as change
use Rattle.conn_core.specs.Subscriptions.{Subscription, has_identifier, has_number, is_subscribed, AreApart, WantsApart, WantsBelow, wanted_from, stopped, placed_one, placed_in, made_now, restreamed_one, restreamed, removed}
use Rattle.conn_core.specs.Connections.{AllWantsBelow, CanApply, applied}
use Rattle.conn_core.proofs.Wanting.{below-fresh}
use Rattle.stream_set.proofs.Once.{map-none}

abbrev wants : WantNo → Subscription → Bool
wants want s = has_want want s.streams

-- a number at or above one that is above all wants is none of them
not-above : (first want : WantNo) (es : List StreamEntry) → first.0 ≤ want.0 → WantsBelow first.0 es → has_want want es ≡ false
not-above first want [] l h = refl
not-above first want (e ∷ es) l h = or-false (e.want.0 == want.0) (has_want want es) (let k : e.want.0 < first.0 = h.0 in grind (arith, nat_tests)) (not-above first want es l h.1)

none-above : (first want : WantNo) (subs : List Subscription) → first.0 ≤ want.0 → AllWantsBelow first subs → list_any (wants want) subs ≡ false
none-above first want [] l h = refl
none-above first want (s ∷ subs) l h = or-false (wants want s) (list_any (wants want) subs) (not-above first want s.streams l h.0) (none-above first want subs l h.1)

-- a number below is none of the new wants
not-below : (first : ℕ) (want : WantNo) (names : List (List ℕ)) → want.0 < first → has_want want (wanted_from first names) ≡ false
not-below first want [] l = refl
not-below first want (name ∷ names) l = or-false (first == want.0) (has_want want (wanted_from (first + 1) names)) (grind (arith, nat_tests)) (not-below (first + 1) want names (omega arith))

true-not-false : (b : Bool) → b ≡ true → b ≡ false → {A : Type 0} → A
true-not-false b t f = absurd (cc (t, f))

-- ---- a new subscription

WantsApart-push : (subs : List Subscription) (s : Subscription) → WantsApart subs → ((want : WantNo) → list_any (wants want) subs ≡ true → wants want s ≡ false) → WantsApart (subs ++ s ∷ [])
WantsApart-push [] s a new = ((λ want h. refl), tt)
WantsApart-push (t ∷ subs) s a new =
    ((λ want h. any-push (wants want) subs s (a.0 want h) (new want (rw h refl))), WantsApart-push subs s a.1 (λ want h. new want (or-right (wants want t) (list_any (wants want) subs) h)))
  where
    or-right : (a b : Bool) → b ≡ true → (a || b) ≡ true
    or-right true b e = refl
    or-right false b e = e

pub wants-added : (subs : List Subscription) (sub : SubNo) (identifier : List ℕ) (first : WantNo) (streams : List (List ℕ)) → WantsApart subs → AllWantsBelow first subs → WantsApart (subs ++ made_now sub identifier first.0 streams ∷ [])
wants-added subs sub identifier first streams a b = WantsApart-push subs (made_now sub identifier first.0 streams) a new
  where
    new : (want : WantNo) → list_any (wants want) subs ≡ true → has_want want (wanted_from first.0 streams) ≡ false
    new want h = elim (cases_lt want.0 first.0) [ inl l ↦ not-below first.0 want streams l | inr g ↦ true-not-false (list_any (wants want) subs) h (none-above first want subs g b) ]

-- ---- streams of a subscription

-- where a number is below the new wants, what was no want is none
stays-none : (identifier : List ℕ) (stops streams : List (List ℕ)) (first : ℕ) (want : WantNo) (s : Subscription) → want.0 < first → wants want s ≡ false → wants want (restreamed_one identifier stops streams first s) ≡ false
stays-none identifier stops streams first want s l h = go (has_identifier identifier s) refl
  where
    go : (b : Bool) → has_identifier identifier s ≡ b → wants want (restreamed_one identifier stops streams first s) ≡ false
    go true b = rw b (list_any-append (is_wanted_as want) (stopped stops s.streams) (wanted_from first streams) ∙ or-false (has_want want (stopped stops s.streams)) (has_want want (wanted_from first streams)) (any-filter (is_wanted_as want) (λ e. not (among stops e.name)) s.streams h) (not-below first want streams l))
    go false b = rw b h

all-stay-none : (identifier : List ℕ) (stops streams : List (List ℕ)) (first : ℕ) (want : WantNo) (subs : List Subscription) → want.0 < first → list_any (wants want) subs ≡ false → list_any (wants want) (restreamed identifier stops streams first subs) ≡ false
all-stay-none identifier stops streams first want [] l h = refl
all-stay-none identifier stops streams first want (s ∷ subs) l h =
    or-false (wants want (restreamed_one identifier stops streams first s)) (list_any (wants want) (restreamed identifier stops streams first subs)) (stays-none identifier stops streams first want s l (or-first (wants want s) (list_any (wants want) subs) h)) (all-stay-none identifier stops streams first want subs l (or-second (wants want s) (list_any (wants want) subs) h))

pub wants-restreamed : (identifier : List ℕ) (stops streams : List (List ℕ)) (first : WantNo) (subs : List Subscription) → AreApart subs → WantsApart subs → AllWantsBelow first subs → WantsApart (restreamed identifier stops streams first.0 subs)
wants-restreamed identifier stops streams first [] p a b = tt
wants-restreamed identifier stops streams first (s ∷ subs) p a b = (apart, wants-restreamed identifier stops streams first subs p.2 a.1 b.1)
  where
    low : (want : WantNo) → want.0 < first.0 → (c : Bool) → wants want s ≡ c → wants want (restreamed_one identifier stops streams first.0 s) ≡ true → list_any (wants want) (restreamed identifier stops streams first.0 subs) ≡ false
    low want l true c h = all-stay-none identifier stops streams first.0 want subs l (a.0 want c)
    low want l false c h = true-not-false (wants want (restreamed_one identifier stops streams first.0 s)) h (stays-none identifier stops streams first.0 want s l c)

    high : (want : WantNo) → first.0 ≤ want.0 → (c : Bool) → has_identifier identifier s ≡ c → wants want (restreamed_one identifier stops streams first.0 s) ≡ true → list_any (wants want) (restreamed identifier stops streams first.0 subs) ≡ false
    high want g true c h =
        let same : s.identifier ≡ identifier = (bytes_eq-Decides s.identifier identifier).0 c in
        let none : is_subscribed identifier subs ≡ false = ap (λ i. is_subscribed i subs) (sym same) ∙ p.1 in
        ap (list_any (wants want)) (map-none (has_identifier identifier) (λ s. record s { streams = stopped stops s.streams ++ wanted_from first.0 streams }) subs none) ∙ none-above first want subs g b.1
    high want g false c h =
        let same : wants want (restreamed_one identifier stops streams first.0 s) ≡ wants want s = rw c refl in
        true-not-false (wants want s) (sym same ∙ h) (not-above first want s.streams g b.0)

    apart : (want : WantNo) → wants want (restreamed_one identifier stops streams first.0 s) ≡ true → list_any (wants want) (restreamed identifier stops streams first.0 subs) ≡ false
    apart want h = elim (cases_lt want.0 first.0) [ inl l ↦ low want l (wants want s) refl h | inr g ↦ high want g (has_identifier identifier s) refl h ]

-- ---- a subscription that ends, and a mark

pub wants-removed : (identifier : List ℕ) (subs : List Subscription) → WantsApart subs → WantsApart (removed identifier subs)
wants-removed identifier [] a = tt
wants-removed identifier (s ∷ subs) a = go (has_identifier identifier s) refl (wants-removed identifier subs a.1)
  where
    go : (b : Bool) → has_identifier identifier s ≡ b → WantsApart (removed identifier subs) → WantsApart (removed identifier (s ∷ subs))
    go true b ih = rw b ih
    go false b ih = rw b ((λ want h. any-filter (wants want) (λ t. not (has_identifier identifier t)) subs (a.0 want h)), ih)

wants-placed_one : (want : WantNo) (sub : SubNo) (w : WantNo) (mark : RowId) (s : Subscription) → wants want (placed_one sub w mark s) ≡ wants want s
wants-placed_one want sub w mark s = go (has_number sub s) refl
  where
    go : (b : Bool) → has_number sub s ≡ b → wants want (placed_one sub w mark s) ≡ wants want s
    go true b = rw b (has_want-placed want w mark s.streams)
    go false b = rw b refl

any-placed : (want : WantNo) (sub : SubNo) (w : WantNo) (mark : RowId) (subs : List Subscription) → list_any (wants want) (placed_in sub w mark subs) ≡ list_any (wants want) subs
any-placed want sub w mark [] = refl
any-placed want sub w mark (s ∷ subs) = ap (λ b. b || list_any (wants want) (placed_in sub w mark subs)) (wants-placed_one want sub w mark s) ∙ ap (λ b. wants want s || b) (any-placed want sub w mark subs)

pub wants-placed : (sub : SubNo) (w : WantNo) (mark : RowId) (subs : List Subscription) → WantsApart subs → WantsApart (placed_in sub w mark subs)
wants-placed sub w mark [] a = tt
wants-placed sub w mark (s ∷ subs) a = ((λ want h. any-placed want sub w mark subs ∙ a.0 want (sym (wants-placed_one want sub w mark s) ∙ h)), wants-placed sub w mark subs a.1)

pub wants-applied : (c : Change) (sub : SubNo) (first : WantNo) (subs : List Subscription) → CanApply c sub first subs → AreApart subs → WantsApart subs → WantsApart (applied c sub first subs)
wants-applied change.Nothing sub first subs h p a = a
wants-applied (change.Add identifier streams) sub first subs h p a = wants-added subs sub identifier first streams a h.wants
wants-applied (change.Streams identifier stops streams) sub first subs h p a = wants-restreamed identifier stops streams first subs p a h.wants
wants-applied (change.Remove identifier) sub first subs h p a = wants-removed identifier subs a
wants-applied change.Close sub first subs h p a = tt
