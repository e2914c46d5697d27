-- That no two subscriptions have one number or one identifier is kept by each change, and so is the room that was made.
use Rattle.std.proofs.Common.{ℕ, ◌+◌, ◌≡◌, ◌==◌, ◌<◌, ◌≤◌, Bool, true, false, cond, not, ◌||◌, List, [], ◌∷◌, ◌++◌, length, map, Some, None, Option, refl, ap, sym, subst, ◌∙◌, arith}
use Rattle.std.specs.List.{filter, list_any}
use Rattle.std.specs.Str.{bytes_eq}
use Rattle.std.proofs.lemmas.Bool.Decides.{nat_tests}
use Rattle.cable_base.specs.declared.numbers.RowId.{RowId}
use Rattle.cable_base.specs.declared.numbers.SubNo.{SubNo}
use Rattle.cable_base.specs.declared.numbers.WantNo.{WantNo}
use Rattle.stream_set.specs.Streams.{Streams, placed}
use Rattle.stream_set.proofs.Apart.{bytes_eq-swap, or-first, or-second, or-false, any-push, any-filter}
use Rattle.cable_model.specs.declared.plans.Change.{Change}
use Rattle.cable_model.specs.declared.plans.Change.TheVariants as change
use Rattle.conn_core.specs.declared.keeping.Kept.{Kept}
use Rattle.conn_core.specs.Subscriptions.{SubParts, Subscription, has_identifier, has_number, is_subscribed, AreApart, placed_one, placed_in, made_now, restreamed_one, restreamed, removed}
use Rattle.conn_core.specs.Connections.{SubsBelow, CanApply, applied}
use Rattle.conn_core.specs.Rooms.{HasRoom, HasRoomFor, IsRoomKept}

eq-swap : (a b : ℕ) → (a == b) ≡ (b == a)
eq-swap a b = grind (arith, nat_tests)

AreApart-push : (subs : List Subscription) (s : Subscription) → AreApart subs → list_any (has_number s.number) subs ≡ false → is_subscribed s.identifier subs ≡ false → AreApart (subs ++ s ∷ [])
AreApart-push [] s a n i = (refl, refl, tt)
AreApart-push (t ∷ subs) s a n i =
    let number = eq-swap s.number.0 t.number.0 ∙ or-first (t.number.0 == s.number.0) (list_any (has_number s.number) subs) n in
    let identifier = bytes_eq-swap s.identifier t.identifier ∙ or-first (bytes_eq t.identifier s.identifier) (is_subscribed s.identifier subs) i in (
      any-push (has_number t.number) subs s a.0 number,
      any-push (has_identifier t.identifier) subs s a.1 identifier,
      AreApart-push subs s a.2 (or-second (t.number.0 == s.number.0) (list_any (has_number s.number) subs) n) (or-second (bytes_eq t.identifier s.identifier) (is_subscribed s.identifier subs) i),
    )

below-apart : (sub : SubNo) (subs : List Subscription) → SubsBelow sub subs → list_any (has_number sub) subs ≡ false
below-apart sub [] b = refl
below-apart sub (s ∷ subs) b = or-false (s.number.0 == sub.0) (list_any (has_number sub) subs) (let l : s.number.0 < sub.0 = b.0 in grind (arith, nat_tests)) (below-apart sub subs b.1)

pub apart-added : (subs : List Subscription) (sub : SubNo) (identifier : List ℕ) (first : ℕ) (streams : List (List ℕ)) → AreApart subs → SubsBelow sub subs → is_subscribed identifier subs ≡ false → AreApart (subs ++ made_now sub identifier first streams ∷ [])
apart-added subs sub identifier first streams a b i = AreApart-push subs (made_now sub identifier first streams) a (below-apart sub subs b) i

-- a change of the subscriptions one by one keeps their numbers and identifiers
record Keeps (f : Subscription → Subscription) : Type 0 where
  number : (s : Subscription) → (f s).number ≡ s.number
  identifier : (s : Subscription) → (f s).identifier ≡ s.identifier

has_number-map : (f : Subscription → Subscription) → Keeps f → (number : SubNo) (subs : List Subscription) → list_any (has_number number) (map f subs) ≡ list_any (has_number number) subs
has_number-map f k number [] = refl
has_number-map f k number (s ∷ subs) = ap (λ (n : SubNo). (n.0 == number.0) || list_any (has_number number) (map f subs)) (k.number s) ∙ ap (λ b. (s.number.0 == number.0) || b) (has_number-map f k number subs)

is_subscribed-map : (f : Subscription → Subscription) → Keeps f → (identifier : List ℕ) (subs : List Subscription) → is_subscribed identifier (map f subs) ≡ is_subscribed identifier subs
is_subscribed-map f k identifier [] = refl
is_subscribed-map f k identifier (s ∷ subs) = ap (λ i. bytes_eq i identifier || is_subscribed identifier (map f subs)) (k.identifier s) ∙ ap (λ b. bytes_eq s.identifier identifier || b) (is_subscribed-map f k identifier subs)

AreApart-map : (f : Subscription → Subscription) → Keeps f → (subs : List Subscription) → AreApart subs → AreApart (map f subs)
AreApart-map f k [] a = tt
AreApart-map f k (s ∷ subs) a =
    (ap (λ (n : SubNo). list_any (has_number n) (map f subs)) (k.number s) ∙ (has_number-map f k s.number subs ∙ a.0), ap (λ i. is_subscribed i (map f subs)) (k.identifier s) ∙ (is_subscribed-map f k s.identifier subs ∙ a.1), AreApart-map f k subs a.2)

cond-number : (b : Bool) (s t : Subscription) → t.number ≡ s.number → (cond b t s).number ≡ s.number
cond-number true s t e = e
cond-number false s t e = refl

cond-identifier : (b : Bool) (s t : Subscription) → t.identifier ≡ s.identifier → (cond b t s).identifier ≡ s.identifier
cond-identifier true s t e = e
cond-identifier false s t e = refl

pub apart-placed : (sub : SubNo) (want : WantNo) (mark : RowId) (subs : List Subscription) → AreApart subs → AreApart (placed_in sub want mark subs)
apart-placed sub want mark subs a =
    AreApart-map (placed_one sub want mark) (record { number = λ s. cond-number (has_number sub s) s _ refl; identifier = λ s. cond-identifier (has_number sub s) s _ refl }) subs a

pub apart-restreamed : (identifier : List ℕ) (stops streams : List (List ℕ)) (first : ℕ) (subs : List Subscription) → AreApart subs → AreApart (restreamed identifier stops streams first subs)
apart-restreamed identifier stops streams first subs a =
    AreApart-map (restreamed_one identifier stops streams first) (record { number = λ s. cond-number (has_identifier identifier s) s _ refl; identifier = λ s. cond-identifier (has_identifier identifier s) s _ refl }) subs a

AreApart-filter : (q : Subscription → Bool) (subs : List Subscription) → AreApart subs → AreApart (filter q subs)
AreApart-filter q [] a = tt
AreApart-filter q (s ∷ subs) a = go (q s) refl (AreApart-filter q subs a.2)
  where
    go : (b : Bool) → q s ≡ b → AreApart (filter q subs) → AreApart (filter q (s ∷ subs))
    go true b ih = rw b (any-filter (has_number s.number) q subs a.0, any-filter (has_identifier s.identifier) q subs a.1, ih)
    go false b ih = rw b ih

pub apart-removed : (identifier : List ℕ) (subs : List Subscription) → AreApart subs → AreApart (removed identifier subs)
apart-removed identifier subs a = AreApart-filter (λ s. not (has_identifier identifier s)) subs a

-- ---- room

more-room-for : (c : Change) (room : Streams) (old new : List SubParts) (count capacity count' capacity' : ℕ) → ((i : List ℕ) (n : ℕ) → HasRoom i n old → HasRoom i n new) → count' ≡ count → capacity' ≡ capacity → HasRoomFor c room old count capacity → HasRoomFor c room new count' capacity'
more-room-for change.Nothing room old new count capacity count' capacity' more e f h = tt
more-room-for (change.Add identifier streams) room old new count capacity count' capacity' more e f h = (h.0, h.1, rw (e, f) h.2)
more-room-for (change.Streams identifier stops streams) room old new count capacity count' capacity' more e f h = more identifier (length streams) h
more-room-for (change.Remove identifier) room old new count capacity count' capacity' more e f h = tt
more-room-for change.Close room old new count capacity count' capacity' more e f h = tt

pub more-room : (kept : Option Kept) (old new : List SubParts) (count capacity count' capacity' : ℕ) → ((i : List ℕ) (n : ℕ) → HasRoom i n old → HasRoom i n new) → count' ≡ count → capacity' ≡ capacity → IsRoomKept kept old count capacity → IsRoomKept kept new count' capacity'
more-room None old new count capacity count' capacity' more e f h = tt
more-room (Some kept) old new count capacity count' capacity' more e f h = more-room-for kept.change kept.room old new count capacity count' capacity' more e f h

-- ---- a change

pub apart-applied : (c : Change) (sub : SubNo) (first : WantNo) (subs : List Subscription) → CanApply c sub first subs → AreApart subs → AreApart (applied c sub first subs)
apart-applied change.Nothing sub first subs h a = a
apart-applied (change.Add identifier streams) sub first subs h a = apart-added subs sub identifier first.0 streams a h.number h.unsubscribed
apart-applied (change.Streams identifier stops streams) sub first subs h a = apart-restreamed identifier stops streams first.0 subs a
apart-applied (change.Remove identifier) sub first subs h a = apart-removed identifier subs a
apart-applied change.Close sub first subs h a = tt
