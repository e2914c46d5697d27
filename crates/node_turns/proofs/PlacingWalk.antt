-- A turn's wants are placed one after another, each at its connection.
use Rattle.std.proofs.Common.{◌≡◌, ℕ, suc, ◌≤◌, ◌==◌, cond, Bool, true, false, List, [], ◌∷◌, ◌++◌, Option, Some, None, refl, ap, sym, subst, ◌∙◌, arith}
use Rattle.std.specs.List.{AllByRecursion}
use Rattle.std.specs.Str.{bytes_eq}
use Rattle.std.proofs.lemmas.Bool.Decides.{nat_tests}
use Rattle.cable_base.specs.Names.{own_name}
use Rattle.cable_base.specs.declared.numbers.RowId.{RowId}
use Rattle.cable_base.specs.declared.numbers.SubNo.{SubNo}
use Rattle.cable_base.specs.declared.numbers.WantNo.{WantNo}
use Rattle.cable_base.proofs.Each.{All-append}
use Rattle.conn_core.specs.Subscriptions.{Subscription, placed_in}
use Rattle.conn_seat.specs.Seats.{Seated}
use Rattle.conn_seat.specs.Turns.{placed_each}
use Rattle.node_seats.specs.declared.turning.Wanted.{Wanted}
use Rattle.node_seats.specs.Numbers.{Numbers, seat_at}
use Rattle.node_seats.specs.Turned.{is_by, wanted_by, pairs_by}
use Rattle.subscriber_map.specs.declared.holding.Hold.{Hold}
use Rattle.subscriber_map.specs.Holds.{is_before, with_hold, IsNewAmong}
use Rattle.subscriber_map.specs.HoldMaps.{HoldMap, holds_at, with_hold_at}
use Rattle.node_turns.specs.declared.placing.Placing.{Placing}
use Rattle.node_turns.specs.Held.{conn_of, own_hold, sub_holds, is_on, holds_on}
use Rattle.node_turns.specs.Holding.{name_wanted, name_in, placing_as, placings_of, with_placings, AreNew}
use Rattle.node_turns.proofs.WantsNumbered.{Numbered}
use Rattle.node_turns.proofs.PlacingHolds.{holds-placed, placed-on, placed-off, IsOther, new-among, behind-all}
use Rattle.node_turns.proofs.PlacingSubs.{Sits, Free, LiesAbove, subs-lie, hold_of, unplaced, newly-held, then-held, placed-sits, placed-free, placed-names}
use Rattle.node_turns.proofs.PlacingSubs.{placed-above}
use Rattle.node_turns.proofs.PlacingSteps.{with-both}
use Rattle.std.proofs.lemmas.List.{append-nil}

-- the connection's own mark, once this want is placed
abbrev pub own_next : RowId → Wanted → Option ℕ → Option ℕ
own_next mark w own = cond (w.sub.0 == 0) (Some mark.0) own

abbrev pub own_after : RowId → List Wanted → Option ℕ → Option ℕ
own_after mark [] own = own
own_after mark (w ∷ ws) own = own_after mark ws (own_next mark w own)

-- where the turn's walk has come with the connection c, of this user: what its subscriptions and its own mark are now, and the wants from
-- the one numbered n on that are still to be placed
pub record At (c : ℕ) (user : List ℕ) (first : List Subscription) (n : ℕ) (own : Option ℕ) (subs : List Subscription) (ws : List Wanted)
    (m : HoldMap) : Type 0 where
  pub numbered : Numbered n (wanted_by c ws)
  pub unplaced : n ≡ 0 → own ≡ None
  pub sits : Sits 0 subs
  pub free : Free n subs
  pub names : (w : Wanted) → name_wanted w subs ≡ name_wanted w first
  pub holds : (r : List ℕ) → holds_on c (holds_at m r) ≡ own_hold c r (Some user) own ++ sub_holds c r subs

-- ---- the map

-- what a connection has of a name, once a hold is placed
placed-for : (c : ℕ) (m : HoldMap) (name r : List ℕ) (h : Hold) → is_on c h ≡ true
    → holds_on c (holds_at (with_hold_at m name h) r) ≡ cond (bytes_eq name r) (with_hold h (holds_on c (holds_at m r))) (holds_on c (holds_at m r))
placed-for c m name r h o = ap (holds_on c) (holds-placed m name r h) ∙ grind (arith, placed-on c h (holds_at m r) o)

-- another connection's
pub not-for : (c : ℕ) (mark : RowId) (w : Wanted) (o : Option (List ℕ)) (m : HoldMap) (r : List ℕ) → is_by c w ≡ false
    → holds_on c (holds_at (with_placings (placing_as mark w o) m) r) ≡ holds_on c (holds_at m r)
not-for c mark w None m r f = refl
not-for c mark w (Some name) m r f =
    ap (holds_on c) (holds-placed m name r h) ∙ grind (arith, placed-off c h (holds_at m r) f)
  where
    h : Hold
    h = record { conn = w.conn; sub = w.sub; want = w.want; mark = mark }

pub others : (c : ℕ) (user : List ℕ) (first : List Subscription) (n : ℕ) (own : Option ℕ) (subs : List Subscription) (mark : RowId) (w : Wanted)
    (o : Option (List ℕ)) (ws : List Wanted) (m : HoldMap)
    → is_by c w ≡ false → At c user first n own subs (w ∷ ws) m → At c user first n own subs ws (with_placings (placing_as mark w o) m)
others c user first n own subs mark w o ws m f h =
    record {
      numbered = rw f at h.numbered;
      unplaced = h.unplaced;
      sits = h.sits;
      free = h.free;
      names = h.names;
      holds = λ r. not-for c mark w o m r f ∙ h.holds r;
    }

-- ---- one want

none-below : (c b : ℕ) (xs : List Hold) → AllByRecursion (LiesAbove c b 0) xs → xs ≡ []
none-below c b [] a = refl
none-below c b (x ∷ xs) a = let l = a.0.2 in absurd (omega (arith, l))

hold_by : (c : ℕ) (w : Wanted) (mark : RowId) → is_by c w ≡ true
    → record { conn = w.conn; sub = w.sub; want = w.want; mark = mark } ≡ hold_of c w.sub w.want mark
hold_by c w mark b =
    let e : w.conn.0 ≡ c = grind (arith, nat_tests) in
    ap (λ (k : ℕ). hold_of k w.sub w.want mark) e

-- the connection's own hold stands before all others, and is another one
own-first : (c n : ℕ) (r user : List ℕ) (own : Option ℕ) (sub : SubNo) (want : WantNo) (mark : RowId) → (sub.0 == 0) ≡ false
    → AllByRecursion (λ x. is_before x (hold_of c sub want mark) ≡ true) (own_hold c r (Some user) own)
own-first c n r user None sub want mark f = tt
own-first c n r user (Some m) sub want mark f = go (bytes_eq (own_name user) r)
  where
    one : Hold
    one = record { conn = conn_of c; sub = record { 0 = 0 }; want = record { 0 = 0 }; mark = record { 0 = m } }

    before : is_before one (hold_of c sub want mark) ≡ true
    before = grind (arith, nat_tests)

    go : (b : Bool) → AllByRecursion (λ x. is_before x (hold_of c sub want mark) ≡ true) (cond b (one ∷ []) [])
    go true = (before, tt)
    go false = tt

own-other : (c : ℕ) (r user : List ℕ) (own : Option ℕ) (sub : SubNo) (want : WantNo) (mark : RowId) → (sub.0 == 0) ≡ false → (want.0 == 0) ≡ false
    → AllByRecursion (IsOther (hold_of c sub want mark)) (own_hold c r (Some user) own)
own-other c r user None sub want mark f g = tt
own-other c r user (Some m) sub want mark f g = go (bytes_eq (own_name user) r)
  where
    one : Hold
    one = record { conn = conn_of c; sub = record { 0 = 0 }; want = record { 0 = 0 }; mark = record { 0 = m } }

    other : IsOther (hold_of c sub want mark) one
    other = (
      λ q.
          let q' : 0 ≡ sub.0 = ap (λ (y : SubNo). y.0) q in
          absurd (grind (arith, nat_tests)),
      λ q.
          let q' : 0 ≡ want.0 = ap (λ (y : WantNo). y.0) q in
          absurd (grind (arith, nat_tests)),
    )

    go : (b : Bool) → AllByRecursion (IsOther (hold_of c sub want mark)) (cond b (one ∷ []) [])
    go true = (other, tt)
    go false = tt

-- a connection whose own want is still to be placed holds nothing
nothing-yet : (c : ℕ) (user : List ℕ) (first : List Subscription) (n : ℕ) (own : Option ℕ) (subs : List Subscription) (ws : List Wanted) (m : HoldMap)
    (r : List ℕ) → n ≡ 0 → At c user first n own subs ws m → holds_on c (holds_at m r) ≡ []
nothing-yet c user first n own subs ws m r z h =
    let none = none-below c 0 (sub_holds c r subs) (subs-lie c 0 0 r subs h.sits (subst (λ k. Free k subs) z h.free)) in
    h.holds r ∙ (ap (λ o. own_hold c r (Some user) o ++ sub_holds c r subs) (h.unplaced z) ∙ none)

-- under the name stands what is to stand there, once the want is placed
abbrev Stands : ℕ → List ℕ → Option ℕ → List Subscription → RowId → Wanted → HoldMap → Bool → Option (List ℕ) → (r : List ℕ) → Type 0
Stands c user own subs mark w m t o r =
    holds_on c (holds_at (with_placings (placing_as mark w (cond t (Some (own_name user)) o)) m) r)
    ≡ own_hold c r (Some user) (cond t (Some mark.0) own) ++ sub_holds c r (placed_in w.sub w.want mark subs)

stands-own : (c : ℕ) (user : List ℕ) (first : List Subscription) (n : ℕ) (own : Option ℕ) (subs : List Subscription) (mark : RowId) (w : Wanted)
    (ws : List Wanted) (m : HoldMap) (o : Option (List ℕ)) (r : List ℕ)
    → is_by c w ≡ true → At c user first n own subs ws m → (w.sub.0 == 0) ≡ true → w.want.0 ≡ n → n ≡ 0 → Stands c user own subs mark w m true o r
stands-own c user first n own subs mark w ws m o r b h t k z =
    placed-for c m (own_name user) r new_hold b
    ∙ (ap (λ xs. cond (bytes_eq (own_name user) r) (with_hold new_hold xs) xs) (nothing-yet c user first n own subs ws m r z h)
    ∙ (ap (λ x. cond (bytes_eq (own_name user) r) (x ∷ []) []) same
    ∙ (sym (append-nil (own_hold c r (Some user) (Some mark.0))) ∙ ap (λ xs. own_hold c r (Some user) (Some mark.0) ++ xs) (sym none))))
  where
    new_hold : Hold
    new_hold = record { conn = w.conn; sub = w.sub; want = w.want; mark = mark }

    same : new_hold ≡ record { conn = conn_of c; sub = record { 0 = 0 }; want = record { 0 = 0 }; mark = mark }
    same =
        let sub : w.sub.0 ≡ 0 = grind (arith, nat_tests) in
        let want : w.want.0 ≡ 0 = omega (arith, k, z) in
        hold_by c w mark b
        ∙ (ap (λ (x : ℕ). hold_of c (record { 0 = x }) w.want mark) sub ∙ ap (λ (x : ℕ). hold_of c (record { 0 = 0 }) (record { 0 = x }) mark) want)

    none : sub_holds c r (placed_in w.sub w.want mark subs) ≡ []
    none =
        let low : w.sub.0 ≤ 0 = grind (arith, nat_tests) in
        ap (sub_holds c r) (placed-above 0 w.sub w.want mark subs h.sits low)
        ∙ none-below c 0 (sub_holds c r subs) (subs-lie c 0 0 r subs h.sits (subst (λ x. Free x subs) z h.free))

stands-none : (c : ℕ) (user : List ℕ) (first : List Subscription) (n : ℕ) (own : Option ℕ) (subs : List Subscription) (mark : RowId) (w : Wanted)
    (ws : List Wanted) (m : HoldMap) (r : List ℕ)
    → At c user first n own subs ws m → name_wanted w first ≡ None → Stands c user own subs mark w m false None r
stands-none c user first n own subs mark w ws m r h e =
    h.holds r ∙ ap (λ ss. own_hold c r (Some user) own ++ sub_holds c r ss) (sym (unplaced 0 w mark subs h.sits (h.names w ∙ e)))

stands-some : (c : ℕ) (user : List ℕ) (first : List Subscription) (n : ℕ) (own : Option ℕ) (subs : List Subscription) (mark : RowId) (w : Wanted)
    (ws : List Wanted) (m : HoldMap) (name : List ℕ) (r : List ℕ)
    → is_by c w ≡ true → At c user first n own subs ws m → (w.sub.0 == 0) ≡ false → w.want.0 ≡ n → name_wanted w first ≡ Some name
    → Stands c user own subs mark w m false (Some name) r
stands-some c user first n own subs mark w ws m name r b h f k e =
    placed-for c m name r (record { conn = w.conn; sub = w.sub; want = w.want; mark = mark }) b
    ∙ (ap (λ x. cond (bytes_eq name r) (with_hold x (holds_on c (holds_at m r))) (holds_on c (holds_at m r))) (hold_by c w mark b)
    ∙ (ap (λ xs. cond (bytes_eq name r) (with_hold new_hold xs) xs) (h.holds r)
    ∙ (go (bytes_eq name r) ∙ ap (λ xs. own_hold c r (Some user) own ++ xs) (sym (then-held c n 0 w mark name r subs h.sits h.free k (h.names w ∙ e))))))
  where
    new_hold : Hold
    new_hold = hold_of c w.sub w.want mark

    go : (t : Bool) → cond t (with_hold new_hold (own_hold c r (Some user) own ++ sub_holds c r subs)) (own_hold c r (Some user) own ++ sub_holds c r subs)
        ≡ own_hold c r (Some user) own ++ cond t (with_hold new_hold (sub_holds c r subs)) (sub_holds c r subs)
    go true = behind-all new_hold (own_hold c r (Some user) own) (sub_holds c r subs) (own-first c n r user own w.sub w.want mark f)
    go false = refl

pub place-one : (c : ℕ) (s : Seated) (n : ℕ) (own : Option ℕ) (subs : List Subscription) (mark : RowId) (w : Wanted) (ws : List Wanted) (m : HoldMap)
    → is_by c w ≡ true → At c s.user s.subs n own subs (w ∷ ws) m
    → At c s.user s.subs (suc n) (own_next mark w own) (placed_in w.sub w.want mark subs) ws (with_placings (placing_as mark w (name_in w (Some s))) m)
place-one c s n own subs mark w ws m b h = go (w.sub.0 == 0) refl (name_wanted w s.subs) refl
  where
    first : Numbered n (w ∷ wanted_by c ws)
    first = rw b at h.numbered

    stands : (t : Bool) → (w.sub.0 == 0) ≡ t → (o : Option (List ℕ)) → name_wanted w s.subs ≡ o → (r : List ℕ) → Stands c s.user own subs mark w m t o r
    stands true t o o' r =
        let z : n ≡ 0 = (let both = sym first.1 ∙ t in grind (arith, nat_tests)) in
        stands-own c s.user s.subs n own subs mark w (w ∷ ws) m o r b h t first.0 z
    stands false t None o r = stands-none c s.user s.subs n own subs mark w (w ∷ ws) m r h o
    stands false t (Some name) o r = stands-some c s.user s.subs n own subs mark w (w ∷ ws) m name r b h t first.0 o

    go : (t : Bool) → (w.sub.0 == 0) ≡ t → (o : Option (List ℕ)) → name_wanted w s.subs ≡ o
        → At c s.user s.subs (suc n) (cond t (Some mark.0) own) (placed_in w.sub w.want mark subs) ws
        (with_placings (placing_as mark w (cond t (Some (own_name s.user)) o)) m)
    go t t' o o' =
        record {
          numbered = first.2;
          unplaced = λ z. absurd (omega (arith, z));
          sits = placed-sits 0 w.sub w.want mark subs h.sits;
          free = placed-free n w.sub w.want mark subs first.0 h.free;
          names = λ x. placed-names x w.sub w.want mark subs ∙ h.names x;
          holds = stands t t' o o';
        }

-- its hold is new
pub new-one : (c : ℕ) (s : Seated) (n : ℕ) (own : Option ℕ) (subs : List Subscription) (mark : RowId) (w : Wanted) (ws : List Wanted) (m : HoldMap)
    → is_by c w ≡ true → At c s.user s.subs n own subs (w ∷ ws) m → AreNew (placing_as mark w (name_in w (Some s))) m
new-one c s n own subs mark w ws m b h = go (w.sub.0 == 0) refl (name_wanted w s.subs) refl
  where
    first : Numbered n (w ∷ wanted_by c ws)
    first = rw b at h.numbered

    new_hold : Hold
    new_hold = record { conn = w.conn; sub = w.sub; want = w.want; mark = mark }

    -- to be new among those of c is enough
    enough : (name : List ℕ) → AllByRecursion (IsOther new_hold) (holds_on c (holds_at m name)) → IsNewAmong new_hold (holds_at m name)
    enough name a =
        let e : c ≡ w.conn.0 = grind (arith, nat_tests) in
        new-among new_hold (holds_at m name) (subst (λ d. AllByRecursion (IsOther new_hold) (holds_on d (holds_at m name))) e a)

    go : (t : Bool) → (w.sub.0 == 0) ≡ t → (o : Option (List ℕ)) → name_wanted w s.subs ≡ o → AreNew (placing_as mark w (cond t (Some (own_name s.user)) o)) m
    go true t o o' =
        let z : n ≡ 0 = (let both = sym first.1 ∙ t in grind (arith, nat_tests)) in (
          enough (own_name s.user)
              (subst (AllByRecursion (IsOther new_hold)) (sym (nothing-yet c s.user s.subs n own subs (w ∷ ws) m (own_name s.user) z h)) tt),
          tt,
        )
    go false t None o = tt
    go false t (Some name) o =
        let high : (w.want.0 == 0) ≡ false = ap (λ x. x == 0) first.0 ∙ (sym first.1 ∙ t) in
        let all =
        All-append (IsOther (hold_of c w.sub w.want mark)) (own_hold c name (Some s.user) own) (sub_holds c name subs)
        (own-other c name s.user own w.sub w.want mark t high)
        (newly-held c n 0 w mark name subs h.sits h.free first.0 (h.names w ∙ o)) in (
          enough name (subst (λ x. AllByRecursion (IsOther x) (holds_on c (holds_at m name))) (sym (hold_by c w mark b))
              (subst (AllByRecursion (IsOther (hold_of c w.sub w.want mark))) (sym (h.holds name)) all)),
          tt,
        )

-- ---- all wants of a turn

new-joined : (xs ys : List Placing) (m : HoldMap) → AreNew xs m → AreNew ys (with_placings xs m) → AreNew (xs ++ ys) m
new-joined [] ys m a b = b
new-joined (x ∷ xs) ys m a b = (a.0, new-joined xs ys (with_hold_at m x.name x.hold) a.1 b)

-- the walk has come to these wants, with each live connection
pub record Ready (v : Numbers) (c : ℕ) (s : Seated) (ws : List Wanted) (m : HoldMap) : Type 0 where
  pub n : ℕ
  pub own : Option ℕ
  pub subs : List Subscription
  pub is : At c s.user s.subs n own subs ws m

abbrev pub AllReady : Numbers → List Wanted → HoldMap → Type 0
AllReady v ws m = (c : ℕ) (s : Seated) → seat_at c v ≡ Some s → Ready v c s ws m

-- it comes to the next
ready-next : (v : Numbers) (mark : RowId) (w : Wanted) (ws : List Wanted) (m : HoldMap) (o : Option Seated) → seat_at w.conn.0 v ≡ o → AllReady v (w ∷ ws) m
    → AllReady v ws (with_placings (placing_as mark w (name_in w o)) m)
ready-next v mark w ws m o o' h c s e = go (is_by c w) refl
  where
    before : Ready v c s (w ∷ ws) m
    before = h c s e

    go : (b : Bool) → is_by c w ≡ b → Ready v c s ws (with_placings (placing_as mark w (name_in w o)) m)
    go false b =
        record {
          n = before.n;
          own = before.own;
          subs = before.subs;
          is = others c s.user s.subs before.n before.own before.subs mark w (name_in w o) ws m b before.is;
        }
    go true b =
        let same : w.conn.0 ≡ c = grind (arith, nat_tests) in
        let this : o ≡ Some s = sym o' ∙ (ap (λ k. seat_at k v) same ∙ e) in
        record {
          n = suc before.n;
          own = own_next mark w before.own;
          subs = placed_in w.sub w.want mark before.subs;
          is =
              subst (λ x. At c s.user s.subs (suc before.n) (own_next mark w before.own) (placed_in w.sub w.want mark before.subs) ws
              (with_placings (placing_as mark w (name_in w x)) m)) (sym this)
              (place-one c s before.n before.own before.subs mark w ws m b before.is);
        }

pub all-new : (v : Numbers) (mark : RowId) (ws : List Wanted) (m : HoldMap) → AllReady v ws m → AreNew (placings_of v mark ws) m
all-new v mark [] m h = tt
all-new v mark (w ∷ ws) m h =
    new-joined (placing_as mark w (name_in w (seat_at w.conn.0 v))) (placings_of v mark ws) m (here (seat_at w.conn.0 v) refl)
    (all-new v mark ws (with_placings (placing_as mark w (name_in w (seat_at w.conn.0 v))) m) (ready-next v mark w ws m (seat_at w.conn.0 v) refl h))
  where
    here : (o : Option Seated) → seat_at w.conn.0 v ≡ o → AreNew (placing_as mark w (name_in w o)) m
    here None o = tt
    here (Some s) o =
        let self : is_by w.conn.0 w ≡ true = grind (arith, nat_tests) in
        let before = h w.conn.0 s o in
        new-one w.conn.0 s before.n before.own before.subs mark w ws m self before.is

-- a live connection has them in the end
pub all-placed : (v : Numbers) (mark : RowId) (c : ℕ) (s : Seated) (n : ℕ) (own : Option ℕ) (subs : List Subscription) (ws : List Wanted) (m : HoldMap)
    (r : List ℕ)
    → seat_at c v ≡ Some s → At c s.user s.subs n own subs ws m
    → holds_on c (holds_at (with_placings (placings_of v mark ws) m) r)
    ≡ own_hold c r (Some s.user) (own_after mark (wanted_by c ws) own) ++ sub_holds c r (placed_each mark (pairs_by c ws) subs)
all-placed v mark c s n own subs [] m r e h = h.holds r
all-placed v mark c s n own subs (w ∷ ws) m r e h =
    ap (λ x. holds_on c (holds_at x r)) (with-both (placing_as mark w (name_in w (seat_at w.conn.0 v))) (placings_of v mark ws) m)
    ∙ go (is_by c w) refl (λ k own' subs' m' h'. all-placed v mark c s k own' subs' ws m' r e h')
  where
    go : (b : Bool) → is_by c w ≡ b
        → ((k : ℕ) (own' : Option ℕ) (subs' : List Subscription) (m' : HoldMap) → At c s.user s.subs k own' subs' ws m'
        → holds_on c (holds_at (with_placings (placings_of v mark ws) m') r)
        ≡ own_hold c r (Some s.user) (own_after mark (wanted_by c ws) own') ++ sub_holds c r (placed_each mark (pairs_by c ws) subs'))
        → holds_on c (holds_at (with_placings (placings_of v mark ws) (with_placings (placing_as mark w (name_in w (seat_at w.conn.0 v))) m)) r)
        ≡ own_hold c r (Some s.user) (own_after mark (wanted_by c (w ∷ ws)) own) ++ sub_holds c r (placed_each mark (pairs_by c (w ∷ ws)) subs)
    go false b ih =
        rw b (ih n own subs (with_placings (placing_as mark w (name_in w (seat_at w.conn.0 v))) m)
        (others c s.user s.subs n own subs mark w (name_in w (seat_at w.conn.0 v)) ws m b h))
    go true b ih =
        let same : w.conn.0 ≡ c = grind (arith, nat_tests) in
        let this : seat_at w.conn.0 v ≡ Some s = ap (λ k. seat_at k v) same ∙ e in
        rw b
        (ih (suc n) (own_next mark w own) (placed_in w.sub w.want mark subs) (with_placings (placing_as mark w (name_in w (seat_at w.conn.0 v))) m)
        (subst (λ x. At c s.user s.subs (suc n) (own_next mark w own) (placed_in w.sub w.want mark subs) ws (with_placings (placing_as mark w (name_in w x)) m))
        (sym this) (place-one c s n own subs mark w ws m b h)))

-- and one that isn't live has what it had
pub none-placed : (v : Numbers) (mark : RowId) (c : ℕ) (ws : List Wanted) (m : HoldMap) (r : List ℕ) → seat_at c v ≡ None
    → holds_on c (holds_at (with_placings (placings_of v mark ws) m) r) ≡ holds_on c (holds_at m r)
none-placed v mark c [] m r e = refl
none-placed v mark c (w ∷ ws) m r e =
    ap (λ x. holds_on c (holds_at x r)) (with-both (placing_as mark w (name_in w (seat_at w.conn.0 v))) (placings_of v mark ws) m)
    ∙ (none-placed v mark c ws (with_placings (placing_as mark w (name_in w (seat_at w.conn.0 v))) m) r e ∙ go (is_by c w) refl)
  where
    go : (b : Bool) → is_by c w ≡ b → holds_on c (holds_at (with_placings (placing_as mark w (name_in w (seat_at w.conn.0 v))) m) r) ≡ holds_on c (holds_at m r)
    go false b = not-for c mark w (name_in w (seat_at w.conn.0 v)) m r b
    go true b =
        let same : w.conn.0 ≡ c = grind (arith, nat_tests) in
        let none : seat_at w.conn.0 v ≡ None = ap (λ k. seat_at k v) same ∙ e in
        ap (λ (o : Option Seated). holds_on c (holds_at (with_placings (placing_as mark w (name_in w o)) m) r)) none
