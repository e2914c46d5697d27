-- Each want that stands is one of those that were made, under its number and of its subscription, and so is each confirmation that is due.
use Rattle.std.proofs.Common.{ℕ, suc, ◌+◌, ◌≡◌, ◌≤◌, ◌<◌, ◌==◌, Bool, true, false, cond, not, List, [], ◌∷◌, ◌++◌, length, map, Some, None, Option, refl, ap}
use Rattle.std.proofs.Common.{sym, subst, ◌∙◌, arith, bytes_eq}
use Rattle.std.specs.List.{AllByRecursion, filter}
use Rattle.std.proofs.lemmas.List.{map-append}
use Rattle.std.proofs.lemmas.Bool.Decides.{nat_tests}
use Rattle.std.proofs.lemmas.Slice.Eq.{bytes_eq-Decides}
use Rattle.cable_base.proofs.Each.{All-append, All-filter, All-implied}
use Rattle.cable_base.proofs.Rises.{Rises, Rises-within}
use Rattle.cable_base.specs.declared.numbers.RowId.{RowId}
use Rattle.cable_model.specs.declared.plans.Change.{Change}
use Rattle.cable_model.specs.declared.plans.Change.TheVariants as change
use Rattle.cable_model.specs.declared.plans.Plan.{Plan}
use Rattle.cable_model.specs.Connection.{Want, Sub, Conn, wanted, first_above, among, without, streamed, changed}
use Rattle.cable_model.specs.Legal.{Legal, stored_plans}
use Rattle.cable_model.specs.Pieces.{seat}
use Rattle.cable_model.specs.Possible.{has_job}
use Rattle.cable_model.specs.Steps.{Step}
use Rattle.cable_model.specs.Wants.{made}
use Rattle.cable_model.specs.Window.{finished}
use Rattle.cable_model.proofs.Entries.{unfinished}
use Rattle.cable_model.proofs.Dues.{Dues, DueOk, fold-dues}
use Rattle.cable_model.proofs.Inbox.{valid-at}
use Rattle.cable_model.proofs.JobsStay.{userless-seat}
use Rattle.cable_model.proofs.Marks.{made-conn}
use Rattle.cable_model.proofs.Stored.{HasPlan, has-plan, stored-works}
use Rattle.cable_model.proofs.Valid.{fresh-valid}
use Rattle.cable_model.proofs.Working.{working}
use Rattle.conn_core.specs.Subscriptions.{AreDifferent}
use Rattle.node_seats.specs.declared.turning.Wanted.{Wanted}
use Rattle.node_turns.specs.Wished.{wanted_as, wanted_above, wanted_with, number_named, own_wanted, wants_of}
use Rattle.node_turns.proofs.DistinctNames.{ids_of, distinct}
use Rattle.node_turns.proofs.WantsCounted.{fresh-user, wants-length}
use Rattle.node_turns.proofs.WantsNumbered.{Numbered, wants-numbered}

-- ---- a want and a subscription

abbrev pub is_due : Option ℕ → ℕ → Bool
is_due None w = false
is_due (Some d) w = d == w

-- the want is one of the subscription, where that has a want or a due confirmation of its number; and the confirmation that comes with it is
-- the one that is due
pub record Owns (y : Wanted) (x : Sub) : Type 0 where
  pub wants : AllByRecursion (λ (w : Want). y.want.0 ≡ w.number → y.sub.0 ≡ x.number) x.wants
  pub due_sub : (d : ℕ) → x.due ≡ Some d → y.want.0 ≡ d → y.sub.0 ≡ x.number
  pub due : y.sub.0 ≡ x.number → y.confirms ≡ is_due x.due y.want.0

-- the dues rise, from above b up to at most e
abbrev pub DuesFrom : ℕ → List (Option ℕ) → ℕ → Type 0
DuesFrom b [] e = b ≤ e
DuesFrom b (None ∷ os) e = DuesFrom b os e
DuesFrom b (Some d ∷ os) e = (b < d) × DuesFrom d os e

abbrev pub dues_of : List Sub → List (Option ℕ)
dues_of subs = map (λ (x : Sub). x.due) subs

pub record Owned (ws : List Wanted) (subs : List Sub) (done made : ℕ) : Type 0 where
  pub within : AllByRecursion (λ (y : Wanted). y.sub.0 ≤ done) ws
  pub owns : AllByRecursion (λ (y : Wanted). AllByRecursion (Owns y) subs) ws
  pub rise : DuesFrom 0 (dues_of subs) made

-- ---- what holds of the numbers of the subscriptions

record Bounds (k : Conn) (done : ℕ) (x : Sub) : Type 0 where
  number : x.number ≤ done
  wants : AllByRecursion (λ (w : Want). w.number ≤ k.made) x.wants
  due : (d : ℕ) → x.due ≡ Some d → d ≤ k.made

upto : {A : Type 0} (f : A → ℕ) (b : ℕ) (xs : List A) (e : ℕ) → Rises f b xs e → AllByRecursion (λ x. f x ≤ e) xs
upto f b [] e h = tt
upto f b (x ∷ xs) e h = (Rises-within f (f x) xs e h.1, upto f (f x) xs e h.1)

bounded : (k : Conn) (done b : ℕ) (xs : List Sub) → Rises (λ (x : Sub). x.number) b xs done
    → AllByRecursion (λ (x : Sub). Rises (λ (y : Want). y.number) 0 x.wants k.made) xs → AllByRecursion (DueOk k.made) xs
    → AllByRecursion (Bounds k done) xs
bounded k done b [] r w d = tt
bounded k done b (x ∷ xs) r w d = (
  record {
    number = Rises-within (λ (z : Sub). z.number) x.number xs done r.1;
    wants = upto (λ (y : Want). y.number) 0 x.wants k.made w.0;
    due = λ n e. (d.0 n e).0;
  },
  bounded k done x.number xs r.1 w.1 d.1,
)

bounds : (c : ℕ) (past : List Step) → Legal past → AllByRecursion (Bounds (seat c past).conn (seat c past).done) (seat c past).conn.subs
bounds c past l =
    let pl = stored_plans c past in
    let h = working pl c past (stored-works c past l) in
    let v = valid-at pl (seat c past) (λ sub want. finished c sub want past) h in
    let d : Dues (seat c past).conn = subst Dues (sym h.conn) (fold-dues pl 0 _ h.front fresh-valid tt) in
    bounded (seat c past).conn (seat c past).done 0 (seat c past).conn.subs v.subs v.wants d

-- ---- a change, for a want that was made before

old-streamed : (k : Conn) (identifier : List ℕ) (stops streams : List (List ℕ)) (y : Wanted) (x : Sub) → y.want.0 ≤ k.made → Owns y x
    → Owns y (streamed k.made identifier stops streams x)
old-streamed k identifier stops streams y x l o =
    elim (bytes_eq x.identifier identifier) as (λ b. Owns y
    (cond b (record { number = x.number; identifier = x.identifier; wants = without stops x.wants ++ wanted k.made streams; due = x.due }) x)) [
      | true ↦ record {
        wants = All-append (λ (w : Want). y.want.0 ≡ w.number → y.sub.0 ≡ x.number) (without stops x.wants) (wanted k.made streams)
            (All-filter (λ (w : Want). y.want.0 ≡ w.number → y.sub.0 ≡ x.number) (λ w. not (among stops w.name)) x.wants o.wants) (above-all k.made streams l);
        due_sub = o.due_sub;
        due = o.due;
      }
      | false ↦ o
    ]
  where
    above-all : (n : ℕ) (names : List (List ℕ)) → y.want.0 ≤ n → AllByRecursion (λ (w : Want). y.want.0 ≡ w.number → y.sub.0 ≡ x.number) (wanted n names)
    above-all n [] l = tt
    above-all n (name ∷ names) l = ((λ e. absurd (omega (arith, l, e))), above-all (n + 1) names (omega (arith, l)))

old-new : (k : Conn) (place : ℕ) (identifier : List ℕ) (streams : List (List ℕ)) (y : Wanted) → y.want.0 ≤ k.made → y.sub.0 < place
    → Owns y (record { number = place; identifier = identifier; wants = wanted k.made streams; due = first_above k.made streams })
old-new k place identifier streams y l s =
    record { wants = above-all k.made streams l; due_sub = λ d e f. due-above streams d e f; due = λ e. absurd (omega (arith, s, e)) }
  where
    above-all : (n : ℕ) (names : List (List ℕ)) → y.want.0 ≤ n → AllByRecursion (λ (w : Want). y.want.0 ≡ w.number → y.sub.0 ≡ place) (wanted n names)
    above-all n [] l = tt
    above-all n (name ∷ names) l = ((λ e. absurd (omega (arith, l, e))), above-all (n + 1) names (omega (arith, l)))

    due-above : (names : List (List ℕ)) (d : ℕ) → first_above k.made names ≡ Some d → y.want.0 ≡ d → y.sub.0 ≡ place
    due-above [] d e f = absurd (cc (e))
    due-above (name ∷ names) d e f = let t : k.made + 1 ≡ d = cc (e) in absurd (omega (arith, l, t, f))

old-all : (k : Conn) (identifier : List ℕ) (stops streams : List (List ℕ)) (y : Wanted) (xs : List Sub) → y.want.0 ≤ k.made → AllByRecursion (Owns y) xs
    → AllByRecursion (Owns y) (map (streamed k.made identifier stops streams) xs)
old-all k identifier stops streams y [] l o = tt
old-all k identifier stops streams y (x ∷ xs) l o = (old-streamed k identifier stops streams y x l o.0, old-all k identifier stops streams y xs l o.1)

old-owns : (ch : Change) (place : ℕ) (k : Conn) (y : Wanted) → y.want.0 ≤ k.made → y.sub.0 < place → AllByRecursion (Owns y) k.subs
    → AllByRecursion (Owns y) (changed ch place k).subs
old-owns change.Nothing place k y l s o = o
old-owns (change.Add identifier streams) place k y l s o = All-append (Owns y) k.subs _ o (old-new k place identifier streams y l s, tt)
old-owns (change.Streams identifier stops streams) place k y l s o = old-all k identifier stops streams y k.subs l o
old-owns (change.Remove identifier) place k y l s o = All-filter (Owns y) (λ x. not (bytes_eq x.identifier identifier)) k.subs o
old-owns change.Close place k y l s o = tt

-- ---- a change, for a want that it makes

-- a want that is made now is none of a subscription that stood
apart-from : (k : Conn) (place done : ℕ) (y : Wanted) (x : Sub) → k.made < y.want.0 → y.sub.0 ≡ place → done < place → Bounds k done x → Owns y x
apart-from k place done y x l s p b =
    record {
      wants = All-implied (λ (w : Want). w.number ≤ k.made) (λ (w : Want). y.want.0 ≡ w.number → y.sub.0 ≡ x.number) x.wants
          (λ w h e. absurd (omega (arith, l, h, e))) b.wants;
      due_sub = λ d e f. let t = b.due d e in absurd (omega (arith, l, t, f));
      due = λ e. let n = b.number in absurd (omega (arith, s, p, e, n));
    }

apart-all : (k : Conn) (place done : ℕ) (y : Wanted) (xs : List Sub) → k.made < y.want.0 → y.sub.0 ≡ place → done < place → AllByRecursion (Bounds k done) xs
    → AllByRecursion (Owns y) xs
apart-all k place done y [] l s p b = tt
apart-all k place done y (x ∷ xs) l s p b = (apart-from k place done y x l s p b.0, apart-all k place done y xs l s p b.1)

-- one of a subscription that is made now
its-own : (n place : ℕ) (ws : List Want) (y : Wanted) → y.sub.0 ≡ place → AllByRecursion (λ (w : Want). y.want.0 ≡ w.number → y.sub.0 ≡ place) ws
its-own n place [] y s = tt
its-own n place (w ∷ ws) y s = ((λ e. s), its-own n place ws y s)

added-owns : (k : Conn) (place done : ℕ) (identifier : List ℕ) (all : List (List ℕ)) (y : Wanted) → k.made < y.want.0 → y.sub.0 ≡ place → done < place
    → AllByRecursion (Bounds k done) k.subs
    → y.confirms ≡ is_due (first_above k.made all) y.want.0
    → AllByRecursion (Owns y) (k.subs ++ record { number = place; identifier = identifier; wants = wanted k.made all; due = first_above k.made all } ∷ [])
added-owns k place done identifier all y l s p b d =
    All-append (Owns y) k.subs _ (apart-all k place done y k.subs l s p b)
    (record { wants = its-own k.made place (wanted k.made all) y s; due_sub = λ n e f. s; due = λ e. d }, tt)

due-none : (n : ℕ) (all : List (List ℕ)) (w : ℕ) → n + 1 < w → is_due (first_above n all) w ≡ false
due-none n [] w l = refl
due-none n (a ∷ as_) w l = grind (arith, nat_tests)

added-rest : (c place n done : ℕ) (identifier : List ℕ) (all names : List (List ℕ)) (k : Conn) → k.made + 1 ≤ n → done < place
    → AllByRecursion (Bounds k done) k.subs
    → AllByRecursion
    (λ (y : Wanted). AllByRecursion (Owns y)
    (k.subs ++ record { number = place; identifier = identifier; wants = wanted k.made all; due = first_above k.made all } ∷ []))
    (wanted_above c place n false names)
added-rest c place n done identifier all [] k l p b = tt
added-rest c place n done identifier all (name ∷ names) k l p b = (
  added-owns k place done identifier all (wanted_as c place (n + 1) false) (omega (arith, l)) refl p b (sym (due-none k.made all (n + 1) (omega (arith, l)))),
  added-rest c place (n + 1) done identifier all names k (omega (arith, l)) p b,
)

added-all : (c place done : ℕ) (identifier : List ℕ) (streams : List (List ℕ)) (k : Conn) → done < place → AllByRecursion (Bounds k done) k.subs
    → AllByRecursion
    (λ (y : Wanted). AllByRecursion (Owns y)
    (k.subs ++ record { number = place; identifier = identifier; wants = wanted k.made streams; due = first_above k.made streams } ∷ []))
    (wanted_above c place k.made true streams)
added-all c place done identifier [] k p b = tt
added-all c place done identifier (name ∷ names) k p b =
    let same : (k.made + 1 == k.made + 1) ≡ true = grind (arith, nat_tests) in (
      added-owns k place done identifier (name ∷ names) (wanted_as c place (k.made + 1) true) (omega arith) refl p b (sym same),
      added-rest c place (k.made + 1) done identifier (name ∷ names) names k (omega arith) p b,
    )

-- ---- the subscription of an identifier

abbrev HasNumber : (identifier : List ℕ) → ℕ → Sub → Type 0
HasNumber identifier n x = bytes_eq x.identifier identifier ≡ true → n ≡ x.number

named-number : (identifier : List ℕ) (xs : List Sub) → AreDifferent (ids_of xs) → AllByRecursion (HasNumber identifier (number_named identifier xs)) xs
named-number identifier [] a = tt
named-number identifier (x ∷ xs) a = go (bytes_eq x.identifier identifier) refl (named-number identifier xs a.1)
  where
    others : (zs : List Sub) → bytes_eq x.identifier identifier ≡ true → among (ids_of zs) x.identifier ≡ false
        → AllByRecursion (HasNumber identifier x.number) zs
    others [] t n = tt
    others (z ∷ zs) t n = go (bytes_eq z.identifier x.identifier) refl n (others zs t)
      where
        go : (b : Bool) → bytes_eq z.identifier x.identifier ≡ b → among (ids_of (z ∷ zs)) x.identifier ≡ false
            → (among (ids_of zs) x.identifier ≡ false → AllByRecursion (HasNumber identifier x.number) zs)
            → AllByRecursion (HasNumber identifier x.number) (z ∷ zs)
        go true b n ih = let n' = rw b at n in absurd (cc (n'))
        go false b n ih =
            let n' = rw b at n in
            let same : x.identifier ≡ identifier = (bytes_eq-Decides x.identifier identifier).0 t in
            ((λ e. let f : bytes_eq z.identifier x.identifier ≡ true = subst (λ i. bytes_eq z.identifier i ≡ true) (sym same) e in absurd (cc (b, f))), ih n')

    go : (b : Bool) → bytes_eq x.identifier identifier ≡ b → AllByRecursion (HasNumber identifier (number_named identifier xs)) xs
        → AllByRecursion (HasNumber identifier (number_named identifier (x ∷ xs))) (x ∷ xs)
    go true b ih =
        let e : number_named identifier (x ∷ xs) ≡ x.number = rw b refl in
        subst (λ n. AllByRecursion (HasNumber identifier n) (x ∷ xs)) (sym e) ((λ t. refl), others xs b a.0)
    go false b ih =
        let e : number_named identifier (x ∷ xs) ≡ number_named identifier xs = rw b refl in
        subst (λ n. AllByRecursion (HasNumber identifier n) (x ∷ xs)) (sym e) ((λ t. absurd (cc (b, t))), ih)

streamed-one : (k : Conn) (done n : ℕ) (identifier : List ℕ) (stops streams : List (List ℕ)) (y : Wanted) (x : Sub) → k.made < y.want.0 → y.confirms ≡ false
    → y.sub.0 ≡ n → HasNumber identifier n x → Bounds k done x
    → Owns y (streamed k.made identifier stops streams x)
streamed-one k done n identifier stops streams y x l f s h b = go (bytes_eq x.identifier identifier) refl
  where
    none : is_due x.due y.want.0 ≡ false
    none = at-due x.due b.due
      where
        at-due : (o : Option ℕ) → ((d : ℕ) → o ≡ Some d → d ≤ k.made) → is_due o y.want.0 ≡ false
        at-due None h = refl
        at-due (Some d) h = let t = h d refl in grind (arith, nat_tests)

    go : (t : Bool) → bytes_eq x.identifier identifier ≡ t → Owns y (streamed k.made identifier stops streams x)
    go true t =
        let e : y.sub.0 ≡ x.number = s ∙ h t in
        rw t (record { wants = its-own k.made x.number (without stops x.wants ++ wanted k.made streams) y e; due_sub = λ d q r. e; due = λ q. f ∙ sym none })
    go false t =
        rw t
        (record {
          wants = All-implied (λ (w : Want). w.number ≤ k.made) (λ (w : Want). y.want.0 ≡ w.number → y.sub.0 ≡ x.number) x.wants
              (λ w h e. absurd (omega (arith, l, h, e))) b.wants;
          due_sub = λ d q r. let t = b.due d q in absurd (omega (arith, l, t, r));
          due = λ q. f ∙ sym none;
        })

streamed-subs : (k : Conn) (done n : ℕ) (identifier : List ℕ) (stops streams : List (List ℕ)) (y : Wanted) (xs : List Sub) → k.made < y.want.0
    → y.confirms ≡ false → y.sub.0 ≡ n → AllByRecursion (HasNumber identifier n) xs → AllByRecursion (Bounds k done) xs
    → AllByRecursion (Owns y) (map (streamed k.made identifier stops streams) xs)
streamed-subs k done n identifier stops streams y [] l f s h b = tt
streamed-subs k done n identifier stops streams y (x ∷ xs) l f s h b =
    (streamed-one k done n identifier stops streams y x l f s h.0 b.0, streamed-subs k done n identifier stops streams y xs l f s h.1 b.1)

streamed-each : (c s n done : ℕ) (identifier : List ℕ) (stops streams names : List (List ℕ)) (k : Conn) → k.made ≤ n
    → AllByRecursion (HasNumber identifier s) k.subs → AllByRecursion (Bounds k done) k.subs
    → AllByRecursion (λ (y : Wanted). AllByRecursion (Owns y) (map (streamed k.made identifier stops streams) k.subs)) (wanted_above c s n false names)
streamed-each c s n done identifier stops streams [] k l h b = tt
streamed-each c s n done identifier stops streams (name ∷ names) k l h b = (
  streamed-subs k done s identifier stops streams (wanted_as c s (n + 1) false) k.subs (omega (arith, l)) refl refl h b,
  streamed-each c s (n + 1) done identifier stops streams names k (omega (arith, l)) h b,
)

new-owns : (c : ℕ) (ch : Change) (place done : ℕ) (k : Conn) → done < place → AreDifferent (ids_of k.subs) → AllByRecursion (Bounds k done) k.subs
    → AllByRecursion (λ (y : Wanted). AllByRecursion (Owns y) (changed ch place k).subs) (wanted_with c place k.made k.subs ch)
new-owns c (change.Add identifier streams) place done k p a b = added-all c place done identifier streams k p b
new-owns c (change.Streams identifier stops streams) place done k p a b =
    streamed-each c (number_named identifier k.subs) k.made done identifier stops streams streams k (omega arith) (named-number identifier k.subs a) b
new-owns c _ place done k p a b = tt

-- ---- dues rise

pub dues-from : (a b : ℕ) (os : List (Option ℕ)) (e : ℕ) → a ≤ b → DuesFrom b os e → DuesFrom a os e
dues-from a b [] e l h = omega (arith, l, h)
dues-from a b (None ∷ os) e l h = dues-from a b os e l h
dues-from a b (Some d ∷ os) e l h = let g = h.0 in (omega (arith, l, g), h.1)

dues-upto : (b : ℕ) (os : List (Option ℕ)) (d e : ℕ) → d ≤ e → DuesFrom b os d → DuesFrom b os e
dues-upto b [] d e l h = omega (arith, l, h)
dues-upto b (None ∷ os) d e l h = dues-upto b os d e l h
dues-upto b (Some m ∷ os) d e l h = (h.0, dues-upto m os d e l h.1)

dues-append : (b : ℕ) (os ps : List (Option ℕ)) (m e : ℕ) → DuesFrom b os m → DuesFrom m ps e → DuesFrom b (os ++ ps) e
dues-append b [] ps m e h k = dues-from b m ps e h k
dues-append b (None ∷ os) ps m e h k = dues-append b os ps m e h k
dues-append b (Some d ∷ os) ps m e h k = (h.0, dues-append d os ps m e h.1 k)

dues-streamed : (n : ℕ) (identifier : List ℕ) (stops streams : List (List ℕ)) (xs : List Sub)
    → dues_of (map (streamed n identifier stops streams) xs) ≡ dues_of xs
dues-streamed n identifier stops streams [] = refl
dues-streamed n identifier stops streams (x ∷ xs) =
    let same : (streamed n identifier stops streams x).due ≡ x.due =
    elim (bytes_eq x.identifier identifier) as (λ b.
    (cond b (record { number = x.number; identifier = x.identifier; wants = without stops x.wants ++ wanted n streams; due = x.due }) x).due ≡ x.due)
    [ true ↦ refl | false ↦ refl ] in
    ap (λ o. o ∷ dues_of (map (streamed n identifier stops streams) xs)) same ∙ ap (λ os. x.due ∷ os) (dues-streamed n identifier stops streams xs)

pub one-due : (b : ℕ) (o : Option ℕ) (os : List (Option ℕ)) (e : ℕ) → DuesFrom b (o ∷ os) e → DuesFrom b os e
one-due b None os e h = h
one-due b (Some d) os e h = let g = h.0 in dues-from b d os e (omega (arith, g)) h.1

dues-onto : (b : ℕ) (o : Option ℕ) (os ps : List (Option ℕ)) (e : ℕ) → ((a : ℕ) → DuesFrom a os e → DuesFrom a ps e) → DuesFrom b (o ∷ os) e
    → DuesFrom b (o ∷ ps) e
dues-onto b None os ps e f h = f b h
dues-onto b (Some d) os ps e f h = (h.0, f d h.1)

dues-filter : (p : Sub → Bool) (b : ℕ) (xs : List Sub) (e : ℕ) → DuesFrom b (dues_of xs) e → DuesFrom b (dues_of (filter p xs)) e
dues-filter p b [] e h = h
dues-filter p b (x ∷ xs) e h =
    elim (p x) as (λ t. DuesFrom b (dues_of (cond t (x ∷ filter p xs) (filter p xs))) e) [
      | true ↦ dues-onto b x.due (dues_of xs) (dues_of (filter p xs)) e (λ a g. dues-filter p a xs e g) h
      | false ↦ dues-filter p b xs e (one-due b x.due (dues_of xs) e h)
    ]

due-added : (n : ℕ) (streams : List (List ℕ)) → DuesFrom n (first_above n streams ∷ []) (n + length streams)
due-added n [] = omega arith
due-added n (name ∷ names) = (omega arith, omega arith)

dues-changed : (ch : Change) (place : ℕ) (k : Conn) → DuesFrom 0 (dues_of k.subs) k.made
    → DuesFrom 0 (dues_of (changed ch place k).subs) (changed ch place k).made
dues-changed change.Nothing place k h = h
dues-changed (change.Add identifier streams) place k h =
    subst (λ os. DuesFrom 0 os (k.made + length streams)) (sym (map-append (λ (x : Sub). x.due) k.subs _))
    (dues-append 0 (dues_of k.subs) (first_above k.made streams ∷ []) k.made (k.made + length streams) h (due-added k.made streams))
dues-changed (change.Streams identifier stops streams) place k h =
    subst (λ os. DuesFrom 0 os (k.made + length streams)) (sym (dues-streamed k.made identifier stops streams k.subs))
    (dues-upto 0 (dues_of k.subs) k.made (k.made + length streams) (omega arith) h)
dues-changed (change.Remove identifier) place k h = dues-filter (λ x. not (bytes_eq x.identifier identifier)) 0 k.subs k.made h
dues-changed change.Close place k h = omega arith

-- ---- the journal

done-now : (c : ℕ) (past : List Step) → has_job (seat c past) ≡ true → (seat c past).done < (seat c past).taken
done-now c past h = grind (arith, nat_tests)

older : (ch : Change) (place done : ℕ) (k : Conn) (n : ℕ) (ys : List Wanted) → done < place → n + length ys ≤ suc k.made → Numbered n ys
    → AllByRecursion (λ (y : Wanted). y.sub.0 ≤ done) ys → AllByRecursion (λ (y : Wanted). AllByRecursion (Owns y) k.subs) ys
    → AllByRecursion (λ (y : Wanted). AllByRecursion (Owns y) (changed ch place k).subs) ys
older ch place done k n [] less l h w o = tt
older ch place done k n (y ∷ ys) less l h w o =
    let e = h.0 in
    let s = w.0 in
    (old-owns ch place k y (omega (arith, l, e)) (omega (arith, s, less)) o.0, older ch place done k (suc n) ys less (omega (arith, l)) h.2 w.1 o.1)

above-within : (c s n place : ℕ) (confirms : Bool) (names : List (List ℕ)) → s ≤ place
    → AllByRecursion (λ (y : Wanted). y.sub.0 ≤ place) (wanted_above c s n confirms names)
above-within c s n place confirms [] l = tt
above-within c s n place confirms (name ∷ names) l = (l, above-within c s (n + 1) place false names l)

named-within : (k : Conn) (done : ℕ) (identifier : List ℕ) (xs : List Sub) → AllByRecursion (Bounds k done) xs → number_named identifier xs ≤ done
named-within k done identifier [] b = omega arith
named-within k done identifier (x ∷ xs) b = go (bytes_eq x.identifier identifier) refl (named-within k done identifier xs b.1)
  where
    go : (t : Bool) → bytes_eq x.identifier identifier ≡ t → number_named identifier xs ≤ done → number_named identifier (x ∷ xs) ≤ done
    go true t ih = rw t b.0.number
    go false t ih = rw t ih

subs-within : (c place n done : ℕ) (k : Conn) (ch : Change) → done < place → AllByRecursion (Bounds k done) k.subs
    → AllByRecursion (λ (y : Wanted). y.sub.0 ≤ place) (wanted_with c place n k.subs ch)
subs-within c place n done k (change.Add identifier streams) less b = above-within c place n place true streams (omega arith)
subs-within c place n done k (change.Streams identifier stops streams) less b =
    let l = named-within k done identifier k.subs b in
    above-within c (number_named identifier k.subs) n place false streams (omega (arith, l, less))
subs-within c place n done k _ less b = tt

-- a Finish of c
finish-owned : (c : ℕ) (puts : List (Option RowId)) (plan : Plan) (past : List Step) → Legal (Step.Finish c puts plan ∷ past)
    → Owned (wants_of c past) (seat c past).conn.subs (seat c past).done (seat c past).conn.made
    → Owned (wants_of c past ++ wanted_with c (seat c past).taken (made c past) (seat c past).conn.subs plan.change)
    (changed plan.change (seat c past).taken (seat c past).conn).subs (seat c past).taken (changed plan.change (seat c past).taken (seat c past).conn).made
finish-owned c puts plan past l o =
    let k = (seat c past).conn in
    let place = (seat c past).taken in
    let found : HasPlan l.0.0.callbacks c past plan = has-plan l.0.0.callbacks c past plan l.0.0.planned in
    let less = done-now c past found.out in
    let count : length (wants_of c past) ≡ suc (made c past) = wants-length c found.user past l.1 found.opened in
    let made_is : made c past ≡ k.made = sym (made-conn c past) in
    let new = wanted_with c place (made c past) k.subs plan.change in
    let b = bounds c past l.1 in
    let fresh : AllByRecursion (λ (y : Wanted). AllByRecursion (Owns y) (changed plan.change place k).subs) new =
    subst (λ n. AllByRecursion (λ (y : Wanted). AllByRecursion (Owns y) (changed plan.change place k).subs) (wanted_with c place n k.subs plan.change))
    (sym made_is) (new-owns c plan.change place (seat c past).done k less (distinct c past l.1).ids b) in
    record {
      within = All-append (λ (y : Wanted). y.sub.0 ≤ place) (wants_of c past) new
          (All-implied (λ (y : Wanted). y.sub.0 ≤ (seat c past).done) (λ (y : Wanted). y.sub.0 ≤ place) (wants_of c past)
          (λ y h. omega (arith, h, less)) o.within) (subs-within c place (made c past) (seat c past).done k plan.change less b);
      owns = All-append (λ (y : Wanted). AllByRecursion (Owns y) (changed plan.change place k).subs) (wants_of c past) new
          (older plan.change place (seat c past).done k 0 (wants_of c past) less (omega (arith, count, made_is)) (wants-numbered c past l.1) o.within o.owns) fresh;
      rise = dues-changed plan.change place k o.rise;
    }

none-owned : (subs : List Sub) (done made : ℕ) → DuesFrom 0 (dues_of subs) made → Owned [] subs done made
none-owned subs done made r = record { within = tt; owns = tt; rise = r }

pub owned : (c : ℕ) (past : List Step) → Legal past → Owned (wants_of c past) (seat c past).conn.subs (seat c past).done (seat c past).conn.made
owned c [] l = none-owned [] 0 0 (omega arith)
owned c (Step.Open d token user ∷ past) l = go (d == c) refl (owned c past l.1) user
  where
    go : (b : Bool) → (d == c) ≡ b → Owned (wants_of c past) (seat c past).conn.subs (seat c past).done (seat c past).conn.made → (u : Option (List ℕ))
        → Owned (cond (d == c) (own_wanted c u) (wants_of c past)) (seat c past).conn.subs (seat c past).done (seat c past).conn.made
    go false b ih u = rw b ih
    go true b ih None = rw b (none-owned (seat c past).conn.subs (seat c past).done (seat c past).conn.made ih.rise)
    go true b ih (Some u) =
        let unseated_is = userless-seat c past l.1 (fresh-user c d token user past l b) in
        rw (b, unseated_is) (record { within = (omega arith, tt); owns = (tt, tt); rise = omega arith })
owned c (Step.Finish d puts plan ∷ past) l = go (d == c) refl (owned c past l.1)
  where
    go : (b : Bool) → (d == c) ≡ b → Owned (wants_of c past) (seat c past).conn.subs (seat c past).done (seat c past).conn.made
        → Owned (wants_of c (Step.Finish d puts plan ∷ past)) (seat c (Step.Finish d puts plan ∷ past)).conn.subs (seat c (Step.Finish d puts plan ∷ past)).done
        (seat c (Step.Finish d puts plan ∷ past)).conn.made
    go true b ih =
        let e : d ≡ c = grind (arith, nat_tests) in
        let l' : Legal (Step.Finish c puts plan ∷ past) = subst (λ x. Legal (Step.Finish x puts plan ∷ past)) e l in
        rw b (finish-owned c puts plan past l' ih)
    go false b ih = rw b ih
owned c (e ∷ past) l = let kept = unfinished c e past refl in rw (kept.conn, kept.done) (owned c past l.1)
