-- The wants that turns are to take go on with each entry of the journal.
use Rattle.std.proofs.Common.{ℕ, suc, ◌+◌, ◌≡◌, ◌≤◌, ◌==◌, Bool, true, false, List, [], ◌∷◌, ◌++◌, length, length-append, take, drop, Some, None, Option, refl}
use Rattle.std.proofs.Common.{ap, sym, subst, cond, not, ◌∙◌, arith}
use Rattle.std.proofs.lemmas.List.{append-nil, take-append-le, drop-append-le, take-append-drop}
use Rattle.std.proofs.lemmas.List.Elements.{filter-append}
use Rattle.std.proofs.lemmas.Bool.Decides.{nat_tests}
use Rattle.std.proofs.Math.Seq.{drop-append_seam, take-length}
use Rattle.cable_base.specs.declared.numbers.RowId.{RowId}
use Rattle.cable_model.specs.Connection.{Sub}
use Rattle.cable_model.specs.declared.journals.ReadNote.{ReadNote}
use Rattle.cable_model.specs.declared.plans.Change.{Change}
use Rattle.cable_model.specs.declared.plans.Change.TheVariants as change
use Rattle.cable_model.specs.declared.plans.Plan.{Plan}
use Rattle.cable_model.specs.Legal.{Legal}
use Rattle.cable_model.specs.Pieces.{seat}
use Rattle.cable_model.specs.Possible.{is_out, is_over}
use Rattle.cable_model.specs.Steps.{Step}
use Rattle.cable_model.specs.Wants.{marks, user_of, made, at_ask}
use Rattle.cable_model.proofs.Holding.{marks-at_ask}
use Rattle.cable_model.proofs.Marks.{missed-marks}
use Rattle.node_seats.specs.declared.turning.Wanted.{Wanted}
use Rattle.node_seats.specs.Turned.{is_by, wanted_by}
use Rattle.node_turns.specs.Wants.{wanted_but}
use Rattle.node_turns.specs.Wished.{wanted_as, wanted_above, wanted_with, number_named, own_wanted, wants_of, taken_count, untaken, found_made, AreWished}
use Rattle.node_turns.specs.Wished.{is_plain}
use Rattle.node_turns.proofs.Gone.{over-plain, over-delivered, over-unopened, over-opens, over-unfinished, over-finished}
use Rattle.node_turns.proofs.WantsCounted.{fresh-user, userless-marks, userless-wants, legal-at_ask, wants-length, wants-since, count-last, count-within}

-- ---- whose they are

by-append : (c : ℕ) (xs ys : List Wanted) → wanted_by c (xs ++ ys) ≡ wanted_by c xs ++ wanted_by c ys
by-append c xs ys = filter-append (is_by c) xs ys

-- those of a connection are its own, and no other's
above-own : (c s n : ℕ) (confirms : Bool) (names : List (List ℕ)) → wanted_by c (wanted_above c s n confirms names) ≡ wanted_above c s n confirms names
above-own c s n confirms [] = refl
above-own c s n confirms (name ∷ names) =
    let t : (c == c) ≡ true = grind (arith, nat_tests) in
    rw t (ap (λ ws. wanted_as c s (n + 1) confirms ∷ ws) (above-own c s (n + 1) false names))

above-other : (d c s n : ℕ) (confirms : Bool) (names : List (List ℕ)) → (c == d) ≡ false → wanted_by d (wanted_above c s n confirms names) ≡ []
above-other d c s n confirms [] t = refl
above-other d c s n confirms (name ∷ names) t = rw t (above-other d c s (n + 1) false names t)

with-own : (c place n : ℕ) (subs : List Sub) (x : Change) → wanted_by c (wanted_with c place n subs x) ≡ wanted_with c place n subs x
with-own c place n subs (change.Add identifier streams) = above-own c place n true streams
with-own c place n subs (change.Streams identifier stops streams) = above-own c (number_named identifier subs) n false streams
with-own c place n subs _ = refl

with-other : (d c place n : ℕ) (subs : List Sub) (x : Change) → (c == d) ≡ false → wanted_by d (wanted_with c place n subs x) ≡ []
with-other d c place n subs (change.Add identifier streams) t = above-other d c place n true streams t
with-other d c place n subs (change.Streams identifier stops streams) t = above-other d c (number_named identifier subs) n false streams t
with-other d c place n subs _ t = refl

own-own : (c : ℕ) (user : Option (List ℕ)) → wanted_by c (own_wanted c user) ≡ own_wanted c user
own-own c None = refl
own-own c (Some user) = let t : (c == c) ≡ true = grind (arith, nat_tests) in rw t refl

own-other : (d c : ℕ) (user : Option (List ℕ)) → (c == d) ≡ false → wanted_by d (own_wanted c user) ≡ []
own-other d c None t = refl
own-other d c (Some user) t = rw t refl

-- where a whole has none, neither has what stands behind a part
behind-none : (xs ys : List Wanted) → xs ++ ys ≡ [] → ys ≡ []
behind-none [] ys e = e
behind-none (x ∷ xs) ys e = absurd (cc (e))

-- ---- entries

-- a list that grows behind those taken, by none of those that are gone
more : (past now : List Step) (gone : ℕ → Bool) (ws new : List Wanted) (taken : ℕ) → AreWished past gone ws taken
    → is_out now ≡ is_out past → at_ask now ≡ at_ask past → ((c : ℕ) → marks c now ≡ marks c past)
    → ((c : ℕ) → gone c ≡ true → is_over c now ≡ true) → ((c : ℕ) → gone c ≡ true → wanted_by c new ≡ [])
    → ((c : ℕ) → untaken c now ≡ untaken c past ++ wanted_by c new)
    → AreWished now gone (ws ++ new) taken
more past now gone ws new taken h out ask marked over unmade grown =
    record {
      over = over;
      within = omega (arith, length-append ws new, h.within);
      all = λ c. by-append c ws new ∙ (ap (λ xs. xs ++ wanted_by c new) (h.all c) ∙ all-now c (gone c) refl);
      out = λ o c.
          ap (wanted_by c) (take-append-le taken ws new h.within)
          ∙ (h.out (sym out ∙ o) c ∙ ap (cond (gone c) [])
          (ap (λ ms. drop (taken_count ms) (wants_of c (at_ask past))) (sym (marked c))
          ∙ ap (λ p. drop (taken_count (marks c now)) (wants_of c p)) (sym ask)));
      none = λ o. h.none (sym out ∙ o);
    }
  where
    all-now : (c : ℕ) (b : Bool) → gone c ≡ b → cond (gone c) [] (untaken c past) ++ wanted_by c new ≡ cond (gone c) [] (untaken c now)
    all-now c true g = rw g (unmade c g)
    all-now c false g = rw g (sym (grown c))

-- where none comes
same : (past now : List Step) (gone : ℕ → Bool) (ws : List Wanted) (taken : ℕ) → AreWished past gone ws taken
    → is_out now ≡ is_out past → at_ask now ≡ at_ask past → ((c : ℕ) → marks c now ≡ marks c past) → ((c : ℕ) → wants_of c now ≡ wants_of c past)
    → ((c : ℕ) → gone c ≡ true → is_over c now ≡ true) → AreWished now gone ws taken
same past now gone ws taken h out ask marked wants over =
    subst (λ xs. AreWished now gone xs taken) (append-nil ws)
    (more past now gone ws [] taken h out ask marked over (λ c g. refl)
    (λ c. ap (λ ms. drop (taken_count ms) (wants_of c now)) (marked c)
    ∙ (ap (drop (taken_count (marks c past))) (wants c) ∙ sym (append-nil (untaken c past)))))

-- the same are gone, by another test
pub wished-as : (past : List Step) (gone now : ℕ → Bool) (ws : List Wanted) (taken : ℕ) → ((c : ℕ) → now c ≡ gone c) → AreWished past gone ws taken
    → AreWished past now ws taken
wished-as past gone now ws taken e h =
    record {
      over = λ c g. h.over c (sym (e c) ∙ g);
      within = h.within;
      all = λ c. h.all c ∙ ap (λ b. cond b [] (untaken c past)) (sym (e c));
      out = λ o c. h.out o c ∙ ap (λ b. cond b [] (found_made c past)) (sym (e c));
      none = h.none;
    }

pub wished-boot : (last : ℕ) → AreWished (Step.Boot last ∷ []) (λ _. false) [] 0
wished-boot last = record { over = λ c g. absurd (cc (g)); within = omega arith; all = λ c. refl; out = λ o c. refl; none = λ o. refl }

pub wished-plain : (e : Step) (past : List Step) (gone : ℕ → Bool) (ws : List Wanted) (taken : ℕ) → is_plain e ≡ true → AreWished past gone ws taken
    → AreWished (e ∷ past) gone ws taken
wished-plain (Step.Boot last) past gone ws taken p h = absurd (cc (p))
wished-plain (Step.Open c token user) past gone ws taken p h = absurd (cc (p))
wished-plain (Step.Finish c puts plan) past gone ws taken p h = absurd (cc (p))
wished-plain (Step.Ask turn) past gone ws taken p h = absurd (cc (p))
wished-plain (Step.Deliver turn note) past gone ws taken p h = absurd (cc (p))
wished-plain e past gone ws taken p h =
    same past (e ∷ past) gone ws taken h refl refl (λ d. refl) (λ d. refl) (λ d g. over-plain d e past p (h.over d g))

pub wished-open : (c : ℕ) (token : List ℕ) (user : Option (List ℕ)) (past : List Step) (gone : ℕ → Bool) (ws : List Wanted) (taken : ℕ)
    → Legal (Step.Open c token user ∷ past) → AreWished past gone ws taken → AreWished (Step.Open c token user ∷ past) gone (ws ++ own_wanted c user) taken
wished-open c token user past gone ws taken l h =
    more past (Step.Open c token user ∷ past) gone ws (own_wanted c user) taken h refl refl (λ d. refl) (λ d g. over-opens d c token user past l (h.over d g))
    (λ d g. own-other d c user (over-unopened d c token user past l (h.over d g))) (λ d. go d (c == d) refl)
  where
    go : (d : ℕ) (b : Bool) → (c == d) ≡ b → untaken d (Step.Open c token user ∷ past) ≡ untaken d past ++ wanted_by d (own_wanted c user)
    go d true b =
        let u = fresh-user d c token user past l b in
        let unmarked = userless-marks d past l.1 u in
        let unwanted = userless-wants d past l.1 u in
        let e : d ≡ c = grind (arith, nat_tests) in
        let own : wanted_by d (own_wanted c user) ≡ own_wanted d user = subst (λ x. wanted_by d (own_wanted x user) ≡ own_wanted d user) e (own-own d user) in
        rw (b, unmarked, unwanted, own) refl
    go d false b = let none = own-other d c user b in rw (b, none) (sym (append-nil (untaken d past)))

pub wished-finish : (c : ℕ) (puts : List (Option RowId)) (plan : Plan) (past : List Step) (gone : ℕ → Bool) (ws : List Wanted) (taken : ℕ)
    → Legal (Step.Finish c puts plan ∷ past) → AreWished past gone ws taken
    → AreWished (Step.Finish c puts plan ∷ past) gone (ws ++ wanted_with c (seat c past).taken (made c past) (seat c past).conn.subs plan.change) taken
wished-finish c puts plan past gone ws taken l h =
    more past (Step.Finish c puts plan ∷ past) gone ws (new c) taken h refl refl (λ d. refl) (λ d g. over-finished d c puts plan past l (h.over d g))
    (λ d g. with-other d c (seat c past).taken (made c past) (seat c past).conn.subs plan.change (over-unfinished d c puts plan past l (h.over d g)))
    (λ d. go d (c == d) refl)
  where
    new : ℕ → List Wanted
    new d = wanted_with d (seat d past).taken (made d past) (seat d past).conn.subs plan.change

    go : (d : ℕ) (b : Bool) → (c == d) ≡ b → untaken d (Step.Finish c puts plan ∷ past) ≡ untaken d past ++ wanted_by d (new c)
    go d true b =
        let e : d ≡ c = grind (arith, nat_tests) in
        let own : wanted_by d (new c) ≡ new d =
        subst (λ x. wanted_by d (new x) ≡ new d) e (with-own d (seat d past).taken (made d past) (seat d past).conn.subs plan.change) in
        rw (b, own) (drop-append-le (taken_count (marks d past)) (wants_of d past) (new d) (count-within d past l.1))
    go d false b =
        let none = with-other d c (seat c past).taken (made c past) (seat c past).conn.subs plan.change b in
        rw (b, none) (sym (append-nil (untaken d past)))

pub wished-ask : (turn : ℕ) (past : List Step) (gone : ℕ → Bool) (ws : List Wanted) (taken : ℕ) → AreWished past gone ws taken
    → AreWished (Step.Ask turn ∷ past) gone ws (length ws)
wished-ask turn past gone ws taken h =
    record { over = h.over; within = omega arith; all = h.all; out = λ o c. ap (wanted_by c) (take-length ws) ∙ h.all c; none = λ o. absurd (cc (o)) }

pub wished-missed : (turn : ℕ) (note : ReadNote) (past : List Step) (gone : ℕ → Bool) (ws : List Wanted) (taken : ℕ) → note.failed ≡ true
    → AreWished past gone ws taken → AreWished (Step.Deliver turn note ∷ past) gone ws 0
wished-missed turn note past gone ws taken f h =
    record {
      over = λ c g. over-delivered c turn note past (h.over c g);
      within = omega arith;
      all = λ c. h.all c ∙ ap (λ ms. cond (gone c) [] (drop (taken_count ms) (wants_of c past))) (sym (missed-marks c turn note past f));
      out = λ o c. absurd (cc (o));
      none = λ o. refl;
    }

pub wished-found : (turn : ℕ) (note : ReadNote) (past : List Step) (gone : ℕ → Bool) (ws : List Wanted) (taken : ℕ)
    → Legal past → is_out past ≡ true → note.failed ≡ false → AreWished past gone ws taken → AreWished (Step.Deliver turn note ∷ past) gone (drop taken ws) 0
wished-found turn note past gone ws taken l o f h =
    record {
      over = λ c g. over-delivered c turn note past (h.over c g);
      within = omega arith;
      all = λ c. all-now c (gone c) refl;
      out = λ q c. absurd (cc (q));
      none = λ q. refl;
    }
  where
    -- those of a connection that the turn takes, and then those behind them
    both : (c : ℕ) → wanted_by c (take taken ws) ++ wanted_by c (drop taken ws) ≡ wanted_by c ws
    both c = sym (by-append c (take taken ws) (drop taken ws)) ∙ ap (wanted_by c) (take-append-drop taken ws)

    split : (c : ℕ) → gone c ≡ false → found_made c past ++ wanted_by c (drop taken ws) ≡ untaken c past
    split c g =
        ap (λ xs. xs ++ wanted_by c (drop taken ws)) (sym (h.out o c ∙ ap (λ b. cond b [] (found_made c past)) g))
        ∙ (both c ∙ (h.all c ∙ ap (λ b. cond b [] (untaken c past)) g))

    go : (c : ℕ) (u : Option (List ℕ)) → user_of c (at_ask past) ≡ u → gone c ≡ false → wanted_by c (drop taken ws) ≡ untaken c (Step.Deliver turn note ∷ past)
    go c None u g =
        let unwanted = userless-wants c (at_ask past) (legal-at_ask past l) u in
        let unmarked : marks c past ≡ [] = marks-at_ask c past o ∙ userless-marks c (at_ask past) (legal-at_ask past l) u in
        let s = split c g in
        let s' : wanted_by c (drop taken ws) ≡ wants_of c past = rw (unwanted, unmarked) at s in
        rw (u, append-nil (marks c past), unmarked) s'
    go c (Some x) u g =
        let found = wants-length c x (at_ask past) (legal-at_ask past l) u in
        let since = wants-since c past l in
        let count = count-last (marks c past) (record { seen = made c (at_ask past); last = note.last.0 }) in
        let below = count-within c (at_ask past) (legal-at_ask past l) in
        let marked = marks-at_ask c past o in
        let low : taken_count (marks c past) ≤ length (wants_of c (at_ask past)) =
        subst (λ ms. taken_count ms ≤ length (wants_of c (at_ask past))) (sym marked) below in
        let whole : untaken c past ≡ found_made c past ++ since.0 =
        ap (drop (taken_count (marks c past))) since.1 ∙ drop-append-le (taken_count (marks c past)) (wants_of c (at_ask past)) since.0 low in
        let rest : wanted_by c (drop taken ws) ≡ since.0 = cancel (found_made c past) (wanted_by c (drop taken ws)) since.0 (split c g ∙ whole) in
        let behind : drop (suc (made c (at_ask past))) (wants_of c past) ≡ since.0 =
        ap (drop (suc (made c (at_ask past)))) since.1
        ∙ subst (λ n. drop n (wants_of c (at_ask past) ++ since.0) ≡ since.0) found (drop-append_seam (wants_of c (at_ask past)) since.0) in
        rw (u, f, count) (rest ∙ sym behind)
      where
        cancel : (xs ys zs : List Wanted) → xs ++ ys ≡ xs ++ zs → ys ≡ zs
        cancel [] ys zs e = e
        cancel (x ∷ xs) ys zs e = cancel xs ys zs (cc (e))

    all-now : (c : ℕ) (b : Bool) → gone c ≡ b → wanted_by c (drop taken ws) ≡ cond (gone c) [] (untaken c (Step.Deliver turn note ∷ past))
    all-now c true g =
        let none : wanted_by c ws ≡ [] = h.all c ∙ ap (λ b. cond b [] (untaken c past)) g in
        rw g (behind-none (wanted_by c (take taken ws)) (wanted_by c (drop taken ws)) (both c ∙ none))
    all-now c false g = rw g (go c (user_of c (at_ask past)) refl g)

-- ---- a connection that is forgotten

but-append : (c : ℕ) (xs ys : List Wanted) → wanted_but c (xs ++ ys) ≡ wanted_but c xs ++ wanted_but c ys
but-append c xs ys = filter-append (λ w. not (is_by c w)) xs ys

-- of those without the ones of c none is of c, and of another connection all are there
pub but-own : (c : ℕ) (ws : List Wanted) → wanted_by c (wanted_but c ws) ≡ []
but-own c [] = refl
but-own c (w ∷ ws) = go (is_by c w) refl (but-own c ws)
  where
    go : (b : Bool) → is_by c w ≡ b → wanted_by c (wanted_but c ws) ≡ [] → wanted_by c (wanted_but c (w ∷ ws)) ≡ []
    go true b ih = rw b ih
    go false b ih = rw (b, b) ih

pub but-other : (d c : ℕ) (ws : List Wanted) → (d == c) ≡ false → wanted_by d (wanted_but c ws) ≡ wanted_by d ws
but-other d c [] f = refl
but-other d c (w ∷ ws) f = go (is_by c w) refl (but-other d c ws f)
  where
    go : (b : Bool) → is_by c w ≡ b → wanted_by d (wanted_but c ws) ≡ wanted_by d ws → wanted_by d (wanted_but c (w ∷ ws)) ≡ wanted_by d (w ∷ ws)
    go true b ih = let not_mine : is_by d w ≡ false = grind (arith, nat_tests) in rw (b, not_mine) ih
    go false b ih = rw b (ap (λ xs. cond (is_by d w) (w ∷ xs) xs) ih)

-- those of them that were taken are the first
but-taken : (c n : ℕ) (ws : List Wanted) → take (length (wanted_but c (take n ws))) (wanted_but c ws) ≡ wanted_but c (take n ws)
but-taken c n ws =
    ap (take (length (wanted_but c (take n ws)))) (sym (ap (wanted_but c) (take-append-drop n ws)) ∙ but-append c (take n ws) (drop n ws))
    ∙ take-front (wanted_but c (take n ws)) (wanted_but c (drop n ws))
  where
    take-front : (xs ys : List Wanted) → take (length xs) (xs ++ ys) ≡ xs
    take-front xs ys = take-append-le (length xs) xs ys (omega arith) ∙ take-length xs

pub but-within : (c n : ℕ) (ws : List Wanted) → length (wanted_but c (take n ws)) ≤ length (wanted_but c ws)
but-within c n ws =
    let parts = ap length (sym (ap (wanted_but c) (take-append-drop n ws)) ∙ but-append c (take n ws) (drop n ws)) in
    omega (arith, parts, length-append (wanted_but c (take n ws)) (wanted_but c (drop n ws)))

pub wished-forgotten : (c : ℕ) (past : List Step) (gone now : ℕ → Bool) (ws : List Wanted) (taken : ℕ)
    → is_over c past ≡ true → now c ≡ true → ((d : ℕ) → (d == c) ≡ false → now d ≡ gone d) → AreWished past gone ws taken
    → AreWished past now (wanted_but c ws) (length (wanted_but c (take taken ws)))
wished-forgotten c past gone now ws taken over mine others h =
    record {
      over = λ d g. over-now d (d == c) refl g;
      within = but-within c taken ws;
      all = λ d. each (untaken d past) d (d == c) refl ws (h.all d);
      out = λ o d. ap (wanted_by d) (but-taken c taken ws) ∙ each (found_made d past) d (d == c) refl (take taken ws) (h.out o d);
      none = λ o. let n = h.none o in rw n refl;
    }
  where
    same-number : (d : ℕ) → (d == c) ≡ true → c ≡ d
    same-number d b = grind (arith, nat_tests)

    over-now : (d : ℕ) (b : Bool) → (d == c) ≡ b → now d ≡ true → is_over d past ≡ true
    over-now d true b g = subst (λ x. is_over x past ≡ true) (same-number d b) over
    over-now d false b g = h.over d (sym (others d b) ∙ g)

    each : (due : List Wanted) (d : ℕ) (b : Bool) → (d == c) ≡ b → (xs : List Wanted) → wanted_by d xs ≡ cond (gone d) [] due
        → wanted_by d (wanted_but c xs) ≡ cond (now d) [] due
    each due d true b xs is =
        let e = same-number d b in
        subst (λ x. wanted_by x (wanted_but c xs) ≡ cond (now x) [] due) e (rw mine (but-own c xs))
    each due d false b xs is = but-other d c xs b ∙ (is ∙ ap (λ t. cond t [] due) (sym (others d b)))
