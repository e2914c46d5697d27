-- A legal journal without the entries of some connections is legal.
use Rattle.std.proofs.Common.{ℕ, suc, ◌≡◌, ◌==◌, ◌≤◌, Bool, true, false, cond, not, ◌&&◌, List, [], ◌∷◌, length, refl, ap, sym, subst, ◌∙◌, arith, ltb, inl, inr}
use Rattle.std.specs.List.{filter}
use Rattle.std.proofs.lemmas.Bool.Decides.{nat_tests}
use Rattle.cable_model.specs.declared.plans.Plan.{Plan}
use Rattle.cable_model.specs.Limits.{most_connections}
use Rattle.cable_model.specs.Steps.{Step}
use Rattle.cable_model.specs.Journal.{cut, cut_all, is_of}
use Rattle.cable_model.specs.Legal.{FollowsTurn, IsPlanned, Legal, LegalStep}
use Rattle.cable_model.specs.Plans.{IsAnswered, task_of}
use Rattle.cable_model.specs.Wants.{lower}
use Rattle.cable_model.specs.Possible.{can_ask, can_open, inserted, is_booted, is_live, is_opened, is_out, last_turn, live_count, opened}
use Rattle.cable_model.specs.Window.{job}
use Rattle.journal_cuts.specs.Cuts.{SaysSame}
use Rattle.journal_cuts.proofs.Same.{answers-same}
use Rattle.journal_cuts.proofs.Cutting.{cut-says, cut-turns}

-- what an entry's legality asks of the node
pub record Allows (now past : List Step) : Type 0 where
  pub boots : past ≡ [] → now ≡ []
  pub booted : is_booted past ≡ true → is_booted now ≡ true
  pub lower_is : lower now ≡ lower past
  pub out : is_out now ≡ is_out past
  pub turn : is_out past ≡ true → last_turn now ≡ last_turn past
  pub next : (t : ℕ) → FollowsTurn t past → FollowsTurn t now
  pub count : live_count now ≤ live_count past

pub both : (a b : Bool) → (a && b) ≡ true → (a ≡ true) × (b ≡ true)
both true true h = (refl, refl)
both true false h = absurd (cc (h))
both false b h = absurd (cc (h))

own : (c : ℕ) → (c == c) ≡ true
own c = grind (arith, nat_tests)

module _ (now past : List Step) (a : Allows now past) where
  opens : (c : ℕ) → SaysSame c now past → can_open c past ≡ true → can_open c now ≡ true
  opens c s h =
      let x = both (is_booted past && not (is_opened c past)) (ltb (live_count past) most_connections) h in
      let y = both (is_booted past) (not (is_opened c past)) x.0 in
      let stands : is_booted now ≡ true = a.booted y.0 in
      let new : not (is_opened c now) ≡ true = ap not s.opened_is ∙ y.1 in
      let fewer : live_count now ≤ live_count past = a.count in
      let room : ltb (live_count now) most_connections ≡ true = below (live_count now) (live_count past) most_connections fewer x.1 in
      rw (stands, new, room) refl
    where
      below : (m n k : ℕ) → m ≤ n → ltb n k ≡ true → ltb m k ≡ true
      below m n k l h = grind (arith, nat_tests)

  planned : (c : ℕ) (plan : Plan) → SaysSame c now past → IsPlanned c plan past → IsPlanned c plan now
  planned c plan s p =
      record {
        callbacks = p.callbacks;
        planned = (answers-same c now past s).plan p.callbacks ∙ p.planned;
        answered = λ user x u j. subst (λ y. IsAnswered p.callbacks user (task_of y.conn x)) (sym s.seat_is) (p.answered user x (sym s.user_is ∙ u) (ap job (sym s.seat_is) ∙ j));
      }

  asks : can_ask past ≡ true → can_ask now ≡ true
  asks h =
      let x = both (is_booted past) (not (is_out past)) h in
      let stands : is_booted now ≡ true = a.booted x.0 in
      let none : not (is_out now) ≡ true = ap not a.out ∙ x.1 in
      rw (stands, none) refl

  pub legal-on : (e : Step) → ((c : ℕ) → is_of c e ≡ true → SaysSame c now past) → LegalStep e past → LegalStep e now
  legal-on (Step.Boot last) s l = a.boots l
  legal-on (Step.Open c token user) s l = opens c (s c (own c)) l
  legal-on (Step.In c text) s l = (answers-same c now past (s c (own c))).puts text ∙ l
  legal-on (Step.Drop c) s l = (answers-same c now past (s c (own c))).drops ∙ l
  legal-on Step.Stop s l = a.booted l
  legal-on (Step.Take c) s l = (answers-same c now past (s c (own c))).takes ∙ l
  legal-on (Step.Finish c puts plan) s l = (planned c plan (s c (own c)) l.0, l.1)
  legal-on (Step.Ask turn) s l = (asks l.0, a.next turn l.1)
  legal-on (Step.Deliver turn note) s l = (a.out ∙ l.0, l.1 ∙ sym (a.turn l.0), l.2 ∙ sym a.lower_is)
  legal-on (Step.Beat at) s l = a.booted l

-- ---- what stands before an entry of a connection is booted

step-booted : (d : ℕ) (e : Step) (past : List Step) → is_of d e ≡ true → LegalStep e past → is_booted past ≡ true
step-booted d e (x ∷ past) h l = refl
step-booted d (Step.Boot last) [] h l = absurd (cc (h))
step-booted d (Step.Open c token user) [] h l = absurd (cc (l))
step-booted d (Step.In c text) [] h l = absurd (cc (l))
step-booted d (Step.Drop c) [] h l = absurd (cc (l))
step-booted d Step.Stop [] h l = absurd (cc (h))
step-booted d (Step.Take c) [] h l = absurd (cc (l))
step-booted d (Step.Finish c puts plan) [] h l = let p = l.0.planned in absurd (cc (p))
step-booted d (Step.Ask turn) [] h l = absurd (cc (h))
step-booted d (Step.Deliver turn note) [] h l = absurd (cc (h))
step-booted d (Step.Beat now) [] h l = absurd (cc (h))

cut-booted : (d : ℕ) (past : List Step) → Legal past → is_booted past ≡ true → is_booted (cut d past) ≡ true
cut-booted d [] l h = absurd (cc (h))
cut-booted d (e ∷ past) l h = go (is_of d e) refl (cut-booted d past l.1)
  where
    go : (b : Bool) → is_of d e ≡ b → (is_booted past ≡ true → is_booted (cut d past) ≡ true) → is_booted (cond b (cut d past) (e ∷ cut d past)) ≡ true
    go true b ih = ih (step-booted d e past b l.0)
    go false b ih = refl

-- ---- no more are live

-- in which place a number is put plays no part
inserted-count : (p : ℕ → Bool) (c : ℕ) (ds : List ℕ) → length (filter p (inserted c ds)) ≡ length (filter p (c ∷ ds))
inserted-count p c [] = refl
inserted-count p c (d ∷ ds) = go (ltb d c) refl (p d) refl (p c) refl (inserted-count p c ds)
  where
    go : (b : Bool) → ltb d c ≡ b → (x : Bool) → p d ≡ x → (y : Bool) → p c ≡ y → length (filter p (inserted c ds)) ≡ length (filter p (c ∷ ds))
        → length (filter p (inserted c (d ∷ ds))) ≡ length (filter p (c ∷ d ∷ ds))
    go false b x q y r ih = rw b refl
    go true b true q true r ih = let ih' = rw r at ih in rw (b, q, r) (ap suc ih')
    go true b true q false r ih = let ih' = rw r at ih in rw (b, q, r) (ap suc ih')
    go true b false q true r ih = let ih' = rw r at ih in rw (b, q, r) ih'
    go true b false q false r ih = let ih' = rw r at ih in rw (b, q, r) ih'

module _ (p q : ℕ → Bool) where
  -- one number more on both sides
  pub more-both : (c : ℕ) (cs ds : List ℕ) → p c ≡ q c → length (filter p cs) ≤ length (filter q ds) → length (filter p (inserted c cs)) ≤ length (filter q (inserted c ds))
  more-both c cs ds e l = rw (inserted-count p c cs, inserted-count q c ds, e) (go (q c))
    where
      go : (b : Bool) → length (cond b (c ∷ filter p cs) (filter p cs)) ≤ length (cond b (c ∷ filter q ds) (filter q ds))
      go true = omega (arith, l)
      go false = l

  -- and on the one with more alone
  more-one : (c : ℕ) (cs ds : List ℕ) → length (filter p cs) ≤ length (filter q ds) → length (filter p cs) ≤ length (filter q (inserted c ds))
  more-one c cs ds l = rw (inserted-count q c ds) (go (q c))
    where
      go : (b : Bool) → length (filter p cs) ≤ length (cond b (c ∷ filter q ds) (filter q ds))
      go true = omega (arith, l)
      go false = l

fewer-opened : (p q : ℕ → Bool) (d : ℕ) → ((x : ℕ) → (x == d) ≡ false → p x ≡ q x) → (past : List Step) → length (filter p (opened (cut d past))) ≤ length (filter q (opened past))
fewer-opened p q d same [] = omega arith
fewer-opened p q d same (Step.Open c token user ∷ past) = go (c == d) refl (fewer-opened p q d same past)
  where
    go : (b : Bool) → (c == d) ≡ b → length (filter p (opened (cut d past))) ≤ length (filter q (opened past))
        → length (filter p (opened (cond b (cut d past) (Step.Open c token user ∷ cut d past)))) ≤ length (filter q (inserted c (opened past)))
    go true b l = more-one p q c (opened (cut d past)) (opened past) l
    go false b l = more-both p q c (opened (cut d past)) (opened past) (same c b) l
fewer-opened p q d same (e ∷ past) = go (is_of d e) (fewer-opened p q d same past)
  where
    go : (b : Bool) → length (filter p (opened (cut d past))) ≤ length (filter q (opened past))
        → length (filter p (opened (cond b (cut d past) (e ∷ cut d past)))) ≤ length (filter q (opened (e ∷ past)))
    go true l = l
    go false l = l

apart : (x d : ℕ) → (x == d) ≡ false → x ≡ d → ⊥
apart x d h e = let t : (x == d) ≡ true = grind (arith, nat_tests) in absurd (cc (h, t))

fewer-live : (d : ℕ) (past : List Step) → live_count (cut d past) ≤ live_count past
fewer-live d past =
    fewer-opened (λ c. is_live c (cut d past)) (λ c. is_live c past) d
    (λ x h. (answers-same x (cut d past) past (cut-says x d (apart x d h) past)).live) past

-- ---- the cut journal

allows : (d : ℕ) (past : List Step) → Legal past → Allows (cut d past) past
allows d past l =
    let t = cut-turns d past in
    record {
      boots = λ e. subst (λ x. cut d x ≡ []) (sym e) refl;
      booted = cut-booted d past l;
      lower_is = t.lower_is;
      out = t.out;
      turn = λ o. t.turn;
      next = λ n f. follows n f;
      count = fewer-live d past;
    }
  where
    follows : (n : ℕ) → FollowsTurn n past → FollowsTurn n (cut d past)
    follows n (inl none) = inl ((cut-turns d past).asked ∙ none)
    follows n (inr next) = inr (next ∙ ap suc (sym (cut-turns d past).turn))

cut-legal : (d : ℕ) (past : List Step) → Legal past → Legal (cut d past)
cut-legal d [] l = tt
cut-legal d (e ∷ past) l = go (is_of d e) refl (cut-legal d past l.1)
  where
    other : (c : ℕ) → is_of d e ≡ false → is_of c e ≡ true → c ≡ d → ⊥
    other c h o same = let o' : is_of d e ≡ true = subst (λ x. is_of x e ≡ true) same o in absurd (cc (h, o'))

    go : (b : Bool) → is_of d e ≡ b → Legal (cut d past) → Legal (cond b (cut d past) (e ∷ cut d past))
    go true b ih = ih
    go false b ih = (legal-on (cut d past) past (allows d past l.1) e (λ c o. cut-says c d (other c b o) past) l.0, ih)

pub all-cut-legal : (ds : List ℕ) (past : List Step) → Legal past → Legal (cut_all ds past)
all-cut-legal [] past l = l
all-cut-legal (d ∷ ds) past l = cut-legal d (cut_all ds past) (all-cut-legal ds past l)
