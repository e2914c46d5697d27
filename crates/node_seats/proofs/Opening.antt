-- An Open and a Stop are entries of the node's journal.
use Rattle.std.proofs.Common.{◌≡◌, ℕ, ◌==◌, Bool, true, false, cond, not, ◌&&◌, ◌||◌, List, [], ◌∷◌, Option, Some, None, refl, sym, ap, subst, ◌∙◌, inl, inr}
use Rattle.std.specs.Prelude.{is_some}
use Rattle.std.specs.Ordering.{nat_cmp}
use Rattle.std.specs.BTreeMap.{is_at}
use Rattle.std.specs.Map.{lookup, keys_of}
use Rattle.std.specs.List.Sorted.{IsStrictlySortedBy}
use Rattle.std.proofs.lemmas.Bool.{cases_eq}
use Rattle.cable_model.specs.declared.pieces.Piece.TheVariants as piece
use Rattle.cable_model.specs.Pieces as model
use Rattle.cable_model.specs.Pieces.{seat, unseated, closing, with_put}
use Rattle.cable_model.specs.Possible.{inserted, is_opened, has_job}
use Rattle.cable_model.specs.Steps.{Step}
use Rattle.cable_model.specs.Wants.{user_of}
use Rattle.cable_model.proofs.JobsStay.{opened-now, unopened-user}
use Rattle.cable_model.proofs.Waiting.{put-closed}
use Rattle.conn_seat.specs.Seats.{Seated, Becomes, vacant}
use Rattle.conn_seat.specs.Seated.{SeatOf, Shows, marks_at}
use Rattle.conn_seat.proofs.Sitting.{sits-restart}
use Rattle.node_seats.specs.Numbers.{Numbers, Opened, Rising, Restarts, Stops, opened_at, with_new}
use Rattle.node_seats.specs.AreSeats.{IsOpened, AreSeats, AreWorked, Leaves}
use Rattle.node_seats.proofs.Lookups.{new-there, new-elsewhere, new-keys}
use Rattle.node_seats.proofs.Onward.{leaves-it, leaves-other, some-is, unused-is}
use Rattle.node_seats.proofs.Entries.{self, apart-test, put-over}

or-false : (a b : Bool) → (a || b) ≡ false → (a ≡ false) × (b ≡ false)
or-false false b h = (refl, h)
or-false true b h = absurd cc

-- ---- an open

sits-open : (c : ℕ) (token user : List ℕ) (past : List Step) (s : Seated) → seat c past ≡ unseated → Becomes (vacant user) s → SeatOf c (Step.Open c token (Some user) ∷ past) s
sits-open c token user past s empty b =
    record {
      user = ap (λ x. cond x (Some user) (user_of c past)) (self c) ∙ ap (λ (u : List ℕ). Some u) (sym (ap (λ (x : Seated). x.user) b.now));
      shows = subst (λ (m : model.Seat). Shows (marks_at c (Step.Open c token (Some user) ∷ past)) m s) (sym empty)
          (subst (Shows (marks_at c (Step.Open c token (Some user) ∷ past)) unseated) (sym b.now)
          (record { conn = record { subs = refl; over = refl }; waiting = refl; last = refl; taken = refl; job = refl; closing = refl; made = refl; apart = tt; wants = tt }));
    }

-- a number more
opens : (c : ℕ) (token : List ℕ) (user : Option (List ℕ)) (past : List Step) (v new : Numbers) (o : Opened) → AreSeats past v → is_opened c past ≡ false → new ≡ with_new c o v → Rising new
    → IsOpened c (Step.Open c token user ∷ past) o → AreSeats (Step.Open c token user ∷ past) new
opens c token user past v new o a free now rising mine =
    record {
      numbers = ap keys_of now ∙ new-keys c o v (unused-is past v c a free) ∙ ap (inserted c) a.numbers;
      rising = rising;
      each = λ d q found. elim (cases_eq c d) [
        | inl e ↦ subst (λ (x : ℕ). opened_at x new ≡ Some q → IsOpened x (Step.Open c token user ∷ past) q) e
            (λ f. subst (IsOpened c (Step.Open c token user ∷ past)) (some-is o q (sym (new-there c o v) ∙ sym (ap (opened_at c) now) ∙ f)) mine) found
        | inr apart ↦ leaves-it d past (Step.Open c token user ∷ past) q (leaves-other d (Step.Open c token user) past (apart-test c d apart) refl)
            (a.each d q (sym (new-elsewhere c d o v apart) ∙ sym (ap (opened_at d) now) ∙ found))
      ];
      unopened = λ d e. a.unopened d (or-false (c == d) (is_opened d past) (sym (opened-now d c token user past) ∙ e)).1;
    }

pub opened-with : (c : ℕ) (token user : List ℕ) (past : List Step) (v new : Numbers) (s : Seated) → AreSeats past v → is_opened c past ≡ false → Becomes (vacant user) s
    → new ≡ with_new c (Opened.Live s) v → Rising new → AreSeats (Step.Open c token (Some user) ∷ past) new
opened-with c token user past v new s a free b now rising =
    opens c token (Some user) past v new (Opened.Live s) a free now rising
    (sits-open c token user past s (a.unopened c free) b, ap (λ (x : Seated). x.over) b.now)

pub refused : (c : ℕ) (token : List ℕ) (past : List Step) (v new : Numbers) → AreSeats past v → is_opened c past ≡ false → new ≡ with_new c Opened.Over v → Rising new
    → AreSeats (Step.Open c token None ∷ past) new
refused c token past v new a free now rising =
    opens c token None past v new Opened.Over a free now rising
    (record {
      live = ap (λ b. is_some (cond b None (user_of c past)) && not (seat c past).conn.over) (self c);
      job = ap has_job (a.unopened c free);
      closed = λ u. absurd (let none : is_some (cond (c == c) None (user_of c past)) ≡ false = ap (λ b. is_some (cond b None (user_of c past))) (self c) in
          let e : true ≡ false = sym u ∙ none in cc);
    })

-- ---- a stop

stop-keys : (v new : Numbers) → Stops v new → keys_of new ≡ keys_of v
stop-keys [] new s = ap keys_of s
stop-keys (e ∷ es) new s = ap keys_of s.4 ∙ ap (λ ks. e.0 ∷ ks) (stop-keys es s.1 s.3)

-- what it was made of
pub record Restarted (test : ℕ → Bool) (v : Numbers) (p : Opened) : Type 0 where
  pub before : Opened
  pub was : lookup test v ≡ Some before
  pub restarts : Restarts before p

stop-back : (test : ℕ → Bool) (v new : Numbers) (p : Opened) → Stops v new → lookup test new ≡ Some p → Restarted test v p
stop-back test [] new p s at = absurd (let e : None ≡ Some p = sym (ap (lookup test) s) ∙ at in cc)
stop-back test (e ∷ es) new p s at = by-test (test e.0) refl (sym (ap (lookup test) s.4) ∙ at) (stop-back test es s.1 p s.3)
  where
    by-test : (b : Bool) → test e.0 ≡ b → cond (test e.0) (Some s.0) (lookup test s.1) ≡ Some p → (lookup test s.1 ≡ Some p → Restarted test es p) → Restarted test (e ∷ es) p
    by-test true is found ih =
        let same : s.0 ≡ p = some-is s.0 p (sym (ap (λ b. cond b (Some s.0) (lookup test s.1)) is) ∙ found) in
        record { before = e.1; was = ap (λ b. cond b (Some e.1) (lookup test es)) is; restarts = subst (Restarts e.1) same s.2 }
    by-test false is found ih =
        let r = ih (sym (ap (λ b. cond b (Some s.0) (lookup test s.1)) is) ∙ found) in
        record { before = r.before; was = ap (λ b. cond b (Some e.1) (lookup test es)) is ∙ r.was; restarts = r.restarts }

-- nothing is put on one that is done, or has no user
stop-leaves : (c : ℕ) (past : List Step) → (is_some (user_of c past) ≡ true → closing (seat c past).pieces ≡ true) → Leaves c past (Step.Stop ∷ past)
stop-leaves c past closed = record { user = refl; seated = by-user (is_some (user_of c past)) refl; marked = refl }
  where
    by-user : (b : Bool) → is_some (user_of c past) ≡ b → cond b (with_put (seat c past) piece.Restart) (seat c past) ≡ seat c past
    by-user true is = put-closed (seat c past) piece.Restart (closed is)
    by-user false is = refl

pub stops : (past : List Step) (v new : Numbers) → AreWorked past → AreSeats past v → Stops v new → AreSeats (Step.Stop ∷ past) new
stops past v new w a s =
    record {
      numbers = stop-keys v new s ∙ a.numbers;
      rising = subst (IsStrictlySortedBy nat_cmp) (sym (stop-keys v new s)) a.rising;
      each = λ c p at. let r = stop-back (is_at (nat_cmp c)) v new p s at in by-kept c p r.before (a.each c r.before r.was) r.restarts;
      unopened = λ c e.
          let none = unopened-user c past e in
          ap (λ (o : Option (List ℕ)). cond (is_some o) (with_put (seat c past) piece.Restart) (seat c past)) none ∙ a.unopened c e;
    }
  where
    by-kept : (c : ℕ) (p o : Opened) → IsOpened c past o → Restarts o p → IsOpened c (Step.Stop ∷ past) p
    by-kept c p (Opened.Live x) h r =
        let pl = w c x.user h.0.user in
        subst (IsOpened c (Step.Stop ∷ past)) (sym r.2) (sits-restart pl.0 c past x r.0 pl.1 h.0 r.1, put-over piece.Restart x r.0 r.1 h.1)
    by-kept c p Opened.Over h r = subst (IsOpened c (Step.Stop ∷ past)) (sym r) (leaves-it c past (Step.Stop ∷ past) Opened.Over (stop-leaves c past h.closed) h)
