-- Before a row is finished its subscription was confirmed.
use Rattle.std.proofs.Common.{ℕ, suc, ◌+◌, ◌-◌, ◌≡◌, ◌≤◌, ◌==◌, Bool, true, false, cond, ◌||◌, List, [], ◌∷◌, ◌++◌, length, length-append, take, take_at, append_assoc, Some, refl, ap, sym, subst, ◌∙◌, arith, inl, inr, ◌⊎◌, slice_get}
use Rattle.std.proofs.lemmas.List.{take-append-le}
use Rattle.std.proofs.lemmas.Bool.{and_parts}
use Rattle.std.proofs.lemmas.Bool.Decides.{nat_tests}
use Rattle.cable_base.specs.declared.numbers.SubNo.{SubNo}
use Rattle.cable_base.specs.declared.rows.Row.{Row}
use Rattle.cable_model.specs.declared.events.Event.{Event}
use Rattle.cable_model.specs.declared.pieces.Piece.{Piece}
use Rattle.cable_model.specs.declared.pieces.Piece.TheVariants as piece
use Rattle.cable_model.specs.declared.plans.Plan.{Plan}
use Rattle.cable_model.specs.Steps.{Step}
use Rattle.cable_model.specs.Connection.{Conn, Planner, fold, fold_from, fresh, still, worked}
use Rattle.cable_model.specs.Pieces.{Seat, put_all, seat, with_all, with_job, with_plan}
use Rattle.cable_model.specs.Possible.{has_job}
use Rattle.cable_model.specs.Window.{finished, job}
use Rattle.cable_model.specs.Promise.{AfterConfirm, AllWorked, InOrder, confirms}
use Rattle.cable_model.specs.History.{Rules}
use Rattle.cable_model.proofs.Entries.{only-puts}
use Rattle.cable_model.proofs.Folds.{fold_from-append}
use Rattle.cable_model.proofs.Working.{Out, Passed, Working, get-split, passed-fold, put_all-more, working}
use Rattle.cable_laws.specs.Said.{FinishIn, IsConfirmed, RowsFollowConfirmation}
use Rattle.cable_laws.proofs.Confirming.{confirmed_from, telling}
use Rattle.cable_laws.proofs.Finishes.{finish-later, history-finishes}

-- ---- confirmations among pieces

confirmed-append : (pl : Planner) (s n : ℕ) (k : Conn) (seen : Bool) (ps qs : List Piece)
    → confirmed_from pl s n k seen (ps ++ qs) ≡ confirmed_from pl s (n + length ps) (fold_from pl n k ps) (confirmed_from pl s n k seen ps) qs
confirmed-append pl s n k seen [] qs = ap (λ m. confirmed_from pl s m k seen qs) (omega arith)
confirmed-append pl s n k seen (p ∷ ps) qs =
    confirmed-append pl s (suc n) (worked pl (suc n) k p) (seen || confirms s k p) ps qs
    ∙ ap (λ m. confirmed_from pl s m (fold_from pl n k (p ∷ ps)) (confirmed_from pl s n k seen (p ∷ ps)) qs) (omega arith)

-- a piece that is passed over confirms nothing
passed-unconfirmed : (s : ℕ) (k : Conn) (q : Piece) → still k q ≡ false → confirms s k q ≡ false
passed-unconfirmed s k (piece.Confirm sub) h = go (sub.0 == s) refl
  where
    go : (b : Bool) → (sub.0 == s) ≡ b → confirms s k (piece.Confirm sub) ≡ false
    go true b = let same : sub.0 ≡ s = grind (arith, nat_tests) in rw b (subst (λ i. still k (piece.Confirm (record { 0 = i })) ≡ false) same h)
    go false b = rw b refl
passed-unconfirmed s k _ h = refl

or-false : (b : Bool) → (b || false) ≡ b
or-false true = refl
or-false false = refl

passed-confirmed : (pl : Planner) (s n : ℕ) (k : Conn) (seen : Bool) (qs : List Piece) → Passed k qs → confirmed_from pl s n k seen qs ≡ seen
passed-confirmed pl s n k seen [] h = refl
passed-confirmed pl s n k seen (q ∷ qs) h =
    ap (λ x. confirmed_from pl s (suc n) x (seen || confirms s k q) qs) (passed-fold pl n k (q ∷ []) (h.0, tt))
    ∙ (ap (λ b. confirmed_from pl s (suc n) k b qs) (ap (λ b. seen || b) (passed-unconfirmed s k q h.0) ∙ or-false seen) ∙ passed-confirmed pl s (suc n) k seen qs h.1)

-- what is known of a piece that stands behind others in order
order-at : (pl : Planner) (s w n : ℕ) (k : Conn) (seen : Bool) (ps : List Piece) (q : Piece) (qs : List Piece) → InOrder pl s w n k seen (ps ++ q ∷ qs)
    → AfterConfirm s w (fold_from pl n k ps) (confirmed_from pl s n k seen ps) q
order-at pl s w n k seen [] q qs o = o.0
order-at pl s w n k seen (p ∷ ps) q qs o = order-at pl s w (suc n) (worked pl (suc n) k p) (seen || confirms s k p) ps q qs o.1

-- ---- the job that is out

-- the pieces before the job, those that are finished first, and then those that were passed over
record Job (pl : Planner) (s : Seat) : Type 0 where
  front : List Piece
  skipped : List Piece
  piece : Piece
  rest : List Piece
  among : s.pieces ≡ (front ++ skipped) ++ piece ∷ rest
  done : take s.done s.pieces ≡ front
  taken : take s.taken s.pieces ≡ (front ++ skipped) ++ piece ∷ []
  conn : fold pl (front ++ skipped) ≡ s.conn
  told : (sub : ℕ) → confirmed_from pl sub 0 fresh false (front ++ skipped) ≡ confirmed_from pl sub 0 fresh false front
  is : job s ≡ Some piece
  stands : still s.conn piece ≡ true

the-job : (pl : Planner) (s : Seat) (rows : (sub want : ℕ) → List Row) → Working pl s rows → has_job s ≡ true → Job pl s
the-job pl s rows v out = elim v.job as (λ _. Job pl s) [ inl e ↦ absurd (grind (arith, nat_tests)) | inr o ↦ go o.0 o.1 o.2 ]
  where
    go : (gap : ℕ) → s.taken ≡ s.done + gap → Out s.conn v.back gap → Job pl s
    go gap t o =
        let before = v.front ++ o.skipped in
        let all : s.pieces ≡ before ++ o.piece ∷ o.rest = v.pieces ∙ (ap (λ x. v.front ++ x) o.is ∙ sym (append_assoc v.front o.skipped (o.piece ∷ o.rest))) in
        let lens : length before ≡ length v.front + length o.skipped = length-append v.front o.skipped in
        let more : length (before ++ o.piece ∷ []) ≡ length before + 1 = length-append before (o.piece ∷ []) in
        record {
          front = v.front;
          skipped = o.skipped;
          piece = o.piece;
          rest = o.rest;
          among = all;
          done = ap (take s.done) v.pieces ∙ take_at v.front v.back s.done (sym v.done);
          taken = ap (take s.taken) (all ∙ sym (append_assoc before (o.piece ∷ []) o.rest)) ∙ take_at (before ++ o.piece ∷ []) o.rest s.taken (omega (arith, o.far, v.done));
          conn = fold_from-append pl 0 fresh v.front o.skipped
              ∙ (ap (λ k. fold_from pl (0 + length v.front) k o.skipped) (sym v.conn) ∙ passed-fold pl (0 + length v.front) s.conn o.skipped o.passed);
          told = λ sub. confirmed-append pl sub 0 fresh false v.front o.skipped
              ∙ (ap (λ k. confirmed_from pl sub (0 + length v.front) k (confirmed_from pl sub 0 fresh false v.front) o.skipped) (sym v.conn)
              ∙ passed-confirmed pl sub (0 + length v.front) s.conn (confirmed_from pl sub 0 fresh false v.front) o.skipped o.passed);
          is = ap (λ x. slice_get x (s.taken - 1)) all ∙ get-split before o.piece o.rest (s.taken - 1) (omega (arith, o.far, v.done));
          stands = o.stands;
        }

-- ---- over a journal

-- a confirmation of the subscription was finished
abbrev WasConfirmed : (c : ℕ) → SubNo → List Step → Type 0
WasConfirmed c sub past = (f : FinishIn c past) × (job (seat c f.past) ≡ Some (piece.Confirm sub))

later : (c : ℕ) (sub : SubNo) (e : Step) (past : List Step) → WasConfirmed c sub past → WasConfirmed c sub (e ∷ past)
later c sub e past (f, is) = (finish-later c e past f, is)

module _ (pl : Planner) (c : ℕ) (sub : SubNo) where
  -- it is among the pieces up to the last finished one
  abbrev Confirmed : Seat → Type 0
  Confirmed s = confirmed_from pl sub.0 0 fresh false (take s.done s.pieces) ≡ true

  seated : (past : List Step) → AllWorked pl c past → (seat c past).done ≤ length (seat c past).pieces
  seated past a = let v = working pl c past a in omega (arith, v.done, ap length v.pieces, length-append v.front v.back)

  puts-unconfirmed : (s : Seat) (qs : List Piece) → s.done ≤ length s.pieces → Confirmed (with_all s qs) → Confirmed s
  puts-unconfirmed s qs l h =
      let more = put_all-more s.pieces qs in
      let same : take s.done (put_all s.pieces qs) ≡ take s.done s.pieces = ap (take s.done) more.1 ∙ take-append-le s.done s.pieces more.0 l in
      ap (confirmed_from pl sub.0 0 fresh false) (sym same) ∙ h

  job-unconfirmed : (s : Seat) (b : Bool) → Confirmed (cond b (with_job s) s) → Confirmed s
  job-unconfirmed s true h = h
  job-unconfirmed s false h = h

  -- a piece that confirms is a confirmation of the subscription
  confirming : (k : Conn) (p : Piece) → confirms sub.0 k p ≡ true → p ≡ piece.Confirm sub
  confirming k (piece.Confirm other) h = let both = and_parts (other.0 == sub.0) _ h in let same : other.0 ≡ sub.0 = grind (arith, nat_tests, both.0) in ap (λ i. piece.Confirm (record { 0 = i })) same
  confirming k _ h = absurd (cc (h))

  or-cases : (a b : Bool) → (a || b) ≡ true → (a ≡ true) ⊎ (b ≡ true)
  or-cases true b h = inl refl
  or-cases false b h = inr h

  -- what the Finish of a job makes of it
  finish-confirmed : (s : Seat) (rows : (x y : ℕ) → List Row) (plan : Plan) → Working pl s rows → has_job s ≡ true → Confirmed (with_plan s plan) → Confirmed s ⊎ (job s ≡ Some (piece.Confirm sub))
  finish-confirmed s rows plan v out h =
      let j = the-job pl s rows v out in
      let before = j.front ++ j.skipped in
      let seen = confirmed_from pl sub.0 0 fresh false in
      let now : seen (take s.taken s.pieces) ≡ (seen j.front || confirms sub.0 s.conn j.piece) =
      ap seen j.taken
      ∙ (confirmed-append pl sub.0 0 fresh false before (j.piece ∷ [])
      ∙ (ap (λ b. b || confirms sub.0 (fold pl before) j.piece) (j.told sub.0) ∙ ap (λ k. seen j.front || confirms sub.0 k j.piece) j.conn)) in
      elim (or-cases (seen j.front) (confirms sub.0 s.conn j.piece) (sym now ∙ h)) as (λ _. Confirmed s ⊎ (job s ≡ Some (piece.Confirm sub))) [
        | inl earlier ↦ inl (ap seen j.done ∙ earlier)
        | inr here ↦ inr (j.is ∙ ap Some (confirming s.conn j.piece here))
      ]

  was-confirmed : (past : List Step) → AllWorked pl c past → Confirmed (seat c past) → WasConfirmed c sub past
  was-confirmed [] a h = absurd (cc (h))
  was-confirmed (Step.Take d ∷ past) a h = later c sub _ past (was-confirmed past a.1 (job-unconfirmed (seat c past) (d == c) h))
  was-confirmed (Step.Finish d puts plan ∷ past) a h = go (d == c) refl (was-confirmed past a.1)
    where
      go : (b : Bool) → (d == c) ≡ b → (Confirmed (seat c past) → WasConfirmed c sub past) → WasConfirmed c sub (Step.Finish d puts plan ∷ past)
      go true b ih =
          let same : d ≡ c = grind (arith, nat_tests) in
          let h' : Confirmed (with_plan (seat c past) plan) = subst (λ x. Confirmed (cond x (with_plan (seat c past) plan) (seat c past))) b h in
          elim (finish-confirmed (seat c past) (λ s w. finished c s w past) plan (working pl c past a.1) (a.0 same).0 h') as (λ _. WasConfirmed c sub (Step.Finish d puts plan ∷ past)) [
            | inl earlier ↦ later c sub _ past (ih earlier)
            | inr is ↦ (record { after = []; puts = puts; plan = plan; past = past; splits = ap (λ x. Step.Finish x puts plan ∷ past) same }, is)
          ]
      go false b ih = later c sub _ past (ih (subst (λ x. Confirmed (cond x (with_plan (seat c past) plan) (seat c past))) b h))
  was-confirmed (e ∷ past) a h =
      let put = only-puts c e past refl in
      later c sub e past (was-confirmed past a.1 (puts-unconfirmed (seat c past) put.0 (seated past a.1) (subst Confirmed put.1 h)))

-- ---- over a history

pub rows-follow : (r : Rules) (events : List Event) → RowsFollowConfirmation r events
rows-follow r events n c f sub want row is =
    let x = history-finishes r events n c f in
    let s = seat c f.past in
    let j = the-job x.pl s (λ i w. finished c i w f.past) (working x.pl c f.past x.works) x.out in
    let before = j.front ++ j.skipped in
    let same : j.piece ≡ piece.Row sub want row = cc (j.is, is) in
    let seen = confirmed_from x.pl sub.0 0 fresh false in
    let order : InOrder x.pl sub.0 want.0 0 fresh false (before ++ j.piece ∷ j.rest) = subst (InOrder x.pl sub.0 want.0 0 fresh false) j.among (telling x.pl sub.0 want.0 c f.past x.works).order in
    let here : AfterConfirm sub.0 want.0 s.conn (seen before) (piece.Row sub want row) =
    subst (λ k. AfterConfirm sub.0 want.0 k (seen before) (piece.Row sub want row)) j.conn
    (subst (AfterConfirm sub.0 want.0 (fold x.pl before) (seen before)) same (order-at x.pl sub.0 want.0 0 fresh false before j.piece j.rest order)) in
    elim (here refl refl (subst (λ q. still s.conn q ≡ true) same j.stands)) as (λ _. IsConfirmed c sub f.past) [
      | inl none ↦ inl none
      | inr told ↦ inr (was-confirmed x.pl c sub f.past x.works (ap seen j.done ∙ (sym (j.told sub.0) ∙ told)))
    ]
