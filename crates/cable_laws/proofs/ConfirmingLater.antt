-- A confirmation is put, and so finished, only behind the Deliver of the turn that took it.
use Rattle.std.proofs.Common.{ℕ, suc, ◌-◌, ◌≡◌, ◌<◌, ◌≤◌, ◌==◌, Bool, true, false, cond, not, ◌&&◌, List, [], ◌∷◌, ◌++◌, Some, None, Option, refl, ap, sym, subst, ◌∙◌, arith, is_some, is_none, bytes_eq}
use Rattle.std.specs.List.{list_any, AllByRecursion}
use Rattle.std.proofs.lemmas.Bool.Decides.{nat_tests}
use Rattle.std.proofs.lemmas.Bool.{and_parts}
use Rattle.cable_base.specs.Names.{own_name}
use Rattle.cable_base.specs.declared.numbers.RowId.{RowId}
use Rattle.cable_base.specs.declared.rows.Row.{Row}
use Rattle.cable_base.proofs.Rises.{Rises}
use Rattle.cable_json.specs.Commands.{command_of}
use Rattle.cable_json.specs.Disconnects.{disconnect_of}
use Rattle.cable_model.specs.declared.plans.Plan.{Plan}
use Rattle.cable_model.specs.declared.pieces.Piece.{Piece}
use Rattle.cable_model.specs.declared.pieces.Piece.TheVariants as piece
use Rattle.cable_model.specs.declared.plans.Change.{Change}
use Rattle.cable_model.specs.declared.plans.Change.TheVariants as change
use Rattle.cable_model.specs.declared.events.Event.{Event}
use Rattle.cable_model.specs.Steps.{Step}
use Rattle.cable_model.specs.Connection.{Want, Sub, Conn, Planner, wanted, first_above, changed, still}
use Rattle.cable_model.specs.Plans.{Callbacks}
use Rattle.cable_model.specs.Wants.{Mark, marks, mark_of, turn_mark, user_of}
use Rattle.cable_model.specs.Pieces.{closing, put, put_all, seat, below, hold_puts, sub_puts, own_puts, row_puts, rows_puts, remote_put, takes_now, confirm_puts, deliver_puts, with_put, with_all, with_job, row_piece}
use Rattle.cable_model.specs.Possible.{has_job}
use Rattle.cable_model.specs.Window.{finished}
use Rattle.cable_model.specs.History.{Rules, start, run}
use Rattle.cable_model.specs.HistoryLaws.{planner_of, IsConfirmedBehind, AllConfirmLater, ConfirmsBehindDeliver}
use Rattle.cable_model.specs.Promise.{AllWorked, due_in}
use Rattle.cable_model.proofs.Valid.{Valid, Valid-upto}
use Rattle.cable_model.proofs.Working.{working}
use Rattle.cable_model.proofs.Inbox.{Known, AllKnown, known, valid-at}
use Rattle.cable_model.proofs.Marks.{mark_of-append, first_mark, missed-marks}
use Rattle.cable_model.proofs.Dues.{due_in-filter, due_in-map}
use Rattle.cable_model.proofs.Jobs.{job-piece}
use Rattle.cable_laws.proofs.Growing.{AllPlanned, run-planned}
use Rattle.cable_laws.proofs.Unconfirmed.{job-waits}
use Rattle.cable_model.proofs.NodeSound.{plans-for}
use Rattle.cable_model.proofs.Sound.{start-sound, run-sound}

-- ---- the due of a subscription under a number that was given

due_in-push : (s : ℕ) (xs : List Sub) (y : Sub) → (y.number == s) ≡ false → due_in s (xs ++ y ∷ []) ≡ due_in s xs
due_in-push s [] y h = rw h refl
due_in-push s (x ∷ xs) y h = ap (λ o. cond (x.number == s) (Some x.due) o) (due_in-push s xs y h)

-- it is the due that it had
due-kept : (n s : ℕ) (k : Conn) (c : Change) (d : Option ℕ) → Valid n k → s ≤ n → due_in s (changed c (suc n) k).subs ≡ Some d → due_in s k.subs ≡ Some d
due-kept n s k change.Nothing d v l q = q
due-kept n s k (change.Add identifier streams) d v l q =
    let y : Sub = record { number = suc n; identifier = identifier; wants = wanted k.made streams; due = first_above k.made streams } in
    let apart : (suc n == s) ≡ false = grind (arith, nat_tests) in
    sym (due_in-push s k.subs y apart) ∙ q
due-kept n s k (change.Streams identifier stops streams) d v l q = sym (due_in-map s k.made identifier stops streams k.subs) ∙ q
due-kept n s k (change.Remove identifier) d v l q = due_in-filter s (λ x. not (bytes_eq x.identifier identifier)) 0 k.subs n d v.subs q
due-kept n s k change.Close d v l q = absurd (cc (q))

-- each subscription of a list that rises is found under its number
own-due : (all xs : List Sub) (b e : ℕ) → Rises (λ (x : Sub). x.number) b xs e → ((s : ℕ) → b < s → due_in s all ≡ due_in s xs) → AllByRecursion (λ (x : Sub). due_in x.number all ≡ Some x.due) xs
own-due all [] b e r h = tt
own-due all (x ∷ xs) b e r h = (h x.number r.0 ∙ here, own-due all xs x.number e r.1 (λ s l. h s (omega (arith, r.0)) ∙ skip s l))
  where
    here : due_in x.number (x ∷ xs) ≡ Some x.due
    here = let t : (x.number == x.number) ≡ true = grind (arith, nat_tests) in rw t refl

    skip : (s : ℕ) → x.number < s → due_in s (x ∷ xs) ≡ due_in s xs
    skip s l = let t : (x.number == s) ≡ false = grind (arith, nat_tests) in rw t refl

standing-due : (s : ℕ) (xs : List Sub) → list_any (λ (x : Sub). x.number == s) xs ≡ true → (d : Option ℕ) × (due_in s xs ≡ Some d)
standing-due s [] h = absurd (cc (h))
standing-due s (x ∷ xs) h = go (x.number == s) refl (standing-due s xs)
  where
    go : (b : Bool) → (x.number == s) ≡ b → (list_any (λ (y : Sub). y.number == s) xs ≡ true → (d : Option ℕ) × (due_in s xs ≡ Some d)) → (d : Option ℕ) × (due_in s (x ∷ xs) ≡ Some d)
    go true b ih = (x.due, rw b refl)
    go false b ih = let h' = rw b at h in let r = ih h' in (r.0, rw b r.1)

first-due : (s : ℕ) (xs : List Sub) (d : Option ℕ) (first : ℕ) → due_in s xs ≡ Some d → d ≡ Some first → due_in s xs ≡ Some (Some first)
first-due s xs d first a b = cc (a, b)

-- ---- confirmations whose turn was delivered

-- where its subscription stands, its Subscribe made a want, and a turn took the first of them
abbrev Taken : Conn → List Mark → Piece → Type 0
Taken k ms (piece.Confirm sub) = (d : Option ℕ) → due_in sub.0 k.subs ≡ Some d → (first : ℕ) × (d ≡ Some first) × (is_some (mark_of first ms) ≡ true)
Taken k ms _ = Unit {0}

abbrev AllTaken : Conn → List Mark → List Piece → Type 0
AllTaken k ms ps = AllByRecursion (Taken k ms) ps

module _ (k : Conn) (ms : List Mark) where
  both : (ps qs : List Piece) → AllTaken k ms ps → AllTaken k ms qs → AllTaken k ms (ps ++ qs)
  both [] qs a b = b
  both (p ∷ ps) qs a b = (a.0, both ps qs a.1 b)

  behind-taken : (ps qs : List Piece) → AllTaken k ms (ps ++ qs) → AllTaken k ms qs
  behind-taken [] qs a = a
  behind-taken (p ∷ ps) qs a = behind-taken ps qs a.1

  put-taken : (ps : List Piece) (q : Piece) → AllTaken k ms ps → Taken k ms q → AllTaken k ms (put ps q)
  put-taken ps q a t = elim (closing ps) as (λ b. AllTaken k ms (cond b ps (ps ++ q ∷ []))) [ true ↦ a | false ↦ both ps (q ∷ []) a (t, tt) ]

  puts-taken : (ps qs : List Piece) → AllTaken k ms ps → AllTaken k ms qs → AllTaken k ms (put_all ps qs)
  puts-taken ps [] a t = a
  puts-taken ps (q ∷ qs) a t = puts-taken (put ps q) qs (put-taken ps q a t.0) t.1

  -- rows put no confirmation
  holds-taken : (old : List Mark) (row : Row) (s : ℕ) (ws : List Want) → AllTaken k ms (hold_puts old row s ws)
  holds-taken old row s [] = tt
  holds-taken old row s (w ∷ ws) =
      let ih = holds-taken old row s ws in
      elim (bytes_eq w.name row.channel && below (mark_of w.number old) row.id.0) as (λ b. AllTaken k ms (cond b (row_piece s w.number row ∷ hold_puts old row s ws) (hold_puts old row s ws))) [
        | true ↦ (tt, ih)
        | false ↦ ih
      ]

  subs-taken : (old : List Mark) (row : Row) (xs : List Sub) → AllTaken k ms (sub_puts old row xs)
  subs-taken old row [] = tt
  subs-taken old row (x ∷ xs) = both (hold_puts old row x.number x.wants) (sub_puts old row xs) (holds-taken old row x.number x.wants) (subs-taken old row xs)

  own-taken : (u : Option (List ℕ)) (old : List Mark) (row : Row) → AllTaken k ms (own_puts u old row)
  own-taken None old row = tt
  own-taken (Some u) old row =
      elim (bytes_eq (own_name u) row.channel && below (mark_of 0 old) row.id.0) as (λ b. AllTaken k ms (cond b (remote_put (disconnect_of row.payload)) [])) [
        | true ↦ elim (disconnect_of row.payload) as (λ o. AllTaken k ms (remote_put o)) [ None ↦ tt | Some reconnect ↦ (tt, tt) ]
        | false ↦ tt
      ]

  rows-taken : (u : Option (List ℕ)) (old : List Mark) (xs : List Sub) (rows : List Row) → AllTaken k ms (rows_puts u old xs rows)
  rows-taken u old xs [] = tt
  rows-taken u old xs (row ∷ rows) =
      both (row_puts u old xs row) (rows_puts u old xs rows) (both (sub_puts old row xs) (own_puts u old row) (subs-taken old row xs) (own-taken u old row)) (rows-taken u old xs rows)

mark-behind : (w : ℕ) (ms now : List Mark) → is_some (mark_of w ms) ≡ true → is_some (mark_of w (ms ++ now)) ≡ true
mark-behind w ms now h = ap is_some (mark_of-append w ms now) ∙ go (mark_of w ms) refl
  where
    go : (o : Option ℕ) → mark_of w ms ≡ o → is_some (first_mark (mark_of w ms) (mark_of w now)) ≡ true
    go (Some m) o = rw o refl
    go None o = let h' = rw o at h in absurd (cc (h'))

mark-now : (w : ℕ) (ms now : List Mark) → is_none (mark_of w ms) ≡ true → is_some (mark_of w now) ≡ true → is_some (mark_of w (ms ++ now)) ≡ true
mark-now w ms now none some = ap is_some (mark_of-append w ms now) ∙ go (mark_of w ms) refl
  where
    go : (o : Option ℕ) → mark_of w ms ≡ o → is_some (first_mark (mark_of w ms) (mark_of w now)) ≡ true
    go (Some m) o = rw o refl
    go None o = rw o some

-- one more turn
more-taken : (k : Conn) (ms now : List Mark) (ps : List Piece) → AllTaken k ms ps → AllTaken k (ms ++ now) ps
more-taken k ms now [] a = tt
more-taken k ms now (p ∷ ps) a = (one p a.0, more-taken k ms now ps a.1)
  where
    one : (q : Piece) → Taken k ms q → Taken k (ms ++ now) q
    one (piece.Confirm sub) t = λ d e. let r = t d e in (r.0, r.1, mark-behind r.0 ms now r.2)
    one _ t = tt

-- the confirmations that a turn takes
confirms-taken : (k : Conn) (ms now : List Mark) (xs : List Sub) → AllByRecursion (λ (x : Sub). due_in x.number k.subs ≡ Some x.due) xs → AllTaken k (ms ++ now) (confirm_puts ms now xs)
confirms-taken k ms now [] a = tt
confirms-taken k ms now (x ∷ xs) a = go (takes_now ms now x.due) refl (confirms-taken k ms now xs a.1)
  where
    due : (o : Option ℕ) → takes_now ms now o ≡ true → (first : ℕ) × (o ≡ Some first) × (is_some (mark_of first (ms ++ now)) ≡ true)
    due None h = absurd (cc (h))
    due (Some first) h = let b = and_parts (is_none (mark_of first ms)) (is_some (mark_of first now)) h in (first, refl, mark-now first ms now b.0 b.1)

    go : (b : Bool) → takes_now ms now x.due ≡ b → AllTaken k (ms ++ now) (confirm_puts ms now xs) → AllTaken k (ms ++ now) (confirm_puts ms now (x ∷ xs))
    go true b ih = rw b ((λ d e. let r = due x.due b in let same : d ≡ x.due = cc (e, a.0) in (r.0, same ∙ r.1, r.2)), ih)
    go false b ih = rw b ih

-- a change of the connection
changed-taken : (n : ℕ) (k : Conn) (c : Change) (ms : List Mark) (ps : List Piece) (made : ℕ) → Valid n k → AllKnown made n ps → AllTaken k ms ps → AllTaken (changed c (suc n) k) ms ps
changed-taken n k c ms [] made v l a = tt
changed-taken n k c ms (p ∷ ps) made v l a = (one p l.0 a.0, changed-taken n k c ms ps made v l.1 a.1)
  where
    one : (q : Piece) → Known made n q → Taken k ms q → Taken (changed c (suc n) k) ms q
    one (piece.Confirm sub) l t = λ d e. t d (due-kept n sub.0 k c d v l e)
    one _ l t = tt

known-upto : (made m n : ℕ) (ps : List Piece) → m ≤ n → AllKnown made m ps → AllKnown made n ps
known-upto made m n [] l a = tt
known-upto made m n (p ∷ ps) l a = (one p a.0, known-upto made m n ps l a.1)
  where
    one : (q : Piece) → Known made m q → Known made n q
    one (piece.Confirm sub) h = omega arith
    one (piece.Row sub want row) h = h
    one _ h = tt

-- ---- over a journal

abbrev TakenAt : ℕ → List Step → Type 0
TakenAt c past = AllTaken (seat c past).conn (marks c past) (seat c past).pieces

one-taken : (c : ℕ) (past : List Step) (q : Piece) (b : Bool) → Taken (seat c past).conn (marks c past) q → TakenAt c past
    → AllTaken (cond b (with_put (seat c past) q) (seat c past)).conn (marks c past) (cond b (with_put (seat c past) q) (seat c past)).pieces
one-taken c past q true t a = put-taken (seat c past).conn (marks c past) (seat c past).pieces q a t
one-taken c past q false t a = a

taken-at : (pl : Planner) (c : ℕ) (past : List Step) → AllWorked pl c past → TakenAt c past
taken-at pl c [] a = tt
taken-at pl c (Step.In d text ∷ past) a = one-taken c past (piece.Cmd (command_of text)) (d == c) tt (taken-at pl c past a.1)
taken-at pl c (Step.Drop d ∷ past) a = one-taken c past piece.Gone (d == c) tt (taken-at pl c past a.1)
taken-at pl c (Step.Stop ∷ past) a = one-taken c past piece.Restart (is_some (user_of c past)) tt (taken-at pl c past a.1)
taken-at pl c (Step.Take d ∷ past) a =
    let ih = taken-at pl c past a.1 in
    elim (d == c) as (λ b. AllTaken (cond b (with_job (seat c past)) (seat c past)).conn (marks c past) (cond b (with_job (seat c past)) (seat c past)).pieces) [ true ↦ ih | false ↦ ih ]
taken-at pl c (Step.Finish d puts plan ∷ past) a = go (d == c) refl (taken-at pl c past a.1)
  where
    go : (b : Bool) → (d == c) ≡ b → TakenAt c past → TakenAt c (Step.Finish d puts plan ∷ past)
    go false b ih = rw b ih
    go true b ih =
        let busy : has_job (seat c past) ≡ true = (a.0 (grind (arith, nat_tests))).0 in
        let l : (seat c past).done < (seat c past).taken = grind (arith, nat_tests) in
        let n : ℕ = (seat c past).taken - 1 in
        let p : (seat c past).taken ≡ suc n = omega arith in
        let below : (seat c past).done ≤ n = omega arith in
        let v = Valid-upto (seat c past).done n (seat c past).conn below (valid-at pl (seat c past) (λ sub want. finished c sub want past) (working pl c past a.1)) in
        let kn = known-upto (seat c past).conn.made (seat c past).done n (seat c past).pieces below (known pl c past a.1) in
        let r = changed-taken n (seat c past).conn plan.change (marks c past) (seat c past).pieces (seat c past).conn.made v kn ih in
        rw b (subst (λ m. AllTaken (changed plan.change m (seat c past).conn) (marks c past) (seat c past).pieces) (sym p) r)
taken-at pl c (Step.Deliver turn note ∷ past) a = go note.failed refl (taken-at pl c past a.1)
  where
    ms : List Mark
    ms = marks c past

    now : List Mark
    now = turn_mark c note past

    subs : List Sub
    subs = (seat c past).conn.subs

    go : (b : Bool) → note.failed ≡ b → TakenAt c past → TakenAt c (Step.Deliver turn note ∷ past)
    go true f ih = subst (λ m. AllTaken (seat c (Step.Deliver turn note ∷ past)).conn m (seat c (Step.Deliver turn note ∷ past)).pieces) (sym (missed-marks c turn note past f)) (rw f ih)
    go false f ih =
        let v = valid-at pl (seat c past) (λ sub want. finished c sub want past) (working pl c past a.1) in
        let own = own-due subs subs 0 (seat c past).done v.subs (λ s l. refl) in
        let new = both (seat c past).conn (ms ++ now) (rows_puts (user_of c past) ms subs note.rows) (confirm_puts ms now subs)
        (rows-taken (seat c past).conn (ms ++ now) (user_of c past) ms subs note.rows) (confirms-taken (seat c past).conn ms now subs own) in
        let all = puts-taken (seat c past).conn (ms ++ now) (seat c past).pieces (deliver_puts (user_of c past) ms now subs note.rows) (more-taken (seat c past).conn ms now (seat c past).pieces ih) new in
        let puts = deliver_puts (user_of c past) ms now subs note.rows in
        subst (λ x. AllTaken (cond x (seat c past) (with_all (seat c past) puts)).conn (ms ++ now) (cond x (seat c past) (with_all (seat c past) puts)).pieces) (sym f) all
taken-at pl c (_ ∷ past) a = taken-at pl c past a.1

-- ---- what is finished

confirmed-behind : (pl : Planner) (c d : ℕ) (puts : List (Option RowId)) (plan : Plan) (past : List Step) → AllWorked pl c (Step.Finish d puts plan ∷ past) → d ≡ c → IsConfirmedBehind c past
confirmed-behind pl c d puts plan past a same sub is =
    let j = job-piece pl (seat c past) (λ s w. finished c s w past) (working pl c past a.1) (a.0 same).0 in
    let p : j.piece ≡ piece.Confirm sub = cc (j.is, is) in
    let all : AllTaken (seat c past).conn (marks c past) (j.before ++ j.piece ∷ j.behind) = subst (AllTaken (seat c past).conn (marks c past)) j.among (taken-at pl c past a.1) in
    let one : Taken (seat c past).conn (marks c past) (piece.Confirm sub) = subst (Taken (seat c past).conn (marks c past)) p (behind-taken (seat c past).conn (marks c past) j.before (j.piece ∷ j.behind) all).0 in
    let stands : still (seat c past).conn (piece.Confirm sub) ≡ true = subst (λ q. still (seat c past).conn q ≡ true) p j.stands in
    let d = standing-due sub.0 (seat c past).conn.subs stands in
    let r = one d.0 d.1 in
    (r.0, first-due sub.0 (seat c past).conn.subs d.0 r.0 d.1 r.1, r.2)

pub confirm-later : (r : Callbacks) (pl : Planner) (c : ℕ) (past : List Step) → AllWorked pl c past → AllPlanned r past → AllConfirmLater c past
confirm-later r pl c [] a p = tt
confirm-later r pl c (Step.Finish d puts plan ∷ past) a p = (λ same. (job-waits r d past plan p.0, confirmed-behind pl c d puts plan past a same), confirm-later r pl c past a.1 p.1)
confirm-later r pl c (_ ∷ past) a p = (tt, confirm-later r pl c past a.1 p.1)

-- ---- over a history

pub confirms-behind : (r : Rules) (events : List Event) → ConfirmsBehindDeliver r events
confirms-behind r events n c =
    let world = run r start events in
    let sound = run-sound r start events (start-sound r) in
    let pl = planner_of r.callbacks (user_of c (world.nodes n)) in
    confirm-later r.callbacks pl c (world.nodes n) ((sound.nodes n).worked c pl (plans-for r.callbacks (user_of c (world.nodes n)))) (run-planned r start events n tt)
