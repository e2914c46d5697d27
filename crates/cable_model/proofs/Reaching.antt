-- The window of a hold is what is live of its rows among the pieces.
use Rattle.std.proofs.Common.{ℕ, ◌+◌, ◌≡◌, ◌<◌, ◌≤◌, ◌==◌, Bool, true, false, cond, not, ◌&&◌, List, [], ◌∷◌, ◌++◌, length, Some, None, Option, refl, ap, sym, subst, ◌∙◌, arith, leb, ltb, is_some}
use Rattle.std.proofs.lemmas.List.{append-nil}
use Rattle.std.specs.List.{filter}
use Rattle.std.proofs.lemmas.Bool.{ltb-true, leb-true, leb-false, le-ltb, lt-ltb, false_from_ne_true}
use Rattle.cable_base.specs.declared.rows.Row.{Row}
use Rattle.cable_base.proofs.Rises.{Rises, Rises-filter}
use Rattle.cable_base.proofs.Filters.{filter-cut, filter-twice, filter-none, filter-same}
use Rattle.cable_json.specs.Commands.{command_of}
use Rattle.cable_model.specs.declared.journals.ReadNote.{ReadNote}
use Rattle.cable_model.specs.declared.pieces.Piece.{Piece}
use Rattle.cable_model.specs.declared.pieces.Piece.TheVariants as piece
use Rattle.cable_model.specs.Steps.{Step, Boot, In, Drop, Stop, Take, Finish, Deliver}
use Rattle.cable_model.specs.Connection.{Planner, fresh, fold_from, fold, name_in, name_of}
use Rattle.cable_model.specs.Wants.{Mark, marks, mark_of, turn_mark, user_of, lower}
use Rattle.cable_model.specs.Pieces.{put, put_all, seat, below, deliver_puts, with_put, with_all, with_job, with_plan}
use Rattle.cable_model.specs.Window.{Reads, Reach, first_reach, first_of_two, found_at, pieces_before, same_name, live, finished, row_in}
use Rattle.cable_model.specs.Promise.{AllWorked, Fits, AllLinked}
use Rattle.cable_model.proofs.Folds.{fold_from-append}
use Rattle.cable_model.proofs.Valid.{Valid, fold_from-keeps}
use Rattle.cable_model.proofs.Puts.{Ended, put-live, no-row}
use Rattle.cable_model.proofs.Delivered.{id_of, test, deliver_live}
use Rattle.cable_model.proofs.Working.{WorkingAt, working}
use Rattle.cable_model.proofs.Inbox.{valid-at}
use Rattle.cable_model.proofs.Marks.{mark_of-append, turn-mark, marked-made, made-conn, missed-marks}

pub and-false : (x : Bool) → (x && false) ≡ false
and-false true = refl
and-false false = refl

module _ (pl : Planner) (reads : Reads) (rows : List Row) (top : ℕ) (rising : Rises id_of 0 rows top) (c s w : ℕ) where
  -- whether a row is in the window, where these are the marks, and each id is first reached so
  abbrev pub hits : List Mark → (ℕ → Option Reach) → Row → Bool
  hits ms first r = below (mark_of w ms) r.id.0 && found_at pl reads c s w r (first r.id.0)

  -- a connection with these pieces and marks, on a node whose next turn begins at `low`
  pub record Reached (ps : List Piece) (ms : List Mark) (low : ℕ) (first : ℕ → Option Reach) : Type 0 where
    pub same : filter (hits ms first) rows ≡ live pl s w ps
    pub unmarked : mark_of w ms ≡ None → (live pl s w ps ≡ []) × ((id : ℕ) → first id ≡ None)
    pub reach : (m : ℕ) → mark_of w ms ≡ Some m → (id : ℕ) (t : Reach) → first id ≡ Some t → id ≤ low
    pub miss : (m : ℕ) → mark_of w ms ≡ Some m → (id : ℕ) → first id ≡ None → m < id → low < id

  abbrev pub ReachedAt : List Step → Type 0
  ReachedAt past = Reached (seat c past).pieces (marks c past) (lower past) (λ id. first_reach c w id past)

  keep : (ps : List Piece) (ms : List Mark) (low : ℕ) (first now : ℕ → Option Reach) → ((id : ℕ) → now id ≡ first id) → Reached ps ms low first → Reached ps ms low now
  keep ps ms low first now f v =
      record {
        same = filter-same (hits ms now) (hits ms first) rows (λ r. ap (λ x. below (mark_of w ms) r.id.0 && found_at pl reads c s w r x) (f r.id.0)) ∙ v.same;
        unmarked = λ u. let r = v.unmarked u in (r.0, λ id. f id ∙ r.1 id);
        reach = λ m q id t h. v.reach m q id t (sym (f id) ∙ h);
        miss = λ m q id h g. v.miss m q id (sym (f id) ∙ h) g;
      }

  -- a piece is put that is no row of the want
  pub put-reached : (ps : List Piece) (ms : List Mark) (low : ℕ) (first : ℕ → Option Reach) (q : Piece) → row_in s w q ≡ [] → Ended pl ps → Reached ps ms low first → Reached (put ps q) ms low first
  put-reached ps ms low first q none d v =
      let e : live pl s w (put ps q) ≡ live pl s w ps =
      put-live pl s w ps q d ∙ (ap (λ x. live pl s w ps ++ x) (no-row s w (fold pl ps) q none) ∙ append-nil (live pl s w ps)) in
      record { same = v.same ∙ sym e; unmarked = λ u. let r = v.unmarked u in (e ∙ r.0, r.1); reach = v.reach; miss = v.miss }

  module _ (turn : ℕ) (note : ReadNote) (past : List Step) (f : note.failed ≡ false) (fits : Fits rows reads turn note (lower past)) (v : WorkingAt pl c past) where
    abbrev now : List Step
    now = Deliver turn note ∷ past

    abbrev hits_of : List Step → Row → Bool
    hits_of journal = hits (marks c journal) (λ id. first_reach c w id journal)

    abbrev T : Reach
    T = record { turn = turn; note = note; past = past }

    valid : Valid (seat c past).done (seat c past).conn
    valid = valid-at pl (seat c past) (λ sub want. finished c sub want past) v

    abbrev tests : Row → Bool
    tests r = test pl s w (user_of c past) (marks c past) (seat c past).conn.subs (seat c past).done (seat c past).conn.made valid.subs valid.wants (seat c past).pieces note.rows r

    abbrev found : Row → Bool
    found r = reads.present turn r && reads.asked turn r && (ltb note.lower.0 r.id.0 && leb r.id.0 note.upto.0)

    names : is_some (mark_of w (marks c past)) ≡ true → (name : List ℕ) → name_of s w (fold pl (seat c past).pieces) ≡ Some name → name_in s w (seat c past).conn.subs ≡ Some name
    names t name h = go (mark_of w (marks c past)) refl
      where
        go : (o : Option ℕ) → mark_of w (marks c past) ≡ o → name_in s w (seat c past).conn.subs ≡ Some name
        go None o = let t' = rw o at t in absurd (cc (t'))
        go (Some m) o =
            let l = marked-made c w m past o in
            let l' : w ≤ (seat c past).conn.made = omega (arith, made-conn c past) in
            let folded : fold pl (seat c past).pieces ≡ fold_from pl (seat c past).done (seat c past).conn v.back =
            ap (fold pl) v.pieces ∙ (fold_from-append pl 0 fresh v.front v.back ∙ (ap (λ x. fold_from pl (0 + length v.front) x v.back) (sym v.conn) ∙ ap (λ n. fold_from pl n (seat c past).conn v.back) (omega (arith, v.done)))) in
            fold_from-keeps pl (seat c past).done s w (seat c past).conn v.back name valid l' (sym (ap (name_of s w) folded) ∙ h)

    pieces-now : (seat c now).pieces ≡ put_all (seat c past).pieces (deliver_puts (user_of c past) (marks c past) (turn_mark c note past) (seat c past).conn.subs note.rows)
    pieces-now =
        ap (λ b. (cond b (seat c past) (with_all (seat c past) (deliver_puts (user_of c past) (marks c past) (turn_mark c note past) (seat c past).conn.subs note.rows))).pieces) f

    added : live pl s w (seat c now).pieces ≡ live pl s w (seat c past).pieces ++ filter (λ r. found r && tests r) rows
    added =
        let rise : Rises id_of 0 note.rows top = subst (λ x. Rises id_of 0 x top) (sym fits.found) (Rises-filter id_of found 0 rows top rising) in
        let d = deliver_live pl s w (user_of c past) (marks c past) (seat c past).conn.subs (seat c past).done (seat c past).conn.made valid.subs valid.wants (seat c past).pieces 0 top (turn_mark c note past) note.rows rise (record { ended = v.ended; names = names }) in
        ap (live pl s w) pieces-now ∙ (d.0 ∙ ap (λ x. live pl s w (seat c past).pieces ++ x) (ap (filter tests) fits.found ∙ filter-twice found tests rows))

    first : (m : ℕ) → mark_of w (marks c past) ≡ Some m → (id : ℕ) → first_reach c w id now ≡ first_of_two (first_reach c w id past) (cond (leb id note.upto.0) (Some T) None)
    first m o id = go (leb id note.upto.0) refl
      where
        go : (b : Bool) → leb id note.upto.0 ≡ b → first_reach c w id now ≡ first_of_two (first_reach c w id past) (cond (leb id note.upto.0) (Some T) None)
        go true b = rw (f, o, b) refl
        go false b = rw (f, b) refl

    deliver-unmarked : mark_of w (marks c past) ≡ None → ReachedAt past → ReachedAt now
    deliver-unmarked o ih =
        let u = ih.unmarked o in
        let none : (id : ℕ) → first_reach c w id now ≡ None = λ id. rw (u.1 id, o) (elim (not note.failed && leb id note.upto.0) as (λ b. cond (b && false) (Some T) None ≡ None) [ true ↦ refl | false ↦ refl ]) in
        let nothing : live pl s w (seat c now).pieces ≡ [] =
        added ∙ (ap (λ x. x ++ filter (λ r. found r && tests r) rows) u.0 ∙ filter-none (λ r. found r && tests r) rows (λ r. rw o (and-false (found r)))) in
        record {
          same = filter-none (hits_of now) rows (λ r. rw (none r.id.0) (and-false (below (mark_of w (marks c now)) r.id.0))) ∙ sym nothing;
          unmarked = λ _. (nothing, none);
          reach = λ m q id t h. let n = none id in absurd (cc (n, h));
          miss = λ m q id h g.
              let q' = rw (mark_of-append w (marks c past) (turn_mark c note past), o) at q in
              let t = turn-mark c w m note past q' in
              let up = fits.within in
              rw f (omega (arith, t.0));
        }

    deliver-marked : (m : ℕ) → mark_of w (marks c past) ≡ Some m → ReachedAt past → ReachedAt now
    deliver-marked m o ih =
        record {
          same = filter-cut id_of (lower past) (hits_of past) (λ r. found r && tests r) (hits_of now) 0 rows top rising low high ∙ (ap (λ x. x ++ filter (λ r. found r && tests r) rows) ih.same ∙ sym added);
          unmarked = λ u. absurd (cc (u, mark));
          reach = reach;
          miss = miss;
        }
      where
        mark : mark_of w (marks c now) ≡ Some m
        mark = mark_of-append w (marks c past) (turn_mark c note past) ∙ rw o refl

        no-mark : (r : Row) → r.id.0 ≤ lower past → first_reach c w r.id.0 past ≡ None → ltb m r.id.0 ≡ false
        no-mark r l e = false_from_ne_true (ltb m r.id.0) (λ t. let x = ih.miss m o r.id.0 e (ltb-true m r.id.0 t) in omega arith)

        no-find : (r : Row) → r.id.0 ≤ lower past → (found r && tests r) ≡ false
        no-find r l =
            let t : ltb note.lower.0 r.id.0 ≡ false = le-ltb note.lower.0 r.id.0 (omega (arith, fits.lower)) in
            rw (t, and-false (reads.present turn r && reads.asked turn r)) refl

        low : (r : Row) → r.id.0 ≤ lower past → (hits_of now r ≡ hits_of past r) × ((found r && tests r) ≡ false)
        low r l = (go (first_reach c w r.id.0 past) refl, no-find r l)
          where
            go : (fr : Option Reach) → first_reach c w r.id.0 past ≡ fr → hits_of now r ≡ hits_of past r
            go (Some t) e = rw (first m o r.id.0, mark, o, e) refl
            go None e =
                let b : ltb m r.id.0 ≡ false = no-mark r l e in
                rw (mark, o, b) refl

        unreached : (id : ℕ) → lower past < id → first_reach c w id past ≡ None
        unreached id l = go (first_reach c w id past) refl
          where
            go : (fr : Option Reach) → first_reach c w id past ≡ fr → fr ≡ None
            go None e = refl
            go (Some t) e = let x = ih.reach m o id t e in absurd (omega arith)

        algebra : (b x n : Bool) → (b && (x && n)) ≡ ((x && true) && (b && n))
        algebra true true n = refl
        algebra true false n = refl
        algebra false true n = refl
        algebra false false n = refl

        high : (r : Row) → lower past < r.id.0 → (hits_of now r ≡ (found r && tests r)) × (hits_of past r ≡ false)
        high r l = (go (leb r.id.0 note.upto.0) refl, rw (o, none) (and-false (ltb m r.id.0)))
          where
            none : first_reach c w r.id.0 past ≡ None
            none = unreached r.id.0 l

            above : ltb note.lower.0 r.id.0 ≡ true
            above = lt-ltb note.lower.0 r.id.0 (omega (arith, fits.lower))

            go : (b : Bool) → leb r.id.0 note.upto.0 ≡ b → hits_of now r ≡ (found r && tests r)
            go true b = rw (first m o r.id.0, mark, none, b, above, o) (algebra (ltb m r.id.0) (reads.present turn r && reads.asked turn r) (same_name (name_of s w (fold pl (pieces_before c r note past))) r.channel))
            go false b = rw (first m o r.id.0, mark, none, b, above, o) (and-false (ltb m r.id.0) ∙ sym (ap (λ y. y && (ltb m r.id.0 && same_name (name_of s w (fold pl (pieces_before c r note past))) r.channel)) (and-false (reads.present turn r && reads.asked turn r))))

        reach : (n : ℕ) → mark_of w (marks c now) ≡ Some n → (id : ℕ) (t : Reach) → first_reach c w id now ≡ Some t → id ≤ lower now
        reach n q id t h = go (first_reach c w id past) refl (leb id note.upto.0) refl
          where
            go : (fr : Option Reach) → first_reach c w id past ≡ fr → (b : Bool) → leb id note.upto.0 ≡ b → id ≤ lower now
            go (Some t') e b b' = let x = ih.reach m o id t' e in rw f (omega (arith, fits.lower, fits.rises))
            go None e true b = rw f (leb-true id note.upto.0 b)
            go None e false b = let h' = rw (first m o id, e, b) at h in absurd (cc (h'))

        miss : (n : ℕ) → mark_of w (marks c now) ≡ Some n → (id : ℕ) → first_reach c w id now ≡ None → n < id → lower now < id
        miss n q id h g = go (first_reach c w id past) refl (leb id note.upto.0) refl
          where
            go : (fr : Option Reach) → first_reach c w id past ≡ fr → (b : Bool) → leb id note.upto.0 ≡ b → lower now < id
            go (Some t') e b b' = let h' = rw (first m o id, e) at h in absurd (cc (h'))
            go None e true b = let h' = rw (first m o id, e, b) at h in absurd (cc (h'))
            go None e false b = rw f (leb-false id note.upto.0 b)

  missed : (turn : ℕ) (note : ReadNote) (past : List Step) → note.failed ≡ true → ReachedAt past → ReachedAt (Deliver turn note ∷ past)
  missed turn note past f v =
      let puts = deliver_puts (user_of c past) (marks c past) (turn_mark c note past) (seat c past).conn.subs note.rows in
      let first : ℕ → Option Reach = λ id. first_reach c w id (Deliver turn note ∷ past) in
      let first-is : (id : ℕ) → first id ≡ first_reach c w id past = λ id. rw f (elim (first_reach c w id past) as (λ o. first_of_two o None ≡ o) [ None ↦ refl | Some t ↦ refl ]) in
      let kept = keep (seat c past).pieces (marks c past) (lower past) (λ id. first_reach c w id past) first first-is v in
      subst (λ b. Reached (cond b (seat c past) (with_all (seat c past) puts)).pieces (marks c (Deliver turn note ∷ past)) (cond b (lower past) note.upto.0) first) (sym f)
      (subst (λ ms. Reached (seat c past).pieces ms (lower past) first) (sym (missed-marks c turn note past f)) kept)

  nothing-reached : (low : ℕ) → Reached [] [] low (λ id. None)
  nothing-reached low = record { same = filter-none (hits [] (λ id. None)) rows (λ r. refl); unmarked = λ u. (refl, λ id. refl); reach = λ m q. absurd (cc (q)); miss = λ m q. absurd (cc (q)) }

  putting : (b : Bool) (q : Piece) (past : List Step) → row_in s w q ≡ [] → WorkingAt pl c past → ReachedAt past
      → Reached (cond b (with_put (seat c past) q) (seat c past)).pieces (marks c past) (lower past) (λ id. first_reach c w id past)
  putting true q past none v r = put-reached (seat c past).pieces (marks c past) (lower past) (λ id. first_reach c w id past) q none v.ended r
  putting false q past none v r = r

  pub reached : (past : List Step) → AllWorked pl c past → AllLinked rows reads past → ReachedAt past
  reached [] a l = nothing-reached 0
  reached (Boot last ∷ past) a l = let e : past ≡ [] = l.0 in subst (λ x. ReachedAt (Boot last ∷ x)) (sym e) (nothing-reached last)
  reached (In d text ∷ past) a l = putting (d == c) (piece.Cmd (command_of text)) past refl (working pl c past a.1) (reached past a.1 l.1)
  reached (Drop d ∷ past) a l = putting (d == c) piece.Gone past refl (working pl c past a.1) (reached past a.1 l.1)
  reached (Stop ∷ past) a l = putting (is_some (user_of c past)) piece.Restart past refl (working pl c past a.1) (reached past a.1 l.1)
  reached (Take d ∷ past) a l =
      let r = reached past a.1 l.1 in
      elim (d == c) as (λ b. Reached (cond b (with_job (seat c past)) (seat c past)).pieces (marks c past) (lower past) (λ id. first_reach c w id past)) [ true ↦ r | false ↦ r ]
  reached (Finish d puts plan ∷ past) a l =
      let r = reached past a.1 l.1 in
      elim (d == c) as (λ b. Reached (cond b (with_plan (seat c past) plan) (seat c past)).pieces (marks c past) (lower past) (λ id. first_reach c w id past)) [ true ↦ r | false ↦ r ]
  reached (Deliver turn note ∷ past) a l = go note.failed refl (mark_of w (marks c past)) refl (reached past a.1 l.1) (working pl c past a.1)
    where
      go : (b : Bool) → note.failed ≡ b → (o : Option ℕ) → mark_of w (marks c past) ≡ o → ReachedAt past → WorkingAt pl c past → ReachedAt (Deliver turn note ∷ past)
      go true f o o' ih v = missed turn note past f ih
      go false f None o ih v = deliver-unmarked turn note past f (l.0 f) v o ih
      go false f (Some m) o ih v = deliver-marked turn note past f (l.0 f) v m o ih
  reached (_ ∷ past) a l = reached past a.1 l.1
