-- Where each turn asks for the held names, the window does not speak of hashes.
use Rattle.std.proofs.Common.{ℕ, ◌+◌, ◌≡◌, ◌≤◌, Bool, true, false, cond, not, ◌&&◌, List, [], ◌∷◌, length, Some, None, Option, refl, ap, sym, subst, ◌∙◌, arith, leb, is_some, bytes_eq}
use Rattle.std.specs.List.{AllByRecursion}
use Rattle.cable_base.specs.Names.{own_name}
use Rattle.cable_base.specs.declared.rows.Row.{Row}
use Rattle.cable_base.proofs.Filters.{filter-same}
use Rattle.cable_json.specs.Disconnects.{disconnect_of}
use Rattle.cable_model.specs.declared.pieces.Piece.{Piece}
use Rattle.cable_model.specs.declared.pieces.Piece.TheVariants as piece
use Rattle.cable_model.specs.declared.journals.ReadNote.{ReadNote}
use Rattle.cable_model.specs.Steps.{Step}
use Rattle.cable_model.specs.Connection.{Sub, Planner, fresh, fold, fold_from, name_of}
use Rattle.cable_model.specs.Wants.{Mark, marks, mark_of, user_of}
use Rattle.cable_model.specs.Pieces.{closing, put, put_all, seat, below, sub_puts, own_puts, row_puts, rows_puts}
use Rattle.cable_model.specs.Window.{Reads, finished, Reach, first_of_two, reaches, first_reach, same_name, earlier, pieces_before, found_at, in_window, window}
use Rattle.cable_model.proofs.Folds.{fold_from-append}
use Rattle.cable_model.proofs.Valid.{fold_from-keeps}
use Rattle.cable_model.proofs.Puts.{fold-push, quiet, put-quiet, subs-quiet, put_all-append}
use Rattle.cable_model.specs.Promise.{AllWorked}
use Rattle.cable_model.proofs.Working.{working}
use Rattle.cable_model.proofs.Inbox.{valid-at}
use Rattle.cable_model.proofs.Marks.{marked-made, made-conn}
use Rattle.cable_model.proofs.Reaching.{and-false}

-- a name that a marked want holds at the Deliver was asked for
abbrev pub AsksHeld : Reads → ℕ → Step → List Step → Type 0
AsksHeld reads c (Step.Deliver turn note) past =
    note.failed ≡ false → (s w mark : ℕ) (name : List ℕ) → mark_of w (marks c past) ≡ Some mark → name_of s w (seat c past).conn ≡ Some name
    → (row : Row) → bytes_eq name row.channel ≡ true → reads.asked turn row ≡ true
AsksHeld reads c _ past = Unit {0}

abbrev pub AllAskHeld : Reads → ℕ → List Step → Type 0
AllAskHeld reads c [] = Unit {0}
AllAskHeld reads c (e ∷ past) = AsksHeld reads c e past × AllAskHeld reads c past

-- the reading of the table alone, as if every hash were asked for
abbrev pub unasked : Reads → Reads
unasked reads = record { present = reads.present; asked = λ t row. true }

-- no put of a row brings a want back
module _ (pl : Planner) (s w : ℕ) (name : List ℕ) where
  quiet-keeps : (ps qs : List Piece) → AllByRecursion (λ q. quiet q ≡ true) qs → name_of s w (fold pl (put_all ps qs)) ≡ Some name → name_of s w (fold pl ps) ≡ Some name
  quiet-keeps ps [] a h = h
  quiet-keeps ps (q ∷ qs) a h = sym (ap (name_of s w) (put-quiet pl ps q a.0)) ∙ quiet-keeps (put ps q) qs a.1 h

  remote-keeps : (ps : List Piece) (b c : Bool) → closing ps ≡ c → name_of s w (fold pl (put ps (piece.Remote b))) ≡ Some name → name_of s w (fold pl ps) ≡ Some name
  remote-keeps ps b true c h = let h' = rw c at h in h'
  remote-keeps ps b false c h = let h' = rw (c, fold-push pl ps (piece.Remote b)) at h in absurd (cc (h'))

  own-keeps : (ps : List Piece) (u : Option (List ℕ)) (ms : List Mark) (row : Row) → name_of s w (fold pl (put_all ps (own_puts u ms row))) ≡ Some name → name_of s w (fold pl ps) ≡ Some name
  own-keeps ps None ms row h = h
  own-keeps ps (Some u) ms row h = go (bytes_eq (own_name u) row.channel && below (mark_of 0 ms) row.id.0) refl (disconnect_of row.payload) refl
    where
      go : (t : Bool) → (bytes_eq (own_name u) row.channel && below (mark_of 0 ms) row.id.0) ≡ t → (d : Option Bool) → disconnect_of row.payload ≡ d → name_of s w (fold pl ps) ≡ Some name
      go true t None d = let h' = rw (t, d) at h in h'
      go true t (Some b) d = let h' = rw (t, d) at h in remote-keeps ps b (closing ps) refl h'
      go false t d d' = let h' = rw t at h in h'

  rows-keep : (ps : List Piece) (u : Option (List ℕ)) (ms : List Mark) (subs : List Sub) (rows : List Row) → name_of s w (fold pl (put_all ps (rows_puts u ms subs rows))) ≡ Some name → name_of s w (fold pl ps) ≡ Some name
  rows-keep ps u ms subs [] h = h
  rows-keep ps u ms subs (r ∷ rows) h =
      let h1 = rw (put_all-append ps (row_puts u ms subs r) (rows_puts u ms subs rows)) at h in
      let h2 = rows-keep (put_all ps (row_puts u ms subs r)) u ms subs rows h1 in
      let h3 = rw (put_all-append ps (sub_puts ms r subs) (own_puts u ms r)) at h2 in
      quiet-keeps ps (sub_puts ms r subs) (subs-quiet s w fresh ms r subs) (own-keeps (put_all ps (sub_puts ms r subs)) u ms r h3)

  -- what stands after all pieces stands after those that were finished
  pieces-keep : (c : ℕ) (past : List Step) → AllWorked pl c past → (m : ℕ) → mark_of w (marks c past) ≡ Some m → name_of s w (fold pl (seat c past).pieces) ≡ Some name → name_of s w (seat c past).conn ≡ Some name
  pieces-keep c past a m o h =
      let v = working pl c past a in
      let l = marked-made c w m past o in
      let l' : w ≤ (seat c past).conn.made = omega (arith, made-conn c past) in
      let folded : fold pl (seat c past).pieces ≡ fold_from pl (seat c past).done (seat c past).conn v.back =
      ap (fold pl) v.pieces ∙ (fold_from-append pl 0 fresh v.front v.back ∙ (ap (λ x. fold_from pl (0 + length v.front) x v.back) (sym v.conn) ∙ ap (λ n. fold_from pl n (seat c past).conn v.back) (omega (arith, v.done)))) in
      fold_from-keeps pl (seat c past).done s w (seat c past).conn v.back name (valid-at pl (seat c past) (λ sub want. finished c sub want past) v) l' (sym (ap (name_of s w) folded) ∙ h)

module _ (pl : Planner) (reads : Reads) (c s w : ℕ) (row : Row) where
  abbrev Same : Option Reach → Type 0
  Same o = found_at pl reads c s w row o ≡ found_at pl (unasked reads) c s w row o

  algebra : (p a n : Bool) → (n ≡ true → a ≡ true) → (p && a && n) ≡ (p && true && n)
  algebra true true n h = refl
  algebra true false true h = absurd (let e = h refl in cc (e))
  algebra true false false h = refl
  algebra false a n h = refl

  at-turn : (turn : ℕ) (note : ReadNote) (past : List Step) → note.failed ≡ false → AllWorked pl c past → AsksHeld reads c (Step.Deliver turn note) past → (m : ℕ) → mark_of w (marks c past) ≡ Some m
      → Same (Some (record { turn = turn; note = note; past = past }))
  at-turn turn note past f a asks m o = algebra (reads.present turn row) (reads.asked turn row) (same_name (name_of s w (fold pl (pieces_before c row note past))) row.channel) (go (name_of s w (fold pl (pieces_before c row note past))) refl)
    where
      go : (n : Option (List ℕ)) → name_of s w (fold pl (pieces_before c row note past)) ≡ n → same_name n row.channel ≡ true → reads.asked turn row ≡ true
      go None n h = absurd (cc (h))
      go (Some name) n h =
          let h1 = rows-keep pl s w name (seat c past).pieces (user_of c past) (marks c past) (seat c past).conn.subs (earlier row note.rows) n in
          asks f s w m name o (pieces-keep pl s w name c past a m o h1) row h

  same-found : (past : List Step) → AllWorked pl c past → AllAskHeld reads c past → Same (first_reach c w row.id.0 past)
  same-found [] a k = refl
  same-found (Step.Deliver turn note ∷ past) a k = go (first_reach c w row.id.0 past) refl (same-found past a.1 k.1) note.failed refl (mark_of w (marks c past)) refl (leb row.id.0 note.upto.0) refl
    where
      go : (fr : Option Reach) → first_reach c w row.id.0 past ≡ fr → Same (first_reach c w row.id.0 past) → (f : Bool) → note.failed ≡ f → (o : Option ℕ) → mark_of w (marks c past) ≡ o → (b : Bool) → leb row.id.0 note.upto.0 ≡ b
          → Same (first_of_two (first_reach c w row.id.0 past) (reaches c w row.id.0 turn note past))
      go (Some t) e ih f f' o o' b b' = rw e (subst Same e ih)
      go None e ih true f o o' b b' = rw e (subst Same (sym (ap (λ x. cond (not x && leb row.id.0 note.upto.0 && is_some (mark_of w (marks c past))) (Some (record { turn = turn; note = note; past = past })) None) f)) refl)
      go None e ih false f (Some m) o true b = rw e (subst Same (sym (ap (λ x. cond x (Some (record { turn = turn; note = note; past = past })) None) (and3 f b (ap is_some o)))) (at-turn turn note past f a.1 k.0 m o))
        where
          and3 : note.failed ≡ false → leb row.id.0 note.upto.0 ≡ true → is_some (mark_of w (marks c past)) ≡ true → (not note.failed && leb row.id.0 note.upto.0 && is_some (mark_of w (marks c past))) ≡ true
          and3 x y z = ap (λ q. not q && leb row.id.0 note.upto.0 && is_some (mark_of w (marks c past))) x ∙ (ap (λ q. true && q && is_some (mark_of w (marks c past))) y ∙ z)
      go None e ih false f o o' false b = rw e (subst Same (sym (ap (λ x. cond x (Some (record { turn = turn; note = note; past = past })) None) (and3 b))) refl)
        where
          and-comm : (x y : Bool) → (x && false && y) ≡ false
          and-comm true y = refl
          and-comm false y = refl

          and3 : leb row.id.0 note.upto.0 ≡ false → (not note.failed && leb row.id.0 note.upto.0 && is_some (mark_of w (marks c past))) ≡ false
          and3 y = ap (λ q. not note.failed && q && is_some (mark_of w (marks c past))) y ∙ and-comm (not note.failed) (is_some (mark_of w (marks c past)))
      go None e ih false f None o b b' = rw e (subst Same (sym (ap (λ x. cond x (Some (record { turn = turn; note = note; past = past })) None) (ap (λ q. not note.failed && leb row.id.0 note.upto.0 && is_some q) o ∙ and-false (not note.failed && leb row.id.0 note.upto.0)))) refl)
  same-found (_ ∷ past) a k = same-found past a.1 k.1

-- the window does not speak of hashes
pub same-window : (pl : Planner) (reads : Reads) (rows : List Row) (c s w : ℕ) (past : List Step) → AllWorked pl c past → AllAskHeld reads c past
    → window pl reads c s w past rows ≡ window pl (unasked reads) c s w past rows
same-window pl reads rows c s w past a k =
    filter-same (in_window pl reads c s w past) (in_window pl (unasked reads) c s w past) rows (λ r. ap (λ x. below (mark_of w (marks c past)) r.id.0 && x) (same-found pl reads c s w r past a k))
