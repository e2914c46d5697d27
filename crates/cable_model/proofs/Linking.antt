-- A note that fits goes on fitting while the table's journal grows.
use Rattle.std.proofs.Common.{ℕ, zero, suc, ◌-◌, ◌≡◌, ◌<◌, ◌≤◌, ◌==◌, Bool, true, false, cond, not, ◌&&◌, List, [], ◌∷◌, ◌++◌, length, Some, None, Option, refl, ap, sym, subst, ◌∙◌, arith, leb, ltb, slice_get, length-append, ℤ}
use Rattle.std.proofs.lemmas.List.{append-nil}
use Rattle.std.proofs.lemmas.List.Elements.{filter-append}
use Rattle.std.specs.List.{filter, AllByRecursion}
use Rattle.std.proofs.lemmas.Bool.Decides.{nat_tests}
use Rattle.std.proofs.lemmas.Bool.{ltb-true, lt-leb, and_parts}
use Rattle.cable_base.specs.declared.rows.Row.{Row}
use Rattle.cable_base.proofs.Rises.{Rises, Rises-within}
use Rattle.cable_base.proofs.Filters.{filter-same, filter-twice}
use Rattle.cable_model.specs.declared.journals.ReadNote.{ReadNote}
use Rattle.cable_model.specs.Steps.{Step}
use Rattle.cable_model.specs.Wants.{lower}
use Rattle.cable_model.specs.Window.{Reads}
use Rattle.cable_model.specs.Table.{TableStep, commits, last_id, gone, present, contains, matching, id_or, upto_of, note_of, present_at, asked_at, reads_of}
use Rattle.cable_model.specs.Promise.{Fits, AllLinked}
use Rattle.cable_model.proofs.Delivered.{id_of}
use Rattle.cable_model.proofs.Reaching.{and-false}

-- the number of the last turn that was delivered, 0 where none was
abbrev pub delivered : List Step → ℕ
delivered [] = 0
delivered (Step.Deliver turn note ∷ past) = turn
delivered (_ ∷ past) = delivered past

-- the turns are delivered in the order of their numbers
abbrev pub TurnsRise : List Step → Type 0
TurnsRise [] = Unit {0}
TurnsRise (Step.Deliver turn note ∷ past) = (delivered past < turn) × TurnsRise past
TurnsRise (_ ∷ past) = TurnsRise past

-- two readings say the same of a turn
abbrev pub Agree : Reads → Reads → ℕ → Type 0
Agree a b t = (r : Row) → (b.present t r ≡ a.present t r) × (b.asked t r ≡ a.asked t r)

above-none : (p : Row → Bool) (upto : ℕ) (rows : List Row) → AllByRecursion (λ r. upto < r.id.0) rows → filter (λ r. p r && leb r.id.0 upto) rows ≡ []
above-none p upto [] h = refl
above-none p upto (r ∷ rows) h =
    let t : leb r.id.0 upto ≡ false = lt-leb r.id.0 upto h.0 in
    rw (t, and-false (p r)) (above-none p upto rows h.1)

All-above : (a b : ℕ) (rows : List Row) → a ≤ b → AllByRecursion (λ r. b < r.id.0) rows → AllByRecursion (λ r. a < r.id.0) rows
All-above a b [] l h = tt
All-above a b (r ∷ rows) l h = (omega arith, All-above a b rows l h.1)

and-assoc : (a b c : Bool) → (a && (b && c)) ≡ ((a && b) && c)
and-assoc true b c = refl
and-assoc false b c = refl

module _ (rows xs : List Row) (fresh : AllByRecursion (λ r. length rows < r.id.0) xs) where
  pub Fits-more : (reads reads' : Reads) (t : ℕ) (note : ReadNote) (low : ℕ) → Agree reads reads' t → Fits rows reads t note low → Fits (rows ++ xs) reads' t note low
  Fits-more reads reads' t note low agree f =
      let g : Row → Bool = λ r. reads'.present t r && reads'.asked t r && ltb note.lower.0 r.id.0 in
      let u = f.within in
      let k = f.known in
      let same : filter (λ r. reads.present t r && reads.asked t r && (ltb note.lower.0 r.id.0 && leb r.id.0 note.upto.0)) rows ≡ filter (λ r. reads'.present t r && reads'.asked t r && (ltb note.lower.0 r.id.0 && leb r.id.0 note.upto.0)) rows =
      filter-same (λ r. reads.present t r && reads.asked t r && (ltb note.lower.0 r.id.0 && leb r.id.0 note.upto.0)) (λ r. reads'.present t r && reads'.asked t r && (ltb note.lower.0 r.id.0 && leb r.id.0 note.upto.0)) rows
      (λ r. rw ((agree r).0, (agree r).1) refl) in
      let none : filter (λ r. reads'.present t r && reads'.asked t r && (ltb note.lower.0 r.id.0 && leb r.id.0 note.upto.0)) xs ≡ [] =
      filter-same (λ r. reads'.present t r && reads'.asked t r && (ltb note.lower.0 r.id.0 && leb r.id.0 note.upto.0)) (λ r. g r && leb r.id.0 note.upto.0) xs (λ r. and-assoc (reads'.present t r && reads'.asked t r) (ltb note.lower.0 r.id.0) (leb r.id.0 note.upto.0))
      ∙ above-none g note.upto.0 xs (All-above note.upto.0 (length rows) xs (omega arith) fresh) in
      record {
        lower = f.lower;
        rises = f.rises;
        within = f.within;
        known = omega (arith, length-append rows xs);
        found = f.found ∙ (same ∙ (sym (append-nil (filter (λ r. reads'.present t r && reads'.asked t r && (ltb note.lower.0 r.id.0 && leb r.id.0 note.upto.0)) rows))
            ∙ (ap (λ ys. filter (λ r. reads'.present t r && reads'.asked t r && (ltb note.lower.0 r.id.0 && leb r.id.0 note.upto.0)) rows ++ ys) (sym none)
            ∙ sym (filter-append (λ r. reads'.present t r && reads'.asked t r && (ltb note.lower.0 r.id.0 && leb r.id.0 note.upto.0)) rows xs))));
      }

  pub linked-more : (reads reads' : Reads) (past : List Step) → TurnsRise past → ((t : ℕ) → t ≤ delivered past → Agree reads reads' t) → AllLinked rows reads past → AllLinked (rows ++ xs) reads' past
  linked-more reads reads' [] n a l = tt
  linked-more reads reads' (Step.Deliver turn note ∷ past) n a l =
      (λ f. Fits-more reads reads' turn note (lower past) (a turn (omega arith)) (l.0 f), linked-more reads reads' past n.1 (λ t h. a t (omega (arith, n.0))) l.1)
  linked-more reads reads' (_ ∷ past) n a l = (l.0, linked-more reads reads' past n a l.1)

-- the note of a Read fits
get-all : {A : Type 0} (P : A → Type 0) (xs : List A) (i : ℕ) (x : A) → AllByRecursion P xs → slice_get xs i ≡ Some x → P x
get-all P [] i x h e = absurd (cc (e))
get-all P (y ∷ ys) zero x h e = let same : y ≡ x = cc (e) in subst P same h.0
get-all P (y ∷ ys) (suc i) x h e = get-all P ys i x h.1 e

All-filtered : {A : Type 0} (P : A → Type 0) (p : A → Bool) (xs : List A) → AllByRecursion P xs → AllByRecursion P (filter p xs)
All-filtered P p [] h = tt
All-filtered P p (x ∷ xs) h =
    let ih = All-filtered P p xs h.1 in
    elim (p x) as (λ b. AllByRecursion P (cond b (x ∷ filter p xs) (filter p xs))) [ true ↦ (h.0, ih) | false ↦ ih ]

All-passed : {A : Type 0} (p : A → Bool) (xs : List A) → AllByRecursion (λ x. p x ≡ true) (filter p xs)
All-passed p [] = tt
All-passed p (x ∷ xs) = go (p x) refl (All-passed p xs)
  where
    go : (b : Bool) → p x ≡ b → AllByRecursion (λ y. p y ≡ true) (filter p xs) → AllByRecursion (λ y. p y ≡ true) (filter p (x ∷ xs))
    go true b ih = rw b (b, ih)
    go false b ih = rw b ih

All-rises : (b top : ℕ) (rows : List Row) → Rises id_of b rows top → AllByRecursion (λ r. r.id.0 ≤ top) rows
All-rises b top [] h = tt
All-rises b top (r ∷ rows) h = (Rises-within id_of r.id.0 rows top h.1, All-rises r.id.0 top rows h.1)

pub note-fits : (hash : List ℕ → ℤ) (page low n t : ℕ) (hashes : List ℤ) (table : List TableStep) → Rises id_of 0 (commits table) (last_id table) → low ≤ last_id table
    → Fits (commits table) (reads_of hash n (TableStep.Read n t (note_of hash page low hashes table) hashes ∷ table)) t (note_of hash page low hashes table) low
note-fits hash page low n t hashes table rise l =
    record {
      lower = refl;
      rises = (bounds (slice_get (matching hash low hashes table) (page - 1)) refl).0;
      within = (bounds (slice_get (matching hash low hashes table) (page - 1)) refl).1;
      known = omega arith;
      found =
          ap (filter (λ r. leb r.id.0 top)) (filter-twice (λ r. not (gone table r)) (λ r. ltb low r.id.0 && contains hashes (hash r.channel)) (commits table))
          ∙ (filter-twice (λ r. not (gone table r) && (ltb low r.id.0 && contains hashes (hash r.channel))) (λ r. leb r.id.0 top) (commits table)
          ∙ filter-same (λ r. (not (gone table r) && (ltb low r.id.0 && contains hashes (hash r.channel))) && leb r.id.0 top) (λ r. present_at n now t r && asked_at hash n now t r && (ltb low r.id.0 && leb r.id.0 top)) (commits table)
          (λ r. rw (self n, self t) (algebra (not (gone table r)) (ltb low r.id.0) (contains hashes (hash r.channel)) (leb r.id.0 top))));
    }
  where
    top : ℕ
    top = upto_of page (last_id table) (matching hash low hashes table)

    now : List TableStep
    now = TableStep.Read n t (note_of hash page low hashes table) hashes ∷ table

    self : (m : ℕ) → (m == m) ≡ true
    self m = grind (arith, nat_tests)

    algebra : (a b c d : Bool) → ((a && (b && c)) && d) ≡ ((a && c) && (b && d))
    algebra true true true d = refl
    algebra true true false d = refl
    algebra true false true d = refl
    algebra true false false d = refl
    algebra false b c d = refl

    bounds : (o : Option Row) → slice_get (matching hash low hashes table) (page - 1) ≡ o → (low ≤ id_or o (last_id table)) × (id_or o (last_id table) ≤ last_id table)
    bounds None e = (l, omega arith)
    bounds (Some r) e =
        let p = get-all (λ x. (ltb low x.id.0 && contains hashes (hash x.channel)) ≡ true) (matching hash low hashes table) (page - 1) r (All-passed (λ x. ltb low x.id.0 && contains hashes (hash x.channel)) (present table)) e in
        let q = get-all (λ x. x.id.0 ≤ last_id table) (matching hash low hashes table) (page - 1) r (All-filtered (λ x. x.id.0 ≤ last_id table) (λ x. ltb low x.id.0 && contains hashes (hash x.channel)) (present table) (All-filtered (λ x. x.id.0 ≤ last_id table) (λ x. not (gone table x)) (commits table) (All-rises 0 (last_id table) (commits table) rise))) e in
        let a = ltb-true low r.id.0 (and_parts (ltb low r.id.0) (contains hashes (hash r.channel)) p).0 in
        (omega arith, q)
