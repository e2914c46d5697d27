-- The journals of logs that a merge ties are linked, so the promise of windows holds of them.
use Rattle.std.proofs.Common.{ℕ, ◌≡◌, ◌<◌, ◌≤◌, ◌==◌, Bool, true, false, cond, ◌&&◌, List, [], ◌∷◌, ◌++◌, length, Some, None, refl, ap, sym, subst, ◌∙◌, arith, inl, inr, append_assoc, length-append, ℤ}
use Rattle.std.proofs.lemmas.List.{append-nil}
use Rattle.std.specs.List.{AllByRecursion}
use Rattle.cable_base.specs.declared.rows.Row.{Row}
use Rattle.cable_model.specs.Steps.{Step}
use Rattle.cable_model.specs.Wants.{lower}
use Rattle.cable_model.specs.Table.{TableStep, row_with, commits, last_id, note_of, read_of, present_at, asked_at, reads_of}
use Rattle.cable_model.specs.Legal.{Legal, LegalTable, stored_plans}
use Rattle.cable_model.specs.Promise.{Fits, AllLinked}
use Rattle.cable_model.specs.Merged.{Tied, JournalWindows}
use Rattle.cable_model.proofs.Linking.{Agree, Fits-more, note-fits}
use Rattle.cable_model.proofs.Stored.{stored-works}
use Rattle.cable_model.proofs.Trimming.{legal-rises}
use Rattle.cable_laws.proofs.Windows.{windows}

module _ (hash : List ℕ → ℤ) (page : ℕ) where
  older-legal : (newer older : List TableStep) → LegalTable hash page (newer ++ older) → LegalTable hash page older
  older-legal [] older l = l
  older-legal (t ∷ newer) older l = older-legal newer older l.1

  -- what was committed later
  record Later (older whole : List TableStep) : Type 0 where
    xs : List Row
    is : commits whole ≡ commits older ++ xs
    fresh : AllByRecursion (λ x. last_id older < x.id.0) xs

  All-push : (b : ℕ) (xs : List Row) (r : Row) → AllByRecursion (λ (x : Row). b < x.id.0) xs → b < r.id.0 → AllByRecursion (λ (x : Row). b < x.id.0) (xs ++ r ∷ [])
  All-push b [] r h l = (l, tt)
  All-push b (x ∷ xs) r h l = (h.0, All-push b xs r h.1 l)

  later : (newer older : List TableStep) → LegalTable hash page (newer ++ older) → Later older (newer ++ older)
  later [] older l = record { xs = []; is = sym (append-nil (commits older)); fresh = tt }
  later (TableStep.Commit conn offer (Some id) ∷ newer) older l =
      let r = later newer older l.1 in
      let e = ap length r.is ∙ length-append (commits older) r.xs in
      let i = l.0 in
      record { xs = r.xs ++ row_with id offer ∷ []; is = ap (λ ys. ys ++ row_with id offer ∷ []) r.is ∙ append_assoc (commits older) r.xs (row_with id offer ∷ []); fresh = All-push (last_id older) r.xs (row_with id offer) r.fresh (omega arith) }
  later (_ ∷ newer) older l = let r = later newer older l.1 in record { xs = r.xs; is = r.is; fresh = r.fresh }

  -- no Read of the turn is newer
  agree : (n t : ℕ) (newer older : List TableStep) → read_of n t newer ≡ None → Agree (reads_of hash n older) (reads_of hash n (newer ++ older)) t
  agree n t [] older h r = (refl, refl)
  agree n t (TableStep.Read node turn note hashes ∷ newer) older h r = go (node == n && turn == t) refl (λ h'. agree n t newer older h' r)
    where
      go : (b : Bool) → (node == n && turn == t) ≡ b → (read_of n t newer ≡ None → (present_at n (newer ++ older) t r ≡ present_at n older t r) × (asked_at hash n (newer ++ older) t r ≡ asked_at hash n older t r))
          → (present_at n (TableStep.Read node turn note hashes ∷ (newer ++ older)) t r ≡ present_at n older t r) × (asked_at hash n (TableStep.Read node turn note hashes ∷ (newer ++ older)) t r ≡ asked_at hash n older t r)
      go true b ih = let h' = rw b at h in absurd (cc (h'))
      go false b ih = let h' = rw b at h in let x = ih h' in (rw b x.0, rw b x.1)
  agree n t (_ ∷ newer) older h r = agree n t newer older h r

  last-more : (newer older : List TableStep) → LegalTable hash page (newer ++ older) → last_id older ≤ last_id (newer ++ older)
  last-more newer older l = let r = later newer older l in omega (arith, ap length r.is, length-append (commits older) r.xs)

  pub tied-linked : (n : ℕ) (whole : List TableStep) → LegalTable hash page whole → (past : List Step) (front table : List TableStep) → whole ≡ front ++ table → Tied n past front table → Legal past
      → AllLinked (commits whole) (reads_of hash n whole) past × (lower past ≤ last_id table)
  tied-linked n whole l [] front table e t lo = (tt, omega arith)
  tied-linked n whole l (Step.Boot last ∷ past) front table e t lo = ((lo.0, (tied-linked n whole l past front table e t.1 lo.1).0), t.0)
  tied-linked n whole l (Step.Deliver turn note ∷ past) front table e (newer, older, hashes, is, once, t) lo =
      delivered (tied-linked n whole l past ((front ++ newer) ++ TableStep.Read n turn note hashes ∷ []) older (cut ∙ sym (append_assoc (front ++ newer) (TableStep.Read n turn note hashes ∷ []) older)) t lo.1)
    where
      read : List TableStep
      read = TableStep.Read n turn note hashes ∷ older

      cut : whole ≡ (front ++ newer) ++ TableStep.Read n turn note hashes ∷ older
      cut = e ∙ (ap (λ x. front ++ x) is ∙ sym (append_assoc front newer (TableStep.Read n turn note hashes ∷ older)))

      legal-cut : LegalTable hash page ((front ++ newer) ++ TableStep.Read n turn note hashes ∷ older)
      legal-cut = subst (LegalTable hash page) cut l

      legal-read : LegalTable hash page (TableStep.Read n turn note hashes ∷ older)
      legal-read = older-legal (front ++ newer) (TableStep.Read n turn note hashes ∷ older) legal-cut

      is-note : note.failed ≡ false → note ≡ note_of hash page note.lower.0 hashes older
      is-note f = elim legal-read.0 [ inl m ↦ absurd (let x = ap (λ y. y.failed) m in cc (f, x)) | inr m ↦ m ]

      fits-there : note.failed ≡ false → note.lower.0 ≤ last_id older → Fits (commits older) (reads_of hash n (TableStep.Read n turn note hashes ∷ older)) turn note note.lower.0
      fits-there f low =
          let m = is-note f in
          subst (λ y. Fits (commits older) (reads_of hash n (TableStep.Read n turn y hashes ∷ older)) turn y note.lower.0) (sym m)
          (note-fits hash page note.lower.0 n turn hashes older (legal-rises hash page older legal-read.1) low)

      delivered : AllLinked (commits whole) (reads_of hash n whole) past × (lower past ≤ last_id older) → AllLinked (commits whole) (reads_of hash n whole) (Step.Deliver turn note ∷ past) × (lower (Step.Deliver turn note ∷ past) ≤ last_id table)
      delivered ih = ((fits, ih.0), low note.failed refl)
        where
          low' : note.lower.0 ≤ last_id older
          low' = let x = ih.1 in omega (arith, lo.0.2)

          fits : note.failed ≡ false → Fits (commits whole) (reads_of hash n whole) turn note (lower past)
          fits f =
              let r = later (front ++ newer) (TableStep.Read n turn note hashes ∷ older) legal-cut in
              let big = Fits-more (commits older) r.xs r.fresh (reads_of hash n (TableStep.Read n turn note hashes ∷ older)) (reads_of hash n ((front ++ newer) ++ TableStep.Read n turn note hashes ∷ older)) turn note note.lower.0 (agree n turn (front ++ newer) (TableStep.Read n turn note hashes ∷ older) once) (fits-there f low') in
              let big2 = subst (λ x. Fits x (reads_of hash n ((front ++ newer) ++ TableStep.Read n turn note hashes ∷ older)) turn note note.lower.0) (sym r.is) big in
              subst (λ x. Fits (commits x) (reads_of hash n x) turn note (lower past)) (sym cut) (subst (λ k. Fits (commits ((front ++ newer) ++ TableStep.Read n turn note hashes ∷ older)) (reads_of hash n ((front ++ newer) ++ TableStep.Read n turn note hashes ∷ older)) turn note k) lo.0.2 big2)

          grown : last_id older ≤ last_id table
          grown =
              let lt : LegalTable hash page (newer ++ TableStep.Read n turn note hashes ∷ older) = older-legal front (newer ++ TableStep.Read n turn note hashes ∷ older) (subst (LegalTable hash page) (append_assoc front newer (TableStep.Read n turn note hashes ∷ older)) legal-cut) in
              subst (λ x. last_id older ≤ last_id x) (sym is) (last-more newer (TableStep.Read n turn note hashes ∷ older) lt)

          low : (b : Bool) → note.failed ≡ b → lower (Step.Deliver turn note ∷ past) ≤ last_id table
          low true b = subst (λ x. cond x (lower past) note.upto.0 ≤ last_id table) (sym b) (let x = ih.1 in let g = grown in omega arith)
          low false b =
              let f = fits-there b low' in
              let u = f.within in
              let k = f.known in
              let g = grown in
              subst (λ x. cond x (lower past) note.upto.0 ≤ last_id table) (sym b) (omega arith)
  tied-linked n whole l (_ ∷ past) front table e t lo = let r = tied-linked n whole l past front table e t lo.1 in ((tt, r.0), r.1)

-- the promise holds of the journals of running threads
pub journal_windows : JournalWindows
journal_windows hash page n table past l lo t c s w =
    windows (stored_plans c past) (reads_of hash n table) (commits table) (last_id table) c s w past (legal-rises hash page table l) (stored-works c past lo)
    (tied-linked hash page n table l past [] table refl t lo).0
