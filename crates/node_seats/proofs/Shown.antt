-- The two faces of the map of slots: the connections, and what is queued on them.
use Rattle.std.proofs.Common.{◌≡◌, ℕ, true, false, Result, Ok, Err, List, Option, Some, None, refl, sym, ap, subst, ◌∙◌}
use Rattle.std.specs.Prelude.{IfOk, OnErr, is_some, option_map, unwrap_or}
use Rattle.std.specs.Ordering.{nat_cmp}
use Rattle.std.specs.BTreeMap.{insert_entry, is_at}
use Rattle.std.specs.BTreeSet.{BTreeSet}
use Rattle.std.specs.Map.{lookup, keys_of}
use Rattle.std.specs.List.Sorted.{IsStrictlySortedBy}
use Rattle.std.proofs.lemmas.Map.Made.{keys_of-map_values, lookup-map_values}
use Rattle.cable_base.specs.declared.faults.OutOfMemory.{OutOfMemory}
use Rattle.conn_seat.specs.Outboxes.{OutboxState, unused}
use Rattle.node_seats.specs.declared.slots.Slot.{Slot}
use Rattle.node_seats.specs.Numbers.{NodeSeats, Numbers, Opened, Moves, Rising, is_over_at, is_over_in, opened_at, seat_at, seat_in, with_new}
use Rattle.node_seats.specs.Inside.{IsTidy}
use Rattle.node_seats.specs.Outboxes.{OutboxesState, outbox_at}
use Rattle.node_seats.specs.Slots.{numbers_of, opened_of, outbox_of, outboxes_of}
use Rattle.node_seats.proofs.Faces.{Written, face, found-mapped, insert-mapped, missing-mapped, same-now}
use Rattle.node_seats.proofs.Moving.{moves}
use Rattle.node_seats.proofs.OneQueue.{OnOne, on-new, on-one}

-- what the entries of the map show
abbrev pub shown : List (ℕ × Slot) → NodeSeats
shown es = record { entries = numbers_of es; outs = record { entries = outboxes_of es } }

pub risen : (es : List (ℕ × Slot)) → IsStrictlySortedBy nat_cmp (keys_of es) → Rising (numbers_of es)
risen es rising = subst (IsStrictlySortedBy nat_cmp) (sym (keys_of-map_values opened_of es)) rising

-- ---- what is found

module _ (c : ℕ) (m : List (ℕ × Slot)) (is : NodeSeats) (view : shown m ≡ is) where
  pub opened-found : (kept : Slot) → lookup (is_at (nat_cmp c)) m ≡ Some kept → opened_at c is.entries ≡ Some (opened_of kept)
  opened-found kept at = subst (λ (x : NodeSeats). opened_at c x.entries ≡ Some (opened_of kept)) view (found-mapped opened_of c m kept at)

  pub opened-missing : lookup (is_at (nat_cmp c)) m ≡ None → opened_at c is.entries ≡ None
  opened-missing at = subst (λ (x : NodeSeats). opened_at c x.entries ≡ None) view (missing-mapped opened_of c m at)

  pub outbox-found : (kept : Slot) → lookup (is_at (nat_cmp c)) m ≡ Some kept → outbox_at c is.outs ≡ outbox_of kept
  outbox-found kept at =
      subst (λ (x : NodeSeats). outbox_at c x.outs ≡ outbox_of kept) view
      (ap (λ (o : Option OutboxState). unwrap_or o unused) (found-mapped outbox_of c m kept at))

  pub outbox-missing : lookup (is_at (nat_cmp c)) m ≡ None → outbox_at c is.outs ≡ unused
  outbox-missing at =
      subst (λ (x : NodeSeats). outbox_at c x.outs ≡ unused) view (ap (λ (o : Option OutboxState). unwrap_or o unused) (missing-mapped outbox_of c m at))

pub used-shown : (c : ℕ) (m : List (ℕ × Slot)) (is : NodeSeats) → shown m ≡ is → is_some (lookup (is_at (nat_cmp c)) m) ≡ is_some (opened_at c is.entries)
used-shown c m is view =
    by-slot (lookup (is_at (nat_cmp c)) m) ∙ ap is_some (sym (lookup-map_values opened_of (is_at (nat_cmp c)) m))
    ∙ ap (λ (x : NodeSeats). is_some (opened_at c x.entries)) view
  where
    by-slot : (o : Option Slot) → is_some o ≡ is_some (option_map opened_of o)
    by-slot None = refl
    by-slot (Some s) = refl

-- one that is live there is live in its slot
pub live-kept : (c : ℕ) (m : List (ℕ × Slot)) (is : NodeSeats) → shown m ≡ is → (kept : Slot) → lookup (is_at (nat_cmp c)) m ≡ Some kept
    → is_some (seat_at c is.entries) ≡ true → is_some (seat_in (Some (opened_of kept))) ≡ true
live-kept c m is view kept at live = ap (λ (o : Option Opened). is_some (seat_in o)) (sym (opened-found c m is view kept at)) ∙ live

-- one that is live is there
pub live-missing : (c : ℕ) (m : List (ℕ × Slot)) (is : NodeSeats) → shown m ≡ is → lookup (is_at (nat_cmp c)) m ≡ None
    → is_some (seat_at c is.entries) ≡ true → ⊥
live-missing c m is view at live =
    let none : is_some (seat_at c is.entries) ≡ false = ap (λ (o : Option Opened). is_some (seat_in o)) (opened-missing c m is view at) in
    let no_way : true ≡ false = sym live ∙ none in cc

-- one that is over there is over in its slot
pub over-kept : (c : ℕ) (m : List (ℕ × Slot)) (is : NodeSeats) → shown m ≡ is → (kept : Slot) → lookup (is_at (nat_cmp c)) m ≡ Some kept
    → is_over_at c is.entries ≡ true → opened_of kept ≡ Opened.Over
over-kept c m is view kept at over = by-opened (opened_of kept) (ap is_over_in (sym (opened-found c m is view kept at)) ∙ over)
  where
    by-opened : (o : Opened) → is_over_in (Some o) ≡ true → o ≡ Opened.Over
    by-opened (Opened.Live s) e = absurd cc
    by-opened Opened.Over e = refl

pub over-missing : (c : ℕ) (m : List (ℕ × Slot)) (is : NodeSeats) → shown m ≡ is → lookup (is_at (nat_cmp c)) m ≡ None → is_over_at c is.entries ≡ true → ⊥
over-missing c m is view at over = let no_way : true ≡ false = sym over ∙ ap is_over_in (opened-missing c m is view at) in cc

-- ---- a slot more

pub not-found : (c : ℕ) (m : List (ℕ × Slot)) (is : NodeSeats) → shown m ≡ is → opened_at c is.entries ≡ None → lookup (is_at (nat_cmp c)) m ≡ None
not-found c m is view none =
    by-slot (lookup (is_at (nat_cmp c)) m)
    (sym (lookup-map_values opened_of (is_at (nat_cmp c)) m) ∙ ap (λ (x : NodeSeats). opened_at c x.entries) view ∙ none)
  where
    by-slot : (o : Option Slot) → option_map opened_of o ≡ None → o ≡ None
    by-slot None e = refl
    by-slot (Some s) e = absurd cc

pub new-opened : (c : ℕ) (slot : Slot) (o : Opened) (m n : List (ℕ × Slot)) (is : NodeSeats) → shown m ≡ is → n ≡ insert_entry nat_cmp m c slot
    → opened_of slot ≡ o → numbers_of n ≡ with_new c o is.entries
new-opened c slot o m n is view now same =
    ap numbers_of now ∙ insert-mapped opened_of nat_cmp m c slot ∙ ap (λ (x : Opened). with_new c x (numbers_of m)) same
    ∙ ap (λ (x : NodeSeats). with_new c o x.entries) view

pub new-outbox : (c : ℕ) (slot : Slot) (m n : List (ℕ × Slot)) (is : NodeSeats) → shown m ≡ is → opened_at c is.entries ≡ None
    → n ≡ insert_entry nat_cmp m c slot → OnOne c unused (outbox_of slot) is.outs (record { entries = outboxes_of n })
new-outbox c slot m n is view none now =
    subst (λ (x : NodeSeats). OnOne c unused (outbox_of slot) x.outs (record { entries = outboxes_of n })) view
    (on-new c (outbox_of slot) (outboxes_of m) (outboxes_of n) (missing-mapped outbox_of c m (not-found c m is view none))
    (ap outboxes_of now ∙ insert-mapped outbox_of nat_cmp m c slot))

-- ---- what is written over a slot

-- it is written over the connection, and over what is queued on it
pub on-opened : (c : ℕ) (kept became : Slot) (m n : List (ℕ × Slot)) → Written c kept became m n
    → Written c (opened_of kept) (opened_of became) (numbers_of m) (numbers_of n)
on-opened c kept became m n w = face opened_of c kept became m n w

pub on-outbox : (c : ℕ) (kept became : Slot) (m n : List (ℕ × Slot)) → Written c kept became m n
    → Written c (outbox_of kept) (outbox_of became) (outboxes_of m) (outboxes_of n)
on-outbox c kept became m n w = face outbox_of c kept became m n w

-- what is written over the queue alone
pub tidy-still : (c : ℕ) (kept became : Slot) (m n : List (ℕ × Slot)) → Written c kept became m n → (live : BTreeSet ℕ)
    → opened_of became ≡ opened_of kept → IsTidy (numbers_of m) live → IsTidy (numbers_of n) live
tidy-still c kept became m n w live same is =
    subst (λ (v : Numbers). IsTidy v live)
    (sym (same-now c (opened_of kept) (opened_of became) (numbers_of m) (numbers_of n) (on-opened c kept became m n w) same)) is

module _ (c : ℕ) (kept became : Slot) (m n : List (ℕ × Slot)) (w : Written c kept became m n) (is : NodeSeats) (view : shown m ≡ is) where
  pub moved-by : (By : Opened → Opened → Type 0) → By (opened_of kept) (opened_of became) → Moves c By is.entries (numbers_of n)
  moved-by By by =
      subst (λ (x : NodeSeats). Moves c By x.entries (numbers_of n)) view
      (moves By c (opened_of kept) (opened_of became) (numbers_of m) (numbers_of n) (on-opened c kept became m n w) by)

  -- a face is the same where what it shows of the slot is
  pub opened-same : opened_of became ≡ opened_of kept → numbers_of n ≡ is.entries
  opened-same same =
      same-now c (opened_of kept) (opened_of became) (numbers_of m) (numbers_of n) (on-opened c kept became m n w) same ∙ ap (λ (x : NodeSeats). x.entries) view

  pub outbox-same : outbox_of became ≡ outbox_of kept → (record { entries = outboxes_of n }) ≡ is.outs
  outbox-same same =
      ap (λ es. let v : OutboxesState = record { entries = es } in v)
      (same-now c (outbox_of kept) (outbox_of became) (outboxes_of m) (outboxes_of n) (on-outbox c kept became m n w) same)
      ∙ ap (λ (x : NodeSeats). x.outs) view

  pub one-outbox : OnOne c (outbox_of kept) (outbox_of became) is.outs (record { entries = outboxes_of n })
  one-outbox =
      subst (λ (x : NodeSeats). OnOne c (outbox_of kept) (outbox_of became) x.outs (record { entries = outboxes_of n })) view
      (on-one c (outbox_of kept) (outbox_of became) (outboxes_of m) (outboxes_of n) (on-outbox c kept became m n w))

  -- .. and both are where the slot is
  pub slot-same : became ≡ kept → shown n ≡ is
  slot-same same = ap shown (same-now c kept became m n w same) ∙ view

  pub same-again : {A : Type 0} (result : Result A OutOfMemory) → OnErr result (became ≡ kept) → OnErr result (shown n ≡ is)
  same-again (Ok a) same = same
  same-again (Err e) same = slot-same same

  -- the same, where none was taken
  pub same-unless : {A : Type 0} (result : Result (Option A) OutOfMemory) → IfOk result (λ t. t ≡ None → became ≡ kept)
      → IfOk result (λ t. t ≡ None → shown n ≡ is)
  same-unless (Ok t) same = λ none. slot-same (same none)
  same-unless (Err e) same = same
