-- A turn puts the confirmation of a subscription exactly where it takes the first want of its Subscribe.
use Rattle.std.proofs.Common.{ℕ, ◌≡◌, ◌⊎◌, Bool, true, false, cond, ◌&&◌, List, [], ◌∷◌, ◌++◌, Some, None, Option, refl, ap, subst, ◌∙◌, arith, inl, inr, is_some, is_none, bytes_eq, Contains}
use Rattle.std.specs.List.{AllByRecursion}
use Rattle.std.proofs.lemmas.Bool.{and_parts}
use Rattle.std.proofs.lemmas.List.Elements.{Contains-append_left, Contains-append_right, Contains-append_cases, Contains-push, Contains-push_cases}
use Rattle.cable_base.specs.Names.{own_name}
use Rattle.cable_base.specs.declared.numbers.SubNo.{SubNo}
use Rattle.cable_base.specs.declared.rows.Row.{Row}
use Rattle.cable_base.proofs.Each.{All-append}
use Rattle.cable_json.specs.Disconnects.{disconnect_of}
use Rattle.cable_model.specs.declared.journals.ReadNote.{ReadNote}
use Rattle.cable_model.specs.declared.pieces.Piece.{Piece}
use Rattle.cable_model.specs.declared.pieces.Piece.TheVariants as piece
use Rattle.cable_model.specs.Steps.{Step}
use Rattle.cable_model.specs.Connection.{Want, Sub}
use Rattle.cable_model.specs.Wants.{Mark, marks, mark_of, turn_mark, user_of}
use Rattle.cable_model.specs.Pieces.{seat, below, row_piece, hold_puts, sub_puts, own_puts, remote_put, row_puts, rows_puts, takes_now, confirm_puts}
use Rattle.cable_model.specs.Legal.{Legal}
use Rattle.cable_laws.specs.Placed.{Takes, TakesConfirm, ConfirmsAreTaken, turn_puts}
use Rattle.cable_laws.proofs.Taking.{legal-back, finds-mark, mark-finds, none-finds, taken-unmarked}

-- ---- elements of a list

contains-first : {X : Type 0} (x : X) (xs : List X) → Contains (x ∷ xs) x
contains-first x xs = Contains-append_left (x ∷ []) xs x (Contains-push [] x)

contains-later : {X : Type 0} (x y : X) (xs : List X) → Contains xs y → Contains (x ∷ xs) y
contains-later x y xs h = Contains-append_right (x ∷ []) xs y h

contains-none : {X : Type 0} (x : X) → Contains [] x → ⊥
contains-none x h = omega (arith, h.1)

contains-cases : {X : Type 0} (x y : X) (xs : List X) → Contains (x ∷ xs) y → (x ≡ y) ⊎ Contains xs y
contains-cases x y xs h = elim (Contains-append_cases (x ∷ []) xs y h) [
  | inl one ↦ elim (Contains-push_cases [] x y one) [ inl none ↦ absurd (contains-none y none) | inr same ↦ inl same ]
  | inr later ↦ inr later
]

All-at : {X : Type 0} (P : X → Type 0) (xs : List X) (y : X) → AllByRecursion P xs → Contains xs y → P y
All-at P [] y a h = absurd (contains-none y h)
All-at P (x ∷ xs) y a h = elim (contains-cases x y xs h) [ inl same ↦ subst P same a.0 | inr later ↦ All-at P xs y a.1 later ]

All-given : {X : Type 0} (P : X → Type 0) (xs : List X) → ((x : X) → Contains xs x → P x) → AllByRecursion P xs
All-given P [] f = tt
All-given P (x ∷ xs) f = (f x (contains-first x xs), All-given P xs (λ y h. f y (contains-later x y xs h)))

-- ---- what a turn puts for rows

-- it is no confirmation
abbrev NoConfirm : Piece → Type 0
NoConfirm p = (s : SubNo) → ¬ (p ≡ piece.Confirm s)

row-none : (s w : ℕ) (row : Row) → NoConfirm (row_piece s w row)
row-none s w row t e = cc (e)

remote-none : (reconnect : Bool) → NoConfirm (piece.Remote reconnect)
remote-none reconnect t e = cc (e)

holds-none : (ms : List Mark) (row : Row) (s : ℕ) (ws : List Want) → AllByRecursion NoConfirm (hold_puts ms row s ws)
holds-none ms row s [] = tt
holds-none ms row s (w ∷ ws) =
    let ih = holds-none ms row s ws in
    elim (bytes_eq w.name row.channel && below (mark_of w.number ms) row.id.0) as (λ b. AllByRecursion NoConfirm (cond b (row_piece s w.number row ∷ hold_puts ms row s ws) (hold_puts ms row s ws))) [
      | true ↦ (row-none s w.number row, ih)
      | false ↦ ih
    ]

subs-none : (ms : List Mark) (row : Row) (xs : List Sub) → AllByRecursion NoConfirm (sub_puts ms row xs)
subs-none ms row [] = tt
subs-none ms row (x ∷ xs) = All-append NoConfirm (hold_puts ms row x.number x.wants) (sub_puts ms row xs) (holds-none ms row x.number x.wants) (subs-none ms row xs)

own-none : (user : Option (List ℕ)) (ms : List Mark) (row : Row) → AllByRecursion NoConfirm (own_puts user ms row)
own-none None ms row = tt
own-none (Some user) ms row =
    elim (bytes_eq (own_name user) row.channel && below (mark_of 0 ms) row.id.0) as (λ b. AllByRecursion NoConfirm (cond b (remote_put (disconnect_of row.payload)) [])) [
      | true ↦ elim (disconnect_of row.payload) as (λ o. AllByRecursion NoConfirm (remote_put o)) [ None ↦ tt | Some reconnect ↦ (remote-none reconnect, tt) ]
      | false ↦ tt
    ]

rows-none : (user : Option (List ℕ)) (ms : List Mark) (subs : List Sub) (rows : List Row) → AllByRecursion NoConfirm (rows_puts user ms subs rows)
rows-none user ms subs [] = tt
rows-none user ms subs (row ∷ rows) =
    All-append NoConfirm (row_puts user ms subs row) (rows_puts user ms subs rows)
    (All-append NoConfirm (sub_puts ms row subs) (own_puts user ms row) (subs-none ms row subs) (own-none user ms row))
    (rows-none user ms subs rows)

-- ---- the confirmations that it puts

confirms-hold : (P : Piece → Type 0) (ms now : List Mark) (xs : List Sub) → AllByRecursion (λ (x : Sub). takes_now ms now x.due ≡ true → P (piece.Confirm (record { 0 = x.number }))) xs → AllByRecursion P (confirm_puts ms now xs)
confirms-hold P ms now [] a = tt
confirms-hold P ms now (x ∷ xs) a = go (takes_now ms now x.due) refl (confirms-hold P ms now xs a.1)
  where
    go : (b : Bool) → takes_now ms now x.due ≡ b → AllByRecursion P (confirm_puts ms now xs) → AllByRecursion P (confirm_puts ms now (x ∷ xs))
    go true b ih = rw b (a.0 b, ih)
    go false b ih = rw b ih

confirm-put : (ms now : List Mark) (xs : List Sub) (y : Sub) → takes_now ms now y.due ≡ true → Contains xs y → Contains (confirm_puts ms now xs) (piece.Confirm (record { 0 = y.number }))
confirm-put ms now [] y t h = absurd (contains-none y h)
confirm-put ms now (x ∷ xs) y t h = elim (contains-cases x y xs h) [
  | inl same ↦ let here : takes_now ms now x.due ≡ true = ap (λ (z : Sub). takes_now ms now z.due) same ∙ t in
      rw (here) (subst (λ (z : Sub). Contains (piece.Confirm (record { 0 = x.number }) ∷ confirm_puts ms now xs) (piece.Confirm (record { 0 = z.number }))) same
      (contains-first (piece.Confirm (record { 0 = x.number })) (confirm_puts ms now xs)))
  | inr later ↦ let ih = confirm-put ms now xs y t later in
      elim (takes_now ms now x.due) as (λ b. Contains (cond b (piece.Confirm (record { 0 = x.number }) ∷ confirm_puts ms now xs) (confirm_puts ms now xs)) (piece.Confirm (record { 0 = y.number }))) [
        | true ↦ contains-later (piece.Confirm (record { 0 = x.number })) (piece.Confirm (record { 0 = y.number })) (confirm_puts ms now xs) ih
        | false ↦ ih
      ]
]

-- ---- one turn

is-none : (o : Option ℕ) → is_none o ≡ true → o ≡ None
is-none None h = refl
is-none (Some m) h = absurd (cc (h))

is-some : (o : Option ℕ) → is_some o ≡ true → (m : ℕ) × (o ≡ Some m)
is-some None h = absurd (cc (h))
is-some (Some m) h = (m, refl)

module _ (c turn : ℕ) (note : ReadNote) (past : List Step) (l : Legal (Step.Deliver turn note ∷ past)) where
  abbrev now : List Mark
  now = turn_mark c note past

  takes-now : (due : Option ℕ) → takes_now (marks c past) now due ≡ true → (first : ℕ) × (due ≡ Some first) × Takes c first turn note past
  takes-now None h = absurd (cc (h))
  takes-now (Some first) h =
      let b = and_parts (is_none (mark_of first (marks c past))) (is_some (mark_of first now)) h in
      let m = is-some (mark_of first now) b.1 in
      (first, refl, record { finds = mark-finds c first turn note past m.0 l m.1; first = none-finds c first past l.1 (is-none (mark_of first (marks c past)) b.0) })

  now-takes : (first : ℕ) → Takes c first turn note past → takes_now (marks c past) now (Some first) ≡ true
  now-takes first t =
      let none = taken-unmarked c first turn note past l.1 t in
      let own = finds-mark c first turn note past l t.finds in
      rw (none, own) refl

  confirm-taken : (s : SubNo) → Contains (turn_puts c note past) (piece.Confirm s) → TakesConfirm c s.0 turn note past
  confirm-taken s h = elim (Contains-append_cases (rows_puts (user_of c past) (marks c past) subs note.rows) (confirm_puts (marks c past) now subs) (piece.Confirm s) h) [
    | inl row ↦ absurd (All-at NoConfirm (rows_puts (user_of c past) (marks c past) subs note.rows) (piece.Confirm s) (rows-none (user_of c past) (marks c past) subs note.rows) row s refl)
    | inr confirm ↦ All-at IsDue (confirm_puts (marks c past) now subs) (piece.Confirm s) (confirms-hold IsDue (marks c past) now subs (All-given (λ (x : Sub). takes_now (marks c past) now x.due ≡ true → IsDue (piece.Confirm (record { 0 = x.number }))) subs one)) confirm s refl
  ]
    where
      subs : List Sub
      subs = (seat c past).conn.subs

      IsDue : Piece → Type 0
      IsDue p = (t : SubNo) → p ≡ piece.Confirm t → TakesConfirm c t.0 turn note past

      one : (x : Sub) → Contains subs x → takes_now (marks c past) now x.due ≡ true → IsDue (piece.Confirm (record { 0 = x.number }))
      one x stands takes t e =
          let d = takes-now x.due takes in
          let number : x.number ≡ t.0 = cc (e) in
          record { sub = x; stands = stands; number = number; first = d.0; due = d.1; takes = d.2 }

  taken-confirm : (s : SubNo) → TakesConfirm c s.0 turn note past → Contains (turn_puts c note past) (piece.Confirm s)
  taken-confirm s t =
      let subs = (seat c past).conn.subs in
      let takes : takes_now (marks c past) now t.sub.due ≡ true = ap (takes_now (marks c past) now) t.due ∙ now-takes t.first t.takes in
      let put = confirm-put (marks c past) now subs t.sub takes t.stands in
      Contains-append_right (rows_puts (user_of c past) (marks c past) subs note.rows) (confirm_puts (marks c past) now subs) (piece.Confirm s)
      (subst (λ n. Contains (confirm_puts (marks c past) now subs) (piece.Confirm (record { 0 = n }))) t.number put)

pub confirms-are-taken : (c : ℕ) (past : List Step) → Legal past → ConfirmsAreTaken c past
confirms-are-taken c past l newer turn note older is read s =
    let l' : Legal (newer ++ Step.Deliver turn note ∷ older) = subst Legal is l in
    let here = legal-back newer (Step.Deliver turn note ∷ older) l' in
    (confirm-taken c turn note older here s, taken-confirm c turn note older here s)
