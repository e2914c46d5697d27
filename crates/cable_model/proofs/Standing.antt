-- What a Deliver puts stands when it is put: all of it waits.
use Rattle.std.proofs.Common.{ℕ, ◌≡◌, ◌==◌, ◌&&◌, ◌||◌, Bool, true, false, cond, List, [], ◌∷◌, Option, Some, None, refl, ap, arith, is_some, bytes_eq}
use Rattle.std.specs.List.{list_any, AllByRecursion}
use Rattle.std.proofs.lemmas.Bool.Decides.{nat_tests}
use Rattle.cable_base.specs.Names.{own_name}
use Rattle.cable_base.specs.declared.rows.Row.{Row}
use Rattle.cable_base.proofs.Each.{All-append}
use Rattle.cable_base.proofs.Rises.{Rises}
use Rattle.cable_json.specs.Disconnects.{disconnect_of}
use Rattle.cable_model.specs.declared.pieces.Piece.{Piece}
use Rattle.cable_model.specs.declared.pieces.Piece.TheVariants as piece
use Rattle.cable_model.specs.Connection.{Want, Sub, Conn, want_in, name_in, still}
use Rattle.cable_model.specs.Wants.{Mark, mark_of}
use Rattle.cable_model.specs.Pieces.{below, row_piece, hold_puts, sub_puts, own_puts, remote_put, row_puts, rows_puts, takes_now, confirm_puts, deliver_puts}
use Rattle.cable_model.proofs.Valid.{Valid, name_in-above}

-- the holds of a subscription get pieces of wants that stand there
holds-of : (P : Piece → Type 0) (ms : List Mark) (row : Row) (s : ℕ) (ws : List Want) → ((w : ℕ) → is_some (want_in w ws) ≡ true → P (row_piece s w row)) → AllByRecursion P (hold_puts ms row s ws)
holds-of P ms row s [] h = tt
holds-of P ms row s (y ∷ ys) h = put (bytes_eq y.name row.channel && below (mark_of y.number ms) row.id.0) (holds-of P ms row s ys (λ w e. h w (behind w e (y.number == w) refl)))
  where
    self : (y.number == y.number) ≡ true
    self = grind (arith, nat_tests)

    here : is_some (want_in y.number (y ∷ ys)) ≡ true
    here = rw self refl

    behind : (w : ℕ) → is_some (want_in w ys) ≡ true → (b : Bool) → (y.number == w) ≡ b → is_some (want_in w (y ∷ ys)) ≡ true
    behind w e true b = rw b refl
    behind w e false b = rw b e

    put : (t : Bool) → AllByRecursion P (hold_puts ms row s ys) → AllByRecursion P (cond t (row_piece s y.number row ∷ hold_puts ms row s ys) (hold_puts ms row s ys))
    put true rest = (h y.number here, rest)
    put false rest = rest

-- and those of all subscriptions pieces of wants that stand
subs-of : (P : Piece → Type 0) (ms : List Mark) (row : Row) (b : ℕ) (xs : List Sub) (e : ℕ) → Rises (λ (x : Sub). x.number) b xs e
    → ((s w : ℕ) → is_some (name_in s w xs) ≡ true → P (row_piece s w row)) → AllByRecursion P (sub_puts ms row xs)
subs-of P ms row b [] e r h = tt
subs-of P ms row b (x ∷ xs) e r h =
    All-append P (hold_puts ms row x.number x.wants) (sub_puts ms row xs)
    (holds-of P ms row x.number x.wants (λ w q. h x.number w (rw self q)))
    (subs-of P ms row x.number xs e r.1 (λ s w q. h s w (behind s w q (x.number == s) refl)))
  where
    self : (x.number == x.number) ≡ true
    self = grind (arith, nat_tests)

    behind : (s w : ℕ) → is_some (name_in s w xs) ≡ true → (u : Bool) → (x.number == s) ≡ u → is_some (name_in s w (x ∷ xs)) ≡ true
    behind s w q true u =
        let same : x.number ≡ s = grind (arith, nat_tests) in
        let none = name_in-above s w x.number xs e r.1 (omega arith) in
        absurd (cc (ap is_some none, q))
    behind s w q false u = rw u q

confirms-of : (P : Piece → Type 0) (ms now : List Mark) (xs : List Sub) → ((s : ℕ) → list_any (λ (x : Sub). x.number == s) xs ≡ true → P (piece.Confirm (record { 0 = s }))) → AllByRecursion P (confirm_puts ms now xs)
confirms-of P ms now [] h = tt
confirms-of P ms now (x ∷ xs) h = put (takes_now ms now x.due) (confirms-of P ms now xs (λ s q. h s (behind s q (x.number == s))))
  where
    self : (x.number == x.number) ≡ true
    self = grind (arith, nat_tests)

    here : list_any (λ (y : Sub). y.number == x.number) (x ∷ xs) ≡ true
    here = rw self refl

    behind : (s : ℕ) → list_any (λ (y : Sub). y.number == s) xs ≡ true → (b : Bool) → (b || list_any (λ (y : Sub). y.number == s) xs) ≡ true
    behind s q true = refl
    behind s q false = q

    put : (t : Bool) → AllByRecursion P (confirm_puts ms now xs) → AllByRecursion P (cond t (piece.Confirm (record { 0 = x.number }) ∷ confirm_puts ms now xs) (confirm_puts ms now xs))
    put true rest = (h x.number here, rest)
    put false rest = rest

own-stands : (k : Conn) (user : Option (List ℕ)) (ms : List Mark) (row : Row) → AllByRecursion (λ q. still k q ≡ true) (own_puts user ms row)
own-stands k None ms row = tt
own-stands k (Some user) ms row =
    elim (bytes_eq (own_name user) row.channel && below (mark_of 0 ms) row.id.0) as (λ t. AllByRecursion (λ q. still k q ≡ true) (cond t (remote_put (disconnect_of row.payload)) [])) [
      | true ↦ elim (disconnect_of row.payload) as (λ d. AllByRecursion (λ q. still k q ≡ true) (remote_put d)) [ None ↦ tt | Some b ↦ (refl, tt) ]
      | false ↦ tt
    ]

rows-stand : (n : ℕ) (k : Conn) (user : Option (List ℕ)) (ms : List Mark) (rows : List Row) → Valid n k → AllByRecursion (λ q. still k q ≡ true) (rows_puts user ms k.subs rows)
rows-stand n k user ms [] v = tt
rows-stand n k user ms (row ∷ rows) v =
    All-append (λ q. still k q ≡ true) (row_puts user ms k.subs row) (rows_puts user ms k.subs rows)
    (All-append (λ q. still k q ≡ true) (sub_puts ms row k.subs) (own_puts user ms row) (subs-of (λ q. still k q ≡ true) ms row 0 k.subs n v.subs (λ s w q. q)) (own-stands k user ms row))
    (rows-stand n k user ms rows v)

pub deliver-stands : (n : ℕ) (k : Conn) (user : Option (List ℕ)) (ms now : List Mark) (rows : List Row) → Valid n k → AllByRecursion (λ q. still k q ≡ true) (deliver_puts user ms now k.subs rows)
deliver-stands n k user ms now rows v =
    All-append (λ q. still k q ≡ true) (rows_puts user ms k.subs rows) (confirm_puts ms now k.subs)
    (rows-stand n k user ms rows v)
    (confirms-of (λ q. still k q ≡ true) ms now k.subs (λ s q. q))
