-- Places rise, and commands are counted, through each change of an inbox.
use Rattle.std.proofs.Common.{◌≡◌, ℕ, zero, suc, ◌+◌, ◌-◌, ◌^◌, ◌<◌, ◌≤◌, min, cond, not, Bool, true, false, List, [], ◌∷◌, ◌++◌, length, map, refl, sym, ap, subst, ◌∙◌, arith, length-append}
use Rattle.std.specs.List.{filter}
use Rattle.std.proofs.lemmas.Bool.{false≢true}
use Rattle.std.proofs.lemmas.List.{map-append}
use Rattle.std.proofs.lemmas.List.Elements.{filter-append}
use Rattle.cable_base.specs.declared.numbers.SubNo.{SubNo}
use Rattle.cable_base.specs.declared.numbers.WantNo.{WantNo}
use Rattle.cable_model.specs.declared.pieces.Piece.{Piece}
use Rattle.cable_model.specs.declared.pieces.Piece.TheVariants as piece
use Rattle.cable_model.specs.Pieces.{Placed}
use Rattle.cable_model.specs.Possible.{is_command}
use Rattle.run_queue.specs.declared.inboxes.Taken.{Taken}
use Rattle.run_queue.specs.Inboxes.{InboxQueue, Filters, spare_of, is_row_of, is_piece_of}
use Rattle.run_queue.specs.Inside.{placed, Rises, commands_in, IsInbox}

-- ---- places

Rises-within : (b : ℕ) (ts : List Taken) (e : ℕ) → Rises b ts e → length ts + b ≤ e
Rises-within b [] e h = omega arith
Rises-within b (t ∷ ts) e h = let r = Rises-within t.place ts e h.1 in omega (arith, h.0)

Rises-from : (a b : ℕ) (ts : List Taken) (e : ℕ) → a ≤ b → Rises b ts e → Rises a ts e
Rises-from a b [] e l h = omega arith
Rises-from a b (t ∷ ts) e l h = (omega (arith, h.0), h.1)

Rises-push : (b : ℕ) (ts : List Taken) (e : ℕ) (t : Taken) → Rises b ts e → t.place ≡ e + 1 → Rises b (ts ++ t ∷ []) (e + 1)
Rises-push b [] e t h n = (omega arith, omega arith)
Rises-push b (x ∷ ts) e t h n = (h.0, Rises-push x.place ts e t h.1 n)

Rises-filter : (keep : Taken → Bool) (b : ℕ) (ts : List Taken) (e : ℕ) → Rises b ts e → Rises b (filter keep ts) e
Rises-filter keep b [] e h = h
Rises-filter keep b (t ∷ ts) e h = go (keep t) (Rises-filter keep t.place ts e h.1)
  where
    go : (x : Bool) → Rises t.place (filter keep ts) e → Rises b (cond x (t ∷ filter keep ts) (filter keep ts)) e
    go true r = (h.0, r)
    go false r = Rises-from b t.place (filter keep ts) e (omega (arith, h.0)) r

-- ---- commands

commands-most : (ts : List Taken) → commands_in ts ≤ length ts
commands-most [] = omega arith
commands-most (t ∷ ts) = go (is_command t.piece) (commands-most ts)
  where
    go : (b : Bool) → commands_in ts ≤ length ts → length (cond b (t ∷ filter (λ t. is_command t.piece) ts) (filter (λ t. is_command t.piece) ts)) ≤ suc (length ts)
    go true r = omega arith
    go false r = omega arith

commands-one : (t : Taken) → commands_in (t ∷ []) ≡ cond (is_command t.piece) 1 0
commands-one t = go (is_command t.piece)
  where
    go : (b : Bool) → length (cond b (t ∷ []) []) ≡ cond b 1 0
    go true = refl
    go false = refl

commands-push : (ts : List Taken) (t : Taken) → commands_in (ts ++ t ∷ []) ≡ commands_in ts + cond (is_command t.piece) 1 0
commands-push ts t =
    ap length (filter-append (λ (t : Taken). is_command t.piece) ts (t ∷ []))
    ∙ (length-append (filter (λ (t : Taken). is_command t.piece) ts) (filter (λ (t : Taken). is_command t.piece) (t ∷ [])) ∙ ap (λ n. commands_in ts + n) (commands-one t))

-- a filter that keeps all commands keeps their number
commands-filter : (keep : Taken → Bool) → ((t : Taken) → is_command t.piece ≡ true → keep t ≡ true) → (ts : List Taken) → commands_in (filter keep ts) ≡ commands_in ts
commands-filter keep all [] = refl
commands-filter keep all (t ∷ ts) = go (keep t) (is_command t.piece) refl (all t) (commands-filter keep all ts)
  where
    C : List Taken → List Taken
    C = filter (λ t. is_command t.piece)

    go : (b c : Bool) → is_command t.piece ≡ c → (c ≡ true → b ≡ true) → commands_in (filter keep ts) ≡ commands_in ts → commands_in (cond b (t ∷ filter keep ts) (filter keep ts)) ≡ length (cond c (t ∷ filter (λ t. is_command t.piece) ts) (filter (λ t. is_command t.piece) ts))
    go true true e i r = rw e (ap suc r)
    go true false e i r = rw e r
    go false true e i r = absurd (false≢true (i refl))
    go false false e i r = r

pub at_most_one : (b : Bool) (n : ℕ) → n ≡ cond b 1 0 → n ≤ 1
at_most_one true n e = omega arith
at_most_one false n e = omega arith

pub command_fits : (ts : List Taken) (commands last taken n : ℕ) → IsInbox ts commands last taken → last < 2 ^ 64 - 1 → n ≤ 1 → commands + n < 2 ^ 64
command_fits ts commands last taken n k l m = omega (arith, commands-most ts, Rises-within taken ts last k.places, k.counted)

pub IsInbox-push : (ts same new : List Taken) (commands last taken n : ℕ) (t : Taken) → IsInbox ts commands last taken → same ≡ ts → t.place ≡ last + 1 → n ≡ cond (is_command t.piece) 1 0 → new ≡ same ++ t ∷ [] → IsInbox new (commands + n) (last + 1) taken
IsInbox-push ts same new commands last taken n t k s p is e =
    rw (e, s, is) (record { places = Rises-push taken ts last t k.places p; counted = ap (λ m. m + cond (is_command t.piece) 1 0) k.counted ∙ sym (commands-push ts t) })

pub IsInbox-filter : (keep : Piece → Bool) (ts new : List Taken) (commands last taken : ℕ) → ((p : Piece) → is_command p ≡ true → keep p ≡ true) → IsInbox ts commands last taken → new ≡ filter (λ t. keep t.piece) ts → IsInbox new commands last taken
IsInbox-filter keep ts new commands last taken all k e =
    rw e (record { places = Rises-filter (λ t. keep t.piece) taken ts last k.places; counted = k.counted ∙ sym (commands-filter (λ t. keep t.piece) (λ t. all t.piece) ts) })

-- ---- as the list that contracts see

waiting-filter : (keep : Piece → Bool) (ts : List Taken) → map placed (filter (λ t. keep t.piece) ts) ≡ filter (λ p. keep p.piece) (map placed ts)
waiting-filter keep [] = refl
waiting-filter keep (t ∷ ts) = go (keep t.piece) (waiting-filter keep ts)
  where
    go : (b : Bool) → map placed (filter (λ t. keep t.piece) ts) ≡ filter (λ p. keep p.piece) (map placed ts)
        → map placed (cond b (t ∷ filter (λ t. keep t.piece) ts) (filter (λ t. keep t.piece) ts)) ≡ cond b (placed t ∷ filter (λ p. keep p.piece) (map placed ts)) (filter (λ p. keep p.piece) (map placed ts))
    go true r = ap (λ ps. placed t ∷ ps) r
    go false r = r

pub waiting_counted : (ts : List Taken) → commands_in ts ≡ length (filter is_command (map (λ (p : Placed). p.piece) (map placed ts)))
waiting_counted [] = refl
waiting_counted (t ∷ ts) = go (is_command t.piece) (waiting_counted ts)
  where
    go : (b : Bool) → commands_in ts ≡ length (filter is_command (map (λ (p : Placed). p.piece) (map placed ts)))
        → length (cond b (t ∷ filter (λ t. is_command t.piece) ts) (filter (λ t. is_command t.piece) ts)) ≡ length (cond b (t.piece ∷ filter is_command (map (λ (p : Placed). p.piece) (map placed ts))) (filter is_command (map (λ (p : Placed). p.piece) (map placed ts))))
    go true r = ap suc r
    go false r = r

-- ---- room

pub spare-more : (len cap last len' cap' last' : ℕ) → len' ≤ len → cap ≤ cap' → last' ≤ last → spare_of len cap last ≤ spare_of len' cap' last'
spare-more len cap last len' cap' last' l c e = omega arith

pub last_taken : (ts : List Taken) (commands last taken : ℕ) → IsInbox ts commands last taken → taken ≤ last
last_taken ts commands last taken k = let r = Rises-within taken ts last k.places in omega arith

pub waiting_filtered : (keep : Piece → Bool) (ts new : List Taken) → new ≡ filter (λ t. keep t.piece) ts → map placed new ≡ filter (λ p. keep p.piece) (map placed ts)
waiting_filtered keep ts new e = ap (map placed) e ∙ waiting-filter keep ts

pub commands_stay_want : (w : WantNo) (p : Piece) → is_command p ≡ true → not (is_row_of w p) ≡ true
commands_stay_want w (piece.Cmd read) h = refl
commands_stay_want w (piece.Row sub want row) h = absurd (false≢true h)
commands_stay_want w (piece.Confirm sub) h = refl
commands_stay_want w (piece.Remote reconnect) h = refl
commands_stay_want w piece.Gone h = refl
commands_stay_want w piece.Restart h = refl

pub commands_stay_sub : (s : SubNo) (p : Piece) → is_command p ≡ true → not (is_piece_of s p) ≡ true
commands_stay_sub s (piece.Cmd read) h = refl
commands_stay_sub s (piece.Row sub want row) h = absurd (false≢true h)
commands_stay_sub s (piece.Confirm sub) h = absurd (false≢true h)
commands_stay_sub s (piece.Remote reconnect) h = refl
commands_stay_sub s piece.Gone h = refl
commands_stay_sub s piece.Restart h = refl

-- ---- the first piece

pub first_place : (ts rest : List Taken) (t : Taken) (commands last taken : ℕ) → IsInbox ts commands last taken → ts ≡ t ∷ rest → taken < t.place
first_place ts rest t commands last taken k e = (subst (λ xs. Rises taken xs last) e k.places).0

pub last_place : (ts rest : List Taken) (t : Taken) (commands last taken : ℕ) → IsInbox ts commands last taken → ts ≡ t ∷ rest → t.place ≤ last
last_place ts rest t commands last taken k e = let r = Rises-within t.place rest last (subst (λ xs. Rises taken xs last) e k.places).1 in omega arith
