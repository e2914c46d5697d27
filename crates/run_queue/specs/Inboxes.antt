-- An inbox: the pieces that wait on a connection.
use Rattle.std.specs.Prelude.{◌≡◌, ◌<◌, ◌≤◌, ◌==◌, ◌+◌, ◌-◌, ◌^◌, ℕ, min, not, Bool, true, false, List, [], ◌∷◌, ◌++◌, filter, Option, None, Some}
use Rattle.cable_base.specs.declared.numbers.SubNo.{SubNo}
use Rattle.cable_base.specs.declared.numbers.WantNo.{WantNo}
use Rattle.cable_model.specs.declared.pieces.Piece.{Piece}
use Rattle.cable_model.specs.declared.pieces.Piece.TheVariants as piece
use Rattle.cable_model.specs.Pieces.{Placed}

-- the pieces that wait with their places, the last place that was given, the place of the last piece that was taken (0 where none was), and
-- how many pieces can be put without memory
pub record InboxQueue : Type 0 where
  pub waiting : List Placed
  pub last : ℕ
  pub taken : ℕ
  pub spare : ℕ

-- room for pieces, and places for them
abbrev pub spare_of : (len cap last : ℕ) → ℕ
spare_of len cap last = min (cap - len) (2 ^ 64 - 1 - last)

-- nothing changes but that there may be more room
pub record Keeps (old new : InboxQueue) : Type 0 where
  pub waiting : new.waiting ≡ old.waiting
  pub last : new.last ≡ old.last
  pub taken : new.taken ≡ old.taken
  pub spare : old.spare ≤ new.spare

-- a piece is put behind the others, at the next place
pub record Pushes (p : Piece) (old new : InboxQueue) : Type 0 where
  pub waiting : new.waiting ≡ old.waiting ++ record { place = old.last + 1; piece = p } ∷ []
  pub last : new.last ≡ old.last + 1
  pub taken : new.taken ≡ old.taken
  pub spare : old.spare ≤ new.spare + 1

-- the first piece is taken. Places rise
pub record Takes (place : ℕ) (p : Piece) (old new : InboxQueue) : Type 0 where
  pub waiting : old.waiting ≡ record { place = place; piece = p } ∷ new.waiting
  pub last : new.last ≡ old.last
  pub taken : new.taken ≡ place
  pub later : old.taken < place
  pub given : place ≤ old.last
  pub spare : old.spare ≤ new.spare

-- only the pieces that pass the test are left, in their order and at their places
pub record Filters (keep : Piece → Bool) (old new : InboxQueue) : Type 0 where
  pub waiting : new.waiting ≡ filter (λ p. keep p.piece) old.waiting
  pub last : new.last ≡ old.last
  pub taken : new.taken ≡ old.taken
  pub spare : old.spare ≤ new.spare

-- no piece is left, and the next one gets the place above that of the last one taken
pub record Drops (old new : InboxQueue) : Type 0 where
  pub waiting : new.waiting ≡ []
  pub last : new.last ≡ old.taken
  pub taken : new.taken ≡ old.taken
  pub spare : old.spare ≤ new.spare

-- the piece that waits longest
abbrev pub first_piece : List Placed → Option Piece
first_piece [] = None
first_piece (p ∷ ps) = Some p.piece

-- a row for this want
abbrev pub is_row_of : WantNo → Piece → Bool
is_row_of w (piece.Cmd read) = false
is_row_of w (piece.Row sub want row) = want.0 == w.0
is_row_of w (piece.Confirm sub) = false
is_row_of w (piece.Remote reconnect) = false
is_row_of w piece.Gone = false
is_row_of w piece.Restart = false

-- a row or the confirmation of this subscription
abbrev pub is_piece_of : SubNo → Piece → Bool
is_piece_of s (piece.Cmd read) = false
is_piece_of s (piece.Row sub want row) = sub.0 == s.0
is_piece_of s (piece.Confirm sub) = sub.0 == s.0
is_piece_of s (piece.Remote reconnect) = false
is_piece_of s piece.Gone = false
is_piece_of s piece.Restart = false
