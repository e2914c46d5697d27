-- Which of the pieces that wait are struck where a change is made: those whose want or subscription it ends.
use Rattle.std.specs.Prelude.{ℕ, Bool, true, false, not, ◌&&◌, List, filter}
use Rattle.std.specs.List.{list_any}
use Rattle.stream_set.specs.declared.entries.StreamEntry.{StreamEntry}
use Rattle.cable_model.specs.Connection.{among}
use Rattle.cable_model.specs.Pieces.{Placed}
use Rattle.cable_model.specs.declared.pieces.Piece.{Piece}
use Rattle.cable_model.specs.declared.plans.Change.{Change}
use Rattle.cable_model.specs.declared.plans.Change.TheVariants as change
use Rattle.run_queue.specs.Inboxes.{is_row_of, is_piece_of}
use Rattle.conn_core.specs.Subscriptions.{Subscription, has_identifier}

-- the stream stops, and the piece is a row for it
abbrev pub is_row_stopped : (stops : List (List ℕ)) → StreamEntry → Piece → Bool
is_row_stopped stops entry p = among stops entry.name && is_row_of entry.want p

-- the subscription has this identifier, and the piece is a row for a stream of it that stops
abbrev pub is_stopped_in : (identifier : List ℕ) → (stops : List (List ℕ)) → Subscription → Piece → Bool
is_stopped_in identifier stops s p = has_identifier identifier s && list_any (λ entry. is_row_stopped stops entry p) s.streams

-- the subscription has this identifier, and the piece is a row or the confirmation of it
abbrev pub is_removed_with : (identifier : List ℕ) → Subscription → Piece → Bool
is_removed_with identifier s p = has_identifier identifier s && is_piece_of s.number p

-- the change ends what the piece waits for. Behind the end of the connection nothing is left to wait for
abbrev pub ends : Change → List Subscription → Piece → Bool
ends change.Nothing subs p = false
ends (change.Add identifier streams) subs p = false
ends (change.Streams identifier stops streams) subs p = list_any (λ s. is_stopped_in identifier stops s p) subs
ends (change.Remove identifier) subs p = list_any (λ s. is_removed_with identifier s p) subs
ends change.Close subs p = true

-- what goes on waiting behind a change, in its order and at its places
abbrev pub left : Change → List Subscription → List Placed → List Placed
left c subs ps = filter (λ p. not (ends c subs p.piece)) ps
