-- The list of wants that turns are to take, and which confirmations come with those that the turn out takes.
use Rattle.std.specs.Prelude.{◌&&◌, ℕ, Bool, false, cond, not, filter, List, [], ◌∷◌, Option, None, Some}
use Rattle.std.specs.List.{list_any}
use Rattle.cable_model.specs.declared.pieces.Piece.TheVariants as piece
use Rattle.conn_core.specs.Subscriptions.{has_number}
use Rattle.conn_seat.specs.Seats.{Seated}
use Rattle.node_seats.specs.declared.turning.Delivery.{Delivery}
use Rattle.node_seats.specs.declared.turning.Wanted.{Wanted}
use Rattle.node_seats.specs.Numbers.{Numbers, seat_at}
use Rattle.node_seats.specs.Turned.{is_by}

-- the wants in order, how many of the first the turn out takes, and how many more can be put without memory
pub record WantsState : Type 0 where
  pub wanted : List Wanted
  pub taken : ℕ
  pub spare : ℕ

-- those that are not of the connection c, in order
abbrev pub wanted_but : ℕ → List Wanted → List Wanted
wanted_but c ws = filter (λ w. not (is_by c w)) ws

abbrev pub stands_in : Wanted → Option Seated → Bool
stands_in w None = false
stands_in w (Some s) = list_any (has_number w.sub) s.subs

-- the confirmations that are due with these wants, where their subscriptions still stand
abbrev pub confirms_of : Numbers → List Wanted → List Delivery
confirms_of v [] = []
confirms_of v (w ∷ ws) =
    cond (w.confirms && stands_in w (seat_at w.conn.0 v)) (record { conn = w.conn; piece = piece.Confirm w.sub } ∷ confirms_of v ws) (confirms_of v ws)
