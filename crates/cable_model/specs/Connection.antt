-- One connection in sequence: its subscriptions, and what the pieces worked on it make of them.
use Rattle.std.specs.Prelude.{ℕ, suc, ◌+◌, ◌==◌, Bool, true, false, cond, not, List, [], ◌∷◌, ◌++◌, map, length, filter, Option, None, Some, Result, bytes_eq, is_some}
use Rattle.std.specs.List.{list_any}
use Rattle.cable_json.specs.declared.commands.Command.{Command}
use Rattle.cable_json.specs.declared.commands.CommandFault.{CommandFault}
use Rattle.cable_model.specs.declared.pieces.Piece.{Piece}
use Rattle.cable_model.specs.declared.pieces.Piece.TheVariants as piece
use Rattle.cable_model.specs.declared.plans.Change.{Change}
use Rattle.cable_model.specs.declared.plans.Change.TheVariants as change

-- a stream that was wanted, under its number. The wants of a connection are numbered from 1 in the order in which they are made
pub record Want : Type 0 where
  pub name : List ℕ
  pub number : ℕ

-- a subscription. Its number is the place of its Subscribe among the connection's pieces. `due` is the number of the first want that its
-- Subscribe made, if it made one: the turn that takes this want takes the confirmation, whether the want still stands or not
pub record Sub : Type 0 where
  pub number : ℕ
  pub identifier : List ℕ
  pub wants : List Want
  pub due : Option ℕ

-- a connection: its subscriptions in the order in which they were made, how many wants it ever made, and whether it was closed
pub record Conn : Type 0 where
  pub subs : List Sub
  pub made : ℕ
  pub over : Bool

abbrev pub fresh : Conn
fresh = record { subs = []; made = 0; over = false }

-- these names as wants, numbered above n
abbrev pub wanted : ℕ → List (List ℕ) → List Want
wanted n [] = []
wanted n (name ∷ names) = record { name = name; number = n + 1 } ∷ wanted (n + 1) names

abbrev pub first_above : ℕ → List (List ℕ) → Option ℕ
first_above n [] = None
first_above n (_ ∷ _) = Some (n + 1)

abbrev pub among : List (List ℕ) → List ℕ → Bool
among names name = list_any (λ n. bytes_eq n name) names

-- the subscription without the wants of these names
abbrev pub without : List (List ℕ) → List Want → List Want
without stops wants = filter (λ w. not (among stops w.name)) wants

-- the stops end first, then the streams are wanted
abbrev pub streamed : ℕ → List ℕ → List (List ℕ) → List (List ℕ) → Sub → Sub
streamed n identifier stops streams s =
    cond (bytes_eq s.identifier identifier) (record { number = s.number; identifier = s.identifier; wants = without stops s.wants ++ wanted n streams; due = s.due }) s

-- what a plan's change makes of a connection, where the piece stands at this place
abbrev pub changed : Change → ℕ → Conn → Conn
changed change.Nothing place k = k
changed (change.Add identifier streams) place k =
    record {
      subs = k.subs ++ record { number = place; identifier = identifier; wants = wanted k.made streams; due = first_above k.made streams } ∷ [];
      made = k.made + length streams;
      over = k.over;
    }
changed (change.Streams identifier stops streams) place k =
    record { subs = map (streamed k.made identifier stops streams) k.subs; made = k.made + length streams; over = k.over }
changed (change.Remove identifier) place k = record { subs = filter (λ s. not (bytes_eq s.identifier identifier)) k.subs; made = k.made; over = k.over }
changed change.Close place k = record { subs = []; made = k.made; over = true }

-- what a command changes, read at a place on a connection. For a history the callbacks say it, for a stored journal its plans
abbrev pub Planner : Type 0
Planner = ℕ → Conn → Result Command CommandFault → Change

-- what a piece changes
abbrev pub change_of : Planner → ℕ → Conn → Piece → Change
change_of pl place k (piece.Cmd read) = pl place k read
change_of pl place k (piece.Row sub want row) = change.Nothing
change_of pl place k (piece.Confirm sub) = change.Nothing
change_of pl place k (piece.Remote reconnect) = change.Close
change_of pl place k piece.Gone = change.Close
change_of pl place k piece.Restart = change.Close

abbrev pub worked : Planner → ℕ → Conn → Piece → Conn
worked pl place k p = changed (change_of pl place k p) place k

-- the connection after these pieces, the first of which stands at the place behind n
abbrev pub fold_from : Planner → ℕ → Conn → List Piece → Conn
fold_from pl n k [] = k
fold_from pl n k (p ∷ ps) = fold_from pl (suc n) (worked pl (suc n) k p) ps

-- the connection after these pieces, each worked in order
abbrev pub fold : Planner → List Piece → Conn
fold pl ps = fold_from pl 0 fresh ps

-- the name of the want w among these
abbrev pub want_in : ℕ → List Want → Option (List ℕ)
want_in w [] = None
want_in w (x ∷ xs) = cond (x.number == w) (Some x.name) (want_in w xs)

abbrev pub name_in : ℕ → ℕ → List Sub → Option (List ℕ)
name_in s w [] = None
name_in s w (x ∷ xs) = cond (x.number == s) (want_in w x.wants) (name_in s w xs)

-- the name of the want w of the subscription s, where that want stands
abbrev pub name_of : ℕ → ℕ → Conn → Option (List ℕ)
name_of s w k = name_in s w k.subs

abbrev pub stands_want : ℕ → ℕ → Conn → Bool
stands_want s w k = is_some (name_of s w k)

abbrev pub stands_sub : ℕ → Conn → Bool
stands_sub s k = list_any (λ x. x.number == s) k.subs

-- a piece that isn't passed over: a row whose want no longer stands is, and a confirmation whose subscription no longer stands
abbrev pub still : Conn → Piece → Bool
still k (piece.Cmd read) = true
still k (piece.Row sub want row) = stands_want sub.0 want.0 k
still k (piece.Confirm sub) = stands_sub sub.0 k
still k (piece.Remote reconnect) = true
still k piece.Gone = true
still k piece.Restart = true
