-- What is promised of a connection's pieces: they are worked one at a time, in their order, and what waits is kept call by call.
use Rattle.std.specs.Prelude.{ℕ, suc, ◌≡◌, ◌≤◌, ◌<◌, true, false, List, [], ◌∷◌, ◌++◌, drop, filter, length, take, Some, slice_get}
use Rattle.std.specs.List.{AllByRecursion}
use Rattle.cable_base.specs.declared.rows.Row.{Row}
use Rattle.cable_model.specs.declared.pieces.Piece.{Piece}
use Rattle.cable_model.specs.declared.plans.Plan.{Plan}
use Rattle.cable_model.specs.Steps.{Step}
use Rattle.cable_model.specs.Connection.{Planner, fold, still}
use Rattle.cable_model.specs.Wants.{Mark, marks, user_of}
use Rattle.cable_model.specs.Pieces.{Placed, seat, closing, deliver_puts, numbered, waiting, with_all, with_job, with_plan}
use Rattle.cable_model.specs.Possible.{has_job}
use Rattle.cable_model.specs.Window.{finished, job, live}

-- the pieces of c are worked in sequence
pub record InSequence (pl : Planner) (c : ℕ) (past : List Step) : Type 0 where
  -- the connection is the fold of all pieces up to the last one finished, those that were passed over among them
  pub folded : (seat c past).conn ≡ fold pl (take (seat c past).done (seat c past).pieces)
  -- no piece is finished before it is taken, nor taken before it is put
  pub finished_taken : (seat c past).done ≤ (seat c past).taken
  pub taken_put : (seat c past).taken ≤ length (seat c past).pieces
  -- a piece behind the last finished one and before the one that is out is passed over ..
  pub skipped : (index : ℕ) (p : Piece) → (seat c past).done ≤ index → suc index < (seat c past).taken → slice_get (seat c past).pieces index ≡ Some p → still (seat c past).conn p ≡ false
  -- .. and the one that is out is not
  pub stands : has_job (seat c past) ≡ true → (p : Piece) × (job (seat c past) ≡ Some p) × (still (seat c past).conn p ≡ true)
  -- what was finished for a want is its rows among the pieces up to the last one finished, but for those passed over
  pub rows : (s w : ℕ) → finished c s w past ≡ live pl s w (take (seat c past).done (seat c past).pieces)
  -- once a closing piece is worked, no subscription is left
  pub closed : closing (seat c past).pieces ≡ true → (fold pl (seat c past).pieces).subs ≡ []

-- the inbox of c, call by call
pub record InboxKept (c : ℕ) (past : List Step) : Type 0 where
  -- pieces that are put wait behind the others, each under its place, where they stand
  pub put : (qs : List Piece)
      → waiting (with_all (seat c past) qs)
      ≡ waiting (seat c past) ++ filter (λ p. still (seat c past).conn p.piece) (drop (length (seat c past).pieces) (numbered 0 (with_all (seat c past) qs).pieces))
  -- a Take takes the first that waits, and the others go on waiting
  pub taken : has_job (seat c past) ≡ false → (p : Placed) (ps : List Placed) → waiting (seat c past) ≡ p ∷ ps
      → ((with_job (seat c past)).taken ≡ p.place) × (waiting (with_job (seat c past)) ≡ ps)
  -- a Finish strikes exactly the pieces that are passed over from then on
  pub struck : has_job (seat c past) ≡ true → (plan : Plan)
      → waiting (with_plan (seat c past) plan) ≡ filter (λ p. still (with_plan (seat c past) plan).conn p.piece) (waiting (seat c past))
  -- what a Deliver puts stands, so that all of it waits
  pub delivered : (now : List Mark) (rows : List Row)
      → AllByRecursion (λ q. still (seat c past).conn q ≡ true) (deliver_puts (user_of c past) (marks c past) now (seat c past).conn.subs rows)
