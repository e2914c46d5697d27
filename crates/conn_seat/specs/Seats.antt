-- One connection on its node as its calls show it, and what each call makes of it.
use Rattle.std.specs.Prelude.{◌≡◌, ◌≤◌, ◌<◌, ◌+◌, ◌-◌, ◌^◌, ℕ, Bool, true, false, cond, not, ◌&&◌, List, [], ◌∷◌, ◌++◌, Option, None, Some, is_some}
use Rattle.cable_base.specs.declared.numbers.SubNo.{SubNo}
use Rattle.cable_base.specs.declared.numbers.WantNo.{WantNo}
use Rattle.cable_model.specs.declared.pieces.Piece.{Piece}
use Rattle.cable_model.specs.declared.plans.Change.{Change}
use Rattle.cable_model.specs.declared.plans.Change.TheVariants as change
use Rattle.cable_model.specs.Pieces.{Placed, is_closing}
use Rattle.cable_model.specs.Possible.{is_empty}
use Rattle.cable_model.specs.Wants.{makes}
use Rattle.run_queue.specs.Inboxes.{InboxQueue}
use Rattle.conn_core.specs.Subscriptions.{Subscription}
use Rattle.conn_core.specs.Connections.{CanApply, applied, over_behind}
use Rattle.conn_seat.specs.Ends.{left}

pub record Seated : Type 0 where
  pub user : List ℕ
  -- the subscriptions, in the order in which they were made
  pub subs : List Subscription
  -- a closing piece was worked
  pub over : Bool
  -- the pieces that wait, with their places
  pub waiting : List Placed
  -- the place of the last piece that was put, and of the last one that was taken: 0 where none was
  pub last : ℕ
  pub taken : ℕ
  -- the piece that is out as a job
  pub job : Option Placed
  -- a closing piece was put
  pub closing : Bool
  -- how many wants it ever made
  pub made : ℕ
  -- the change that room was made for
  pub reserved : Option Change
  -- how many pieces can be put without memory
  pub spare : ℕ

-- the connection becomes this one, perhaps with more room
pub record Becomes (v new : Seated) : Type 0 where
  pub now : new ≡ record v { spare = new.spare }
  pub spare : v.spare ≤ new.spare

-- nothing was put on it
abbrev pub vacant : (user : List ℕ) → Seated
vacant user = record { user = user; subs = []; over = false; waiting = []; last = 0; taken = 0; job = None; closing = false; made = 0; reserved = None; spare = 0 }

-- pieces can be put on it
abbrev pub is_receiving_now : Seated → Bool
is_receiving_now v = not v.over && not v.closing

-- no job is out, it isn't over, and a piece waits
abbrev pub may_take_now : Seated → Bool
may_take_now v = not (is_some v.job) && (not v.over && not (is_empty v.waiting))

-- a piece waits last, at the next place. It is passed over where a closing piece was put
abbrev pub with_piece : Piece → Seated → Seated
with_piece p v =
    cond v.closing v
    (record v { waiting = v.waiting ++ record { place = v.last + 1; piece = p } ∷ []; last = v.last + 1; closing = is_closing p; spare = v.spare - 1 })

-- the first of these pieces is out as a job
abbrev pub with_first : List Placed → Seated → Seated
with_first [] v = v
with_first (p ∷ ps) v = record v { waiting = ps; taken = p.place; job = Some p }

abbrev pub with_taken : Seated → Seated
with_taken v = cond (may_take_now v) (with_first v.waiting v) v

abbrev pub place_of : Option Placed → ℕ
place_of None = 0
place_of (Some p) = p.place

-- the number that a subscription of the job gets: the job's place
abbrev pub sub_out : Seated → SubNo
sub_out v = record { 0 = place_of v.job }

-- the number of the next want
abbrev pub next_want : Seated → WantNo
next_want v = record { 0 = v.made + 1 }

-- behind the end no place is given, so that the last one is that of the closing piece
abbrev pub last_behind : Change → (taken last : ℕ) → ℕ
last_behind change.Nothing taken last = last
last_behind (change.Add identifier streams) taken last = last
last_behind (change.Streams identifier stops streams) taken last = last
last_behind (change.Remove identifier) taken last = last
last_behind change.Close taken last = taken

-- the change of the job's plan is made, and the job is done
abbrev pub with_change : Change → Seated → Seated
with_change c v =
    record v {
      subs = applied c (sub_out v) (next_want v) v.subs;
      over = over_behind c v.over;
      waiting = left c v.subs v.waiting;
      last = last_behind c v.taken v.last;
      job = None;
      made = v.made + makes c;
      reserved = None;
    }

-- when the change of a job's plan can be made: a job is out, room was made for the change, and the numbers that it gives are new
pub record CanFinish (c : Change) (v : Seated) : Type 0 where
  pub out : is_some v.job ≡ true
  pub reserved : v.reserved ≡ Some c
  pub numbers : v.made + makes c < 2 ^ 64 - 1
  pub can : CanApply c (sub_out v) (next_want v) v.subs

-- what making a change strikes from an inbox
pub record Strikes (c : Change) (subs : List Subscription) (old new : InboxQueue) : Type 0 where
  pub waiting : new.waiting ≡ left c subs old.waiting
  pub last : new.last ≡ last_behind c old.taken old.last
  pub taken : new.taken ≡ old.taken
  pub spare : old.spare ≤ new.spare
