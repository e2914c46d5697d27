-- When an event of a node is possible: one test for each kind, over the node's journal.
use Rattle.std.specs.Prelude.{ℕ, ◌==◌, Bool, true, false, cond, not, ◌&&◌, List, [], ◌∷◌, length, drop, filter, Option, None, Some, is_some, ltb, leb}
use Rattle.std.specs.List.{list_any}
use Rattle.cable_base.specs.declared.numbers.RowId.{RowId}
use Rattle.cable_model.specs.declared.pieces.Piece.{Piece}
use Rattle.cable_model.specs.declared.pieces.Piece.TheVariants as piece
use Rattle.cable_model.specs.declared.plans.Plan.{Plan}
use Rattle.cable_model.specs.Limits.{most_text, most_waiting, most_connections}
use Rattle.cable_model.specs.Steps.{Step, Open, Ask, Deliver}
use Rattle.cable_model.specs.Connection.{Conn}
use Rattle.cable_model.specs.Wants.{user_of}
use Rattle.cable_model.specs.Pieces.{Seat, seat, waiting, closing}
use Rattle.cable_model.specs.Plans.{Callbacks, plan_of}
use Rattle.cable_model.specs.Window.{job}

-- ---- connections

-- the number among these, which rise
abbrev pub inserted : ℕ → List ℕ → List ℕ
inserted c [] = c ∷ []
inserted c (d ∷ ds) = cond (ltb d c) (d ∷ inserted c ds) (c ∷ d ∷ ds)

-- the connections that were opened on the node, by rising number
abbrev pub opened : List Step → List ℕ
opened [] = []
opened (Open c token user ∷ past) = inserted c (opened past)
opened (_ ∷ past) = opened past

abbrev pub is_opened : ℕ → List Step → Bool
is_opened c past = list_any (λ d. d == c) (opened past)

-- opened with a user, and no closing piece is finished
abbrev pub is_live : ℕ → List Step → Bool
is_live c past = is_some (user_of c past) && not (seat c past).conn.over

-- opened and no longer live. A connection that was refused is over at once
abbrev pub is_over : ℕ → List Step → Bool
is_over c past = is_opened c past && not (is_live c past)

-- live and not closing: pieces can be put on it
abbrev pub is_receiving : ℕ → List Step → Bool
is_receiving c past = is_live c past && not (closing (seat c past).pieces)

-- the live connections of the node, by rising number
abbrev pub live_conns : List Step → List ℕ
live_conns past = filter (λ c. is_live c past) (opened past)

abbrev pub live_count : List Step → ℕ
live_count past = length (live_conns past)

-- those of them that aren't closing
abbrev pub receiving : List Step → List ℕ
receiving past = filter (λ c. is_receiving c past) (opened past)

-- ---- commands

abbrev pub is_command : Piece → Bool
is_command (piece.Cmd read) = true
is_command (piece.Row sub want row) = false
is_command (piece.Confirm sub) = false
is_command (piece.Remote reconnect) = false
is_command piece.Gone = false
is_command piece.Restart = false

-- how many commands wait: none of them is ever passed over
abbrev pub waiting_commands : Seat → ℕ
waiting_commands s = length (filter is_command (drop s.taken s.pieces))

abbrev pub is_too_long : List ℕ → Bool
is_too_long text = ltb most_text (length text)

abbrev pub is_busy : ℕ → List Step → Bool
is_busy c past = leb most_waiting (waiting_commands (seat c past))

-- ---- jobs

-- a piece was taken that isn't finished
abbrev pub has_job : Seat → Bool
has_job s = ltb s.done s.taken

abbrev pub is_empty : {A : Type 0} → List A → Bool
is_empty [] = true
is_empty (_ ∷ _) = false

abbrev pub planned : Callbacks → Option (List ℕ) → Conn → Option Piece → Option Plan
planned r None k p = None
planned r (Some user) k None = None
planned r (Some user) k (Some p) = Some (plan_of r user k p)

-- the plan of the job that is out
abbrev pub job_plan : Callbacks → ℕ → List Step → Option Plan
job_plan r c past = cond (has_job (seat c past)) (planned r (user_of c past) (seat c past).conn (job (seat c past))) None

-- the plan has more casts than commits were made for it
abbrev pub has_cast_left : List (Option RowId) → Option Plan → Bool
has_cast_left puts None = false
has_cast_left puts (Some plan) = ltb (length puts) (length plan.casts)

-- it has not
abbrev pub has_no_cast_left : List (Option RowId) → Option Plan → Bool
has_no_cast_left puts None = false
has_no_cast_left puts (Some plan) = not (ltb (length puts) (length plan.casts))

-- ---- turns

abbrev pub is_booted : List Step → Bool
is_booted past = not (is_empty past)

-- a turn is out: it was asked and isn't delivered
abbrev pub is_out : List Step → Bool
is_out [] = false
is_out (Ask turn ∷ past) = true
is_out (Deliver turn note ∷ past) = false
is_out (_ ∷ past) = is_out past

-- the number of the last turn, 0 where none was asked. It is the stored one, and never counted
abbrev pub last_turn : List Step → ℕ
last_turn [] = 0
last_turn (Ask turn ∷ past) = turn
last_turn (_ ∷ past) = last_turn past

-- a turn was asked
abbrev pub was_asked : List Step → Bool
was_asked [] = false
was_asked (Ask turn ∷ past) = true
was_asked (_ ∷ past) = was_asked past

-- ---- the tests

abbrev pub can_open : ℕ → List Step → Bool
can_open c past = is_booted past && not (is_opened c past) && ltb (live_count past) most_connections

-- a text may arrive. One that is too long, or met by too many waiting commands, is noted
abbrev pub can_arrive : ℕ → List Step → Bool
can_arrive c past = is_receiving c past

-- it may arrive, and is put
abbrev pub can_put_command : ℕ → List ℕ → List Step → Bool
can_put_command c text past = can_arrive c past && not (is_too_long text) && not (is_busy c past)

abbrev pub can_drop : ℕ → List Step → Bool
can_drop c past = is_receiving c past

abbrev pub can_stop : List Step → Bool
can_stop past = is_booted past

abbrev pub can_take : ℕ → List Step → Bool
can_take c past = is_live c past && not (has_job (seat c past)) && not (is_empty (waiting (seat c past)))

-- `puts` are those that were made for the job
abbrev pub can_put : Callbacks → ℕ → List (Option RowId) → List Step → Bool
can_put r c puts past = has_cast_left puts (job_plan r c past)

abbrev pub can_finish : Callbacks → ℕ → List (Option RowId) → List Step → Bool
can_finish r c puts past = has_no_cast_left puts (job_plan r c past)

abbrev pub can_ask : List Step → Bool
can_ask past = is_booted past && not (is_out past)

abbrev pub can_beat : List Step → Bool
can_beat past = is_booted past
