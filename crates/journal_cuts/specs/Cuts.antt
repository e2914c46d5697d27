-- What a journal says of one connection and of its node, and a journal that begins again.
use Rattle.std.specs.Prelude.{ℕ, ◌≡◌, true, false, List, [], ◌∷◌, None}
use Rattle.cable_model.specs.Steps.{Step}
use Rattle.cable_model.specs.Wants.{at_ask, lower, made, marks, user_of}
use Rattle.cable_model.specs.Pieces.{seat, unseated}
use Rattle.cable_model.specs.Plans.{Callbacks}
use Rattle.cable_model.specs.Possible.{can_arrive, can_ask, can_beat, can_drop, can_open, can_put_command, can_stop, can_take}
use Rattle.cable_model.specs.Possible.{is_booted, is_live, is_opened, is_out, is_over, is_receiving, job_plan, last_turn, live_count, was_asked}
use Rattle.cable_model.specs.History.{held_of}
use Rattle.cable_model.specs.Transcript.{queued}
use Rattle.cable_model.specs.Window.{finished}

-- the first journal says of c what the second one says
pub record SaysSame (c : ℕ) (now past : List Step) : Type 0 where
  pub opened_is : is_opened c now ≡ is_opened c past
  pub user_is : user_of c now ≡ user_of c past
  -- all pieces, which were taken and finished, and the subscriptions with their wants
  pub seat_is : seat c now ≡ seat c past
  -- how many wants were made, and the turns that took them: so which wait for a turn, and the mark of each hold
  pub made_is : made c now ≡ made c past
  pub marks_is : marks c now ≡ marks c past
  -- what it holds, and what it held when the last turn was asked, which found these wants made
  pub held_is : held_of c now ≡ held_of c past
  pub asked_user : user_of c (at_ask now) ≡ user_of c (at_ask past)
  pub asked_made : made c (at_ask now) ≡ made c (at_ask past)
  pub asked_held : held_of c (at_ask now) ≡ held_of c (at_ask past)
  -- what was queued on it, and the rows finished for each want of it
  pub queued_is : queued c now ≡ queued c past
  pub finished_is : (s w : ℕ) → finished c s w now ≡ finished c s w past

-- so what a node answers of c is the same
pub record AnswersSame (c : ℕ) (now past : List Step) : Type 0 where
  pub live : is_live c now ≡ is_live c past
  pub over : is_over c now ≡ is_over c past
  pub receiving : is_receiving c now ≡ is_receiving c past
  pub arrives : can_arrive c now ≡ can_arrive c past
  pub puts : (text : List ℕ) → can_put_command c text now ≡ can_put_command c text past
  pub drops : can_drop c now ≡ can_drop c past
  pub takes : can_take c now ≡ can_take c past
  pub plan : (r : Callbacks) → job_plan r c now ≡ job_plan r c past

-- the first journal says of the node's turns what the second one says
pub record TurnsSame (now past : List Step) : Type 0 where
  pub lower_is : lower now ≡ lower past
  pub out : is_out now ≡ is_out past
  pub turn : last_turn now ≡ last_turn past
  pub asked : was_asked now ≡ was_asked past

-- the journal says of d what one says that never opened it
pub record SaysNothing (d : ℕ) (past : List Step) : Type 0 where
  pub unopened : is_opened d past ≡ false
  pub user : user_of d past ≡ None
  pub unseated_is : seat d past ≡ unseated
  pub wants : made d past ≡ 0
  pub unmarked : marks d past ≡ []
  pub unheld : held_of d past ≡ []
  -- the turn that was asked last finds no want of it
  pub unasked : user_of d (at_ask past) ≡ None
  pub unqueued : queued d past ≡ []
  pub unfinished : (s w : ℕ) → finished d s w past ≡ []

-- ---- a journal that begins again

-- one that begins where this one stands
abbrev pub begun_again : List Step → List Step
begun_again past = Step.Boot (lower past) ∷ []

-- the node was booted, no connection of it is live, and no turn is out
pub record IsAtRest (past : List Step) : Type 0 where
  pub booted : is_booted past ≡ true
  pub live : live_count past ≡ 0
  pub out : is_out past ≡ false

-- the first journal says of the node what is left of it: where the next turn begins, and what can happen
pub record SaysWhatIsLeft (now past : List Step) : Type 0 where
  pub lower_is : lower now ≡ lower past
  pub out : is_out now ≡ is_out past
  pub live : (c : ℕ) → is_live c now ≡ is_live c past
  pub arrives : (c : ℕ) → can_arrive c now ≡ can_arrive c past
  pub drops : (c : ℕ) → can_drop c now ≡ can_drop c past
  pub takes : (c : ℕ) → can_take c now ≡ can_take c past
  pub plan : (r : Callbacks) (c : ℕ) → job_plan r c now ≡ job_plan r c past
  pub holds : (c : ℕ) → held_of c now ≡ held_of c past
  -- that a number was used it doesn't say
  pub opens : (c : ℕ) → is_opened c past ≡ false → can_open c now ≡ can_open c past
  pub stops : can_stop now ≡ can_stop past
  pub asks : can_ask now ≡ can_ask past
  pub beats : can_beat now ≡ can_beat past
