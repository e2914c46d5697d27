-- Worked cases, computed: the calls of a node as the entries of its journal, two connections of which one is cut, and a journal that begins again.
use Rattle.std.proofs.Common.{◌≡◌, refl, ℕ, Bool, true, false, List, [], ◌∷◌, Some, length, ◌&&◌, not, ltb, arith}
use Rattle.std.proofs.lemmas.Bool.Decides.{nat_tests}
use Rattle.std.specs.Prelude.{codes}
use Rattle.cable_model.specs.declared.journals.ReadNote.{ReadNote}
use Rattle.cable_model.specs.declared.notes.Note.TheVariants as note
use Rattle.cable_model.specs.declared.plans.Change.TheVariants as change
use Rattle.cable_model.specs.declared.plans.Plan.{Plan}
use Rattle.cable_model.specs.Limits.{most_connections}
use Rattle.cable_model.specs.Steps.{Step}
use Rattle.cable_model.specs.Journal.{cut, cut_all}
use Rattle.cable_model.specs.Wants.{lower}
use Rattle.cable_model.specs.Pieces.{seat, unseated, waiting}
use Rattle.cable_model.specs.Plans.{noted}
use Rattle.cable_model.specs.Possible.{can_arrive, can_ask, can_beat, can_drop, can_finish, can_open, can_put_command, can_stop, can_take}
use Rattle.cable_model.specs.Possible.{is_booted, is_opened, is_out, is_over, job_plan, last_turn, live_count}
use Rattle.cable_model.specs.Table.{missed_note}
use Rattle.cable_model.proofs.Cases.{callbacks, texts}
use Rattle.journal_cuts.specs.Cuts.{begun_again}

-- ---- the calls of a node

abbrev opens : ℕ → Step
opens c = Step.Open c (codes "u") (Some (codes "u"))

abbrev tells : ℕ → Step
tells c = Step.In c (codes "{}")

abbrev booted : List Step
booted = Step.Boot 0 ∷ []

abbrev opened : List Step
opened = opens 7 ∷ booted

abbrev told : List Step
told = tells 7 ∷ opened

abbrev taken : List Step
taken = Step.Take 7 ∷ told

abbrev finished : List Step
finished = Step.Finish 7 [] (noted (note.UnknownCommand ∷ [])) ∷ taken

abbrev asked : List Step
asked = Step.Ask 1 ∷ finished

abbrev missed : List Step
missed = Step.Deliver 1 (missed_note 0) ∷ asked

abbrev stopped : List Step
stopped = Step.Stop ∷ Step.Beat 3000 ∷ missed

pub opens_once : can_open 7 booted ≡ true
opens_once = refl

pub is_used : can_open 7 opened ≡ false
is_used = refl

pub is_unknown : can_arrive 8 opened ≡ false
is_unknown = refl

pub arrives : can_put_command 7 (codes "{}") opened ≡ true
unfolding texts
arrives = refl

pub takes : can_take 7 told ≡ true
unfolding texts
takes = refl

pub takes_once : can_take 7 taken ≡ false
unfolding texts
takes_once = refl

pub plan_has_no_cast : job_plan callbacks 7 taken ≡ Some (noted (note.UnknownCommand ∷ []))
unfolding texts
plan_has_no_cast = refl

pub finishes : can_finish callbacks 7 [] taken ≡ true
unfolding texts
finishes = refl

pub takes_no_next : can_take 7 finished ≡ false
unfolding texts
takes_no_next = refl

pub asks : can_ask finished ≡ true
asks = refl

pub asks_once : can_ask asked ≡ false
asks_once = refl

pub turn_is_out : is_out asked ≡ true
turn_is_out = refl

pub turn_is_first : last_turn asked ≡ 1
turn_is_first = refl

pub missed_turn_stays_below : lower missed ≡ 0
missed_turn_stays_below = refl

pub beats : can_beat missed ≡ true
beats = refl

pub stops : can_stop missed ≡ true
stops = refl

pub is_gone_no_more : can_drop 7 stopped ≡ false
unfolding texts
is_gone_no_more = refl

pub is_shut : can_arrive 7 stopped ≡ false
unfolding texts
is_shut = refl

-- with as many live connections as a node may have none is opened
pub is_full : (c : ℕ) (past : List Step) → live_count past ≡ most_connections → can_open c past ≡ false
is_full c past h = go (is_booted past && not (is_opened c past)) (ltb (live_count past) most_connections) none
  where
    none : ltb (live_count past) most_connections ≡ false
    none = grind (arith, nat_tests)

    go : (a b : Bool) → b ≡ false → (a && b) ≡ false
    go true b e = e
    go false b e = refl

-- ---- two connections, one of which is cut

abbrev both_told : List Step
both_told = tells 8 ∷ tells 7 ∷ opens 8 ∷ opens 7 ∷ booted

abbrev found : ReadNote
found = record { failed = false; lower = record { 0 = 0 }; upto = record { 0 = 5 }; last = record { 0 = 5 }; rows = [] }

abbrev closing : Plan
closing = record { texts = []; notes = []; casts = []; change = change.Close }

-- 7 was dropped, and is over
abbrev one_over : List Step
one_over = Step.Finish 7 [] closing ∷ Step.Take 7 ∷ Step.Drop 7 ∷ Step.Finish 7 [] (noted (note.UnknownCommand ∷ [])) ∷ Step.Take 7 ∷ both_told

pub seven_is_over : is_over 7 one_over ≡ true
unfolding texts
seven_is_over = refl

pub cut_leaves_the_entries_of_the_other : cut 7 one_over ≡ tells 8 ∷ opens 8 ∷ booted
cut_leaves_the_entries_of_the_other = refl

pub cut_says_nothing_of_seven : seat 7 (cut 7 one_over) ≡ unseated
unfolding texts
cut_says_nothing_of_seven = refl

pub cut_keeps_what_waits : waiting (seat 8 (cut 7 one_over)) ≡ waiting (seat 8 one_over)
unfolding texts
cut_keeps_what_waits = refl

pub one_waits : length (waiting (seat 8 (cut 7 one_over))) ≡ 1
unfolding texts
one_waits = refl

pub cut_takes_the_other : can_take 8 (cut 7 one_over) ≡ true
unfolding texts
cut_takes_the_other = refl

pub cut_both : cut_all (7 ∷ 8 ∷ []) one_over ≡ booted
cut_both = refl

-- ---- a journal that begins again

-- 8 is over too, and a turn read up to the row 5
abbrev both_over : List Step
both_over =
    Step.Deliver 1 found ∷ Step.Ask 1 ∷ Step.Finish 8 [] closing ∷ Step.Take 8 ∷ Step.Drop 8 ∷ Step.Finish 8 [] (noted (note.UnknownCommand ∷ [])) ∷ Step.Take 8
    ∷ one_over

pub none_is_live : live_count both_over ≡ 0
unfolding texts
none_is_live = refl

pub no_turn_is_out : is_out both_over ≡ false
no_turn_is_out = refl

pub begins_behind_the_row : begun_again both_over ≡ Step.Boot 5 ∷ []
begins_behind_the_row = refl

pub new_number_opens : can_open 9 (begun_again both_over) ≡ true
new_number_opens = refl
