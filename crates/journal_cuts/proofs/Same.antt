-- Two journals that say the same of a connection say it still where both go on with one entry.
use Rattle.std.proofs.Common.{ℕ, ◌+◌, ◌≡◌, ◌==◌, cond, ◌||◌, List, [], ◌∷◌, ◌++◌, refl, ap, sym, ◌∙◌}
use Rattle.cable_model.specs.declared.journals.ReadNote.{ReadNote}
use Rattle.cable_model.specs.Steps.{Step}
use Rattle.cable_model.specs.Wants.{at_ask, lower, made, makes, marks, turn_mark, user_of}
use Rattle.cable_model.specs.Pieces.{seat, stepped}
use Rattle.cable_model.specs.Possible.{is_opened, is_out, is_receiving, last_turn, was_asked}
use Rattle.cable_model.specs.History.{held_of}
use Rattle.cable_model.specs.Transcript.{conn_line, greeting, ping_line, plan_lines, queued}
use Rattle.cable_model.specs.Window.{finished, job, row_worked}
use Rattle.cable_model.proofs.JobsStay.{opened-now}
use Rattle.journal_cuts.specs.Cuts.{AnswersSame, SaysSame, TurnsSame}

module _ (c : ℕ) (now past : List Step) where
  held-same : user_of c now ≡ user_of c past → marks c now ≡ marks c past → seat c now ≡ seat c past → held_of c now ≡ held_of c past
  held-same u m s = cc (u, m, s)

  -- so a node answers the same of it
  pub answers-same : SaysSame c now past → AnswersSame c now past
  answers-same s =
      record {
        live = cc (s.user_is, s.seat_is);
        over = cc (s.opened_is, s.user_is, s.seat_is);
        receiving = cc (s.user_is, s.seat_is);
        arrives = cc (s.user_is, s.seat_is);
        puts = λ text. cc (s.user_is, s.seat_is);
        drops = cc (s.user_is, s.seat_is);
        takes = cc (s.user_is, s.seat_is);
        plan = λ r. cc (s.user_is, s.seat_is);
      }

  module _ (s : SaysSame c now past) where
    mark-stays : (note : ReadNote) → turn_mark c note now ≡ turn_mark c note past
    mark-stays note = cc (s.asked_user, s.asked_made)

    opened-stays : (e : Step) → is_opened c (e ∷ now) ≡ is_opened c (e ∷ past)
    opened-stays (Step.Open d token user) = opened-now c d token user now ∙ (ap (λ b. (d == c) || b) s.opened_is ∙ sym (opened-now c d token user past))
    opened-stays _ = s.opened_is

    user-stays : (e : Step) → user_of c (e ∷ now) ≡ user_of c (e ∷ past)
    user-stays (Step.Open d token user) = ap (cond (d == c) user) s.user_is
    user-stays _ = s.user_is

    seat-stays : (e : Step) → seat c (e ∷ now) ≡ seat c (e ∷ past)
    seat-stays Step.Stop = cc (s.seat_is, s.user_is)
    seat-stays (Step.Deliver turn note) = let m = mark-stays note in cc (s.seat_is, s.user_is, s.marks_is, m)
    seat-stays (Step.In d text) = ap (stepped c (Step.In d text) []) s.seat_is
    seat-stays (Step.Drop d) = ap (stepped c (Step.Drop d) []) s.seat_is
    seat-stays (Step.Take d) = ap (stepped c (Step.Take d) []) s.seat_is
    seat-stays (Step.Finish d puts plan) = ap (stepped c (Step.Finish d puts plan) []) s.seat_is
    seat-stays _ = s.seat_is

    made-stays : (e : Step) → made c (e ∷ now) ≡ made c (e ∷ past)
    made-stays (Step.Finish d puts plan) = ap (λ n. cond (d == c) (n + makes plan.change) n) s.made_is
    made-stays _ = s.made_is

    marks-stay : (e : Step) → marks c (e ∷ now) ≡ marks c (e ∷ past)
    marks-stay (Step.Deliver turn note) = ap (λ ms. ms ++ turn_mark c note now) s.marks_is ∙ ap (λ ms. marks c past ++ ms) (mark-stays note)
    marks-stay _ = s.marks_is

    asked-user-stays : (e : Step) → user_of c (at_ask (e ∷ now)) ≡ user_of c (at_ask (e ∷ past))
    asked-user-stays (Step.Ask turn) = s.user_is
    asked-user-stays _ = s.asked_user

    asked-made-stays : (e : Step) → made c (at_ask (e ∷ now)) ≡ made c (at_ask (e ∷ past))
    asked-made-stays (Step.Ask turn) = s.made_is
    asked-made-stays _ = s.asked_made

    asked-held-stays : (e : Step) → held_of c (at_ask (e ∷ now)) ≡ held_of c (at_ask (e ∷ past))
    asked-held-stays (Step.Ask turn) = s.held_is
    asked-held-stays _ = s.asked_held

    queued-stays : (e : Step) → queued c (e ∷ now) ≡ queued c (e ∷ past)
    queued-stays (Step.Open d token user) = ap (λ ls. cond (d == c) (ls ++ conn_line c (greeting user) ∷ []) ls) s.queued_is
    queued-stays (Step.Finish d puts plan) = ap (λ ls. cond (d == c) (ls ++ plan_lines c plan) ls) s.queued_is
    queued-stays (Step.Beat at) =
        ap (λ ls. cond (is_receiving c now) (ls ++ ping_line at c ∷ []) ls) s.queued_is
        ∙ ap (λ b. cond b (queued c past ++ ping_line at c ∷ []) (queued c past)) (answers-same s).receiving
    queued-stays _ = s.queued_is

    finished-stays : (e : Step) (b w : ℕ) → finished c b w (e ∷ now) ≡ finished c b w (e ∷ past)
    finished-stays (Step.Finish d puts plan) b w =
        ap (λ rs. cond (d == c) (rs ++ row_worked b w (job (seat c now))) rs) (s.finished_is b w)
        ∙ ap (λ x. cond (d == c) (finished c b w past ++ row_worked b w (job x)) (finished c b w past)) s.seat_is
    finished-stays _ b w = s.finished_is b w

pub says-on : (c : ℕ) (e : Step) (now past : List Step) → SaysSame c now past → SaysSame c (e ∷ now) (e ∷ past)
says-on c e now past s =
    let user : user_of c (e ∷ now) ≡ user_of c (e ∷ past) = user-stays c now past s e in
    let marks_stay : marks c (e ∷ now) ≡ marks c (e ∷ past) = marks-stay c now past s e in
    let stays : seat c (e ∷ now) ≡ seat c (e ∷ past) = seat-stays c now past s e in
    record {
      opened_is = opened-stays c now past s e;
      user_is = user;
      seat_is = stays;
      made_is = made-stays c now past s e;
      marks_is = marks_stay;
      held_is = held-same c (e ∷ now) (e ∷ past) user marks_stay stays;
      asked_user = asked-user-stays c now past s e;
      asked_made = asked-made-stays c now past s e;
      asked_held = asked-held-stays c now past s e;
      queued_is = queued-stays c now past s e;
      finished_is = finished-stays c now past s e;
    }

pub says-through : (c : ℕ) (a b e : List Step) → SaysSame c a b → SaysSame c b e → SaysSame c a e
says-through c a b e s t =
    record {
      opened_is = s.opened_is ∙ t.opened_is;
      user_is = s.user_is ∙ t.user_is;
      seat_is = s.seat_is ∙ t.seat_is;
      made_is = s.made_is ∙ t.made_is;
      marks_is = s.marks_is ∙ t.marks_is;
      held_is = s.held_is ∙ t.held_is;
      asked_user = s.asked_user ∙ t.asked_user;
      asked_made = s.asked_made ∙ t.asked_made;
      asked_held = s.asked_held ∙ t.asked_held;
      queued_is = s.queued_is ∙ t.queued_is;
      finished_is = λ b w. s.finished_is b w ∙ t.finished_is b w;
    }

-- ---- turns

pub lower-on : (e : Step) (now past : List Step) → lower now ≡ lower past → lower (e ∷ now) ≡ lower (e ∷ past)
lower-on (Step.Boot last) now past l = refl
lower-on (Step.Deliver turn note) now past l = ap (λ n. cond note.failed n note.upto.0) l
lower-on _ now past l = l

pub out-on : (e : Step) (now past : List Step) → is_out now ≡ is_out past → is_out (e ∷ now) ≡ is_out (e ∷ past)
out-on (Step.Ask turn) now past o = refl
out-on (Step.Deliver turn note) now past o = refl
out-on _ now past o = o

pub turn-on : (e : Step) (now past : List Step) → last_turn now ≡ last_turn past → last_turn (e ∷ now) ≡ last_turn (e ∷ past)
turn-on (Step.Ask turn) now past t = refl
turn-on _ now past t = t

pub asked-on : (e : Step) (now past : List Step) → was_asked now ≡ was_asked past → was_asked (e ∷ now) ≡ was_asked (e ∷ past)
asked-on (Step.Ask turn) now past a = refl
asked-on _ now past a = a

pub turns-on : (e : Step) (now past : List Step) → TurnsSame now past → TurnsSame (e ∷ now) (e ∷ past)
turns-on e now past s =
    record { lower_is = lower-on e now past s.lower_is; out = out-on e now past s.out; turn = turn-on e now past s.turn; asked = asked-on e now past s.asked }
