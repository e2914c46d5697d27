-- A journal without the entries of a connection says nothing of it.
use Rattle.std.proofs.Common.{ℕ, ◌≡◌, Bool, true, false, cond, ◌||◌, List, [], ◌∷◌, ◌++◌, None, refl, ap, ◌∙◌}
use Rattle.cable_base.specs.declared.rows.Row.{Row}
use Rattle.cable_model.specs.declared.journals.ReadNote.{ReadNote}
use Rattle.cable_model.specs.declared.pieces.Piece.{Piece}
use Rattle.cable_model.specs.Steps.{Step}
use Rattle.cable_model.specs.Journal.{cut, is_of}
use Rattle.cable_model.specs.Wants.{Mark, at_ask, made, marks, turn_mark, user_of}
use Rattle.cable_model.specs.Pieces.{deliver_puts, rows_puts, seat, unseated, with_all}
use Rattle.cable_model.specs.Possible.{is_opened, is_receiving}
use Rattle.cable_model.specs.History.{held_of}
use Rattle.cable_model.specs.Transcript.{ping_line, queued}
use Rattle.cable_model.specs.Window.{finished}
use Rattle.cable_model.proofs.JobsStay.{opened-now}
use Rattle.journal_cuts.specs.Cuts.{SaysNothing}

-- no row is for a connection that has no subscription and no user
none-put : (ms : List Mark) (rows : List Row) → rows_puts None ms [] rows ≡ []
none-put ms [] = refl
none-put ms (row ∷ rows) = none-put ms rows

module _ (d : ℕ) (past : List Step) (s : SaysNothing d past) where
  still-unopened : (e : Step) → is_of d e ≡ false → is_opened d (e ∷ past) ≡ false
  still-unopened (Step.Open x token user) h = opened-now d x token user past ∙ (ap (λ b. b || is_opened d past) h ∙ s.unopened)
  still-unopened _ h = s.unopened

  still-userless : (e : Step) → is_of d e ≡ false → user_of d (e ∷ past) ≡ None
  still-userless (Step.Open x token user) h = ap (λ b. cond b user (user_of d past)) h ∙ s.user
  still-userless _ h = s.user

  -- what a turn puts on it
  abbrev brought : ReadNote → List Piece
  brought note = deliver_puts (user_of d past) (marks d past) (turn_mark d note past) (seat d past).conn.subs note.rows

  none-brought : (note : ReadNote) → with_all (seat d past) (brought note) ≡ unseated
  none-brought note =
      let subs : (seat d past).conn.subs ≡ [] = ap (λ x. x.conn.subs) s.unseated_is in
      let none : brought note ≡ [] = rw (s.user, subs) (ap (λ ps. ps ++ []) (none-put (marks d past) note.rows)) in
      rw (none, s.unseated_is) refl

  still-unseated : (e : Step) → is_of d e ≡ false → seat d (e ∷ past) ≡ unseated
  still-unseated (Step.In x text) h = rw h s.unseated_is
  still-unseated (Step.Drop x) h = rw h s.unseated_is
  still-unseated Step.Stop h = rw s.user s.unseated_is
  still-unseated (Step.Take x) h = rw h s.unseated_is
  still-unseated (Step.Finish x puts plan) h = rw h s.unseated_is
  still-unseated (Step.Deliver turn note) h = go note.failed (none-brought note)
    where
      go : (b : Bool) → with_all (seat d past) (brought note) ≡ unseated → cond b (seat d past) (with_all (seat d past) (brought note)) ≡ unseated
      go true none = s.unseated_is
      go false none = none
  still-unseated _ h = s.unseated_is

  still-wantless : (e : Step) → is_of d e ≡ false → made d (e ∷ past) ≡ 0
  still-wantless (Step.Finish x puts plan) h = rw h s.wants
  still-wantless _ h = s.wants

  still-unasked : (e : Step) → user_of d (at_ask (e ∷ past)) ≡ None
  still-unasked (Step.Ask turn) = s.user
  still-unasked _ = s.unasked

  still-unmarked : (e : Step) → marks d (e ∷ past) ≡ []
  still-unmarked (Step.Deliver turn note) = rw (s.unmarked, s.unasked) refl
  still-unmarked _ = s.unmarked

  still-unqueued : (e : Step) → is_of d e ≡ false → queued d (e ∷ past) ≡ []
  still-unqueued (Step.Open x token user) h = rw h s.unqueued
  still-unqueued (Step.Finish x puts plan) h = rw h s.unqueued
  still-unqueued (Step.Beat now) h =
      let deaf : is_receiving d past ≡ false = rw s.user refl in ap (λ b. cond b (queued d past ++ ping_line now d ∷ []) (queued d past)) deaf ∙ s.unqueued
  still-unqueued _ h = s.unqueued

  still-unfinished : (e : Step) → is_of d e ≡ false → (b w : ℕ) → finished d b w (e ∷ past) ≡ []
  still-unfinished (Step.Finish x puts plan) h b w = rw h (s.unfinished b w)
  still-unfinished _ h b w = s.unfinished b w

nothing-held : (d : ℕ) (past : List Step) → user_of d past ≡ None → marks d past ≡ [] → seat d past ≡ unseated → held_of d past ≡ []
nothing-held d past u m s = rw (u, m, s) refl

nothing-on : (d : ℕ) (e : Step) (past : List Step) → is_of d e ≡ false → SaysNothing d past → SaysNothing d (e ∷ past)
nothing-on d e past h s =
    let user : user_of d (e ∷ past) ≡ None = still-userless d past s e h in
    let place : seat d (e ∷ past) ≡ unseated = still-unseated d past s e h in
    let turns : marks d (e ∷ past) ≡ [] = still-unmarked d past s e in
    record {
      unopened = still-unopened d past s e h;
      user = user;
      unseated_is = place;
      wants = still-wantless d past s e h;
      unmarked = turns;
      unheld = nothing-held d (e ∷ past) user turns place;
      unasked = still-unasked d past s e;
      unqueued = still-unqueued d past s e h;
      unfinished = still-unfinished d past s e h;
    }

pub nothing-said : (d : ℕ) (past : List Step) → SaysNothing d (cut d past)
nothing-said d [] =
    record {
      unopened = refl;
      user = refl;
      unseated_is = refl;
      wants = refl;
      unmarked = refl;
      unheld = refl;
      unasked = refl;
      unqueued = refl;
      unfinished = λ s w. refl;
    }
nothing-said d (e ∷ past) = go (is_of d e) refl (nothing-said d past)
  where
    go : (b : Bool) → is_of d e ≡ b → SaysNothing d (cut d past) → SaysNothing d (cond b (cut d past) (e ∷ cut d past))
    go true b s = s
    go false b s = nothing-on d e (cut d past) b s
