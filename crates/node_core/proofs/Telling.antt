-- What is kept of a number tells what the journal says of it.
use Rattle.std.proofs.Common.{◌≡◌, ℕ, Bool, true, false, cond, not, ◌&&◌, List, Option, Some, None, Result, Ok, Err, IfErr, refl, sym, ap, ◌∙◌}
use Rattle.std.specs.Prelude.{is_some, leb}
use Rattle.cable_model.specs.Legal.{Legal, stored_plans}
use Rattle.cable_model.specs.Pieces.{seat, closing}
use Rattle.cable_model.specs.Possible.{is_opened, is_live, is_receiving, is_too_long, is_busy, can_put_command}
use Rattle.cable_model.specs.Steps.{Step}
use Rattle.cable_model.proofs.JobsStay.{unopened-user}
use Rattle.cable_model.proofs.Stored.{stored-works}
use Rattle.conn_seat.specs.Seats.{Seated}
use Rattle.conn_seat.proofs.Answering.{answers}
use Rattle.node_seats.specs.Numbers.{Numbers, Opened, opened_at, seat_at, seat_in}
use Rattle.node_seats.specs.AreSeats.{AreSeats, AreWorked}
use Rattle.node_seats.proofs.Onward.{used-is}
use Rattle.node_seats.proofs.Counting.{live-is, receiving-is}
use Rattle.node_core.specs.declared.arriving.ArriveFault.{ArriveFault}
use Rattle.node_core.specs.declared.arriving.ArriveFault.TheVariants as fault
use Rattle.node_core.specs.Arriving.{RefusesText, receiving_at, fault_at, is_full, text_fault}

pub worked : (past : List Step) → Legal past → AreWorked past
worked past legal = λ c user u. (stored_plans c past, stored-works c past legal)

-- a number that wasn't opened isn't live
pub receiving-unopened : (c : ℕ) (past : List Step) → is_opened c past ≡ false → is_live c past ≡ false
receiving-unopened c past e = let u = unopened-user c past e in rw u refl

-- a connection that receives was opened
pub receiving-opened : (c : ℕ) (past : List Step) → is_receiving c past ≡ true → is_opened c past ≡ true
receiving-opened c past e = by-test (is_opened c past) refl
  where
    by-test : (b : Bool) → is_opened c past ≡ b → b ≡ true
    by-test true o = refl
    by-test false o = let f = rw (receiving-unopened c past o) at e in absurd cc

pub receiving-at : (past : List Step) (v : Numbers) (c : ℕ) → AreWorked past → AreSeats past v → receiving_at (seat_at c v) ≡ is_receiving c past
receiving-at past v c w a = by-kept (opened_at c v) refl (used-is past v c a)
  where
    by-kept : (o : Option Opened) → opened_at c v ≡ o → is_some o ≡ is_opened c past → receiving_at (seat_in o) ≡ is_receiving c past
    by-kept None at used = let f = receiving-unopened c past (sym used) in rw f refl
    by-kept (Some (Opened.Live s)) at used = receiving-is c past (Opened.Live s) w (a.each c (Opened.Live s) at)
    by-kept (Some Opened.Over) at used = receiving-is c past Opened.Over w (a.each c Opened.Over at)

-- the cause for which a text isn't put
pub fault-at : (past : List Step) (v : Numbers) (c : ℕ) (text : List ℕ) → AreWorked past → AreSeats past v
    → fault_at (seat_at c v) text ≡ text_fault c text past
fault-at past v c text w a = by-kept (opened_at c v) refl (used-is past v c a)
  where
    by-kept : (o : Option Opened) → opened_at c v ≡ o → is_some o ≡ is_opened c past → fault_at (seat_in o) text ≡ text_fault c text past
    by-kept None at used = let f = receiving-unopened c past (sym used) in rw f refl
    by-kept (Some (Opened.Live s)) at used =
        let h = a.each c (Opened.Live s) at in
        let l = live-is c past s h.0 h.1 in
        let pl = w c s.user h.0.user in
        rw l
        (ap (λ b. cond b (Some fault.Shut) (cond (is_too_long text) (Some fault.TooLong) (cond (is_full s) (Some fault.Busy) None))) h.0.shows.closing
        ∙ ap (λ b. cond (closing (seat c past).pieces) (Some fault.Shut) (cond (is_too_long text) (Some fault.TooLong) (cond b (Some fault.Busy) None)))
        (ap (leb 256) (answers pl.0 c past s pl.1 h.0).commands))
    by-kept (Some Opened.Over) at used = let f = (a.each c Opened.Over at).live in rw f refl

-- where there is none the text can be put
pub can-put : (c : ℕ) (text : List ℕ) (past : List Step) → text_fault c text past ≡ None → can_put_command c text past ≡ true
can-put c text past none = by-tests (is_live c past) (closing (seat c past).pieces) (is_too_long text) (is_busy c past) none
  where
    by-tests : (l s t b : Bool) → cond l (cond s (Some fault.Shut) (cond t (Some fault.TooLong) (cond b (Some fault.Busy) None))) (Some fault.Unknown) ≡ None
        → ((l && not s) && not t && not b) ≡ true
    by-tests true false false false e = refl
    by-tests true false false true e = absurd cc
    by-tests true false true b e = absurd cc
    by-tests true true t b e = absurd cc
    by-tests false s t b e = absurd cc

pub fault-seat : (o : Option Seated) (text : List ℕ) → fault_at o text ≡ None → is_some o ≡ true
fault-seat None text e = absurd cc
fault-seat (Some s) text e = refl

pub refuses-text : (A : Type 0) (o : Option ArriveFault) (f : ArriveFault) → o ≡ Some f → RefusesText {A = A} o (Err f)
refuses-text A o f e = rw e refl

pub wants-memory : (A : Type 0) (o : Option ArriveFault) (r : Result A ArriveFault) → o ≡ None → IfErr r (λ e. e ≡ fault.OutOfMemory) → RefusesText {A = A} o r
wants-memory A o r e h = rw e h

pub nothing-wanting : (A : Type 0) (o : Option ArriveFault) (x : A) → o ≡ None → RefusesText {A = A} o (Ok x)
nothing-wanting A o x e = rw e tt
