-- The end of a connection: a closing piece is the last one that is put, and only its plan closes. So nothing waits behind it.
use Rattle.std.proofs.Common.{ℕ, ◌+◌, ◌≡◌, ◌==◌, Bool, true, false, cond, ◌||◌, List, [], ◌∷◌, ◌++◌, length, drop, Option, Some, None, Result, Ok, Err, refl, ap, sym, subst, ◌∙◌, arith, is_some, leb, length-append}
use Rattle.std.specs.List.{filter}
use Rattle.std.proofs.lemmas.List.{append-nil}
use Rattle.std.proofs.lemmas.Bool.Decides.{nat_tests}
use Rattle.cable_json.specs.Commands.{command_of}
use Rattle.cable_json.specs.declared.commands.Command.TheVariants as command
use Rattle.cable_json.specs.declared.commands.CommandFault.TheVariants as command_fault
use Rattle.channel_book.specs.declared.answers.Answer.{Answer}
use Rattle.channel_book.specs.declared.answers.CallFault.{CallFault}
use Rattle.cable_model.specs.declared.notes.Note.{Note}
use Rattle.cable_model.specs.declared.notes.Note.TheVariants as note
use Rattle.cable_model.specs.declared.pieces.Piece.{Piece}
use Rattle.cable_model.specs.declared.pieces.Piece.TheVariants as piece
use Rattle.cable_model.specs.declared.plans.Change.{Change}
use Rattle.cable_model.specs.declared.plans.Change.TheVariants as change
use Rattle.cable_model.specs.declared.plans.Task.{Task}
use Rattle.cable_model.specs.declared.plans.Task.TheVariants as task
use Rattle.cable_model.specs.Steps.{Step, Boot, Open, In, Drop, Stop, Take, Finish, Ask, Deliver, Beat}
use Rattle.cable_model.specs.Connection.{Sub, Conn, still}
use Rattle.cable_model.specs.Limits.{most_subscriptions}
use Rattle.cable_model.specs.Plans.{Callbacks, sub_named, sub_numbered, subscribe_task, unsubscribe_task, perform_task, row_task, confirm_task, stream_notes, rejection, unless_bad, subscribe_plan, perform_plan, plan_for, plan_of, task_of}
use Rattle.cable_model.specs.Wants.{marks, turn_mark, user_of}
use Rattle.cable_model.specs.Pieces.{is_closing, closing, put, put_all, numbered, Seat, seat, waiting, with_put, with_all, with_job, with_plan, deliver_puts}
use Rattle.cable_model.specs.Possible.{has_job}
use Rattle.cable_model.proofs.Jobs.{JobPiece}
use Rattle.cable_model.proofs.Working.{drop-numbered}

-- ---- only the plan of a closing piece closes

abbrev Goes : Change → Type 0
Goes change.Nothing = Unit {0}
Goes (change.Add identifier streams) = Unit {0}
Goes (change.Streams identifier stops streams) = Unit {0}
Goes (change.Remove identifier) = Unit {0}
Goes change.Close = ⊥

-- a task of a piece that isn't closing
abbrev Open-task : Task → Type 0
Open-task task.Nothing = Unit {0}
Open-task (task.Note why) = Unit {0}
Open-task (task.Subscribe identifier) = Unit {0}
Open-task (task.Unsubscribe identifier) = Unit {0}
Open-task (task.Perform identifier payload streams) = Unit {0}
Open-task (task.Row identifier payload) = Unit {0}
Open-task (task.Confirm identifier) = Unit {0}
Open-task (task.Close how identifiers) = ⊥

subscribe-goes : (identifier : List ℕ) (answer left : Result Answer CallFault) → Goes (subscribe_plan identifier answer left).change
subscribe-goes identifier (Err fault) left = tt
subscribe-goes identifier (Ok answer) left = go answer.rejected (stream_notes [] answer.streams)
  where
    go : (b : Bool) (notes : List Note) → Goes (cond b (rejection [] identifier answer left) (unless_bad notes identifier answer left)).change
    go true notes = tt
    go false (why ∷ notes) = tt
    go false [] = tt

perform-goes : (identifier : List ℕ) (streams : List (List ℕ)) (answer : Result Answer CallFault) → Goes (perform_plan identifier streams answer).change
perform-goes identifier streams (Err fault) = tt
perform-goes identifier streams (Ok answer) = tt

plan-goes : (r : Callbacks) (user : List ℕ) (t : Task) → Open-task t → Goes (plan_for r user t).change
plan-goes r user task.Nothing o = tt
plan-goes r user (task.Note why) o = tt
plan-goes r user (task.Subscribe identifier) o = subscribe-goes identifier (r.subscribed user identifier) (r.unsubscribed user identifier)
plan-goes r user (task.Unsubscribe identifier) o = tt
plan-goes r user (task.Perform identifier payload streams) o = perform-goes identifier streams (r.perform user identifier payload)
plan-goes r user (task.Row identifier payload) o = tt
plan-goes r user (task.Confirm identifier) o = tt
plan-goes r user (task.Close how identifiers) o = absurd o

subscribe-open : (identifier : List ℕ) (b : Bool) (o : Option Sub) → Open-task (cond b (task.Note note.TooManySubscriptions) (task.Subscribe identifier))
subscribe-open identifier true o = tt
subscribe-open identifier false o = tt

open-task : (k : Conn) (p : Piece) → is_closing p ≡ false → Open-task (task_of k p)
open-task k (piece.Cmd (Err command_fault.BadJson)) c = tt
open-task k (piece.Cmd (Err command_fault.UnknownCommand)) c = tt
open-task k (piece.Cmd (Err command_fault.NoIdentifier)) c = tt
open-task k (piece.Cmd (Err command_fault.BadData)) c = tt
open-task k (piece.Cmd (Err command_fault.OutOfMemory)) c = tt
open-task k (piece.Cmd (Ok (command.Subscribe identifier))) c =
    elim (sub_named identifier k) as (λ o. Open-task (subscribe_task identifier (length k.subs) o)) [ Some s ↦ tt | None ↦ subscribe-open identifier (leb most_subscriptions (length k.subs)) None ]
open-task k (piece.Cmd (Ok (command.Unsubscribe identifier))) c = elim (sub_named identifier k) as (λ o. Open-task (unsubscribe_task identifier o)) [ Some s ↦ tt | None ↦ tt ]
open-task k (piece.Cmd (Ok (command.Message identifier payload))) c = elim (sub_named identifier k) as (λ o. Open-task (perform_task identifier payload o)) [ Some s ↦ tt | None ↦ tt ]
open-task k (piece.Row sub want row) c = elim (sub_numbered sub.0 k) as (λ o. Open-task (row_task row.payload o)) [ Some s ↦ tt | None ↦ tt ]
open-task k (piece.Confirm sub) c = elim (sub_numbered sub.0 k) as (λ o. Open-task (confirm_task o)) [ Some s ↦ tt | None ↦ tt ]
open-task k (piece.Remote reconnect) c = absurd (cc (c))
open-task k piece.Gone c = absurd (cc (c))
open-task k piece.Restart c = absurd (cc (c))

-- a plan that closes is one of a closing piece
pub closes-only : (r : Callbacks) (user : List ℕ) (k : Conn) (p : Piece) → (plan_of r user k p).change ≡ change.Close → is_closing p ≡ true
closes-only r user k p e = go (is_closing p) refl
  where
    go : (b : Bool) → is_closing p ≡ b → is_closing p ≡ true
    go true b = b
    go false b = absurd (subst Goes e (plan-goes r user (task_of k p) (open-task k p b)))

-- ---- a closing piece is the last one

-- only the last of these pieces may be a closing one
abbrev pub ClosesLast : List Piece → Type 0
ClosesLast [] = Unit {0}
ClosesLast (p ∷ ps) = (is_closing p ≡ true → ps ≡ []) × ClosesLast ps

or-parts : (a b : Bool) → (a || b) ≡ false → (a ≡ false) × (b ≡ false)
or-parts true b e = absurd (cc (e))
or-parts false b e = (refl, e)

push-last : (ps : List Piece) (q : Piece) → closing ps ≡ false → ClosesLast (ps ++ q ∷ [])
push-last [] q c = ((λ h. refl), tt)
push-last (p ∷ ps) q c =
    let both = or-parts (is_closing p) (closing ps) c in
    let no = both.0 in
    ((λ h. absurd (cc (h, no))), push-last ps q both.1)

put-last : (ps : List Piece) (q : Piece) → ClosesLast ps → ClosesLast (put ps q)
put-last ps q c = go (closing ps) refl
  where
    go : (b : Bool) → closing ps ≡ b → ClosesLast (put ps q)
    go true b = rw b c
    go false b = rw b (push-last ps q b)

puts-last : (ps qs : List Piece) → ClosesLast ps → ClosesLast (put_all ps qs)
puts-last ps [] c = c
puts-last ps (q ∷ qs) c = puts-last (put ps q) qs (put-last ps q c)

one-last : (b : Bool) (s : Seat) (q : Piece) → ClosesLast s.pieces → ClosesLast (cond b (with_put s q) s).pieces
one-last true s q c = put-last s.pieces q c
one-last false s q c = c

pub closes-last : (c : ℕ) (past : List Step) → ClosesLast (seat c past).pieces
closes-last c [] = tt
closes-last c (Boot last ∷ past) = closes-last c past
closes-last c (Open d token user ∷ past) = closes-last c past
closes-last c (In d text ∷ past) = one-last (d == c) (seat c past) (piece.Cmd (command_of text)) (closes-last c past)
closes-last c (Drop d ∷ past) = one-last (d == c) (seat c past) piece.Gone (closes-last c past)
closes-last c (Stop ∷ past) = one-last (is_some (user_of c past)) (seat c past) piece.Restart (closes-last c past)
closes-last c (Take d ∷ past) = let ih = closes-last c past in elim (d == c) as (λ b. ClosesLast (cond b (with_job (seat c past)) (seat c past)).pieces) [ true ↦ ih | false ↦ ih ]
closes-last c (Finish d puts plan ∷ past) = let ih = closes-last c past in elim (d == c) as (λ b. ClosesLast (cond b (with_plan (seat c past) plan) (seat c past)).pieces) [ true ↦ ih | false ↦ ih ]
closes-last c (Ask turn ∷ past) = closes-last c past
closes-last c (Deliver turn note ∷ past) =
    let ih = closes-last c past in
    let qs = deliver_puts (user_of c past) (marks c past) (turn_mark c note past) (seat c past).conn.subs note.rows in
    elim note.failed as (λ b. ClosesLast (cond b (seat c past) (with_all (seat c past) qs)).pieces) [ true ↦ ih | false ↦ puts-last (seat c past).pieces qs ih ]
closes-last c (Beat now ∷ past) = closes-last c past

none-behind : (xs : List Piece) (p : Piece) (ys : List Piece) → ClosesLast (xs ++ p ∷ ys) → is_closing p ≡ true → ys ≡ []
none-behind [] p ys c h = c.0 h
none-behind (x ∷ xs) p ys c h = none-behind xs p ys c.1 h

pub closing-among : (xs : List Piece) (p : Piece) (ys : List Piece) → is_closing p ≡ true → closing (xs ++ p ∷ ys) ≡ true
closing-among [] p ys h = ap (λ b. b || closing ys) h
closing-among (x ∷ xs) p ys h = ap (λ b. is_closing x || b) (closing-among xs p ys h) ∙ (elim (is_closing x) as (λ b. (b || true) ≡ true) [ true ↦ refl | false ↦ refl ])

-- ---- nothing waits behind it

pub record AtEnd (s : Seat) : Type 0 where
  pub waiting : waiting s ≡ []
  pub last : s.taken ≡ length s.pieces

-- where the piece that is out is a closing one, nothing waits, and it is the last one
pub at-end : (s : Seat) (j : JobPiece s) → has_job s ≡ true → ClosesLast s.pieces → is_closing j.piece ≡ true → AtEnd s
at-end s j out c h =
    let none : j.behind ≡ [] = none-behind j.before j.piece j.behind (subst ClosesLast j.among c) h in
    let all : s.pieces ≡ j.before ++ j.piece ∷ [] = j.among ∙ ap (λ ys. j.before ++ j.piece ∷ ys) none in
    let count : length s.pieces ≡ length j.before + 1 = ap length all ∙ length-append j.before (j.piece ∷ []) in
    let last : s.taken ≡ length s.pieces = let at = j.at in grind (arith, nat_tests) in
    let dropped : drop s.taken (numbered 0 s.pieces) ≡ [] =
    ap (λ n. drop n (numbered 0 s.pieces)) last ∙ (rest s.pieces) in
    record { waiting = ap (filter (λ p. still s.conn p.piece)) dropped; last = last }
  where
    rest : (ps : List Piece) → drop (length ps) (numbered 0 ps) ≡ []
    rest ps = sym (ap (λ xs. drop (length ps) (numbered 0 xs)) (append-nil ps)) ∙ drop-numbered 0 ps []
