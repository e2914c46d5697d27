-- The payloads of the rows that wait on connections are squeezed JSON, since those of the rows that turns brought are.
use Rattle.std.proofs.Common.{◌≡◌, ℕ, zero, suc, ◌-◌, ◌==◌, ◌&&◌, Bool, true, false, cond, List, [], ◌∷◌, ◌++◌, Option, Some, None, Ok, Err, refl, subst}
use Rattle.std.specs.Prelude.{⊤, is_some, option_map, slice_get, bytes_eq}
use Rattle.std.specs.List.{AllByRecursion}
use Rattle.std.proofs.lemmas.List.Elements.{recursion_from_All}
use Rattle.cable_base.specs.declared.rows.Row.{Row}
use Rattle.cable_base.specs.Squeeze.{IsSqueezedJson}
use Rattle.cable_base.proofs.Each.{All-append}
use Rattle.cable_json.specs.declared.commands.Command.TheVariants as command
use Rattle.cable_json.specs.declared.commands.CommandFault.{CommandFault}
use Rattle.cable_json.specs.declared.commands.CommandFault.TheVariants as command_fault
use Rattle.cable_json.specs.Commands.{command_of}
use Rattle.cable_json.specs.Disconnects.{disconnect_of}
use Rattle.cable_model.specs.declared.pieces.Piece.{Piece}
use Rattle.cable_model.specs.declared.pieces.Piece.TheVariants as piece
use Rattle.cable_model.specs.declared.notes.Note.TheVariants as note
use Rattle.cable_model.specs.declared.plans.Task.{Task}
use Rattle.cable_model.specs.declared.plans.Task.TheVariants as task
use Rattle.cable_model.specs.Connection.{Want, Sub, Conn}
use Rattle.cable_model.specs.Pieces.{seat, closing, put, put_all, hold_puts, sub_puts, own_puts, remote_put, row_puts, rows_puts, confirm_puts, deliver_puts, takes_now, below, row_piece, with_job, with_plan, with_all}
use Rattle.cable_model.specs.Plans.{task_of, fault_task, subscribe_task, unsubscribe_task, perform_task, row_task, confirm_task, sub_named, sub_numbered}
use Rattle.cable_model.specs.Possible.{has_job}
use Rattle.cable_model.specs.Steps.{Step}
use Rattle.cable_model.specs.Wants.{Mark, marks, mark_of, turn_mark, user_of}
use Rattle.cable_model.specs.Window.{job}
use Rattle.conn_core.specs.Payloads.{CarriesJson}
use Rattle.node_core.specs.Jobs.{task_out}
use Rattle.node_core.specs.Nodes.{BringsMessages}

-- the payload of a row is squeezed JSON
abbrev pub HasJson : Piece → Type 0
HasJson (piece.Cmd read) = ⊤
HasJson (piece.Row sub want row) = IsSqueezedJson row.payload
HasJson (piece.Confirm sub) = ⊤
HasJson (piece.Remote reconnect) = ⊤
HasJson piece.Gone = ⊤
HasJson piece.Restart = ⊤

-- ---- what is put

put-json : (ps : List Piece) (p : Piece) → AllByRecursion HasJson ps → HasJson p → AllByRecursion HasJson (put ps p)
put-json ps p a h = by-test (closing ps)
  where
    by-test : (b : Bool) → AllByRecursion HasJson (cond b ps (ps ++ p ∷ []))
    by-test true = a
    by-test false = All-append HasJson ps (p ∷ []) a (h, tt)

put-all-json : (ps qs : List Piece) → AllByRecursion HasJson ps → AllByRecursion HasJson qs → AllByRecursion HasJson (put_all ps qs)
put-all-json ps [] a b = a
put-all-json ps (q ∷ qs) a b = put-all-json (put ps q) qs (put-json ps q a b.0) b.1

holds-json : (ms : List Mark) (row : Row) (s : ℕ) (ws : List Want) → IsSqueezedJson row.payload → AllByRecursion HasJson (hold_puts ms row s ws)
holds-json ms row s [] h = tt
holds-json ms row s (w ∷ ws) h = by-test (bytes_eq w.name row.channel && below (mark_of w.number ms) row.id.0) (holds-json ms row s ws h)
  where
    by-test : (b : Bool) → AllByRecursion HasJson (hold_puts ms row s ws) → AllByRecursion HasJson (cond b (row_piece s w.number row ∷ hold_puts ms row s ws) (hold_puts ms row s ws))
    by-test true ih = (h, ih)
    by-test false ih = ih

subs-json : (ms : List Mark) (row : Row) (ss : List Sub) → IsSqueezedJson row.payload → AllByRecursion HasJson (sub_puts ms row ss)
subs-json ms row [] h = tt
subs-json ms row (s ∷ ss) h = All-append HasJson (hold_puts ms row s.number s.wants) (sub_puts ms row ss) (holds-json ms row s.number s.wants h) (subs-json ms row ss h)

remote-json : (o : Option Bool) → AllByRecursion HasJson (remote_put o)
remote-json None = tt
remote-json (Some reconnect) = (tt, tt)

own-json : (user : Option (List ℕ)) (ms : List Mark) (row : Row) → AllByRecursion HasJson (own_puts user ms row)
own-json None ms row = tt
own-json (Some user) ms row = by-test _
  where
    by-test : (b : Bool) → AllByRecursion HasJson (cond b (remote_put (disconnect_of row.payload)) [])
    by-test true = remote-json (disconnect_of row.payload)
    by-test false = tt

rows-json : (user : Option (List ℕ)) (ms : List Mark) (ss : List Sub) (rows : List Row) → AllByRecursion (λ (r : Row). IsSqueezedJson r.payload) rows → AllByRecursion HasJson (rows_puts user ms ss rows)
rows-json user ms ss [] h = tt
rows-json user ms ss (row ∷ rows) h =
    All-append HasJson (row_puts user ms ss row) (rows_puts user ms ss rows)
    (All-append HasJson (sub_puts ms row ss) (own_puts user ms row) (subs-json ms row ss h.0) (own-json user ms row))
    (rows-json user ms ss rows h.1)

confirms-json : (ms now : List Mark) (ss : List Sub) → AllByRecursion HasJson (confirm_puts ms now ss)
confirms-json ms now [] = tt
confirms-json ms now (s ∷ ss) = by-test (takes_now ms now s.due) (confirms-json ms now ss)
  where
    by-test : (b : Bool) → AllByRecursion HasJson (confirm_puts ms now ss) → AllByRecursion HasJson (cond b (piece.Confirm (record { 0 = s.number }) ∷ confirm_puts ms now ss) (confirm_puts ms now ss))
    by-test true ih = (tt, ih)
    by-test false ih = ih

-- ---- all pieces of a connection

pub pieces-json : (c : ℕ) (past : List Step) → BringsMessages past → AllByRecursion HasJson (seat c past).pieces
pieces-json c [] b = tt
pieces-json c (Step.Boot last ∷ past) b = pieces-json c past b
pieces-json c (Step.Open d token user ∷ past) b = pieces-json c past b
pieces-json c (Step.In d text ∷ past) b = by-test (d == c) (pieces-json c past b)
  where
    by-test : (t : Bool) → AllByRecursion HasJson (seat c past).pieces → AllByRecursion HasJson (cond t (record { pieces = put (seat c past).pieces (piece.Cmd (command_of text)); taken = (seat c past).taken; done = (seat c past).done; conn = (seat c past).conn }) (seat c past)).pieces
    by-test true ih = put-json (seat c past).pieces (piece.Cmd (command_of text)) ih tt
    by-test false ih = ih
pieces-json c (Step.Drop d ∷ past) b = by-test (d == c) (pieces-json c past b)
  where
    by-test : (t : Bool) → AllByRecursion HasJson (seat c past).pieces → AllByRecursion HasJson (cond t (record { pieces = put (seat c past).pieces piece.Gone; taken = (seat c past).taken; done = (seat c past).done; conn = (seat c past).conn }) (seat c past)).pieces
    by-test true ih = put-json (seat c past).pieces piece.Gone ih tt
    by-test false ih = ih
pieces-json c (Step.Stop ∷ past) b = by-test (is_some (user_of c past)) (pieces-json c past b)
  where
    by-test : (t : Bool) → AllByRecursion HasJson (seat c past).pieces → AllByRecursion HasJson (cond t (record { pieces = put (seat c past).pieces piece.Restart; taken = (seat c past).taken; done = (seat c past).done; conn = (seat c past).conn }) (seat c past)).pieces
    by-test true ih = put-json (seat c past).pieces piece.Restart ih tt
    by-test false ih = ih
pieces-json c (Step.Take d ∷ past) b = by-test (d == c) (pieces-json c past b)
  where
    by-test : (t : Bool) → AllByRecursion HasJson (seat c past).pieces → AllByRecursion HasJson (cond t (with_job (seat c past)) (seat c past)).pieces
    by-test true ih = ih
    by-test false ih = ih
pieces-json c (Step.Finish d puts plan ∷ past) b = by-test (d == c) (pieces-json c past b)
  where
    by-test : (t : Bool) → AllByRecursion HasJson (seat c past).pieces → AllByRecursion HasJson (cond t (with_plan (seat c past) plan) (seat c past)).pieces
    by-test true ih = ih
    by-test false ih = ih
pieces-json c (Step.Ask turn ∷ past) b = pieces-json c past b
pieces-json c (Step.Deliver turn note ∷ past) b = by-test note.failed (pieces-json c past b.1)
  where
    brought : List Piece
    brought = deliver_puts (user_of c past) (marks c past) (turn_mark c note past) (seat c past).conn.subs note.rows

    by-test : (t : Bool) → AllByRecursion HasJson (seat c past).pieces → AllByRecursion HasJson (cond t (seat c past) (with_all (seat c past) brought)).pieces
    by-test true ih = ih
    by-test false ih =
        put-all-json (seat c past).pieces brought ih
        (All-append HasJson (rows_puts (user_of c past) (marks c past) (seat c past).conn.subs note.rows) (confirm_puts (marks c past) (turn_mark c note past) (seat c past).conn.subs)
        (rows-json (user_of c past) (marks c past) (seat c past).conn.subs note.rows (recursion_from_All (λ (r : Row). IsSqueezedJson r.payload) note.rows b.0))
        (confirms-json (marks c past) (turn_mark c note past) (seat c past).conn.subs))
pieces-json c (Step.Beat now ∷ past) b = pieces-json c past b

-- ---- what a piece needs

fault-json : (f : CommandFault) → CarriesJson (fault_task f)
fault-json command_fault.BadJson = tt
fault-json command_fault.UnknownCommand = tt
fault-json command_fault.NoIdentifier = tt
fault-json command_fault.BadData = tt
fault-json command_fault.OutOfMemory = tt

subscribe-json : (identifier : List ℕ) (n : ℕ) (o : Option Sub) → CarriesJson (subscribe_task identifier n o)
subscribe-json identifier n (Some s) = tt
subscribe-json identifier n None = by-test _
  where
    by-test : (b : Bool) → CarriesJson (cond b (task.Note note.TooManySubscriptions) (task.Subscribe identifier))
    by-test true = tt
    by-test false = tt

unsubscribe-json : (identifier : List ℕ) (o : Option Sub) → CarriesJson (unsubscribe_task identifier o)
unsubscribe-json identifier (Some s) = tt
unsubscribe-json identifier None = tt

perform-json : (identifier payload : List ℕ) (o : Option Sub) → CarriesJson (perform_task identifier payload o)
perform-json identifier payload (Some s) = tt
perform-json identifier payload None = tt

row-json : (payload : List ℕ) (o : Option Sub) → IsSqueezedJson payload → CarriesJson (row_task payload o)
row-json payload (Some s) h = h
row-json payload None h = tt

confirm-json : (o : Option Sub) → CarriesJson (confirm_task o)
confirm-json (Some s) = tt
confirm-json None = tt

task-json : (k : Conn) (p : Piece) → HasJson p → CarriesJson (task_of k p)
task-json k (piece.Cmd (Err fault)) h = fault-json fault
task-json k (piece.Cmd (Ok (command.Subscribe identifier))) h = subscribe-json identifier _ (sub_named identifier k)
task-json k (piece.Cmd (Ok (command.Unsubscribe identifier))) h = unsubscribe-json identifier (sub_named identifier k)
task-json k (piece.Cmd (Ok (command.Message identifier payload))) h = perform-json identifier payload (sub_named identifier k)
task-json k (piece.Row sub want row) h = row-json row.payload (sub_numbered sub.0 k) h
task-json k (piece.Confirm sub) h = confirm-json (sub_numbered sub.0 k)
task-json k (piece.Remote reconnect) h = tt
task-json k piece.Gone h = tt
task-json k piece.Restart h = tt

all-at : (ps : List Piece) (i : ℕ) (p : Piece) → AllByRecursion HasJson ps → slice_get ps i ≡ Some p → HasJson p
all-at [] i p a e = absurd cc
all-at (q ∷ ps) zero p a e = let same : q ≡ p = cc (e) in subst HasJson same a.0
all-at (q ∷ ps) (suc i) p a e = all-at ps i p a.1 e

-- what the job that is out needs carries JSON
pub out-json : (c : ℕ) (past : List Step) (t : Task) → BringsMessages past → task_out c past ≡ Some t → CarriesJson t
out-json c past t b e = by-test (has_job (seat c past)) (job (seat c past)) refl e
  where
    by-test : (x : Bool) (o : Option Piece) → job (seat c past) ≡ o → cond x (option_map (task_of (seat c past).conn) o) None ≡ Some t → CarriesJson t
    by-test true (Some p) is f =
        let same : task_of (seat c past).conn p ≡ t = cc (f) in
        subst CarriesJson same (task-json (seat c past).conn p (all-at (seat c past).pieces ((seat c past).taken - 1) p (pieces-json c past b) is))
    by-test true None is f = absurd cc
    by-test false o is f = absurd cc
