-- What a piece needs is the same of a connection and of the fold of its pieces, whatever the marks.
use Rattle.std.proofs.Common.{ℕ, ◌≡◌, ◌==◌, List, [], ◌∷◌, length, map, Option, Some, None, Ok, Err, refl, ap, ◌∙◌, false}
use Rattle.std.specs.Prelude.{option_map}
use Rattle.std.specs.List.{find}
use Rattle.std.specs.Str.{bytes_eq}
use Rattle.std.proofs.lemmas.List.{length-map}
use Rattle.cable_json.specs.declared.commands.Command.TheVariants as command
use Rattle.cable_model.specs.declared.pieces.Piece.{Piece}
use Rattle.cable_model.specs.declared.pieces.Piece.TheVariants as piece
use Rattle.cable_model.specs.declared.plans.Closing.{Closing}
use Rattle.cable_model.specs.declared.plans.Closing.TheVariants as closing
use Rattle.cable_model.specs.declared.plans.Task.TheVariants as task
use Rattle.cable_model.specs.Connection.{Want, Sub, Conn}
use Rattle.cable_model.specs.Plans.{sub_named, sub_numbered, subscribe_task, unsubscribe_task, perform_task, row_task, confirm_task, close_task, task_of}
use Rattle.conn_core.specs.Subscriptions.{Subscription}
use Rattle.conn_core.specs.Connections.{Connection}
use Rattle.conn_core.specs.Bare.{bare_want, bare_sub, bare}
use Rattle.conn_core.specs.Marked.{Marks, marked_want, marked_sub, IsMarked}
use Rattle.conn_core.proofs.Mapped.{find-map, map-twice}

-- a subscription without the note which confirmation is due
abbrev undue : Sub → Sub
undue s = record { number = s.number; identifier = s.identifier; wants = s.wants; due = None }

wants-bare : (marks : Marks) (ws : List Want) → map bare_want (map (marked_want marks) ws) ≡ ws
wants-bare marks [] = refl
wants-bare marks (w ∷ ws) = ap (λ (vs : List Want). w ∷ vs) (wants-bare marks ws)

subs-bare : (marks : Marks) (ss : List Sub) → map bare_sub (map (marked_sub marks) ss) ≡ map undue ss
subs-bare marks [] = refl
subs-bare marks (s ∷ ss) =
    ap (λ (ws : List Want). record { number = s.number; identifier = s.identifier; wants = ws; due = None } ∷ map bare_sub (map (marked_sub marks) ss)) (wants-bare marks s.wants) ∙ ap (λ (ts : List Sub). undue s ∷ ts) (subs-bare marks ss)

-- ---- a task doesn't ask which confirmations are due

subscribes : (identifier : List ℕ) (n : ℕ) (o : Option Sub) → subscribe_task identifier n (option_map undue o) ≡ subscribe_task identifier n o
subscribes identifier n None = refl
subscribes identifier n (Some s) = refl

unsubscribes : (identifier : List ℕ) (o : Option Sub) → unsubscribe_task identifier (option_map undue o) ≡ unsubscribe_task identifier o
unsubscribes identifier None = refl
unsubscribes identifier (Some s) = refl

performs : (identifier payload : List ℕ) (o : Option Sub) → perform_task identifier payload (option_map undue o) ≡ perform_task identifier payload o
performs identifier payload None = refl
performs identifier payload (Some s) = refl

rows : (payload : List ℕ) (o : Option Sub) → row_task payload (option_map undue o) ≡ row_task payload o
rows payload None = refl
rows payload (Some s) = refl

confirms : (o : Option Sub) → confirm_task (option_map undue o) ≡ confirm_task o
confirms None = refl
confirms (Some s) = refl

abbrev undue_conn : List Sub → Conn
undue_conn ss = record { subs = map undue ss; made = 0; over = false }

closes : (how : Closing) (k : Conn) → close_task how (undue_conn k.subs) ≡ close_task how k
closes how k = ap (λ is. task.Close how is) (map-twice (λ (s : Sub). s.identifier) undue k.subs)

task-undue : (k : Conn) (p : Piece) → task_of (undue_conn k.subs) p ≡ task_of k p
task-undue k (piece.Cmd (Err fault)) = refl
task-undue k (piece.Cmd (Ok (command.Subscribe identifier))) =
    ap (λ n. subscribe_task identifier n (sub_named identifier (undue_conn k.subs))) (length-map k.subs undue) ∙ (ap (subscribe_task identifier (length k.subs)) (find-map undue (λ (s : Sub). bytes_eq s.identifier identifier) k.subs) ∙ subscribes identifier (length k.subs) (sub_named identifier k))
task-undue k (piece.Cmd (Ok (command.Unsubscribe identifier))) = ap (unsubscribe_task identifier) (find-map undue (λ (s : Sub). bytes_eq s.identifier identifier) k.subs) ∙ unsubscribes identifier (sub_named identifier k)
task-undue k (piece.Cmd (Ok (command.Message identifier payload))) =
    ap (perform_task identifier payload) (find-map undue (λ (s : Sub). bytes_eq s.identifier identifier) k.subs) ∙ performs identifier payload (sub_named identifier k)
task-undue k (piece.Row sub want row) = ap (row_task row.payload) (find-map undue (λ (s : Sub). s.number == sub.0) k.subs) ∙ rows row.payload (sub_numbered sub.0 k)
task-undue k (piece.Confirm sub) = ap confirm_task (find-map undue (λ (s : Sub). s.number == sub.0) k.subs) ∙ confirms (sub_numbered sub.0 k)
task-undue k (piece.Remote reconnect) = closes (closing.Remote reconnect) k
task-undue k piece.Gone = closes closing.Gone k
task-undue k piece.Restart = closes closing.Restart k

pub marked-task : (marks : Marks) (k : Conn) (c : Connection) (p : Piece) → IsMarked marks k c → task_of (bare c.subs) p ≡ task_of k p
marked-task marks k c p m =
    ap (λ (ss : List Subscription). task_of (bare ss) p) m.subs ∙ (ap (λ (ss : List Sub). task_of (record { subs = ss; made = 0; over = false }) p) (subs-bare marks k.subs) ∙ task-undue k p)
