-- The change of each plan can be made, where the numbers are above those that stand.
use Rattle.std.proofs.Common.{ℕ, ◌+◌, ◌^◌, ◌≡◌, ◌≤◌, Bool, true, false, cond, not, ◌&&◌, ◌||◌, List, [], ◌∷◌, ◌++◌, length, map, Option, Some, None, Result, Ok, Err, refl, ap, sym, subst, ◌∙◌, arith, append_assoc, is_none, is_some, leb}
use Rattle.std.specs.Prelude.{option_map}
use Rattle.std.specs.List.{find, list_any, filter}
use Rattle.std.specs.Str.{bytes_eq}
use Rattle.std.proofs.lemmas.List.Folds.{list_any-append}
use Rattle.std.proofs.lemmas.Option.{same_Some}
use Rattle.std.proofs.lemmas.Slice.Eq.{bytes_eq-Decides}
use Rattle.cable_base.specs.declared.numbers.SubNo.{SubNo}
use Rattle.cable_base.specs.declared.numbers.WantNo.{WantNo}
use Rattle.stream_set.specs.declared.entries.StreamEntry.{StreamEntry}
use Rattle.stream_set.specs.Streams.{is_named, has_name}
use Rattle.stream_set.proofs.Apart.{bytes_eq-swap, or-first, or-second, or-false, any-push}
use Rattle.cable_json.specs.declared.commands.Command.TheVariants as command
use Rattle.cable_json.specs.declared.commands.CommandFault.{CommandFault}
use Rattle.cable_json.specs.declared.commands.CommandFault.TheVariants as command_fault
use Rattle.channel_book.specs.declared.answers.Answer.{Answer}
use Rattle.channel_book.specs.declared.answers.CallFault.{CallFault}
use Rattle.cable_model.specs.declared.notes.Note.{Note}
use Rattle.cable_model.specs.declared.notes.Note.TheVariants as note
use Rattle.cable_model.specs.declared.pieces.Piece.{Piece}
use Rattle.cable_model.specs.declared.pieces.Piece.TheVariants as piece
use Rattle.cable_model.specs.declared.plans.Closing.{Closing}
use Rattle.cable_model.specs.declared.plans.Task.{Task}
use Rattle.cable_model.specs.declared.plans.Task.TheVariants as task
use Rattle.cable_model.specs.Connection.{Want, Sub, Conn, among}
use Rattle.cable_model.specs.Limits.{most_subscriptions}
use Rattle.cable_model.specs.Plans.{Callbacks, sub_named, sub_numbered, names_of, fault_task, subscribe_task, unsubscribe_task, perform_task, row_task, confirm_task, close_task, task_of, stream_note, new_stream, new_streams, unstopped, rejection, unless_bad, stream_notes, subscribe_plan, perform_plan, plan_for}
use Rattle.cable_model.specs.Wants.{makes}
use Rattle.conn_core.specs.Subscriptions.{Subscription, has_identifier, is_subscribed, AreApart, stopped, AreDifferent, AreNew}
use Rattle.conn_core.specs.Connections.{SubsBelow, AllWantsBelow, AreNewIn, CanApply}
use Rattle.conn_core.specs.Bare.{bare_want, bare_sub, bare}
use Rattle.conn_core.proofs.Mapped.{find-map, map-twice}

-- ---- the streams that become new wants are all different, and none of them is known

abbrev NoneAmong : List (List ℕ) → List (List ℕ) → Type 0
NoneAmong known [] = Unit {0}
NoneAmong known (name ∷ names) = (among known name ≡ false) × NoneAmong known names

fewer-known : (known more names : List (List ℕ)) → NoneAmong (known ++ more) names → NoneAmong known names
fewer-known known more [] h = tt
fewer-known known more (name ∷ names) h =
    let both = sym (list_any-append (λ n. bytes_eq n name) known more) ∙ h.0 in
    (or-first (among known name) (among more name) both, fewer-known known more names h.1)

not-true : (b : Bool) → not b ≡ true → b ≡ false
not-true true e = absurd cc
not-true false e = refl

second-true : (a b : Bool) → (a && b) ≡ true → b ≡ true
second-true true b e = e
second-true false b e = absurd cc

pub new-none-known : (known names : List (List ℕ)) → NoneAmong known (new_streams known names)
new-none-known known [] = tt
new-none-known known (name ∷ names) = go (is_none (stream_note known name) && not (among known name)) refl (new-none-known (known ++ new_stream known name) names)
  where
    go : (b : Bool) → (is_none (stream_note known name) && not (among known name)) ≡ b → NoneAmong (known ++ new_stream known name) (new_streams (known ++ new_stream known name) names) → NoneAmong known (new_stream known name ++ new_streams (known ++ new_stream known name) names)
    go true b ih =
        let new = not-true (among known name) (second-true (is_none (stream_note known name)) (not (among known name)) b) in
        let rest = fewer-known known (new_stream known name) (new_streams (known ++ new_stream known name) names) ih in
        let one : new_stream known name ≡ name ∷ [] = rw b refl in
        subst (λ ns. NoneAmong known (ns ++ new_streams (known ++ new_stream known name) names)) (sym one) (new, rest)
    go false b ih =
        let rest = fewer-known known (new_stream known name) (new_streams (known ++ new_stream known name) names) ih in
        let none : new_stream known name ≡ [] = rw b refl in
        subst (λ ns. NoneAmong known (ns ++ new_streams (known ++ new_stream known name) names)) (sym none) rest

last-apart : (known names : List (List ℕ)) (name : List ℕ) → NoneAmong (known ++ name ∷ []) names → among names name ≡ false
last-apart known [] name h = refl
last-apart known (m ∷ names) name h =
    let both = sym (list_any-append (λ n. bytes_eq n m) known (name ∷ [])) ∙ h.0 in
    let one = or-first (bytes_eq name m) false (or-second (among known m) (among (name ∷ []) m) both) in
    or-false (bytes_eq m name) (among names name) (bytes_eq-swap m name ∙ one) (last-apart known names name h.1)

pub new-different : (known names : List (List ℕ)) → AreDifferent (new_streams known names)
new-different known [] = tt
new-different known (name ∷ names) = go (is_none (stream_note known name) && not (among known name)) refl (new-different (known ++ new_stream known name) names)
  where
    go : (b : Bool) → (is_none (stream_note known name) && not (among known name)) ≡ b → AreDifferent (new_streams (known ++ new_stream known name) names) → AreDifferent (new_stream known name ++ new_streams (known ++ new_stream known name) names)
    go true b ih =
        let one : new_stream known name ≡ name ∷ [] = rw b refl in
        let none = subst (λ ns. NoneAmong (known ++ ns) (new_streams (known ++ new_stream known name) names)) one (new-none-known (known ++ new_stream known name) names) in
        subst (λ ns. AreDifferent (ns ++ new_streams (known ++ new_stream known name) names)) (sym one) (last-apart known (new_streams (known ++ new_stream known name) names) name none, ih)
    go false b ih =
        let none : new_stream known name ≡ [] = rw b refl in
        subst (λ ns. AreDifferent (ns ++ new_streams (known ++ new_stream known name) names)) (sym none) ih

-- ---- the streams that are left of a subscription are those that its task knows

left-known : (stops : List (List ℕ)) (es : List StreamEntry) (name : List ℕ) → has_name name (stopped stops es) ≡ among (unstopped stops (names_of (map bare_want es))) name
left-known stops [] name = refl
left-known stops (e ∷ es) name = go (among stops e.name) refl (left-known stops es name)
  where
    go : (b : Bool) → among stops e.name ≡ b → has_name name (stopped stops es) ≡ among (unstopped stops (names_of (map bare_want es))) name → has_name name (stopped stops (e ∷ es)) ≡ among (unstopped stops (names_of (map bare_want (e ∷ es)))) name
    go true b ih = rw b ih
    go false b ih = rw b (ap (λ t. bytes_eq e.name name || t) ih)

new-of : (stops : List (List ℕ)) (es : List StreamEntry) (names : List (List ℕ)) → NoneAmong (unstopped stops (names_of (map bare_want es))) names → AreNew names (stopped stops es)
new-of stops es [] h = tt
new-of stops es (name ∷ names) h = (left-known stops es name ∙ h.0, new-of stops es names h.1)

no-others : (identifier : List ℕ) (stops names : List (List ℕ)) (subs : List Subscription) → is_subscribed identifier subs ≡ false → AreNewIn identifier stops names subs
no-others identifier stops names [] e = tt
no-others identifier stops names (s ∷ subs) e =
    let f = or-first (has_identifier identifier s) (is_subscribed identifier subs) e in
    ((λ k. absurd (cc (f, k))), no-others identifier stops names subs (or-second (has_identifier identifier s) (is_subscribed identifier subs) e))

new-in : (identifier : List ℕ) (stops names : List (List ℕ)) (subs : List Subscription) (s : Subscription) → AreApart subs → find (has_identifier identifier) subs ≡ Some s → AreNew names (stopped stops s.streams) → AreNewIn identifier stops names subs
new-in identifier stops names [] s a f n = absurd (cc (f))
new-in identifier stops names (t ∷ subs) s a f n = go (has_identifier identifier t) refl (new-in identifier stops names subs s a.2)
  where
    go : (b : Bool) → has_identifier identifier t ≡ b → (find (has_identifier identifier) subs ≡ Some s → AreNew names (stopped stops s.streams) → AreNewIn identifier stops names subs) → AreNewIn identifier stops names (t ∷ subs)
    go true b ih =
        let f' = rw b at f in
        let this : t ≡ s = same_Some t s f' in
        let same : t.identifier ≡ identifier = (bytes_eq-Decides t.identifier identifier).0 b in
        ((λ _. subst (λ (u : Subscription). AreNew names (stopped stops u.streams)) (sym this) n), no-others identifier stops names subs (ap (λ i. is_subscribed i subs) (sym same) ∙ a.1))
    go false b ih = let f' = rw b at f in ((λ k. absurd (cc (b, k))), ih f' n)

-- ---- what a task says of the subscriptions

abbrev Suits : Task → List Subscription → Type 0
Suits task.Nothing subs = Unit {0}
Suits (task.Note why) subs = Unit {0}
Suits (task.Subscribe identifier) subs = is_subscribed identifier subs ≡ false
Suits (task.Unsubscribe identifier) subs = Unit {0}
Suits (task.Perform identifier payload streams) subs = (s : Subscription) × (find (has_identifier identifier) subs ≡ Some s) × (streams ≡ names_of (map bare_want s.streams))
Suits (task.Row identifier payload) subs = Unit {0}
Suits (task.Confirm identifier) subs = Unit {0}
Suits (task.Close how identifiers) subs = Unit {0}

not-found : (p : Subscription → Bool) (subs : List Subscription) → find p subs ≡ None → list_any p subs ≡ false
not-found p [] e = refl
not-found p (s ∷ subs) e = go (p s) refl (not-found p subs)
  where
    go : (b : Bool) → p s ≡ b → (find p subs ≡ None → list_any p subs ≡ false) → list_any p (s ∷ subs) ≡ false
    go true b ih = let e' = rw b at e in absurd (cc (e'))
    go false b ih = let e' = rw b at e in rw b (ih e')

found-any : (p : Subscription → Bool) (subs : List Subscription) (s : Subscription) → find p subs ≡ Some s → list_any p subs ≡ true
found-any p [] s e = absurd (cc (e))
found-any p (t ∷ subs) s e = go (p t) refl (found-any p subs s)
  where
    go : (b : Bool) → p t ≡ b → (find p subs ≡ Some s → list_any p subs ≡ true) → list_any p (t ∷ subs) ≡ true
    go true b ih = rw b refl
    go false b ih = let e' = rw b at e in rw b (ih e')

named-is : (identifier : List ℕ) (subs : List Subscription) → sub_named identifier (bare subs) ≡ option_map bare_sub (find (has_identifier identifier) subs)
named-is identifier subs = find-map bare_sub (λ (s : Sub). bytes_eq s.identifier identifier) subs

fault-suits : (f : CommandFault) (subs : List Subscription) → Suits (fault_task f) subs
fault-suits command_fault.BadJson subs = tt
fault-suits command_fault.UnknownCommand subs = tt
fault-suits command_fault.NoIdentifier subs = tt
fault-suits command_fault.BadData subs = tt
fault-suits command_fault.OutOfMemory subs = tt

subscribe-suits : (identifier : List ℕ) (n : ℕ) (subs : List Subscription) → Suits (subscribe_task identifier n (sub_named identifier (bare subs))) subs
subscribe-suits identifier n subs = subst (λ (o : Option Sub). Suits (subscribe_task identifier n o) subs) (sym (named-is identifier subs)) (go (find (has_identifier identifier) subs) refl (leb most_subscriptions n))
  where
    fits : (b : Bool) → is_subscribed identifier subs ≡ false → Suits (cond b (task.Note note.TooManySubscriptions) (task.Subscribe identifier)) subs
    fits true e = tt
    fits false e = e

    go : (o : Option Subscription) → find (has_identifier identifier) subs ≡ o → (b : Bool) → Suits (subscribe_task identifier n (option_map bare_sub o)) subs
    go (Some s) e b = tt
    go None e b = fits (leb most_subscriptions n) (not-found (has_identifier identifier) subs e)

unsubscribe-suits : (identifier : List ℕ) (o : Option Sub) (subs : List Subscription) → Suits (unsubscribe_task identifier o) subs
unsubscribe-suits identifier None subs = tt
unsubscribe-suits identifier (Some s) subs = tt

perform-suits : (identifier payload : List ℕ) (subs : List Subscription) → Suits (perform_task identifier payload (sub_named identifier (bare subs))) subs
perform-suits identifier payload subs = subst (λ (o : Option Sub). Suits (perform_task identifier payload o) subs) (sym (named-is identifier subs)) (go (find (has_identifier identifier) subs) refl)
  where
    go : (o : Option Subscription) → find (has_identifier identifier) subs ≡ o → Suits (perform_task identifier payload (option_map bare_sub o)) subs
    go None e = tt
    go (Some s) e = (s, e, refl)

row-suits : (payload : List ℕ) (o : Option Sub) (subs : List Subscription) → Suits (row_task payload o) subs
row-suits payload None subs = tt
row-suits payload (Some s) subs = tt

confirm-suits : (o : Option Sub) (subs : List Subscription) → Suits (confirm_task o) subs
confirm-suits None subs = tt
confirm-suits (Some s) subs = tt

task-suits : (subs : List Subscription) (p : Piece) → Suits (task_of (bare subs) p) subs
task-suits subs (piece.Cmd (Err fault)) = fault-suits fault subs
task-suits subs (piece.Cmd (Ok (command.Subscribe identifier))) = subscribe-suits identifier (length (bare subs).subs) subs
task-suits subs (piece.Cmd (Ok (command.Unsubscribe identifier))) = unsubscribe-suits identifier (sub_named identifier (bare subs)) subs
task-suits subs (piece.Cmd (Ok (command.Message identifier payload))) = perform-suits identifier payload subs
task-suits subs (piece.Row sub want row) = row-suits row.payload (sub_numbered sub.0 (bare subs)) subs
task-suits subs (piece.Confirm sub) = confirm-suits (sub_numbered sub.0 (bare subs)) subs
task-suits subs (piece.Remote reconnect) = tt
task-suits subs piece.Gone = tt
task-suits subs piece.Restart = tt

-- ---- the change of a plan

subscribe-can : (identifier : List ℕ) (answer left : Result Answer CallFault) (sub : SubNo) (first : WantNo) (subs : List Subscription) → is_subscribed identifier subs ≡ false → SubsBelow sub subs → AllWantsBelow first subs
    → first.0 + makes (subscribe_plan identifier answer left).change ≤ 2 ^ 64 → CanApply (subscribe_plan identifier answer left).change sub first subs
subscribe-can identifier (Err fault) left sub first subs u n w f = tt
subscribe-can identifier (Ok answer) left sub first subs u n w f = go answer.rejected (stream_notes [] answer.streams) f
  where
    go : (b : Bool) (notes : List Note) → first.0 + makes (cond b (rejection [] identifier answer left) (unless_bad notes identifier answer left)).change ≤ 2 ^ 64 → CanApply (cond b (rejection [] identifier answer left) (unless_bad notes identifier answer left)).change sub first subs
    go true notes f = tt
    go false (why ∷ notes) f = tt
    go false [] f = record { unsubscribed = u; different = new-different [] answer.streams; number = n; wants = w; fits = f }

perform-can : (identifier : List ℕ) (streams : List (List ℕ)) (answer : Result Answer CallFault) (sub : SubNo) (first : WantNo) (subs : List Subscription) (s : Subscription) → AreApart subs → find (has_identifier identifier) subs ≡ Some s → streams ≡ names_of (map bare_want s.streams) → AllWantsBelow first subs
    → first.0 + makes (perform_plan identifier streams answer).change ≤ 2 ^ 64 → CanApply (perform_plan identifier streams answer).change sub first subs
perform-can identifier streams (Err fault) sub first subs s a e i w f = tt
perform-can identifier streams (Ok answer) sub first subs s a e i w f =
    let none = subst (λ ns. NoneAmong (unstopped answer.stops ns) (new_streams (unstopped answer.stops streams) answer.streams)) i (new-none-known (unstopped answer.stops streams) answer.streams) in
    record {
      subscribed = found-any (has_identifier identifier) subs s e;
      different = new-different (unstopped answer.stops streams) answer.streams;
      new = new-in identifier answer.stops (new_streams (unstopped answer.stops streams) answer.streams) subs s a e (new-of answer.stops s.streams (new_streams (unstopped answer.stops streams) answer.streams) none);
      wants = w;
      fits = f;
    }

plan-can : (c : Callbacks) (user : List ℕ) (t : Task) (sub : SubNo) (first : WantNo) (subs : List Subscription) → Suits t subs → AreApart subs → SubsBelow sub subs → AllWantsBelow first subs → first.0 + makes (plan_for c user t).change ≤ 2 ^ 64 → CanApply (plan_for c user t).change sub first subs
plan-can c user task.Nothing sub first subs u a n w f = tt
plan-can c user (task.Note why) sub first subs u a n w f = tt
plan-can c user (task.Subscribe identifier) sub first subs u a n w f = subscribe-can identifier (c.subscribed user identifier) (c.unsubscribed user identifier) sub first subs u n w f
plan-can c user (task.Unsubscribe identifier) sub first subs u a n w f = tt
plan-can c user (task.Perform identifier payload streams) sub first subs u a n w f = perform-can identifier streams (c.perform user identifier payload) sub first subs u.0 a u.1 u.2 w f
plan-can c user (task.Row identifier payload) sub first subs u a n w f = tt
plan-can c user (task.Confirm identifier) sub first subs u a n w f = tt
plan-can c user (task.Close how identifiers) sub first subs u a n w f = tt

pub plan-applies : (c : Callbacks) (user : List ℕ) (subs : List Subscription) (p : Piece) (sub : SubNo) (first : WantNo) → AreApart subs → SubsBelow sub subs → AllWantsBelow first subs → first.0 + makes (plan_for c user (task_of (bare subs) p)).change ≤ 2 ^ 64 → CanApply (plan_for c user (task_of (bare subs) p)).change sub first subs
plan-applies c user subs p sub first a n w f = plan-can c user (task_of (bare subs) p) sub first subs (task-suits subs p) a n w f
