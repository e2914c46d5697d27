-- What a plan wants: a new subscription under an identifier that none has, and streams that its subscription doesn't want.
use Rattle.std.proofs.Common.{ℕ, ◌≡◌, Bool, true, false, cond, not, ◌&&◌, ◌||◌, List, [], ◌∷◌, ◌++◌, append_assoc, append-nil, length, Some, None, Option, refl, ap, subst, ◌∙◌, bytes_eq, is_none, Result, Ok, Err, leb, find}
use Rattle.std.specs.List.{list_any, AllByRecursion}
use Rattle.std.proofs.lemmas.Cmp.{nat_list_eq_equiv}
use Rattle.std.proofs.lemmas.Map.Keys.{IsDistinct-push}
use Rattle.cable_json.specs.declared.commands.Command.TheVariants as command
use Rattle.channel_book.specs.declared.answers.Answer.{Answer}
use Rattle.channel_book.specs.declared.answers.CallFault.{CallFault}
use Rattle.cable_model.specs.declared.notes.Note.{Note}
use Rattle.cable_model.specs.declared.notes.Note.TheVariants as note
use Rattle.cable_model.specs.declared.pieces.Piece.{Piece}
use Rattle.cable_model.specs.declared.pieces.Piece.TheVariants as piece
use Rattle.cable_model.specs.declared.plans.Task.TheVariants as task
use Rattle.cable_model.specs.declared.plans.Change.{Change}
use Rattle.cable_model.specs.declared.plans.Change.TheVariants as change
use Rattle.cable_json.specs.declared.commands.CommandFault.{CommandFault}
use Rattle.cable_json.specs.declared.commands.CommandFault.TheVariants as command_fault
use Rattle.cable_model.specs.Limits.{most_subscriptions}
use Rattle.cable_model.specs.Connection.{Want, Sub, Conn, among, without}
use Rattle.cable_model.specs.Plans.{Callbacks, sub_named, sub_numbered, names_of, stream_note, stream_notes, new_stream, new_streams, unstopped, fault_task, subscribe_task, unsubscribe_task, perform_task, row_task, confirm_task, plan_for, plan_of, unless_bad, rejection, subscribe_plan, perform_plan}
use Rattle.cable_laws.specs.Differ.{AreDistinctTexts}
use Rattle.cable_laws.proofs.Distinct.{distinct-filter, empty-distinct}

-- ---- streams that a callback asks for

among-swap : (known : List (List ℕ)) (name : List ℕ) → list_any (bytes_eq name) known ≡ among known name
among-swap [] name = refl
among-swap (n ∷ known) name = ap (λ b. b || list_any (bytes_eq name) known) (nat_list_eq_equiv.symm name n) ∙ ap (λ b. bytes_eq n name || b) (among-swap known name)

one-more : (known : List (List ℕ)) (name : List ℕ) → AreDistinctTexts known → AreDistinctTexts (known ++ new_stream known name)
one-more known name h = go (is_none (stream_note known name)) (among known name) refl
  where
    go : (good there : Bool) → among known name ≡ there → AreDistinctTexts (known ++ cond (good && not there) (name ∷ []) [])
    go true true e = rw (append-nil known) h
    go true false e = IsDistinct-push nat_list_eq_equiv known name h (among-swap known name ∙ e)
    go false there e = rw (append-nil known) h

-- the new streams differ from those that are known, and from each other
pub new-differ : (known names : List (List ℕ)) → AreDistinctTexts known → AreDistinctTexts (known ++ new_streams known names)
new-differ known [] h = rw (append-nil known) h
new-differ known (name ∷ names) h =
    subst AreDistinctTexts (append_assoc known (new_stream known name) (new_streams (known ++ new_stream known name) names))
    (new-differ (known ++ new_stream known name) names (one-more known name h))

pub without-names : (stops : List (List ℕ)) (wants : List Want) → names_of (without stops wants) ≡ unstopped stops (names_of wants)
without-names stops [] = refl
without-names stops (w ∷ wants) = go (among stops w.name) refl (without-names stops wants)
  where
    go : (b : Bool) → among stops w.name ≡ b → names_of (without stops wants) ≡ unstopped stops (names_of wants) → names_of (without stops (w ∷ wants)) ≡ unstopped stops (names_of (w ∷ wants))
    go true b ih = rw b ih
    go false b ih = rw b (ap (λ names. w.name ∷ names) ih)

-- ---- a change that fits a connection

-- the streams of each of these subscriptions differ
abbrev pub StreamsDiffer : List Sub → Type 0
StreamsDiffer subs = AllByRecursion (λ (s : Sub). AreDistinctTexts (names_of s.wants)) subs

-- a new subscription has an identifier of its own and streams that differ, and those that one gets differ from what is left of its own
abbrev pub FitsConn : Conn → Change → Type 0
FitsConn k (change.Add identifier streams) = (sub_named identifier k ≡ None) × AreDistinctTexts streams
FitsConn k (change.Streams identifier stops streams) = (s : Sub) → sub_named identifier k ≡ Some s → AreDistinctTexts (unstopped stops (names_of s.wants) ++ streams)
FitsConn k _ = Unit {0}

found-holds : (P : Sub → Type 0) (p : Sub → Bool) (xs : List Sub) (s : Sub) → AllByRecursion P xs → find p xs ≡ Some s → P s
found-holds P p [] s h e = absurd (cc (e))
found-holds P p (x ∷ xs) s h e = go (p x) refl (found-holds P p xs s h.1)
  where
    go : (b : Bool) → p x ≡ b → (find p xs ≡ Some s → P s) → P s
    go true b ih = let e' = rw b at e in let same : x ≡ s = cc (e') in subst P same h.0
    go false b ih = let e' = rw b at e in ih e'

module _ (c : Callbacks) (user : List ℕ) (k : Conn) where
  accepted-fits : (identifier : List ℕ) (answer : Answer) (left : Result Answer CallFault) (notes : List Note) → sub_named identifier k ≡ None → FitsConn k (unless_bad notes identifier answer left).change
  accepted-fits identifier answer left [] none = (none, new-differ [] answer.streams (empty-distinct bytes_eq))
  accepted-fits identifier answer left (why ∷ notes) none = tt

  answered-fits : (identifier : List ℕ) (given left : Result Answer CallFault) → sub_named identifier k ≡ None → FitsConn k (subscribe_plan identifier given left).change
  answered-fits identifier (Err fault) left none = tt
  answered-fits identifier (Ok answer) left none = elim answer.rejected as (λ b. FitsConn k (cond b (rejection [] identifier answer left) (unless_bad (stream_notes [] answer.streams) identifier answer left)).change) [
    | true ↦ tt
    | false ↦ accepted-fits identifier answer left (stream_notes [] answer.streams) none
  ]

  subscribe-fits : (identifier : List ℕ) (o : Option Sub) → sub_named identifier k ≡ o → FitsConn k (plan_for c user (subscribe_task identifier (length k.subs) o)).change
  subscribe-fits identifier (Some s) e = tt
  subscribe-fits identifier None e = elim (leb most_subscriptions (length k.subs)) as (λ b. FitsConn k (plan_for c user (cond b (task.Note note.TooManySubscriptions) (task.Subscribe identifier))).change) [
    | true ↦ tt
    | false ↦ answered-fits identifier (c.subscribed user identifier) (c.unsubscribed user identifier) e
  ]

  performed-fits : (identifier : List ℕ) (s : Sub) (given : Result Answer CallFault) → sub_named identifier k ≡ Some s → AreDistinctTexts (names_of s.wants) → FitsConn k (perform_plan identifier (names_of s.wants) given).change
  performed-fits identifier s (Err fault) e d = tt
  performed-fits identifier s (Ok answer) e d = λ t e'.
      let same : s ≡ t = cc (e, e') in
      subst (λ (x : Sub). AreDistinctTexts (unstopped answer.stops (names_of x.wants) ++ new_streams (unstopped answer.stops (names_of s.wants)) answer.streams)) same
      (new-differ (unstopped answer.stops (names_of s.wants)) answer.streams
      (subst AreDistinctTexts (without-names answer.stops s.wants) (distinct-filter bytes_eq (λ (w : Want). w.name) (λ w. not (among answer.stops w.name)) s.wants d)))

  perform-fits : (identifier payload : List ℕ) (o : Option Sub) → sub_named identifier k ≡ o → StreamsDiffer k.subs → FitsConn k (plan_for c user (perform_task identifier payload o)).change
  perform-fits identifier payload None e d = tt
  perform-fits identifier payload (Some s) e d =
      performed-fits identifier s (c.perform user identifier payload) e (found-holds (λ (x : Sub). AreDistinctTexts (names_of x.wants)) (λ x. bytes_eq x.identifier identifier) k.subs s d e)

  unsubscribe-fits : (identifier : List ℕ) (o : Option Sub) → FitsConn k (plan_for c user (unsubscribe_task identifier o)).change
  unsubscribe-fits identifier None = tt
  unsubscribe-fits identifier (Some s) = tt

  row-fits : (payload : List ℕ) (o : Option Sub) → FitsConn k (plan_for c user (row_task payload o)).change
  row-fits payload None = tt
  row-fits payload (Some s) = tt

  confirm-fits : (o : Option Sub) → FitsConn k (plan_for c user (confirm_task o)).change
  confirm-fits None = tt
  confirm-fits (Some s) = tt

  fault-fits : (fault : CommandFault) → FitsConn k (plan_for c user (fault_task fault)).change
  fault-fits command_fault.BadJson = tt
  fault-fits _ = tt

  -- what is planned for a piece fits the connection
  pub plan-fits : (p : Piece) → StreamsDiffer k.subs → FitsConn k (plan_of c user k p).change
  plan-fits (piece.Cmd (Err fault)) d = fault-fits fault
  plan-fits (piece.Cmd (Ok (command.Subscribe identifier))) d = subscribe-fits identifier (sub_named identifier k) refl
  plan-fits (piece.Cmd (Ok (command.Unsubscribe identifier))) d = unsubscribe-fits identifier (sub_named identifier k)
  plan-fits (piece.Cmd (Ok (command.Message identifier payload))) d = perform-fits identifier payload (sub_named identifier k) refl d
  plan-fits (piece.Row sub want row) d = row-fits row.payload (sub_numbered sub.0 k)
  plan-fits (piece.Confirm sub) d = confirm-fits (sub_numbered sub.0 k)
  plan-fits _ d = tt
