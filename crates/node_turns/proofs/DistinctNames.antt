-- The subscriptions of a connection have different identifiers, and the streams of each have different names: a plan makes none that is there already.
use Rattle.std.proofs.Common.{ℕ, ◌+◌, ◌≡◌, ◌==◌, ◌&&◌, Bool, true, false, cond, not, List, [], ◌∷◌, ◌++◌, map, Option, Some, None, length, refl, ap, sym, subst}
use Rattle.std.proofs.Common.{◌∙◌, arith, bytes_eq, is_none, leb, append_assoc}
use Rattle.std.specs.Prelude.{⊤, Result, Ok, Err}
use Rattle.std.specs.List.{AllByRecursion, filter, find}
use Rattle.std.proofs.lemmas.List.{append-nil}
use Rattle.std.proofs.lemmas.Option.{same_Some}
use Rattle.std.proofs.lemmas.Bool.Decides.{nat_tests}
use Rattle.std.proofs.lemmas.Slice.Eq.{bytes_eq-Decides}
use Rattle.cable_base.proofs.Each.{All-append, All-filter}
use Rattle.cable_json.specs.declared.commands.Command.TheVariants as command
use Rattle.cable_json.specs.declared.commands.CommandFault.{CommandFault}
use Rattle.cable_json.specs.declared.commands.CommandFault.TheVariants as command_fault
use Rattle.channel_book.specs.declared.answers.Answer.{Answer}
use Rattle.channel_book.specs.declared.answers.CallFault.{CallFault}
use Rattle.stream_set.proofs.Apart.{bytes_eq-swap, or-first, or-second, any-push, any-filter}
use Rattle.cable_model.specs.declared.notes.Note.{Note}
use Rattle.cable_model.specs.declared.notes.Note.TheVariants as note
use Rattle.cable_model.specs.declared.pieces.Piece.{Piece}
use Rattle.cable_model.specs.declared.pieces.Piece.TheVariants as piece
use Rattle.cable_model.specs.declared.plans.Change.{Change}
use Rattle.cable_model.specs.declared.plans.Change.TheVariants as change
use Rattle.cable_model.specs.declared.plans.Plan.{Plan}
use Rattle.cable_model.specs.declared.plans.Task.TheVariants as task
use Rattle.cable_model.specs.Connection.{Want, Sub, Conn, wanted, among, without, streamed, changed}
use Rattle.cable_model.specs.Legal.{Legal}
use Rattle.cable_model.specs.Limits.{most_subscriptions}
use Rattle.cable_model.specs.Pieces.{seat}
use Rattle.cable_model.specs.Plans.{Callbacks, sub_named, sub_numbered, names_of, fault_task, subscribe_task, unsubscribe_task, perform_task, row_task}
use Rattle.cable_model.specs.Plans.{confirm_task, stream_note, new_stream, new_streams, stream_notes, rejection, unless_bad, subscribe_plan, perform_plan}
use Rattle.cable_model.specs.Plans.{unstopped, plan_for, plan_of}
use Rattle.cable_model.specs.Steps.{Step}
use Rattle.cable_model.proofs.Stored.{HasPlan, has-plan}
use Rattle.conn_core.specs.Subscriptions.{AreDifferent}
use Rattle.cable_model.proofs.Entries.{unfinished}

-- ---- names that are all different

different-push : (known : List (List ℕ)) (name : List ℕ) → AreDifferent known → among known name ≡ false → AreDifferent (known ++ name ∷ [])
different-push [] name d e = (refl, tt)
different-push (k ∷ known) name d e =
    let here : bytes_eq name k ≡ false = bytes_eq-swap name k ∙ or-first (bytes_eq k name) (among known name) e in
    (any-push (λ n. bytes_eq n k) known name d.0 here, different-push known name d.1 (or-second (bytes_eq k name) (among known name) e))

pub different-filter : (p : List ℕ → Bool) (names : List (List ℕ)) → AreDifferent names → AreDifferent (filter p names)
different-filter p [] d = tt
different-filter p (name ∷ names) d = go (p name) refl (different-filter p names d.1)
  where
    go : (b : Bool) → p name ≡ b → AreDifferent (filter p names) → AreDifferent (filter p (name ∷ names))
    go true b ih = rw b (any-filter (λ n. bytes_eq n name) p names d.0, ih)
    go false b ih = rw b ih

and-second : (a b : Bool) → (a && not b) ≡ true → b ≡ false
and-second a b e = grind arith

-- those that are known, and the new ones of those that are asked for
different-new : (known asked : List (List ℕ)) → AreDifferent known → AreDifferent (known ++ new_streams known asked)
different-new known [] d = subst AreDifferent (sym (append-nil known)) d
different-new known (name ∷ asked) d = go (is_none (stream_note known name) && not (among known name)) refl (λ k e. different-new k asked e)
  where
    go : (b : Bool) → (is_none (stream_note known name) && not (among known name)) ≡ b
        → ((k : List (List ℕ)) → AreDifferent k → AreDifferent (k ++ new_streams k asked))
        → AreDifferent (known ++ (new_stream known name ++ new_streams (known ++ new_stream known name) asked))
    go true b ih =
        let one : new_stream known name ≡ name ∷ [] = rw b refl in
        let more = ih (known ++ name ∷ []) (different-push known name d (and-second (is_none (stream_note known name)) (among known name) b)) in
        subst (λ ns. AreDifferent (known ++ (ns ++ new_streams (known ++ ns) asked))) (sym one)
        (subst AreDifferent (append_assoc known (name ∷ []) (new_streams (known ++ name ∷ []) asked)) more)
    go false b ih =
        let none : new_stream known name ≡ [] = rw b refl in
        let more : AreDifferent ((known ++ []) ++ new_streams (known ++ []) asked) = ih (known ++ []) (subst AreDifferent (sym (append-nil known)) d) in
        subst (λ ns. AreDifferent (known ++ (ns ++ new_streams (known ++ ns) asked))) (sym none)
        (subst AreDifferent (append_assoc known [] (new_streams (known ++ []) asked)) more)

-- ---- what a plan changes

-- a new identifier, or one that stands, and names that are different from those that stay
abbrev pub Suits : Change → Conn → Type 0
Suits change.Nothing k = ⊤
Suits (change.Add identifier streams) k = (sub_named identifier k ≡ None) × AreDifferent streams
Suits (change.Streams identifier stops streams) k =
    (s : Sub) × (sub_named identifier k ≡ Some s) × (AreDifferent (names_of s.wants) → AreDifferent (unstopped stops (names_of s.wants) ++ streams))
Suits (change.Remove identifier) k = ⊤
Suits change.Close k = ⊤

unless-suits : (why : List Note) (identifier : List ℕ) (answer : Answer) (left : Result Answer CallFault) (k : Conn) → sub_named identifier k ≡ None
    → Suits (unless_bad why identifier answer left).change k
unless-suits [] identifier answer left k e = (e, different-new [] answer.streams tt)
unless-suits (why ∷ more) identifier answer left k e = tt

subscribe-suits : (identifier : List ℕ) (said left : Result Answer CallFault) (k : Conn) → sub_named identifier k ≡ None
    → Suits (subscribe_plan identifier said left).change k
subscribe-suits identifier (Err fault) left k e = tt
subscribe-suits identifier (Ok answer) left k e =
    elim answer.rejected as (λ b.
    Suits (cond b (rejection [] identifier answer left) (unless_bad (stream_notes [] answer.streams) identifier answer left)).change k) [
      | true ↦ tt
      | false ↦ unless-suits (stream_notes [] answer.streams) identifier answer left k e
    ]

perform-suits : (identifier : List ℕ) (said : Result Answer CallFault) (s : Sub) (k : Conn) → sub_named identifier k ≡ Some s
    → Suits (perform_plan identifier (names_of s.wants) said).change k
perform-suits identifier (Err fault) s k e = tt
perform-suits identifier (Ok answer) s k e = (
  s,
  e,
  λ d. different-new (unstopped answer.stops (names_of s.wants)) answer.streams
      (different-filter (λ name. not (among answer.stops name)) (names_of s.wants) d),
)

fault-suits : (r : Callbacks) (user : List ℕ) (f : CommandFault) (k : Conn) → Suits (plan_for r user (fault_task f)).change k
fault-suits r user command_fault.BadJson k = tt
fault-suits r user _ k = tt

plan-suits : (r : Callbacks) (user : List ℕ) (k : Conn) (p : Piece) → Suits (plan_of r user k p).change k
plan-suits r user k (piece.Cmd (Err fault)) = fault-suits r user fault k
plan-suits r user k (piece.Cmd (Ok (command.Subscribe identifier))) = go (sub_named identifier k) refl (leb most_subscriptions (length k.subs))
  where
    go : (o : Option Sub) → sub_named identifier k ≡ o → (b : Bool) → Suits (plan_for r user (subscribe_task identifier (length k.subs) o)).change k
    go (Some s) e b = tt
    go None e b =
        elim (leb most_subscriptions (length k.subs)) as (λ t.
        Suits (plan_for r user (cond t (task.Note note.TooManySubscriptions) (task.Subscribe identifier))).change k) [
          | true ↦ tt
          | false ↦ subscribe-suits identifier (r.subscribed user identifier) (r.unsubscribed user identifier) k e
        ]
plan-suits r user k (piece.Cmd (Ok (command.Unsubscribe identifier))) =
    elim (sub_named identifier k) as (λ o. Suits (plan_for r user (unsubscribe_task identifier o)).change k) [ None ↦ tt | Some s ↦ tt ]
plan-suits r user k (piece.Cmd (Ok (command.Message identifier payload))) = go (sub_named identifier k) refl
  where
    go : (o : Option Sub) → sub_named identifier k ≡ o → Suits (plan_for r user (perform_task identifier payload o)).change k
    go None e = tt
    go (Some s) e = perform-suits identifier (r.perform user identifier payload) s k e
plan-suits r user k (piece.Row sub want row) =
    elim (sub_numbered sub.0 k) as (λ o. Suits (plan_for r user (row_task row.payload o)).change k) [ None ↦ tt | Some s ↦ tt ]
plan-suits r user k (piece.Confirm sub) = elim (sub_numbered sub.0 k) as (λ o. Suits (plan_for r user (confirm_task o)).change k) [ None ↦ tt | Some s ↦ tt ]
plan-suits r user k (piece.Remote reconnect) = tt
plan-suits r user k piece.Gone = tt
plan-suits r user k piece.Restart = tt

pub finish-suits : (c : ℕ) (puts : List _) (plan : Plan) (past : List Step) → Legal (Step.Finish c puts plan ∷ past) → Suits plan.change (seat c past).conn
finish-suits c puts plan past l =
    let found : HasPlan l.0.0.callbacks c past plan = has-plan l.0.0.callbacks c past plan l.0.0.planned in
    subst (λ (p : Plan). Suits p.change (seat c past).conn) (sym found.plan_is) (plan-suits l.0.0.callbacks found.user (seat c past).conn found.taken)

-- ---- what stands

abbrev pub ids_of : List Sub → List (List ℕ)
ids_of subs = map (λ (s : Sub). s.identifier) subs

abbrev pub AllNamed : List Sub → Type 0
AllNamed subs = AllByRecursion (λ (s : Sub). AreDifferent (names_of s.wants)) subs

pub record Distinct (k : Conn) : Type 0 where
  pub ids : AreDifferent (ids_of k.subs)
  pub names : AllNamed k.subs

not-found : (identifier : List ℕ) (subs : List Sub) → find (λ (s : Sub). bytes_eq s.identifier identifier) subs ≡ None → among (ids_of subs) identifier ≡ false
not-found identifier [] e = refl
not-found identifier (s ∷ subs) e = grind (arith, not-found identifier subs, e)

ids-append : (xs ys : List Sub) → ids_of (xs ++ ys) ≡ ids_of xs ++ ids_of ys
ids-append [] ys = refl
ids-append (x ∷ xs) ys = ap (λ zs. x.identifier ∷ zs) (ids-append xs ys)

names-wanted : (n : ℕ) (names : List (List ℕ)) → names_of (wanted n names) ≡ names
names-wanted n [] = refl
names-wanted n (name ∷ names) = ap (λ ns. name ∷ ns) (names-wanted (n + 1) names)

names-append : (xs ys : List Want) → names_of (xs ++ ys) ≡ names_of xs ++ names_of ys
names-append [] ys = refl
names-append (x ∷ xs) ys = ap (λ zs. x.name ∷ zs) (names-append xs ys)

names-without : (stops : List (List ℕ)) (ws : List Want) → names_of (without stops ws) ≡ unstopped stops (names_of ws)
names-without stops [] = refl
names-without stops (w ∷ ws) = grind (arith, names-without stops ws)

streamed-ids : (n : ℕ) (identifier : List ℕ) (stops streams : List (List ℕ)) (subs : List Sub)
    → ids_of (map (streamed n identifier stops streams) subs) ≡ ids_of subs
streamed-ids n identifier stops streams [] = refl
streamed-ids n identifier stops streams (s ∷ subs) = grind (arith, streamed-ids n identifier stops streams subs)

-- the subscriptions of other identifiers
pub streamed-none : (n : ℕ) (identifier : List ℕ) (stops streams : List (List ℕ)) (subs : List Sub) → among (ids_of subs) identifier ≡ false
    → map (streamed n identifier stops streams) subs ≡ subs
streamed-none n identifier stops streams [] e = refl
streamed-none n identifier stops streams (s ∷ subs) e = grind (arith, streamed-none n identifier stops streams subs, e)

streamed-named : (n : ℕ) (identifier : List ℕ) (stops streams : List (List ℕ)) (s : Sub) (subs : List Sub)
    → find (λ (t : Sub). bytes_eq t.identifier identifier) subs ≡ Some s
    → (AreDifferent (names_of s.wants) → AreDifferent (unstopped stops (names_of s.wants) ++ streams)) → AreDifferent (ids_of subs) → AllNamed subs
    → AllNamed (map (streamed n identifier stops streams) subs)
streamed-named n identifier stops streams s [] f g d a = tt
streamed-named n identifier stops streams s (t ∷ subs) f g d a =
    go (bytes_eq t.identifier identifier) refl (λ f'. streamed-named n identifier stops streams s subs f' g d.1 a.1)
  where
    go : (b : Bool) → bytes_eq t.identifier identifier ≡ b
        → (find (λ (u : Sub). bytes_eq u.identifier identifier) subs ≡ Some s → AllNamed (map (streamed n identifier stops streams) subs))
        → AllNamed (map (streamed n identifier stops streams) (t ∷ subs))
    go true b ih =
        let f' = rw b at f in
        let this : t ≡ s = same_Some t s f' in
        let same : t.identifier ≡ identifier = (bytes_eq-Decides t.identifier identifier).0 b in
        let rest = streamed-none n identifier stops streams subs (ap (among (ids_of subs)) (sym same) ∙ d.0) in
        let named : names_of (without stops t.wants ++ wanted n streams) ≡ unstopped stops (names_of s.wants) ++ streams =
        names-append (without stops t.wants) (wanted n streams) ∙ (ap (λ ns. ns ++ names_of (wanted n streams)) (names-without stops t.wants)
        ∙ (ap (λ ns. unstopped stops (names_of t.wants) ++ ns) (names-wanted n streams)
        ∙ ap (λ (u : Sub). unstopped stops (names_of u.wants) ++ streams) this)) in
        rw (b, rest) (subst AreDifferent (sym named) (g (subst (λ (u : Sub). AreDifferent (names_of u.wants)) this a.0)), a.1)
    go false b ih = let f' = rw b at f in rw b (a.0, ih f')

filtered-ids : (p : List ℕ → Bool) (subs : List Sub) → ids_of (filter (λ (s : Sub). p s.identifier) subs) ≡ filter p (ids_of subs)
filtered-ids p [] = refl
filtered-ids p (s ∷ subs) = grind (arith, filtered-ids p subs)

changed-distinct : (ch : Change) (place : ℕ) (k : Conn) → Suits ch k → Distinct k → Distinct (changed ch place k)
changed-distinct change.Nothing place k u d = d
changed-distinct (change.Add identifier streams) place k u d =
    record {
      ids = subst AreDifferent (sym (ids-append k.subs _)) (different-push (ids_of k.subs) identifier d.ids (not-found identifier k.subs u.0));
      names = All-append (λ (s : Sub). AreDifferent (names_of s.wants)) k.subs _ d.names (subst AreDifferent (sym (names-wanted k.made streams)) u.1, tt);
    }
changed-distinct (change.Streams identifier stops streams) place k u d =
    record {
      ids = subst AreDifferent (sym (streamed-ids k.made identifier stops streams k.subs)) d.ids;
      names = streamed-named k.made identifier stops streams u.0 k.subs u.1 u.2 d.ids d.names;
    }
changed-distinct (change.Remove identifier) place k u d =
    record {
      ids = subst AreDifferent (sym (filtered-ids (λ i. not (bytes_eq i identifier)) k.subs))
          (different-filter (λ i. not (bytes_eq i identifier)) (ids_of k.subs) d.ids);
      names = All-filter (λ (s : Sub). AreDifferent (names_of s.wants)) (λ (s : Sub). not (bytes_eq s.identifier identifier)) k.subs d.names;
    }
changed-distinct change.Close place k u d = record { ids = tt; names = tt }

pub distinct : (c : ℕ) (past : List Step) → Legal past → Distinct (seat c past).conn
distinct c [] l = record { ids = tt; names = tt }
distinct c (Step.Finish d puts plan ∷ past) l = go (d == c) refl (distinct c past l.1)
  where
    go : (b : Bool) → (d == c) ≡ b → Distinct (seat c past).conn → Distinct (seat c (Step.Finish d puts plan ∷ past)).conn
    go true b ih =
        let e : d ≡ c = grind (arith, nat_tests) in
        let suits : Suits plan.change (seat c past).conn = subst (λ x. Suits plan.change (seat x past).conn) e (finish-suits d puts plan past l) in
        rw b (changed-distinct plan.change (seat c past).taken (seat c past).conn suits ih)
    go false b ih = rw b ih
distinct c (e ∷ past) l = subst Distinct (sym (unfinished c e past refl).conn) (distinct c past l.1)
