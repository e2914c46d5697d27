-- Casts, trims and faults of the table are the model's. They leave what is held of each node and of each connection.
use Rattle.std.proofs.Common.{◌≡◌, ℕ, suc, ◌+◌, ◌==◌, ◌||◌, Bool, true, false, cond, List, [], ◌∷◌, ◌++◌, length, Option, Some, None, option_map, Result, Ok, Err, refl, sym, ap, subst, ◌∙◌, ◌⊎◌, inl, inr, add-one}
use Rattle.std.specs.List.{list_any}
use Rattle.std.proofs.lemmas.Option.{same_Some}
use Rattle.cable_base.specs.Memory.{next_count}
use Rattle.cable_base.specs.declared.numbers.Millis.{Millis}
use Rattle.cable_base.specs.declared.numbers.RowId.{RowId}
use Rattle.cable_base.specs.declared.rows.Row.{Row}
use Rattle.cable_model.specs.declared.events.Event.{Event}
use Rattle.cable_model.specs.declared.events.Event.TheVariants as event
use Rattle.cable_model.specs.declared.journals.ReadNote.{ReadNote}
use Rattle.cable_model.specs.declared.lines.Line.TheVariants as line
use Rattle.cable_model.specs.Journal.{offer_in}
use Rattle.cable_model.specs.Steps.{Step}
use Rattle.cable_model.specs.Possible.{is_out, last_turn}
use Rattle.cable_model.specs.Table.{TableStep, last_id, oldest, present, read_of, row_with}
use Rattle.cable_model.specs.History.{Rules, World, caught, stored, with_fault, new_id, trim_count, is_possible, happened}
use Rattle.cable_model.specs.Transcript.{lines_of, commit_lines, trim_lines}
use Rattle.node_core.specs.Nodes.{NodeState}
use Rattle.table_core.specs.declared.faults.StoreFault.{StoreFault}
use Rattle.table_core.specs.declared.faults.StoreFault.TheVariants as store_fault
use Rattle.table_core.specs.Keepers.{CallsOnce, KeeperFailures, after_keeper_call, is_refused, without}
use Rattle.table_core.specs.Memory.{MemRows, told_to_fail}
use Rattle.table_core.specs.Shown.{Shows}
use Rattle.table_core.specs.Tables.{TableState}
use Rattle.table_core.proofs.Callers.{commit-shows, trim-shows}
use Rattle.table_core.proofs.Following.{refusals_follow}
use Rattle.node_world.specs.declared.parts.Opened.{Opened}
use Rattle.node_world.specs.declared.parts.Post.{Post}
use Rattle.node_world.specs.declared.saying.Said.{Said}
use Rattle.node_world.specs.Parts.{Held, IsConnIn, IsPostIn, IsTableOf, IsWorkAt, conn_at, post_at, FollowsWorld}
use Rattle.node_world.specs.Steps.{StepsIn, NodeStays, calls_keeper, calls_node, keeper_calls, silent_said, refused_said}
use Rattle.node_world.proofs.Following.{all-stay, comes, is-same, others-as, possible_steps, post-now, post-stays, PostMoves}

-- ---- a call of the keeper

-- it failed exactly where it was to
pub record Calls (f f' : KeeperFailures) (failed : Bool) : Type 0 where
  pub fails : is_refused f ≡ failed
  pub behind : f' ≡ after_keeper_call f

pub went_well : {went failed : Type 0} {a a' n n' : ℕ} (f f' : KeeperFailures) → CallsOnce went failed (record { faults = a; calls = n; failures = Some f }) (record { faults = a'; calls = n'; failures = Some f' }) → (failed → ⊥) → Calls f f' false
went_well f f' c well = record { fails = by-test (is_refused f) refl; behind = same_Some f' (after_keeper_call f) c.after }
  where
    by-test : (b : Bool) → is_refused f ≡ b → b ≡ false
    by-test false e = refl
    by-test true e = absurd (well (c.fails.1 e))

pub was_refused : {went failed : Type 0} {a a' n n' : ℕ} (f f' : KeeperFailures) → CallsOnce went failed (record { faults = a; calls = n; failures = Some f }) (record { faults = a'; calls = n'; failures = Some f' }) → failed → Calls f f' true
was_refused f f' c badly = record { fails = c.fails.0 badly; behind = same_Some f' (after_keeper_call f) c.after }

-- an answer isn't a fault, and one fault isn't another
pub no-fault : {T : Type 0} (x : T) (r : Result T StoreFault) (e : StoreFault) → r ≡ Ok x → r ≡ Err e → ⊥
no-fault x r e well badly = cc (well, badly)

not-spent : {T : Type 0} (r : Result T StoreFault) → r ≡ Err store_fault.Failed → r ≡ Err store_fault.IdsSpent → ⊥
not-spent r failed spent = cc (failed, spent)

not-memory : {T : Type 0} (r : Result T StoreFault) → r ≡ Err store_fault.Failed → r ≡ Err store_fault.OutOfMemory → ⊥
not-memory r failed memory = cc (failed, memory)

-- the call of a commit that gave an id, and of one that the keeper refused
pub commit_went : {Same went : Type 0} {a a' n n' : ℕ} (r : Result RowId StoreFault) (id : RowId) (f f' : KeeperFailures) → r ≡ Ok id
    → (Same × ((r ≡ Err store_fault.IdsSpent) ⊎ (r ≡ Err store_fault.OutOfMemory))) ⊎ CallsOnce went (r ≡ Err store_fault.Failed) (record { faults = a; calls = n; failures = Some f }) (record { faults = a'; calls = n'; failures = Some f' }) → Calls f f' false
commit_went r id f f' well c =
    elim c [
      | inl none ↦ absurd (elim none.1 [ inl spent ↦ no-fault id r store_fault.IdsSpent well spent | inr memory ↦ no-fault id r store_fault.OutOfMemory well memory ])
      | inr call ↦ went_well f f' call (λ e. no-fault id r store_fault.Failed well e)
    ]

pub commit_failed : {Same went : Type 0} {a a' n n' : ℕ} (r : Result RowId StoreFault) (f f' : KeeperFailures) → r ≡ Err store_fault.Failed
    → (Same × ((r ≡ Err store_fault.IdsSpent) ⊎ (r ≡ Err store_fault.OutOfMemory))) ⊎ CallsOnce went (r ≡ Err store_fault.Failed) (record { faults = a; calls = n; failures = Some f }) (record { faults = a'; calls = n'; failures = Some f' }) → Calls f f' true
commit_failed r f f' failed c =
    elim c [
      | inl none ↦ absurd (elim none.1 [ inl spent ↦ not-spent r failed spent | inr memory ↦ not-memory r failed memory ])
      | inr call ↦ was_refused f f' call failed
    ]

-- where no call was planned to fail, one fails where that was asked for
asked-for : (f : KeeperFailures) → f.planned.planned ≡ [] → is_refused f ≡ f.next
asked-for f e = ap (λ (ns : List ℕ). list_any (λ x. x == next_count f.planned.calls) ns || f.next) e

-- ---- what a store event leaves

-- a world with another journal of the table, whose next store event fails or not
abbrev pub with-journal : World → List TableStep → Bool → World
with-journal w table failing = record { table = table; nodes = w.nodes; home = w.home; puts = w.puts; failing = failing }

-- an entry that is no Read of the node leaves what its turn caught
pub same-caught : (w : World) (n : ℕ) (table : List TableStep) (failing : Bool) → ((t : ℕ) → read_of n t table ≡ read_of n t w.table) → caught (with-journal w table failing) n ≡ caught w n
same-caught w n table failing same = ap (λ (o : Option ReadNote). cond (is_out (w.nodes n)) o None) (same (last_turn (w.nodes n)))

-- .. and its post
pub post-stored : (r : Rules) (w : World) (n : ℕ) (table : List TableStep) (failing : Bool) (o : Option Post) → ((t : ℕ) → read_of n t table ≡ read_of n t w.table) → IsPostIn r w n o
    → IsPostIn r (with-journal w table failing) n o
post-stored r w n table failing o same h = post-stays r w (with-journal w table failing) n o refl (same-caught w n table failing same) h

-- a connection of which nothing changed in the world
pub conn-stays : (r : Rules) (w now : World) (c : ℕ) (o : Option Opened) → now.home c ≡ w.home c → ((n : ℕ) → now.nodes n ≡ w.nodes n) → now.puts c ≡ w.puts c → IsConnIn r w c o → IsConnIn r now c o
conn-stays r w now c None home nodes puts k = (home ∙ k.0, puts ∙ k.1)
conn-stays r w now c (Some o) home nodes puts k = (
  home ∙ k.0,
  subst (λ (p : List Step). IsWorkAt r.callbacks o.node.0 c p (now.puts c) o.work) (sym (nodes o.node.0))
      (subst (λ (ids : List (Option RowId)). IsWorkAt r.callbacks o.node.0 c (w.nodes o.node.0) ids o.work) (sym puts) k.1),
)

-- the nodes behind a change of one post that leaves its node
pub node-kept : (n m : ℕ) (p p' : Post) (h h' : Held) → PostMoves n p p' h.posts h'.posts → p'.node ≡ p.node → NodeStays h h' m
node-kept n m p p' h h' moves same = by-test (n == m) refl
  where
    own : NodeStays h h' n
    own =
        ap (λ o. option_map (λ (x : Post). x.node) o) (post-now n p p' h.posts h'.posts moves) ∙ ap (λ (k : NodeState). Some k) same ∙ sym (ap (λ o. option_map (λ (x : Post). x.node) o) moves.was)

    by-test : (b : Bool) → (n == m) ≡ b → NodeStays h h' m
    by-test true e = subst (λ x. NodeStays h h' x) (is-same n m e) own
    by-test false e = others-as n p p' h h' moves m e

-- ---- a store event

-- what is held with other posts and another table
abbrev pub with-posts : Held → List (ℕ × Post) → TableState MemRows → Held
with-posts h posts t = record { posts = posts; conns = h.conns; table = t }

-- .. with another table alone
abbrev pub with-table : Held → TableState MemRows → Held
with-table h t = with-posts h h.posts t

module _ (r : Rules) (h : Held) (t : TableState MemRows) (failed : Bool) (call : Calls h.table.keeper.failures t.keeper.failures failed) where
  -- the store event fails where the call did
  pub failing-is : (w : World) → FollowsWorld r h w → w.failing ≡ failed
  failing-is w f = sym f.table.failing_is ∙ sym (asked-for h.table.keeper.failures f.table.unplanned) ∙ call.fails

  pub table-behind : (w : World) (entry : TableStep) → FollowsWorld r h w → Shows t.keeper.rows t.last.0 (entry ∷ w.table) → IsTableOf t (entry ∷ w.table) false
  table-behind w entry f shows = record {
    shows = shows;
    unplanned = ap (λ (x : KeeperFailures). x.planned.planned) call.behind ∙ f.table.unplanned;
    failing_is = ap (λ (x : KeeperFailures). x.next) call.behind;
  }

  -- the keeper was called once
  pub called-once : t.keeper.failures.planned.calls ≡ next_count (keeper_calls h)
  called-once = ap (λ (x : KeeperFailures). x.planned.calls) call.behind

  pub store-steps : (e : Event) (posts : List (ℕ × Post)) (s : Said) (entry : World → TableStep) → calls_keeper e ≡ true → ((w : World) → FollowsWorld r h w → is_possible r w e ≡ true)
      → ((w : World) → happened r w e ≡ stored w (entry w)) → s.idle ≡ false → ((w : World) → FollowsWorld r h w → w.failing ≡ failed → s.lines ≡ lines_of r w e)
      → ((w : World) → FollowsWorld r h w → w.failing ≡ failed → (n : ℕ) → IsPostIn r (stored w (entry w)) n (post_at n posts))
      → ((w : World) → FollowsWorld r h w → w.failing ≡ failed → Shows t.keeper.rows t.last.0 (entry w ∷ w.table)) → ((n : ℕ) → calls_node h n e ≡ false → NodeStays h (with-posts h posts t) n)
      → StepsIn r e h s (with-posts h posts t)
  store-steps e posts s entry store always is busy lines stay shows others =
      possible_steps r e h (with-posts h posts t) s always busy (λ w f. lines w f (failing-is w f))
      (λ w f may. comes r h (with-posts h posts t) w (stored w (entry w)) e f may (is w)
      (record {
        posts = stay w f (failing-is w f);
        conns = λ c. conn-stays r w (stored w (entry w)) c (conn_at c h.conns) refl (λ n. refl) refl (f.conns c);
        table = table-behind w (entry w) f (shows w f (failing-is w f));
      }))
      (called-once ∙ sym (ap (λ b. cond b (next_count (keeper_calls h)) (keeper_calls h)) store)) others

  -- one that is of no node
  pub table-steps : (e : Event) (s : Said) (entry : World → TableStep) → calls_keeper e ≡ true → ((w : World) → is_possible r w e ≡ true) → ((w : World) → happened r w e ≡ stored w (entry w)) → s.idle ≡ false
      → ((w : World) → FollowsWorld r h w → w.failing ≡ failed → s.lines ≡ lines_of r w e) → ((w : World) (n k : ℕ) → read_of n k (entry w ∷ w.table) ≡ read_of n k w.table)
      → ((w : World) → FollowsWorld r h w → w.failing ≡ failed → Shows t.keeper.rows t.last.0 (entry w ∷ w.table)) → StepsIn r e h s (with-table h t)
  table-steps e s entry store always is busy lines unread shows =
      store-steps e h.posts s entry store (λ w f. always w) is busy lines (λ w f fails n. post-stored r w n (entry w ∷ w.table) false (post_at n h.posts) (unread w n) (f.posts n)) shows
      (λ n off. all-stay h (with-table h t) refl n)

-- ---- a cast

-- the id of a commit that went well
pub new-id : (w : World) (last : ℕ) (id : RowId) → w.failing ≡ false → last ≡ last_id w.table → id.0 ≡ last + 1 → new_id w ≡ Some id.0
new-id w last id calm last_is next =
    ap (λ b. cond b None (Some (suc (last_id w.table)))) calm ∙ ap (λ (n : ℕ). Some n) (sym (next ∙ add-one last ∙ ap suc last_is))

pub no-id : (w : World) → w.failing ≡ true → new_id w ≡ None
no-id w e = ap (λ b. cond b None (Some (suc (last_id w.table)))) e

pub cast_steps : (r : Rules) (h : Held) (t : TableState MemRows) (at : Millis) (channel payload : List ℕ) (id : RowId) (s : Said) → id.0 ≡ h.table.last.0 + 1 → t.last ≡ id
    → Some t.keeper.rows ≡ Some (h.table.keeper.rows ++ row_with id.0 (offer_in channel payload at.0) ∷ []) → Calls h.table.keeper.failures t.keeper.failures false
    → s ≡ record { idle = false; lines = line.Row id ∷ [] } → StepsIn r (event.Cast at channel payload) h s (with-table h t)
cast_steps r h t at channel payload id s next last_is rows call is =
    table-steps r h t false call (event.Cast at channel payload) s (λ w. TableStep.Commit None (offer_in channel payload at.0) (new_id w)) refl (λ w. refl) (λ w. refl)
    (ap (λ (x : Said). x.idle) is)
    (λ w f calm. ap (λ (x : Said). x.lines) is ∙ sym (ap (commit_lines None) (new-id w h.table.last.0 id calm f.table.shows.last_is next)))
    (λ w n k. refl)
    (λ w f calm. subst (λ (o : Option ℕ). Shows t.keeper.rows t.last.0 (TableStep.Commit None (offer_in channel payload at.0) o ∷ w.table)) (sym (new-id w h.table.last.0 id calm f.table.shows.last_is next))
    (commit-shows {E = Unit {0}} (Ok id) h.table.keeper.rows t.keeper.rows h.table.last t.last None (offer_in channel payload at.0) next last_is rows w.table f.table.shows))

-- rows and a last id that a refused call left
pub left-as : (rows rows' : List Row) (last last' : RowId) (past : List TableStep) → rows' ≡ rows → last' ≡ last → Shows rows last.0 past → Shows rows' last'.0 past
left-as rows rows' last last' past same same_last shows =
    subst (λ (rs : List Row). Shows rs last'.0 past) (sym same) (subst (λ (i : RowId). Shows rows i.0 past) (sym same_last) shows)

pub cast_refused : (r : Rules) (h : Held) (t : TableState MemRows) (at : Millis) (channel payload : List ℕ) (s : Said) → t.keeper.rows ≡ h.table.keeper.rows
    → t.last ≡ h.table.last → Calls h.table.keeper.failures t.keeper.failures true → s ≡ refused_said → StepsIn r (event.Cast at channel payload) h s (with-table h t)
cast_refused r h t at channel payload s same same_last call is =
    table-steps r h t true call (event.Cast at channel payload) s (λ w. TableStep.Commit None (offer_in channel payload at.0) (new_id w)) refl (λ w. refl) (λ w. refl)
    (ap (λ (x : Said). x.idle) is)
    (λ w f fails. ap (λ (x : Said). x.lines) is ∙ sym (ap (commit_lines None) (no-id w fails)))
    (λ w n k. refl)
    (λ w f fails. left-as h.table.keeper.rows t.keeper.rows h.table.last t.last _ same same_last
    (subst (λ (o : Option ℕ). Shows h.table.keeper.rows h.table.last.0 (TableStep.Commit None (offer_in channel payload at.0) o ∷ w.table)) (sym (no-id w fails))
    ((refusals_follow h.table.keeper.rows h.table.last.0 w.table f.table.shows).commit None (offer_in channel payload at.0)).shows))

-- ---- a trim

-- how many rows a trim takes that goes well
count-is : (now retention batch count : ℕ) (w : World) (rows : List Row) (last : ℕ) → w.failing ≡ false → Shows rows last w.table → count ≡ length (oldest now retention batch last rows)
    → trim_count now retention batch w ≡ Some count
count-is now retention batch count w rows last calm s is =
    ap (λ b. cond b None (Some (length (oldest now retention batch (last_id w.table) (present w.table))))) calm
    ∙ ap (λ (n : ℕ). Some n)
    (sym (is ∙ ap (λ (n : ℕ). length (oldest now retention batch n rows)) s.last_is ∙ ap (λ (rs : List Row). length (oldest now retention batch (last_id w.table) rs)) s.rows_are))

no-count : (now retention batch : ℕ) (w : World) → w.failing ≡ true → trim_count now retention batch w ≡ None
no-count now retention batch w e = ap (λ b. cond b None (Some (length (oldest now retention batch (last_id w.table) (present w.table))))) e

pub trim_steps : (r : Rules) (h : Held) (t : TableState MemRows) (now retention : Millis) (batch count : ℕ) (s : Said) → Some t.keeper.rows ≡ Some (without (oldest now.0 retention.0 batch h.table.last.0 h.table.keeper.rows) h.table.keeper.rows)
    → count ≡ length (oldest now.0 retention.0 batch h.table.last.0 h.table.keeper.rows) → t.last ≡ h.table.last → Calls h.table.keeper.failures t.keeper.failures false
    → s ≡ record { idle = false; lines = line.Trimmed count ∷ [] } → StepsIn r (event.Trim now retention batch) h s (with-table h t)
trim_steps r h t now retention batch count s rows counted same_last call is =
    table-steps r h t false call (event.Trim now retention batch) s (λ w. TableStep.Trim now.0 retention.0 batch (trim_count now.0 retention.0 batch w)) refl (λ w. refl) (λ w. refl)
    (ap (λ (x : Said). x.idle) is)
    (λ w f calm. ap (λ (x : Said). x.lines) is ∙ sym (ap trim_lines (count-is now.0 retention.0 batch count w h.table.keeper.rows h.table.last.0 calm f.table.shows counted)))
    (λ w n k. refl)
    (λ w f calm. subst (λ (o : Option ℕ). Shows t.keeper.rows t.last.0 (TableStep.Trim now.0 retention.0 batch o ∷ w.table))
    (sym (count-is now.0 retention.0 batch count w h.table.keeper.rows h.table.last.0 calm f.table.shows counted))
    (trim-shows {E = Unit {0}} (Ok count) h.table.keeper.rows t.keeper.rows h.table.last t.last now.0 retention.0 batch rows counted same_last w.table f.table.shows))

pub trim_refused : (r : Rules) (h : Held) (t : TableState MemRows) (now retention : Millis) (batch : ℕ) (s : Said) → t.keeper.rows ≡ h.table.keeper.rows
    → t.last ≡ h.table.last → Calls h.table.keeper.failures t.keeper.failures true → s ≡ refused_said → StepsIn r (event.Trim now retention batch) h s (with-table h t)
trim_refused r h t now retention batch s same same_last call is =
    table-steps r h t true call (event.Trim now retention batch) s (λ w. TableStep.Trim now.0 retention.0 batch (trim_count now.0 retention.0 batch w)) refl (λ w. refl) (λ w. refl)
    (ap (λ (x : Said). x.idle) is)
    (λ w f fails. ap (λ (x : Said). x.lines) is ∙ sym (ap trim_lines (no-count now.0 retention.0 batch w fails)))
    (λ w n k. refl)
    (λ w f fails. left-as h.table.keeper.rows t.keeper.rows h.table.last t.last _ same same_last
    (subst (λ (o : Option ℕ). Shows h.table.keeper.rows h.table.last.0 (TableStep.Trim now.0 retention.0 batch o ∷ w.table)) (sym (no-count now.0 retention.0 batch w fails))
    ((refusals_follow h.table.keeper.rows h.table.last.0 w.table f.table.shows).trim now.0 retention.0 batch).shows))

-- ---- a fault

pub fault_steps : (r : Rules) (h : Held) (t : TableState MemRows) → t ≡ record { keeper = told_to_fail h.table.keeper; last = h.table.last } → StepsIn r event.Fault h silent_said (with-table h t)
fault_steps r h t told =
    possible_steps r event.Fault h (with-table h t) silent_said (λ w f. refl) refl (λ w f. refl)
    (λ w f may. comes r h (with-table h t) w (with_fault w) event.Fault f may refl
    (record {
      posts = λ n. post-stored r w n w.table true (post_at n h.posts) (λ k. refl) (f.posts n);
      conns = λ c. conn-stays r w (with_fault w) c (conn_at c h.conns) refl (λ n. refl) refl (f.conns c);
      table = subst (λ (x : TableState MemRows). IsTableOf x w.table true) (sym told) (record { shows = f.table.shows; unplanned = f.table.unplanned; failing_is = refl });
    }))
    (ap (λ (x : TableState MemRows). x.keeper.failures.planned.calls) told) (λ n off. all-stay h (with-table h t) refl n)
