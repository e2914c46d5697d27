-- Commits for the work of a connection are the model's.
use Rattle.std.proofs.Common.{◌≡◌, ℕ, ◌+◌, ◌<◌, Bool, true, false, cond, List, [], ◌∷◌, ◌++◌, length, Option, Some, None, Ok, refl, sym, ap, subst, ◌∙◌, arith, length-append, inl, inr}
use Rattle.std.specs.Prelude.{ltb, slice_get}
use Rattle.std.specs.BTreeMap.{is_at}
use Rattle.std.specs.Ordering.{nat_cmp}
use Rattle.std.proofs.lemmas.Bool.{le-ltb, lt-ltb}
use Rattle.std.proofs.lemmas.Option.{slice_get_cases, slice_get_within}
use Rattle.cable_base.specs.declared.numbers.ConnNo.{ConnNo}
use Rattle.cable_base.specs.declared.numbers.Millis.{Millis}
use Rattle.cable_base.specs.declared.numbers.RowId.{RowId}
use Rattle.channel_book.specs.declared.answers.Cast.{Cast}
use Rattle.cable_model.specs.declared.events.Event.TheVariants as event
use Rattle.cable_model.specs.declared.lines.Line.TheVariants as line
use Rattle.cable_model.specs.declared.notes.Note.TheVariants as note
use Rattle.cable_model.specs.Possible.{can_put, job_plan}
use Rattle.cable_model.specs.Table.{TableStep, row_with}
use Rattle.cable_model.specs.History.{Rules, World, committed, home_of, is_possible, new_id, next_cast, offered, row_id, stored, with_puts}
use Rattle.cable_model.specs.Transcript.{commit_lines, conn_note}
use Rattle.table_core.specs.Keepers.{KeeperFailures}
use Rattle.table_core.specs.Memory.{MemRows}
use Rattle.table_core.specs.Shown.{Shows}
use Rattle.table_core.specs.Tables.{TableState}
use Rattle.table_core.proofs.Callers.{commit-shows}
use Rattle.table_core.proofs.Following.{refusals_follow}
use Rattle.node_world.specs.declared.outstanding.OutWork.{OutWork}
use Rattle.node_world.specs.declared.parts.Opened.{Opened}
use Rattle.node_world.specs.declared.saying.Said.{Said}
use Rattle.node_world.specs.Parts.{Held, IsWorkOf, is_left, post_at, conn_at, FollowsWorld}
use Rattle.node_world.specs.Steps.{StepsIn}
use Rattle.node_world.proofs.Following.{possible_steps, comes, conn-of, tested-home, home-is, post-stays}
use Rattle.node_world.proofs.FollowingJobs.{with-work, conns-put, left-is, work-of}
use Rattle.node_world.proofs.FollowingTable.{Calls, failing-is, table-behind, new-id, no-id, left-as}

-- behind the last cast none is left
pub none_left : {X : Type 0} (xs : List X) (n : ℕ) → None ≡ slice_get xs n → ltb n (length xs) ≡ false
none_left xs n e = elim (slice_get_cases xs n).1 [ inl there ↦ absurd (let some = there.2 in cc (e, some)) | inr past ↦ le-ltb n (length xs) past.0 ]

-- what a world holds with other connections and another table
abbrev pub with-conns : Held → List (ℕ × Opened) → TableState MemRows → Held
with-conns h conns t = record { posts = h.posts; conns = conns; table = t }

module _ (r : Rules) (h : Held) (conns : List (ℕ × Opened)) (t : TableState MemRows) (c : ConnNo) (at : Millis) (o : Opened) (k k' : OutWork) (cast : Cast) (id : Option RowId) (failed : Bool)
    (here : conn_at c.0 h.conns ≡ Some o) (found : o.work ≡ Some k) (next : slice_get k.work.plan.casts (length k.work.puts) ≡ Some cast)
    (kept : (d : ℕ) → conn_at d conns ≡ cond (is_at (nat_cmp c.0) d) (Some (with-work o (Some k'))) (conn_at d h.conns)) (noted : k'.work ≡ record k.work { puts = k.work.puts ++ id ∷ [] })
    (call : Calls h.table.keeper.failures t.keeper.failures failed) where
  abbrev entry : World → TableStep
  entry w = TableStep.Commit (Some c.0) (offered cast at.0) (new_id w)

  abbrev now : World → World
  now w = with_puts (stored w (entry w)) c.0 (w.puts c.0 ++ row_id (new_id w) ∷ [])

  out : (w : World) → FollowsWorld r h w → IsWorkOf r.callbacks o.node.0 c.0 (w.nodes o.node.0) (w.puts c.0) k.work
  out w f = work-of r h w c.0 o k f here found

  within : length k.work.puts < length k.work.plan.casts
  within = slice_get_within k.work.plan.casts (length k.work.puts) cast next

  can : (w : World) → FollowsWorld r h w → is_possible r w (event.Put c at) ≡ true
  can w f =
      tested-home r h w c.0 o (can_put r.callbacks c.0 (w.puts c.0)) f here
      ∙ (left-is r h w c.0 o f here ∙ (ap is_left found ∙ lt-ltb (length k.work.puts) (length k.work.plan.casts) within))

  -- the cast that is committed is the work's next one
  offers : (w : World) → FollowsWorld r h w → next_cast (w.puts c.0) (job_plan r.callbacks c.0 (w.nodes (home_of w c.0))) ≡ Some cast
  offers w f =
      ap (λ x. next_cast (w.puts c.0) (job_plan r.callbacks c.0 (w.nodes x))) (home-is r h w c.0 o f here)
      ∙ (ap (next_cast (w.puts c.0)) (out w f).plan
      ∙ (ap (λ (ids : List (Option RowId)). slice_get k.work.plan.casts (length ids)) (sym (out w f).puts_are) ∙ next))

  -- the work has one commit more
  work-now : (w : World) → FollowsWorld r h w → row_id (new_id w) ≡ id → IsWorkOf r.callbacks o.node.0 c.0 (w.nodes o.node.0) (w.puts c.0 ++ row_id (new_id w) ∷ []) k'.work
  work-now w f is =
      let old = out w f in
      subst (IsWorkOf r.callbacks o.node.0 c.0 (w.nodes o.node.0) (w.puts c.0 ++ row_id (new_id w) ∷ [])) (sym noted)
      (record {
        conn = old.conn;
        node = old.node;
        place = old.place;
        task = old.task;
        plan = old.plan;
        puts_are = ap (λ (ids : List (Option RowId)). ids ++ id ∷ []) old.puts_are ∙ ap (λ (x : Option RowId). w.puts c.0 ++ x ∷ []) (sym is);
        noted = omega (arith, length-append k.work.puts (id ∷ []), within);
      })

  put-now : (s : Said) → s.idle ≡ false → ((w : World) → FollowsWorld r h w → w.failing ≡ failed → s.lines ≡ commit_lines (Some c) (new_id w))
      → ((w : World) → FollowsWorld r h w → w.failing ≡ failed → row_id (new_id w) ≡ id)
      → ((w : World) → FollowsWorld r h w → w.failing ≡ failed → Shows t.keeper.rows t.last.0 (entry w ∷ w.table)) → StepsIn r (event.Put c at) h s (with-conns h conns t)
  put-now s busy lines ids shows =
      possible_steps r (event.Put c at) h (with-conns h conns t) s can busy (λ w f. lines w f (failing-is r h t failed call w f))
      (λ w f may. comes r h (with-conns h conns t) w (now w) (event.Put c at) f may (ap (committed w c.0 at.0) (offers w f))
      (record {
        posts = λ n. post-stays r w (now w) n (post_at n h.posts) refl refl (f.posts n);
        conns = conns-put r h (with-conns h conns t) (stored w (entry w)) c.0 (w.puts c.0 ++ row_id (new_id w) ∷ []) o (Some k') kept (conn-of r h w c.0 (Some o) f here).0
            (work-now w f (ids w f (failing-is r h t failed call w f))) (λ d other. f.conns d);
        table = table-behind r h t failed call w (entry w) f (shows w f (failing-is r h t failed call w f));
      }))
      (ap (λ (x : KeeperFailures). x.planned.calls) call.behind) (λ n called. refl)

-- a commit that went well
pub put_steps : (r : Rules) (h : Held) (conns : List (ℕ × Opened)) (t : TableState MemRows) (c : ConnNo) (at : Millis) (o : Opened) (k k' : OutWork) (cast : Cast) (id : RowId) (s : Said) → conn_at c.0 h.conns ≡ Some o → o.work ≡ Some k
    → slice_get k.work.plan.casts (length k.work.puts) ≡ Some cast → ((d : ℕ) → conn_at d conns ≡ cond (is_at (nat_cmp c.0) d) (Some (with-work o (Some k'))) (conn_at d h.conns))
    → k'.work ≡ record k.work { puts = k.work.puts ++ Some id ∷ [] } → Calls h.table.keeper.failures t.keeper.failures false → id.0 ≡ h.table.last.0 + 1 → t.last ≡ id
    → Some t.keeper.rows ≡ Some (h.table.keeper.rows ++ row_with id.0 (offered cast at.0) ∷ []) → s ≡ record { idle = false; lines = line.Row id ∷ [] } → StepsIn r (event.Put c at) h s (with-conns h conns t)
put_steps r h conns t c at o k k' cast id s here found next kept noted call next_id last_is rows is =
    put-now r h conns t c at o k k' cast (Some id) false here found next kept noted call s (ap (λ (x : Said). x.idle) is)
    (λ w f calm. ap (λ (x : Said). x.lines) is ∙ sym (ap (commit_lines (Some c)) (new-id w h.table.last.0 id calm f.table.shows.last_is next_id)))
    (λ w f calm. ap row_id (new-id w h.table.last.0 id calm f.table.shows.last_is next_id))
    (λ w f calm. subst (λ (x : Option ℕ). Shows t.keeper.rows t.last.0 (TableStep.Commit (Some c.0) (offered cast at.0) x ∷ w.table)) (sym (new-id w h.table.last.0 id calm f.table.shows.last_is next_id))
    (commit-shows {E = Unit {0}} (Ok id) h.table.keeper.rows t.keeper.rows h.table.last t.last (Some c.0) (offered cast at.0) next_id last_is rows w.table f.table.shows))

-- one that failed
pub put_refused : (r : Rules) (h : Held) (conns : List (ℕ × Opened)) (t : TableState MemRows) (c : ConnNo) (at : Millis) (o : Opened) (k k' : OutWork) (cast : Cast) (s : Said) → conn_at c.0 h.conns ≡ Some o → o.work ≡ Some k
    → slice_get k.work.plan.casts (length k.work.puts) ≡ Some cast → ((d : ℕ) → conn_at d conns ≡ cond (is_at (nat_cmp c.0) d) (Some (with-work o (Some k'))) (conn_at d h.conns))
    → k'.work ≡ record k.work { puts = k.work.puts ++ None ∷ [] } → Calls h.table.keeper.failures t.keeper.failures true → t.keeper.rows ≡ h.table.keeper.rows → t.last ≡ h.table.last
    → s ≡ record { idle = false; lines = conn_note c.0 note.StoreRefused ∷ [] } → StepsIn r (event.Put c at) h s (with-conns h conns t)
put_refused r h conns t c at o k k' cast s here found next kept noted call same same_last is =
    put-now r h conns t c at o k k' cast None true here found next kept noted call s (ap (λ (x : Said). x.idle) is)
    (λ w f fails. ap (λ (x : Said). x.lines) is ∙ sym (ap (commit_lines (Some c)) (no-id w fails)))
    (λ w f fails. ap row_id (no-id w fails))
    (λ w f fails. left-as h.table.keeper.rows t.keeper.rows h.table.last t.last _ same same_last
    (subst (λ (x : Option ℕ). Shows h.table.keeper.rows h.table.last.0 (TableStep.Commit (Some c.0) (offered cast at.0) x ∷ w.table)) (sym (no-id w fails))
    ((refusals_follow h.table.keeper.rows h.table.last.0 w.table f.table.shows).commit (Some c.0) (offered cast at.0)).shows))
