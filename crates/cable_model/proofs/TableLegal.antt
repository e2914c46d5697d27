-- Whatever happens, the table's journal stays legal.
use Rattle.std.proofs.Common.{ℕ, suc, ◌≡◌, Bool, true, false, cond, List, [], ◌∷◌, length, Some, None, Option, refl, inl, inr}
use Rattle.channel_book.specs.declared.answers.Cast.{Cast}
use Rattle.cable_model.specs.declared.events.Event.{Event}
use Rattle.cable_model.specs.declared.events.Event.TheVariants as event
use Rattle.cable_model.specs.declared.journals.ReadNote.{ReadNote}
use Rattle.cable_model.specs.declared.plans.Plan.{Plan}
use Rattle.cable_model.specs.Wants.{lower}
use Rattle.cable_model.specs.Table.{Offer, TableStep, last_id, note_of, missed_note, trimmed}
use Rattle.cable_model.specs.Possible.{can_put_command, last_turn, job_plan}
use Rattle.cable_model.specs.History.{Rules, World, start, run, happen, happened, is_possible, home_of, next_cast, offered, committed, finish, deliver, arrive, caught, hashes_of}
use Rattle.cable_model.specs.Journal.{table_journal}
use Rattle.cable_model.specs.Legal.{LegalEntry, LegalTable}

module _ (r : Rules) (w : World) (l : LegalTable r.hash r.page w.table) where
  abbrev Kept : World → Type 0
  Kept v = LegalTable r.hash r.page v.table

  commit-legal : (conn : Option ℕ) (offer : Offer) (f : Bool) → LegalEntry r.hash r.page (TableStep.Commit conn offer (cond f None (Some (suc (last_id w.table))))) w.table
  commit-legal conn offer true = tt
  commit-legal conn offer false = refl

  trim-legal : (now retention batch : ℕ) (f : Bool) → LegalEntry r.hash r.page (TableStep.Trim now retention batch (cond f None (Some (length (trimmed now retention batch w.table))))) w.table
  trim-legal now retention batch true = tt
  trim-legal now retention batch false = refl

  note-legal : (n : ℕ) (f : Bool)
      → LegalEntry r.hash r.page (TableStep.Read n (last_turn (w.nodes n)) (cond f (missed_note (lower (w.nodes n))) (note_of r.hash r.page (lower (w.nodes n)) (hashes_of r.hash (w.nodes n)) w.table)) (hashes_of r.hash (w.nodes n))) w.table
  note-legal n true = inl refl
  note-legal n false = inr refl

  arrived : (n c : ℕ) (text : List ℕ) (b : Bool) → can_put_command c text (w.nodes n) ≡ b → Kept (arrive w n c text)
  arrived n c text true b = rw b l
  arrived n c text false b = rw b l

  put-one : (c at : ℕ) (o : Option Cast) → Kept (committed w c at o)
  put-one c at None = l
  put-one c at (Some cast) = (commit-legal (Some c) (offered cast at) w.failing, l)

  finished-one : (n c : ℕ) (o : Option Plan) → Kept (finish w n c o)
  finished-one n c None = l
  finished-one n c (Some plan) = l

  delivered : (n : ℕ) (o : Option ReadNote) → Kept (deliver w n o)
  delivered n None = l
  delivered n (Some note) = l

  happened-kept : (e : Event) → Kept (happened r w e)
  happened-kept (event.Boot node) = (refl, l)
  happened-kept (event.In conn text) = arrived (home_of w conn.0) conn.0 text _ refl
  happened-kept (event.Put conn at) = put-one conn.0 at.0 (next_cast (w.puts conn.0) (job_plan r.callbacks conn.0 (w.nodes (home_of w conn.0))))
  happened-kept (event.Finish conn) = finished-one (home_of w conn.0) conn.0 (job_plan r.callbacks conn.0 (w.nodes (home_of w conn.0)))
  happened-kept (event.Cast at channel payload) = (commit-legal None (record { channel = channel; payload = payload; at = at.0 }) w.failing, l)
  happened-kept (event.Trim now retention batch) = (trim-legal now.0 retention.0 batch w.failing, l)
  happened-kept (event.Read node) = (note-legal node.0 w.failing, l)
  happened-kept (event.Deliver node) = delivered node.0 (caught w node.0)
  happened-kept _ = l

happen-kept : (r : Rules) (w : World) (e : Event) (b : Bool) → LegalTable r.hash r.page w.table → LegalTable r.hash r.page (cond b (happened r w e) w).table
happen-kept r w e true l = happened-kept r w l e
happen-kept r w e false l = l

run-kept : (r : Rules) (w : World) (es : List Event) → LegalTable r.hash r.page w.table → LegalTable r.hash r.page (run r w es).table
run-kept r w [] l = l
run-kept r w (e ∷ es) l = run-kept r (happen r w e) es (happen-kept r w e (is_possible r w e) l)

pub legal-table : (r : Rules) (events : List Event) → LegalTable r.hash r.page (table_journal r events)
legal-table r events = run-kept r start events tt
