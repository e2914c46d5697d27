-- An entry comes to the history and to the log that is stored alike.
use Rattle.std.proofs.Common.{◌≡◌, [], ◌∷◌, Option, None, Some, refl, ap, ◌∙◌}
use Rattle.std.specs.Prelude.{option_map}
use Rattle.std.proofs.lemmas.List.{append-nil}
use Rattle.cable_model.specs.declared.journals.Beside.{Beside}
use Rattle.cable_model.specs.declared.journals.Entry.{Entry}
use Rattle.cable_model.specs.Journal.{Kept}
use Rattle.node_log.specs.Logs.{entered, nothing}
use Rattle.node_core.specs.Nodes.{Logs, NodeState, joined}

pub logs : (old new : NodeState) (e : Entry) (b : Beside) (k : Kept) (s : Option Kept) → k ≡ old.kept → s ≡ old.stored → new.kept ≡ entered e b k
    → new.stored ≡ option_map (entered e b) s → Logs old new
logs old new e b k s kept stored history log =
    record {
      more = record { log = e ∷ []; beside = b ∷ [] };
      history = history ∙ ap (entered e b) kept;
      log = log ∙ ap (option_map (entered e b)) stored;
    }

joined-nothing : (k : Kept) → joined nothing k ≡ k
joined-nothing k = rw (append-nil k.log, append-nil k.beside) refl

none-joined : (s : Option Kept) → s ≡ option_map (joined nothing) s
none-joined None = refl
none-joined (Some k) = rw (joined-nothing k) refl

-- where nothing was entered, nothing came
pub logs-none : (old new : NodeState) → new.kept ≡ old.kept → new.stored ≡ old.stored → Logs old new
logs-none old new kept stored = record { more = nothing; history = rw (joined-nothing old.kept) kept; log = stored ∙ none-joined old.stored }
