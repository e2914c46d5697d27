-- What the rules of a piece see of a connection's subscriptions.
use Rattle.std.proofs.Common.{ℕ, ◌≡◌, ◌==◌, Bool, true, false, cond, List, [], ◌∷◌, length, map, Option, Some, refl, ap, sym, ◌∙◌}
use Rattle.std.specs.List.{find}
use Rattle.std.specs.Prelude.{option_map}
use Rattle.std.proofs.lemmas.List.{length-map}
use Rattle.cable_base.specs.declared.numbers.RowId.{RowId}
use Rattle.cable_base.specs.declared.numbers.SubNo.{SubNo}
use Rattle.cable_base.specs.declared.numbers.WantNo.{WantNo}
use Rattle.stream_set.specs.declared.entries.StreamEntry.{StreamEntry}
use Rattle.stream_set.specs.Streams.{waits_as, placed}
use Rattle.cable_model.specs.Connection.{Want, Sub, Conn}
use Rattle.cable_model.specs.Plans.{sub_named, sub_numbered, names_of, perform_task}
use Rattle.cable_model.specs.declared.plans.Task.TheVariants as task
use Rattle.conn_core.specs.Subscriptions.{SubParts, Subscription, shown, has_identifier, has_number, placed_in}
use Rattle.conn_core.specs.Bare.{bare_want, bare_sub, bare}
use Rattle.conn_core.proofs.Mapped.{find-map, map-twice}

bared : (ss : List SubParts) → (bare (map shown ss)).subs ≡ map (λ s. bare_sub (shown s)) ss
bared ss = map-twice bare_sub shown ss

pub sub_named_is : (identifier : List ℕ) (ss : List SubParts) → sub_named identifier (bare (map shown ss)) ≡ option_map (λ s. bare_sub (shown s)) (find (λ s. has_identifier identifier (shown s)) ss)
sub_named_is identifier ss = rw bared (find-map (λ s. bare_sub (shown s)) _ ss)

pub sub_numbered_is : (number : SubNo) (ss : List SubParts) → sub_numbered number.0 (bare (map shown ss)) ≡ option_map (λ s. bare_sub (shown s)) (find (λ s. has_number number (shown s)) ss)
sub_numbered_is number ss = rw bared (find-map (λ s. bare_sub (shown s)) _ ss)

pub count_is : (ss : List SubParts) → length (bare (map shown ss)).subs ≡ length ss
count_is ss = rw bared (length-map ss (λ s. bare_sub (shown s)))

pub identifiers_is : (ss : List SubParts) → map (λ (s : Sub). s.identifier) (bare (map shown ss)).subs ≡ map (λ (s : SubParts). s.identifier) ss
identifiers_is ss = rw bared (map-twice (λ (s : Sub). s.identifier) (λ s. bare_sub (shown s)) ss)

pub names_is : (s : SubParts) → names_of (bare_sub (shown s)).wants ≡ map (λ (e : StreamEntry). e.name) s.streams.entries
names_is s = map-twice _ bare_want s.streams.entries

-- the task of a message to the subscription that is found
pub performs : (identifier payload : List ℕ) (ss : List SubParts) (s : SubParts) → Some s ≡ find (λ s. has_identifier identifier (shown s)) ss
    → task.Perform identifier payload (map (λ (e : StreamEntry). e.name) s.streams.entries) ≡ perform_task identifier payload (sub_named identifier (bare (map shown ss)))
performs identifier payload ss s e = rw (sub_named_is identifier ss, ← e, names_is s) refl

-- ---- marks play no part

placed-wants : (want : WantNo) (mark : RowId) (es : List StreamEntry) → map bare_want (placed want mark es) ≡ map bare_want es
placed-wants want mark [] = refl
placed-wants want mark (e ∷ es) = elim (waits_as want e) as (λ (b : Bool). bare_want (cond b (record e { mark = Some mark }) e) ∷ map bare_want (placed want mark es) ≡ bare_want e ∷ map bare_want es) [
  | true ↦ ap (λ (ws : List Want). bare_want e ∷ ws) (placed-wants want mark es)
  | false ↦ ap (λ (ws : List Want). bare_want e ∷ ws) (placed-wants want mark es)
]

placed-subs : (sub : SubNo) (want : WantNo) (mark : RowId) (ss : List Subscription) → map bare_sub (placed_in sub want mark ss) ≡ map bare_sub ss
placed-subs sub want mark [] = refl
placed-subs sub want mark (s ∷ ss) = go (has_number sub s) (placed-subs sub want mark ss)
  where
    go : (b : Bool) → map bare_sub (placed_in sub want mark ss) ≡ map bare_sub ss → bare_sub (cond b (record s { streams = placed want mark s.streams }) s) ∷ map bare_sub (placed_in sub want mark ss) ≡ bare_sub s ∷ map bare_sub ss
    go true ih = rw (placed-wants want mark s.streams, ih) refl
    go false ih = rw ih refl

pub placed-is : (sub : SubNo) (want : WantNo) (mark : RowId) (ss : List Subscription) → bare (placed_in sub want mark ss) ≡ bare ss
placed-is sub want mark ss = rw (placed-subs sub want mark ss) refl
