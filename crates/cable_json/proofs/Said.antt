-- A text is read as a command exactly where its members say that command.
use Rattle.std.proofs.Common.{◌≡◌, ℕ, Bool, true, false, ◌⊎◌, inl, inr, List, codes, Option, Some, None, Result, Ok, Err, if◌then◌else◌, refl, sym, ap, subst, ◌∙◌}
use Rattle.std.specs.Prelude.{IsSome}
use Rattle.std.specs.Str.{bytes_eq}
use Rattle.std.proofs.lemmas.Slice.Eq.{bytes_eq-Decides}
use Rattle.serde_json.specs.Data.{Data, null, boolean, number, string, array, object, Members}
use Rattle.serde_json.specs.Read.{read}
use Rattle.serde_json.specs.Find.{as_object}
use Rattle.cable_base.specs.Squeeze.{squeezed}
use Rattle.cable_json.specs.declared.commands.Command.{Command}
use Rattle.cable_json.specs.declared.commands.Command.TheVariants.{Subscribe, Unsubscribe, Message}
use Rattle.cable_json.specs.declared.commands.CommandFault.{CommandFault}
use Rattle.cable_json.specs.declared.commands.CommandFault.TheVariants as fault
use Rattle.cable_json.specs.Members.{text_at}
use Rattle.cable_json.specs.Commands.{or_fault, ◌>>=◌, identifier_in, payload_in, subscribe_in, unsubscribe_in, message_in, command_named, command_of, Holds, Says, IsObject}

-- ---- steps that went well

found : {A : Type 0} (f : CommandFault) (o : Option A) (x : A) → or_fault f o ≡ Ok x → o ≡ Some x
found f None x e = absurd cc
found f (Some y) x e = cc

went_well : {A B : Type 0} (r : Result A CommandFault) (f : A → Result B CommandFault) (b : B) → (r >>= f) ≡ Ok b → (a : A) × (r ≡ Ok a) × (f a ≡ Ok b)
went_well (Ok a) f b e = (a, refl, e)
went_well (Err x) f b e = absurd cc

same : (r : Result Command CommandFault) (c d : Command) → r ≡ Ok c → r ≡ Ok d → c ≡ d
same r c d p q = cc

is_some : {A : Type 0} (o : Option A) (x : A) → o ≡ Some x → IsSome o
is_some None x e = absurd cc
is_some (Some y) x e = refl

-- ---- from the command to the members

subscribes : (text : List ℕ) (value : Data) (command : Command) → read text ≡ Some value → text_at (codes "command") value ≡ Some (codes "subscribe") → subscribe_in value ≡ Ok command → Says text command
subscribes text value command reads named e =
    let i = went_well (identifier_in value) (λ identifier. Ok (Subscribe identifier)) command e in
    subst (Says text) (same (Ok _) _ command refl i.2) (value, record { reads = reads; named = named; identified = found fault.NoIdentifier _ i.0 i.1 })

unsubscribes : (text : List ℕ) (value : Data) (command : Command) → read text ≡ Some value → text_at (codes "command") value ≡ Some (codes "unsubscribe") → unsubscribe_in value ≡ Ok command → Says text command
unsubscribes text value command reads named e =
    let i = went_well (identifier_in value) (λ identifier. Ok (Unsubscribe identifier)) command e in
    subst (Says text) (same (Ok _) _ command refl i.2) (value, record { reads = reads; named = named; identified = found fault.NoIdentifier _ i.0 i.1 })

holds : (value : Data) (payload : List ℕ) → payload_in value ≡ Ok payload → (text : List ℕ) × Holds value text payload
holds value payload e =
    let t = went_well (or_fault fault.BadData (text_at (codes "data") value)) (λ text. or_fault fault.BadData (read text) >>= λ held. Ok (squeezed text)) payload e in
    let r = went_well (or_fault fault.BadData (read t.0)) (λ held. Ok (squeezed t.0)) payload t.2 in
    (t.0, record { there = found fault.BadData _ t.0 t.1; reads = is_some (read t.0) r.0 (found fault.BadData _ r.0 r.1); squeezes = cc (r.2) })

messages : (text : List ℕ) (value : Data) (command : Command) → read text ≡ Some value → text_at (codes "command") value ≡ Some (codes "message") → message_in value ≡ Ok command → Says text command
messages text value command reads named e =
    let i = went_well (identifier_in value) (λ identifier. payload_in value >>= λ payload. Ok (Message identifier payload)) command e in
    let p = went_well (payload_in value) (λ payload. Ok (Message i.0 payload)) command i.2 in
    let h = holds value p.0 p.1 in
    subst (Says text) (same (Ok _) _ command refl p.2) (value, h.0, record { reads = reads; named = named; identified = found fault.NoIdentifier _ i.0 i.1 }, h.1)

name_is : (name word : List ℕ) → bytes_eq name word ≡ true → name ≡ word
name_is name word e = (bytes_eq-Decides name word).0 e

by_name : (text name : List ℕ) (value : Data) (command : Command) → read text ≡ Some value → text_at (codes "command") value ≡ Some name
    → (s u m : Bool) → bytes_eq name (codes "subscribe") ≡ s → bytes_eq name (codes "unsubscribe") ≡ u → bytes_eq name (codes "message") ≡ m
    → (if s then subscribe_in value else (if u then unsubscribe_in value else (if m then message_in value else Err fault.UnknownCommand))) ≡ Ok command → Says text command
by_name text name value command reads named true u m es eu em e = subscribes text value command reads (named ∙ ap (λ n. Some n) (name_is name _ es)) e
by_name text name value command reads named false true m es eu em e = unsubscribes text value command reads (named ∙ ap (λ n. Some n) (name_is name _ eu)) e
by_name text name value command reads named false false true es eu em e = messages text value command reads (named ∙ ap (λ n. Some n) (name_is name _ em)) e
by_name text name value command reads named false false false es eu em e = absurd cc

pub read_says : (text : List ℕ) (command : Command) → command_of text ≡ Ok command → Says text command
read_says text command e =
    let v = went_well (or_fault fault.BadJson (read text)) (λ value. or_fault fault.BadJson (as_object value) >>= λ members. or_fault fault.UnknownCommand (text_at (codes "command") value) >>= λ name. command_named name value) command e in
    let m = went_well (or_fault fault.BadJson (as_object v.0)) (λ members. or_fault fault.UnknownCommand (text_at (codes "command") v.0) >>= λ name. command_named name v.0) command v.2 in
    let n = went_well (or_fault fault.UnknownCommand (text_at (codes "command") v.0)) (λ name. command_named name v.0) command m.2 in
    by_name text n.0 v.0 command (found fault.BadJson _ v.0 v.1) (found fault.UnknownCommand _ n.0 n.1) _ _ _ refl refl refl n.2

-- ---- from the members to the command

object_with : (name : List ℕ) (value : Data) (s : List ℕ) → text_at name value ≡ Some s → (members : Members) × (as_object value ≡ Some members)
object_with name null s e = absurd cc
object_with name (boolean b) s e = absurd cc
object_with name (number n) s e = absurd cc
object_with name (string t) s e = absurd cc
object_with name (array ds) s e = absurd cc
object_with name (object ms) s e = (ms, refl)

holds_back : (value : Data) (text payload : List ℕ) → Holds value text payload → payload_in value ≡ Ok payload
holds_back value text payload h = go (read text) refl h.reads
  where
    go : (o : Option Data) → read text ≡ o → IsSome o → payload_in value ≡ Ok payload
    go None e some = absurd cc
    go (Some d) e some = rw (h.there, e) (ap (λ p. Ok p) (sym h.squeezes))

pub says_read : (text : List ℕ) (command : Command) → Says text command → command_of text ≡ Ok command
says_read text (Subscribe identifier) (value, a) =
    let o = object_with (codes "command") value _ a.named in
    rw (a.reads, o.1, a.named, a.identified) refl
says_read text (Unsubscribe identifier) (value, a) =
    let o = object_with (codes "command") value _ a.named in
    rw (a.reads, o.1, a.named, a.identified) refl
says_read text (Message identifier payload) (value, held, a, h) =
    let o = object_with (codes "command") value _ a.named in
    rw (a.reads, o.1, a.named, a.identified, holds_back value held payload h) refl

-- ---- which fault comes

err_same : {A : Type 0} (r : Result A CommandFault) (g f : CommandFault) → r ≡ Err g → r ≡ Err f → g ≡ f
err_same r g f p q = cc

-- a fault of a text that is an object
abbrev IsOfObject : CommandFault → Type 0
IsOfObject fault.BadJson = ⊥
IsOfObject fault.UnknownCommand = Unit {0}
IsOfObject fault.NoIdentifier = Unit {0}
IsOfObject fault.BadData = Unit {0}
IsOfObject fault.OutOfMemory = ⊥

missing : {A : Type 0} (g : CommandFault) (o : Option A) (f : CommandFault) → IsOfObject g → or_fault g o ≡ Err f → IsOfObject f
missing g None f h e = subst IsOfObject (err_same (or_fault g None) g f refl e) h
missing g (Some x) f h e = absurd cc

went_wrong : {A B : Type 0} (r : Result A CommandFault) (k : A → Result B CommandFault) (f : CommandFault) → (r ≡ Err f → IsOfObject f) → ((a : A) → k a ≡ Err f → IsOfObject f) → (r >>= k) ≡ Err f → IsOfObject f
went_wrong (Ok a) k f first later e = later a e
went_wrong (Err g) k f first later e = first (ap Err (err_same (Err g >>= k) g f refl e))

never : {A : Type 0} (a : A) (f : CommandFault) → Ok a ≡ Err f → IsOfObject f
never a f e = absurd cc

unidentified : (value : Data) (f : CommandFault) → identifier_in value ≡ Err f → IsOfObject f
unidentified value f e = missing fault.NoIdentifier _ f tt e

subscribe_wrong : (value : Data) (f : CommandFault) → subscribe_in value ≡ Err f → IsOfObject f
subscribe_wrong value f e = went_wrong (identifier_in value) (λ identifier. Ok (Subscribe identifier)) f (unidentified value f) (λ i. never (Subscribe i) f) e

unsubscribe_wrong : (value : Data) (f : CommandFault) → unsubscribe_in value ≡ Err f → IsOfObject f
unsubscribe_wrong value f e = went_wrong (identifier_in value) (λ identifier. Ok (Unsubscribe identifier)) f (unidentified value f) (λ i. never (Unsubscribe i) f) e

payload_wrong : (value : Data) (f : CommandFault) → payload_in value ≡ Err f → IsOfObject f
payload_wrong value f e =
    went_wrong (or_fault fault.BadData (text_at (codes "data") value)) (λ text. or_fault fault.BadData (read text) >>= λ held. Ok (squeezed text)) f (missing fault.BadData _ f tt)
    (λ text. went_wrong (or_fault fault.BadData (read text)) (λ held. Ok (squeezed text)) f (missing fault.BadData (read text) f tt) (λ held. never (squeezed text) f)) e

message_wrong : (value : Data) (f : CommandFault) → message_in value ≡ Err f → IsOfObject f
message_wrong value f e =
    went_wrong (identifier_in value) (λ identifier. payload_in value >>= λ payload. Ok (Message identifier payload)) f (unidentified value f)
    (λ i. went_wrong (payload_in value) (λ payload. Ok (Message i payload)) f (payload_wrong value f) (λ p. never (Message i p) f)) e

name_wrong : (value : Data) (f : CommandFault) (s u m : Bool) → (if s then subscribe_in value else (if u then unsubscribe_in value else (if m then message_in value else Err fault.UnknownCommand))) ≡ Err f → IsOfObject f
name_wrong value f true u m e = subscribe_wrong value f e
name_wrong value f false true m e = unsubscribe_wrong value f e
name_wrong value f false false true e = message_wrong value f e
name_wrong value f false false false e = subst IsOfObject (err_same {A = Command} (Err fault.UnknownCommand) fault.UnknownCommand f refl e) tt

-- an object has none of the faults of other texts
object_wrong : (text : List ℕ) (f : CommandFault) → IsObject text → command_of text ≡ Err f → IsOfObject f
object_wrong text f (value, ms, reads, is) e =
    went_wrong (or_fault fault.UnknownCommand (text_at (codes "command") value)) (λ name. command_named name value) f (missing fault.UnknownCommand _ f tt)
    (λ name. name_wrong value f (bytes_eq name (codes "subscribe")) (bytes_eq name (codes "unsubscribe")) (bytes_eq name (codes "message"))) (rw (reads, is) at e)

-- a text is an object, or has the fault of other texts
object_or_bad : (text : List ℕ) → IsObject text ⊎ (command_of text ≡ Err fault.BadJson)
object_or_bad text = by_value (read text) refl
  where
    by_members : (value : Data) → read text ≡ Some value → (o : Option Members) → as_object value ≡ o → IsObject text ⊎ (command_of text ≡ Err fault.BadJson)
    by_members value reads None is = inr (rw (reads, is) refl)
    by_members value reads (Some ms) is = inl (value, ms, reads, is)

    by_value : (o : Option Data) → read text ≡ o → IsObject text ⊎ (command_of text ≡ Err fault.BadJson)
    by_value None reads = inr (rw reads refl)
    by_value (Some value) reads = by_members value reads (as_object value) refl

pub bad_no_object : (text : List ℕ) → command_of text ≡ Err fault.BadJson → IsObject text → ⊥
bad_no_object text e is = object_wrong text fault.BadJson is e

pub no_object_bad : (text : List ℕ) → (IsObject text → ⊥) → command_of text ≡ Err fault.BadJson
no_object_bad text isnt = elim (object_or_bad text) [ inl is ↦ absurd (isnt is) | inr bad ↦ bad ]

pub no_memory : (text : List ℕ) → command_of text ≡ Err fault.OutOfMemory → ⊥
no_memory text e = elim (object_or_bad text) [
  | inl is ↦ object_wrong text fault.OutOfMemory is e
  | inr bad ↦ let apart : fault.BadJson ≡ fault.OutOfMemory = err_same (command_of text) fault.BadJson fault.OutOfMemory bad e in cc
]
