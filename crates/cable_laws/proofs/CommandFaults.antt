-- A text has a fault exactly where it breaks the rule of that fault first.
use Rattle.std.proofs.Common.{◌≡◌, ◌⊎◌, inl, inr, ℕ, Bool, true, false, List, codes, Option, Some, None, Result, Ok, Err, refl, ap, subst, ◌∙◌}
use Rattle.std.specs.Prelude.{IsSome}
use Rattle.std.specs.Str.{bytes_eq}
use Rattle.std.proofs.lemmas.Bool.{cases_Bool}
use Rattle.std.proofs.lemmas.Bool.Decides.{not_from_Decides}
use Rattle.std.proofs.lemmas.Slice.Eq.{bytes_eq-Decides}
use Rattle.serde_json.specs.Data.{Data, null, boolean, number, string, array, object, Members}
use Rattle.serde_json.specs.Read.{read}
use Rattle.serde_json.specs.Find.{as_object}
use Rattle.cable_base.specs.Squeeze.{squeezed}
use Rattle.cable_json.specs.declared.commands.Command.{Command}
use Rattle.cable_json.specs.declared.commands.Command.TheVariants.{Subscribe, Unsubscribe, Message}
use Rattle.cable_json.specs.declared.commands.CommandFault.{CommandFault}
use Rattle.cable_json.specs.declared.commands.CommandFault.TheVariants as fault
use Rattle.cable_json.specs.Members.{text_at}
use Rattle.cable_json.specs.Commands.{Asks, Holds, Says, command_of, payload_in}
use Rattle.cable_json.proofs.Said.{says_read, no_object_bad}
use Rattle.cable_laws.specs.CommandFaults.{IsCommandName, NamesNoCommand, LacksIdentifier, LacksData, BreaksFirst}

-- ---- the rule that is broken first is answered

none_is : {A : Type 0} (o : Option A) → ((x : A) → ¬ (o ≡ Some x)) → o ≡ None
none_is None never = refl
none_is (Some x) never = absurd (never x refl)

another : (name word : List ℕ) → ¬ (name ≡ word) → bytes_eq name word ≡ false
another name word apart = elim (cases_Bool (bytes_eq name word)) [ inl t ↦ absurd (apart ((bytes_eq-Decides name word).0 t)) | inr f ↦ f ]

-- what has a string as a member is an object
object_with : (name : List ℕ) (value : Data) (s : List ℕ) → text_at name value ≡ Some s → (members : Members) × (as_object value ≡ Some members)
object_with name null s e = absurd cc
object_with name (boolean b) s e = absurd cc
object_with name (number n) s e = absurd cc
object_with name (string t) s e = absurd cc
object_with name (array ds) s e = absurd cc
object_with name (object ms) s e = (ms, refl)

names_none : (text : List ℕ) → NamesNoCommand text → command_of text ≡ Err fault.UnknownCommand
names_none text n = by_name (text_at (codes "command") n.value) refl
  where
    by_name : (o : Option (List ℕ)) → text_at (codes "command") n.value ≡ o → command_of text ≡ Err fault.UnknownCommand
    by_name None e = rw (n.reads, n.is_object, e) refl
    by_name (Some name) e =
        let subscribe = another name (codes "subscribe") (λ is. n.none name e (inl is)) in
        let unsubscribe = another name (codes "unsubscribe") (λ is. n.none name e (inr (inl is))) in
        let message = another name (codes "message") (λ is. n.none name e (inr (inr is))) in
        rw (n.reads, n.is_object, e, subscribe, unsubscribe, message) refl

lacks_identifier : (text : List ℕ) → LacksIdentifier text → command_of text ≡ Err fault.NoIdentifier
lacks_identifier text l = by_name l.known
  where
    lacking : text_at (codes "identifier") l.value ≡ None
    lacking = none_is _ l.none

    by_name : IsCommandName l.name → command_of text ≡ Err fault.NoIdentifier
    by_name (inl is) = rw (l.reads, (object_with (codes "command") l.value l.name l.named).1, l.named, is, lacking) refl
    by_name (inr (inl is)) = rw (l.reads, (object_with (codes "command") l.value l.name l.named).1, l.named, is, lacking) refl
    by_name (inr (inr is)) = rw (l.reads, (object_with (codes "command") l.value l.name l.named).1, l.named, is, lacking) refl

some_is : {A : Type 0} (o : Option A) (x : A) → o ≡ Some x → IsSome o
some_is None x e = absurd cc
some_is (Some y) x e = refl

holds_nothing : (value : Data) → ((held payload : List ℕ) → ¬ Holds value held payload) → payload_in value ≡ Err fault.BadData
holds_nothing value none = by_data (text_at (codes "data") value) refl
  where
    by_held : (held : List ℕ) → text_at (codes "data") value ≡ Some held → (o : Option Data) → read held ≡ o → payload_in value ≡ Err fault.BadData
    by_held held there None reads = rw (there, reads) refl
    by_held held there (Some d) reads = absurd (none held (squeezed held) (record { there = there; reads = some_is (read held) d reads; squeezes = refl }))

    by_data : (o : Option (List ℕ)) → text_at (codes "data") value ≡ o → payload_in value ≡ Err fault.BadData
    by_data None there = rw there refl
    by_data (Some held) there = by_held held there (read held) refl

lacks_data : (text : List ℕ) → LacksData text → command_of text ≡ Err fault.BadData
lacks_data text l = let a = l.asks in rw (a.reads, (object_with (codes "command") l.value _ a.named).1, a.named, a.identified, holds_nothing l.value l.none) refl

pub answered : (text : List ℕ) (f : CommandFault) → BreaksFirst f text → command_of text ≡ Err f
answered text fault.BadJson b = no_object_bad text b
answered text fault.UnknownCommand b = names_none text b
answered text fault.NoIdentifier b = lacks_identifier text b
answered text fault.BadData b = lacks_data text b
answered text fault.OutOfMemory b = absurd b

-- ---- a text says a command, or breaks some rule first

abbrev Judged : List ℕ → Type 0
Judged text = ((command : Command) × Says text command) ⊎ ((f : CommandFault) × BreaksFirst f text)

no_some : {A : Type 0} (o : Option A) (x : A) → o ≡ None → ¬ (o ≡ Some x)
no_some o x none some = cc

not_read : {A : Type 0} (o : Option A) → o ≡ None → ¬ IsSome o
not_read None e some = absurd cc
not_read (Some x) e some = absurd cc

same_some : {A : Type 0} (o : Option A) (x y : A) → o ≡ Some x → o ≡ Some y → x ≡ y
same_some o x y p q = cc

-- a message with an identifier
message_judged : (text : List ℕ) (value : Data) (identifier : List ℕ) → Asks text value (codes "message") identifier → Judged text
message_judged text value identifier asks = by_data (text_at (codes "data") value) refl
  where
    by_held : (held : List ℕ) → text_at (codes "data") value ≡ Some held → (o : Option Data) → read held ≡ o → Judged text
    by_held held there None reads =
        inr (
          fault.BadData,
          record {
            value = value;
            identifier = identifier;
            asks = asks;
            none = λ other payload h. not_read (read other) (ap read (same_some _ other held h.there there) ∙ reads) h.reads;
          },
        )
    by_held held there (Some d) reads =
        inl (Message identifier (squeezed held), (value, held, asks, record { there = there; reads = some_is (read held) d reads; squeezes = refl }))

    by_data : (o : Option (List ℕ)) → text_at (codes "data") value ≡ o → Judged text
    by_data None there = inr (fault.BadData, record { value = value; identifier = identifier; asks = asks; none = λ held payload h. no_some _ held there h.there })
    by_data (Some held) there = by_held held there (read held) refl

-- one of the three commands
known_judged : (text : List ℕ) (value : Data) (name : List ℕ) → read text ≡ Some value → text_at (codes "command") value ≡ Some name → IsCommandName name → Judged text
known_judged text value name reads named known = by_identifier (text_at (codes "identifier") value) refl known
  where
    asks : (identifier word : List ℕ) → text_at (codes "identifier") value ≡ Some identifier → name ≡ word → Asks text value word identifier
    asks identifier word there is = record { reads = reads; named = named ∙ ap (λ n. Some n) is; identified = there }

    by_identifier : (o : Option (List ℕ)) → text_at (codes "identifier") value ≡ o → IsCommandName name → Judged text
    by_identifier None there k = inr (fault.NoIdentifier, record { value = value; name = name; reads = reads; named = named; known = known; none = λ identifier. no_some _ identifier there })
    by_identifier (Some i) there (inl is) = inl (Subscribe i, (value, asks i (codes "subscribe") there is))
    by_identifier (Some i) there (inr (inl is)) = inl (Unsubscribe i, (value, asks i (codes "unsubscribe") there is))
    by_identifier (Some i) there (inr (inr is)) = message_judged text value i (asks i (codes "message") there is)

is_known : (name : List ℕ) → IsCommandName name ⊎ ¬ IsCommandName name
is_known name = by_tests (bytes_eq name (codes "subscribe")) (bytes_eq name (codes "unsubscribe")) (bytes_eq name (codes "message")) refl refl refl
  where
    by_tests : (s u m : Bool) → bytes_eq name (codes "subscribe") ≡ s → bytes_eq name (codes "unsubscribe") ≡ u → bytes_eq name (codes "message") ≡ m → IsCommandName name ⊎ ¬ IsCommandName name
    by_tests true u m es eu em = inl (inl ((bytes_eq-Decides name _).0 es))
    by_tests false true m es eu em = inl (inr (inl ((bytes_eq-Decides name _).0 eu)))
    by_tests false false true es eu em = inl (inr (inr ((bytes_eq-Decides name _).0 em)))
    by_tests false false false es eu em =
        inr (λ known. elim known [
          | inl is ↦ not_from_Decides _ (bytes_eq-Decides name _) es is
          | inr others ↦ elim others [ inl is ↦ not_from_Decides _ (bytes_eq-Decides name _) eu is | inr is ↦ not_from_Decides _ (bytes_eq-Decides name _) em is ]
        ])

object_judged : (text : List ℕ) (value : Data) (members : Members) → read text ≡ Some value → as_object value ≡ Some members → Judged text
object_judged text value members reads is = by_name (text_at (codes "command") value) refl
  where
    unknown : ((name : List ℕ) → text_at (codes "command") value ≡ Some name → ¬ IsCommandName name) → Judged text
    unknown none = inr (fault.UnknownCommand, record { value = value; members = members; reads = reads; is_object = is; none = none })

    by_name : (o : Option (List ℕ)) → text_at (codes "command") value ≡ o → Judged text
    by_name None named = unknown (λ name there. absurd (no_some _ name named there))
    by_name (Some name) named =
        elim (is_known name) [
          | inl known ↦ known_judged text value name reads named known
          | inr never ↦ unknown (λ other there known. never (subst IsCommandName (same_some _ other name there named) known))
        ]

judged : (text : List ℕ) → Judged text
judged text = by_value (read text) refl
  where
    by_members : (value : Data) → read text ≡ Some value → (o : Option Members) → as_object value ≡ o → Judged text
    by_members value reads None is = inr (fault.BadJson, λ o. no_some _ o.1 (ap as_object (same_some _ o.0 value o.2 reads) ∙ is) o.3)
    by_members value reads (Some members) is = object_judged text value members reads is

    by_value : (o : Option Data) → read text ≡ o → Judged text
    by_value None reads = inr (fault.BadJson, λ o. no_some _ o.0 reads o.2)
    by_value (Some value) reads = by_members value reads (as_object value) refl

same_fault : {A : Type 0} (r : Result A CommandFault) (g f : CommandFault) → r ≡ Err g → r ≡ Err f → g ≡ f
same_fault r g f p q = cc

no_fault : {A : Type 0} (r : Result A CommandFault) (x : A) (f : CommandFault) → r ≡ Ok x → ¬ (r ≡ Err f)
no_fault r x f p q = cc

pub broken : (text : List ℕ) (f : CommandFault) → command_of text ≡ Err f → BreaksFirst f text
broken text f e =
    elim (judged text) [
      | inl (command, says) ↦ absurd (no_fault (command_of text) command f (says_read text command says) e)
      | inr (g, breaks) ↦ subst (λ (h : CommandFault). BreaksFirst h text) (same_fault (command_of text) g f (answered text g breaks) e) breaks
    ]
