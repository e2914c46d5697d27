-- A payload is a disconnect exactly where its members say so.
use Rattle.std.proofs.Common.{◌≡◌, ◌↔◌, ℕ, Bool, true, false, List, codes, Option, Some, None, option_and_then, unwrap_or, refl, sym, ap, subst, ◌∙◌}
use Rattle.std.specs.Str.{bytes_eq}
use Rattle.std.proofs.lemmas.Slice.Eq.{bytes_eq-Decides}
use Rattle.serde_json.specs.Data.{Data, null, boolean, number, string, array, object}
use Rattle.serde_json.specs.Read.{read}
use Rattle.serde_json.specs.Find.{get, as_bool}
use Rattle.cable_json.specs.Members.{text_at}
use Rattle.cable_json.specs.Disconnects.{may_reconnect, truth_of, disconnect_in, disconnect_of, SaysDisconnect}

-- only the value `false` says no
only_false : (o : Option Data) → (unwrap_or (option_and_then as_bool o) true ≡ false) ↔ (o ≡ Some (boolean false))
only_false None = (λ e. absurd cc, λ e. absurd cc)
only_false (Some null) = (λ e. absurd cc, λ e. absurd cc)
only_false (Some (boolean true)) = (λ e. absurd cc, λ e. absurd cc)
only_false (Some (boolean false)) = (λ e. refl, λ e. refl)
only_false (Some (number n)) = (λ e. absurd cc, λ e. absurd cc)
only_false (Some (string s)) = (λ e. absurd cc, λ e. absurd cc)
only_false (Some (array ds)) = (λ e. absurd cc, λ e. absurd cc)
only_false (Some (object ms)) = (λ e. absurd cc, λ e. absurd cc)

-- two truth values are one where each is false exactly where the other is
same_truth : (a b : Bool) → (a ≡ false → b ≡ false) → (b ≡ false → a ≡ false) → a ≡ b
same_truth true true p q = refl
same_truth true false p q = q refl
same_truth false true p q = sym (p refl)
same_truth false false p q = refl

some_same : {A : Type 0} (o : Option A) (x y : A) → o ≡ Some x → o ≡ Some y → x ≡ y
some_same o x y p q = cc

pub disconnect_says : (payload : List ℕ) (reconnect : Bool) → disconnect_of payload ≡ Some reconnect → (value : Data) × SaysDisconnect payload reconnect value
disconnect_says payload reconnect e = by_value (read payload) refl e
  where
    by_test : (value : Data) (name : List ℕ) → read payload ≡ Some value → text_at (codes "type") value ≡ Some name → (b : Bool) → bytes_eq name (codes "disconnect") ≡ b → truth_of name value ≡ Some reconnect → (value : Data) × SaysDisconnect payload reconnect value
    by_test value name reads typed true is t =
        let truth : may_reconnect value ≡ reconnect = some_same (truth_of name value) _ _ (rw is refl) t in
        (value, record { reads = reads; typed = typed ∙ ap (λ n. Some n) ((bytes_eq-Decides name (codes "disconnect")).0 is); says = subst (λ (b : Bool). (b ≡ false) ↔ (get (codes "reconnect") value ≡ Some (boolean false))) truth (only_false (get (codes "reconnect") value)) })
    by_test value name reads typed false is t = let no = rw is at t in absurd cc

    by_type : (value : Data) → read payload ≡ Some value → (o : Option (List ℕ)) → text_at (codes "type") value ≡ o → option_and_then (λ name. truth_of name value) o ≡ Some reconnect → (value : Data) × SaysDisconnect payload reconnect value
    by_type value reads None typed t = absurd cc
    by_type value reads (Some name) typed t = by_test value name reads typed (bytes_eq name (codes "disconnect")) refl t

    by_value : (o : Option Data) → read payload ≡ o → option_and_then disconnect_in o ≡ Some reconnect → (value : Data) × SaysDisconnect payload reconnect value
    by_value None reads t = absurd cc
    by_value (Some value) reads t = by_type value reads (text_at (codes "type") value) refl t

pub says_disconnect : (payload : List ℕ) (reconnect : Bool) → (value : Data) × SaysDisconnect payload reconnect value → disconnect_of payload ≡ Some reconnect
says_disconnect payload reconnect (value, s) =
    let only = only_false (get (codes "reconnect") value) in
    let truth : may_reconnect value ≡ reconnect = same_truth _ _ (λ e. s.says.1 (only.0 e)) (λ e. only.1 (s.says.0 e)) in
    rw (s.reads, s.typed) (ap (λ b. Some b) truth)
