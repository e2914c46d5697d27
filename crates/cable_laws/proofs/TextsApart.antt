-- A confirmation is no other text, whatever identifiers and payloads these hold.
use Rattle.std.proofs.Common.{ℕ, ◌≡◌, ◌==◌, Bool, true, false, List, [], ◌∷◌, ◌++◌, map, Some, refl, ap, sym, ◌∙◌, bytes_eq, codes, append_assoc, get_or, drop}
use Rattle.std.proofs.lemmas.List.{append-nil, append_cancel_left}
use Rattle.std.proofs.lemmas.Slice.Eq.{bytes_eq-Decides}
use Rattle.json.specs.Print.{escape, quoted}
use Rattle.json.specs.Text.{content, plain}
use Rattle.json.proofs.Printed.Strings.{content-escape}
use Rattle.cable_json.specs.Texts.{confirm_text, reject_text, message_text, disconnect_text}
use Rattle.cable_json.specs.declared.reasons.Reason.{Reason}
use Rattle.cable_model.specs.HistoryLaws.{is_said}

-- a string in quotes says where it ends: two that begin alike are one, and what follows is the same
quoted-parts : (i j xs ys : List ℕ) → quoted i ++ xs ≡ quoted j ++ ys → (i ≡ j) × (xs ≡ ys)
quoted-parts i j xs ys e =
    let inside : (s zs : List ℕ) → drop 1 (quoted s ++ zs) ≡ escape s ++ 34 ∷ zs = λ s zs. append_assoc (escape s) (34 ∷ []) zs in
    let alike : escape i ++ 34 ∷ xs ≡ escape j ++ 34 ∷ ys = sym (inside i xs) ∙ (ap (drop 1) e ∙ inside j ys) in
    let read : Some i ≡ Some j = sym (content-escape i xs) ∙ (ap (content plain) alike ∙ content-escape j ys) in
    let same : i ≡ j = cc (read) in
    (same, append_cancel_left (quoted j) xs ys (ap (λ s. quoted s ++ xs) (sym same) ∙ e))

abbrev head : List ℕ
head = codes "{\"identifier\":"

-- so two texts that begin with an identifier have the same one, and go on alike
parts : (i j xs ys : List ℕ) → (head ++ quoted i) ++ xs ≡ (head ++ quoted j) ++ ys → (i ≡ j) × (xs ≡ ys)
parts i j xs ys e =
    quoted-parts i j xs ys (append_cancel_left head (quoted i ++ xs) (quoted j ++ ys) (sym (append_assoc head (quoted i) xs) ∙ (e ∙ append_assoc head (quoted j) ys)))

pub confirm-same : (i j : List ℕ) → confirm_text i ≡ confirm_text j → i ≡ j
confirm-same i j e = (parts i j (codes ",\"type\":\"confirm_subscription\"}") (codes ",\"type\":\"confirm_subscription\"}") e).0

-- a message begins otherwise behind its identifier
pub message-apart : (i j payload : List ℕ) → message_text i payload ≡ confirm_text j → ⊥
message-apart i j payload e =
    let middle : List ℕ = codes ",\"message\":" in
    let front : List ℕ = head ++ quoted i in
    let whole : message_text i payload ≡ front ++ (middle ++ (payload ++ codes "}")) = append_assoc (front ++ middle) payload (codes "}") ∙ append_assoc front middle (payload ++ codes "}") in
    let rest = (parts i j (middle ++ (payload ++ codes "}")) (codes ",\"type\":\"confirm_subscription\"}") (sym whole ∙ e)).1 in
    let third : true ≡ false = ap (λ (xs : List ℕ). get_or xs 2 0 == 109) rest in
    absurd (cc (third))

-- and so does a rejection
pub reject-apart : (i j : List ℕ) → reject_text i ≡ confirm_text j → ⊥
reject-apart i j e =
    let rest = (parts i j (codes ",\"type\":\"reject_subscription\"}") (codes ",\"type\":\"confirm_subscription\"}") e).1 in
    let tenth : true ≡ false = ap (λ (xs : List ℕ). get_or xs 9 0 == 114) rest in
    absurd (cc (tenth))

-- an end has no identifier
pub disconnect-apart : (reason : Reason) (reconnect : Bool) (j : List ℕ) → disconnect_text reason reconnect ≡ confirm_text j → ⊥
disconnect-apart reason reconnect j e = let third : true ≡ false = ap (λ (xs : List ℕ). get_or xs 2 0 == 116) e in absurd (cc (third))

-- ---- among texts

pub said-alone : (text t : List ℕ) → is_said text (t ∷ []) ≡ true → t ≡ text
said-alone text t h = go (bytes_eq t text) refl
  where
    go : (b : Bool) → bytes_eq t text ≡ b → t ≡ text
    go true b = (bytes_eq-Decides t text).0 b
    go false b = let h' = rw b at h in absurd (cc (h'))

said-later : (text t : List ℕ) (ts : List (List ℕ)) → (t ≡ text → ⊥) → is_said text (t ∷ ts) ≡ true → is_said text ts ≡ true
said-later text t ts apart h = go (bytes_eq t text) refl
  where
    go : (b : Bool) → bytes_eq t text ≡ b → is_said text ts ≡ true
    go true b = absurd (apart ((bytes_eq-Decides t text).0 b))
    go false b = let h' = rw b at h in h'

-- a confirmation isn't among messages
pub said-behind : (i j : List ℕ) (payloads ts : List (List ℕ)) → is_said (confirm_text j) (map (message_text i) payloads ++ ts) ≡ true → is_said (confirm_text j) ts ≡ true
said-behind i j [] ts h = h
said-behind i j (p ∷ ps) ts h = said-behind i j ps ts (said-later (confirm_text j) (message_text i p) (map (message_text i) ps ++ ts) (message-apart i j p) h)

pub said-none : (i j : List ℕ) (payloads : List (List ℕ)) → is_said (confirm_text j) (map (message_text i) payloads) ≡ true → ⊥
said-none i j payloads h =
    let none = said-behind i j payloads [] (ap (is_said (confirm_text j)) (append-nil (map (message_text i) payloads)) ∙ h) in absurd (cc (none))
