-- What is taken out of a queue, place by place, while the queue grows at its end.
use Rattle.std.proofs.Common.{◌≡◌, ℕ, zero, suc, ◌+◌, ◌==◌, Bool, true, false, cond, List, [], ◌∷◌, ◌++◌, length, drop, Some, slice_get, refl, sym, ap, subst, ◌∙◌, append_assoc, arith}
use Rattle.std.proofs.lemmas.List.{append-nil}
use Rattle.cable_model.specs.declared.lines.Line.{Line}
use Rattle.cable_model.specs.Possible.{is_receiving}
use Rattle.cable_model.specs.Steps.{Step}
use Rattle.cable_model.specs.Transcript.{conn_line, greeting, ping_line, plan_lines, queued}

-- ---- places in a list

-- these stand in the list from this place on
abbrev pub StandAt : {A : Type 0} → List A → ℕ → List A → Type 0
StandAt q k [] = Unit {0}
StandAt q k (x ∷ xs) = (slice_get q k ≡ Some x) × StandAt q (suc k) xs

get-more : {A : Type 0} (q more : List A) (k : ℕ) (x : A) → slice_get q k ≡ Some x → slice_get (q ++ more) k ≡ Some x
get-more [] more k x at = absurd cc
get-more (y ∷ ys) more zero x at = at
get-more (y ∷ ys) more (suc k) x at = get-more ys more k x at

pub stand-more : {A : Type 0} (q more : List A) (k : ℕ) (xs : List A) → StandAt q k xs → StandAt (q ++ more) k xs
stand-more q more k [] h = tt
stand-more q more k (x ∷ xs) h = (get-more q more k x h.0, stand-more q more (suc k) xs h.1)

pub stand-append : {A : Type 0} (q : List A) (k : ℕ) (xs ys : List A) → StandAt q k xs → StandAt q (k + length xs) ys → StandAt q k (xs ++ ys)
stand-append q k [] ys h i = let same : k + 0 ≡ k = omega arith in subst (λ n. StandAt q n ys) same i
stand-append q k (x ∷ xs) ys h i = (h.0, stand-append q (suc k) xs ys h.1 (subst (λ n. StandAt q n ys) (behind k (length xs)) i))
  where
    behind : (k n : ℕ) → k + suc n ≡ suc k + n
    behind k n = omega arith

get-drop : {A : Type 0} (q : List A) (k : ℕ) (x : A) → slice_get q k ≡ Some x → drop k q ≡ x ∷ drop (suc k) q
get-drop [] k x at = absurd cc
get-drop (y ∷ ys) zero x at = let e : y ≡ x = cc at in ap (λ z. z ∷ ys) e
get-drop (y ∷ ys) (suc k) x at = get-drop ys k x at

pub stand-drop : {A : Type 0} (q : List A) (k : ℕ) (xs : List A) → StandAt q k xs → drop k q ≡ xs ++ drop (k + length xs) q
stand-drop q k [] h = let same : k ≡ k + 0 = omega arith in ap (λ n. drop n q) same
stand-drop q k (x ∷ xs) h =
    let behind : suc k + length xs ≡ k + suc (length xs) = omega arith in
    get-drop q k x h.0 ∙ ap (λ zs. x ∷ zs) (stand-drop q (suc k) xs h.1) ∙ ap (λ n. x ∷ xs ++ drop n q) behind

-- ---- the queue of a journal

entry-queues : (c : ℕ) (e : Step) (past : List Step) → (more : List Line) × (queued c (e ∷ past) ≡ queued c past ++ more)
entry-queues c (Step.Boot last) past = ([], sym (append-nil (queued c past)))
entry-queues c (Step.Open d token user) past = go (d == c)
  where
    go : (b : Bool) → (more : List Line) × (cond b (queued c past ++ conn_line c (greeting user) ∷ []) (queued c past) ≡ queued c past ++ more)
    go true = (conn_line c (greeting user) ∷ [], refl)
    go false = ([], sym (append-nil (queued c past)))
entry-queues c (Step.In d text) past = ([], sym (append-nil (queued c past)))
entry-queues c (Step.Drop d) past = ([], sym (append-nil (queued c past)))
entry-queues c Step.Stop past = ([], sym (append-nil (queued c past)))
entry-queues c (Step.Take d) past = ([], sym (append-nil (queued c past)))
entry-queues c (Step.Finish d puts plan) past = go (d == c)
  where
    go : (b : Bool) → (more : List Line) × (cond b (queued c past ++ plan_lines c plan) (queued c past) ≡ queued c past ++ more)
    go true = (plan_lines c plan, refl)
    go false = ([], sym (append-nil (queued c past)))
entry-queues c (Step.Ask turn) past = ([], sym (append-nil (queued c past)))
entry-queues c (Step.Deliver turn note) past = ([], sym (append-nil (queued c past)))
entry-queues c (Step.Beat now) past = go (is_receiving c past)
  where
    go : (b : Bool) → (more : List Line) × (cond b (queued c past ++ ping_line now c ∷ []) (queued c past) ≡ queued c past ++ more)
    go true = (ping_line now c ∷ [], refl)
    go false = ([], sym (append-nil (queued c past)))

pub entries-queue : (c : ℕ) (es past : List Step) → (more : List Line) × (queued c (es ++ past) ≡ queued c past ++ more)
entries-queue c [] past = ([], sym (append-nil (queued c past)))
entries-queue c (e ∷ es) past =
    let one = entry-queues c e (es ++ past) in
    let rest = entries-queue c es past in
    (rest.0 ++ one.0, one.1 ∙ ap (λ ls. ls ++ one.0) rest.1 ∙ append_assoc (queued c past) rest.0 one.0)
