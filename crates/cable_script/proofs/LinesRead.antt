-- Each kind of line is read exactly where it spells its verb.
use Rattle.std.proofs.Common.{◌≡◌, ℕ, ◌≤◌, List, ◌∷◌, ◌++◌, length, Bool, true, false, ◌&&◌, cond, Option, Some, None, Result, Ok, Err, refl, sym, ap}
use Rattle.std.proofs.Common.{subst, ◌∙◌, arith}
use Rattle.std.specs.Prelude.{decimal, codes, nat_le, IsSome}
use Rattle.std.proofs.lemmas.Bool.{and_parts, leb-true}
use Rattle.std.proofs.lemmas.Bool.Decides.{nat_tests}
use Rattle.serde_json.specs.Data.{Data}
use Rattle.serde_json.specs.Read.{read}
use Rattle.cable_base.specs.declared.numbers.ConnNo.{ConnNo}
use Rattle.cable_base.specs.declared.numbers.NodeNo.{NodeNo}
use Rattle.cable_base.specs.declared.numbers.Millis.{Millis}
use Rattle.cable_base.specs.Squeeze.{squeezed}
use Rattle.cable_model.specs.Limits.{most_batch, most_name, most_payload, most_puts}
use Rattle.cable_model.specs.declared.events.Event.TheVariants as event
use Rattle.cable_model.specs.declared.verbs.Verb.{Verb}
use Rattle.cable_model.specs.declared.verbs.Verb.TheVariants as verb
use Rattle.cable_model.specs.Script.{IsWord, IsFrom, IsNode, IsConn, IsMoment, IsCast, Spells}
use Rattle.cable_script.specs.declared.faults.LineFault.{LineFault}
use Rattle.cable_script.specs.declared.faults.LineFault.TheVariants as fault
use Rattle.cable_script.specs.Reading.{◌>>=◌, node_alone, conn_alone, boot_in, open_in, text_in, drop_in, stop_in, take_in, put_in, finish_in}
use Rattle.cable_script.specs.Reading.{work_in, payload_in, cast_of, cast_in, trim_in, ask_in, read_in, deliver_in, poll_in, beat_in}
use Rattle.cable_script.proofs.WordsRead.{next_is, two_are, three_are, two_and_rest_are, next_found, two_found, three_found, two_and_rest_found}
use Rattle.cable_script.proofs.NumbersRead.{step_is, step_of, same_Ok, given_is, given_of, count_is, count_found, node_is, node_found, conn_is}
use Rattle.cable_script.proofs.NumbersRead.{conn_found, millis_is, millis_found, from_word, node_word, conn_word, millis_word, node_alone_is}
use Rattle.cable_script.proofs.NumbersRead.{node_alone_found, conn_alone_is, conn_alone_found}

-- ---- what a line spells is read from it

-- a node's number behind the verb
node_line : (word text : List ℕ) (make : NodeNo → Verb) (v : Verb) → ((node : NodeNo) → IsNode node → Spells (make node) (word ++ 32 ∷ decimal node.0)) → (node_alone text >>= λ node. Ok (make node)) ≡ Ok v → Spells v (word ++ 32 ∷ text)
node_line word text make v spells e =
    let node = step_is _ _ v e in
    let h = node_alone_is text node.0 node.1.0 in
    subst (λ (w : Verb). Spells w (word ++ 32 ∷ text)) (same_Ok _ v node.1.1)
    (subst (λ (t : List ℕ). Spells (make node.0) (word ++ 32 ∷ t)) (sym h.1) (spells node.0 h.0))

-- a connection's number behind the verb
conn_line : (word text : List ℕ) (make : ConnNo → Verb) (v : Verb) → ((conn : ConnNo) → IsConn conn → Spells (make conn) (word ++ 32 ∷ decimal conn.0)) → (conn_alone text >>= λ conn. Ok (make conn)) ≡ Ok v → Spells v (word ++ 32 ∷ text)
conn_line word text make v spells e =
    let conn = step_is _ _ v e in
    let h = conn_alone_is text conn.0 conn.1.0 in
    subst (λ (w : Verb). Spells w (word ++ 32 ∷ text)) (same_Ok _ v conn.1.1)
    (subst (λ (t : List ℕ). Spells (make conn.0) (word ++ 32 ∷ t)) (sym h.1) (spells conn.0 h.0))

pub boot_is : (text : List ℕ) (v : Verb) → boot_in text ≡ Ok v → Spells v (codes "boot" ++ 32 ∷ text)
unfolding boot_in
boot_is text v e = node_line (codes "boot") text (λ node. verb.One (event.Boot node)) v (λ node h. (h, refl)) e

pub stop_is : (text : List ℕ) (v : Verb) → stop_in text ≡ Ok v → Spells v (codes "stop" ++ 32 ∷ text)
unfolding stop_in
stop_is text v e = node_line (codes "stop") text (λ node. verb.One (event.Stop node)) v (λ node h. (h, refl)) e

pub ask_is : (text : List ℕ) (v : Verb) → ask_in text ≡ Ok v → Spells v (codes "ask" ++ 32 ∷ text)
unfolding ask_in
ask_is text v e = node_line (codes "ask") text (λ node. verb.One (event.Ask node)) v (λ node h. (h, refl)) e

pub read_is : (text : List ℕ) (v : Verb) → read_in text ≡ Ok v → Spells v (codes "read" ++ 32 ∷ text)
unfolding read_in
read_is text v e = node_line (codes "read") text (λ node. verb.One (event.Read node)) v (λ node h. (h, refl)) e

pub deliver_is : (text : List ℕ) (v : Verb) → deliver_in text ≡ Ok v → Spells v (codes "deliver" ++ 32 ∷ text)
unfolding deliver_in
deliver_is text v e = node_line (codes "deliver") text (λ node. verb.One (event.Deliver node)) v (λ node h. (h, refl)) e

pub poll_is : (text : List ℕ) (v : Verb) → poll_in text ≡ Ok v → Spells v (codes "poll" ++ 32 ∷ text)
unfolding poll_in
poll_is text v e = node_line (codes "poll") text (λ node. verb.Poll node) v (λ node h. (h, refl)) e

pub drop_is : (text : List ℕ) (v : Verb) → drop_in text ≡ Ok v → Spells v (codes "drop" ++ 32 ∷ text)
unfolding drop_in
drop_is text v e = conn_line (codes "drop") text (λ conn. verb.One (event.Drop conn)) v (λ conn h. (h, refl)) e

pub take_is : (text : List ℕ) (v : Verb) → take_in text ≡ Ok v → Spells v (codes "take" ++ 32 ∷ text)
unfolding take_in
take_is text v e = conn_line (codes "take") text (λ conn. verb.One (event.Take conn)) v (λ conn h. (h, refl)) e

pub finish_is : (text : List ℕ) (v : Verb) → finish_in text ≡ Ok v → Spells v (codes "finish" ++ 32 ∷ text)
unfolding finish_in
finish_is text v e = conn_line (codes "finish") text (λ conn. verb.One (event.Finish conn)) v (λ conn h. (h, refl)) e

pub beat_is : (text : List ℕ) (v : Verb) → beat_in text ≡ Ok v → Spells v (codes "beat" ++ 32 ∷ text)
unfolding beat_in
beat_is text v e =
    let words = step_is _ _ v e in
    let node = step_is _ _ v words.1.1 in
    let now = step_is _ _ v node.1.1 in
    let w = two_are text words.0 (given_is _ _ words.0 words.1.0) in
    let n = node_is words.0.0 node.0 node.1.0 in
    let t = millis_is words.0.1 now.0 now.1.0 in
    let whole : text ≡ decimal node.0.0 ++ 32 ∷ decimal now.0.0 = subst (λ (x : List ℕ). text ≡ x ++ 32 ∷ decimal now.0.0) n.1 (subst (λ (x : List ℕ). text ≡ words.0.0 ++ 32 ∷ x) t.1 w.parts) in
    subst (λ (x : Verb). Spells x (codes "beat" ++ 32 ∷ text)) (same_Ok _ v now.1.1)
    (n.0, t.0, ap (λ (r : List ℕ). codes "beat" ++ 32 ∷ r) whole)

pub put_is : (text : List ℕ) (v : Verb) → put_in text ≡ Ok v → Spells v (codes "put" ++ 32 ∷ text)
unfolding put_in
put_is text v e =
    let words = step_is _ _ v e in
    let conn = step_is _ _ v words.1.1 in
    let moment = step_is _ _ v conn.1.1 in
    let w = two_are text words.0 (given_is _ _ words.0 words.1.0) in
    let k = conn_is words.0.0 conn.0 conn.1.0 in
    let t = millis_is words.0.1 moment.0 moment.1.0 in
    let whole : text ≡ decimal conn.0.0 ++ 32 ∷ decimal moment.0.0 = subst (λ (x : List ℕ). text ≡ x ++ 32 ∷ decimal moment.0.0) k.1 (subst (λ (x : List ℕ). text ≡ words.0.0 ++ 32 ∷ x) t.1 w.parts) in
    subst (λ (x : Verb). Spells x (codes "put" ++ 32 ∷ text)) (same_Ok _ v moment.1.1)
    (k.0, t.0, ap (λ (r : List ℕ). codes "put" ++ 32 ∷ r) whole)

-- three words that are numbers
three_whole : (text a b c x y z : List ℕ) → text ≡ a ++ 32 ∷ (b ++ 32 ∷ c) → a ≡ x → b ≡ y → c ≡ z → text ≡ x ++ 32 ∷ (y ++ 32 ∷ z)
three_whole text a b c x y z e f g h =
    subst (λ (p : List ℕ). text ≡ p ++ 32 ∷ (y ++ 32 ∷ z)) f (subst (λ (p : List ℕ). text ≡ a ++ 32 ∷ (p ++ 32 ∷ z)) g (subst (λ (p : List ℕ). text ≡ a ++ 32 ∷ (b ++ 32 ∷ p)) h e))

pub open_is : (text : List ℕ) (v : Verb) → open_in text ≡ Ok v → Spells v (codes "open" ++ 32 ∷ text)
unfolding open_in
open_is text v e =
    let words = step_is _ _ v e in
    let node = step_is _ _ v words.1.1 in
    let conn = step_is _ _ v node.1.1 in
    let w = three_are text words.0 (given_is _ _ words.0 words.1.0) in
    let n = node_is words.0.0 node.0 node.1.0 in
    let k = conn_is words.0.1 conn.0 conn.1.0 in
    let whole = three_whole text words.0.0 words.0.1 words.0.2 (decimal node.0.0) (decimal conn.0.0) words.0.2 w.parts n.1 k.1 refl in
    subst (λ (x : Verb). Spells x (codes "open" ++ 32 ∷ text)) (same_Ok _ v conn.1.1)
    (n.0, k.0, w.third_is, ap (λ (r : List ℕ). codes "open" ++ 32 ∷ r) whole)

pub text_is : (text : List ℕ) (v : Verb) → text_in text ≡ Ok v → Spells v (codes "in" ++ 32 ∷ text)
unfolding text_in
text_is text v e =
    let words = step_is _ _ v e in
    let conn = step_is _ _ v words.1.1 in
    let w = next_is text words.0 (given_is _ _ words.0 words.1.0) in
    let k = conn_is words.0.0 conn.0 conn.1.0 in
    subst (λ (x : Verb). Spells x (codes "in" ++ 32 ∷ text)) (same_Ok _ v conn.1.1)
    (k.0, ap (λ (r : List ℕ). codes "in" ++ 32 ∷ r) (subst (λ (x : List ℕ). text ≡ x ++ 32 ∷ words.0.1) k.1 w.parts))

pub work_is : (text : List ℕ) (v : Verb) → work_in text ≡ Ok v → Spells v (codes "work" ++ 32 ∷ text)
unfolding work_in
work_is text v e =
    let words = step_is _ _ v e in
    let conn = step_is _ _ v words.1.1 in
    let moment = step_is _ _ v conn.1.1 in
    let puts = step_is _ _ v moment.1.1 in
    let w = three_are text words.0 (given_is _ _ words.0 words.1.0) in
    let k = conn_is words.0.0 conn.0 conn.1.0 in
    let t = millis_is words.0.1 moment.0 moment.1.0 in
    let p = count_is 0 most_puts puts.0 fault.BadNumber words.0.2 (omega arith) puts.1.0 in
    let whole = three_whole text words.0.0 words.0.1 words.0.2 (decimal conn.0.0) (decimal moment.0.0) (decimal puts.0) w.parts k.1 t.1 p.1 in
    subst (λ (x : Verb). Spells x (codes "work" ++ 32 ∷ text)) (same_Ok _ v puts.1.1)
    (k.0, t.0, p.0, ap (λ (r : List ℕ). codes "work" ++ 32 ∷ r) whole)

pub trim_is : (text : List ℕ) (v : Verb) → trim_in text ≡ Ok v → Spells v (codes "trim" ++ 32 ∷ text)
unfolding trim_in
trim_is text v e =
    let words = step_is _ _ v e in
    let now = step_is _ _ v words.1.1 in
    let retention = step_is _ _ v now.1.1 in
    let batch = step_is _ _ v retention.1.1 in
    let w = three_are text words.0 (given_is _ _ words.0 words.1.0) in
    let t = millis_is words.0.0 now.0 now.1.0 in
    let r = millis_is words.0.1 retention.0 retention.1.0 in
    let b = count_is 1 most_batch batch.0 fault.BadNumber words.0.2 (omega arith) batch.1.0 in
    let whole = three_whole text words.0.0 words.0.1 words.0.2 (decimal now.0.0) (decimal retention.0.0) (decimal batch.0) w.parts t.1 r.1 b.1 in
    subst (λ (x : Verb). Spells x (codes "trim" ++ 32 ∷ text)) (same_Ok _ v batch.1.1)
    (t.0, r.0, b.0, ap (λ (l : List ℕ). codes "trim" ++ 32 ∷ l) whole)

some_json : (o : Option Data) (value : Data) → o ≡ Some value → IsSome o
some_json None value e = absurd cc
some_json (Some d) value e = refl

payload_is : (json payload : List ℕ) → payload_in json ≡ Ok payload → IsSome (read json) × (payload ≡ squeezed json)
unfolding payload_in
payload_is json payload e =
    let value = step_is _ _ payload e in
    (some_json (read json) value.0 (given_is _ _ value.0 value.1.0), sym (same_Ok _ payload value.1.1))

-- an `if` that gave something where it was taken
taken : {A : Type 0} (b : Bool) (x y : A) (f : LineFault) → cond {A = Result A LineFault} b (Ok x) (Err f) ≡ Ok y → (b ≡ true) × (x ≡ y)
taken true x y f e = (refl, same_Ok x y e)
taken false x y f e = absurd cc

cast_is_small : (moment : Millis) (channel payload : List ℕ) (v : Verb) → cast_of moment channel payload ≡ Ok v
    → (length channel ≤ most_name) × (length payload ≤ most_payload) × (verb.One (event.Cast moment channel payload) ≡ v)
unfolding cast_of
cast_is_small moment channel payload v e =
    let fits = nat_le (length channel) most_name && nat_le (length payload) most_payload in
    let t = taken fits (verb.One (event.Cast moment channel payload)) v fault.TooLarge e in
    let h = and_parts _ _ t.0 in
    (leb-true _ _ h.0, leb-true _ _ h.1, t.1)

pub cast_is : (text : List ℕ) (v : Verb) → cast_in text ≡ Ok v → Spells v (codes "cast" ++ 32 ∷ text)
unfolding cast_in
cast_is text v e =
    let words = step_is _ _ v e in
    let moment = step_is _ _ v words.1.1 in
    let payload = step_is _ _ v moment.1.1 in
    let w = two_and_rest_are text words.0 (given_is _ _ words.0 words.1.0) in
    let t = millis_is words.0.0 moment.0 moment.1.0 in
    let p = payload_is words.0.2 payload.0 payload.1.0 in
    let small = cast_is_small moment.0 words.0.1 payload.0 v payload.1.1 in
    let whole = three_whole text words.0.0 words.0.1 words.0.2 (decimal moment.0.0) words.0.1 words.0.2 w.parts t.1 refl refl in
    subst (λ (x : Verb). Spells x (codes "cast" ++ 32 ∷ text)) small.2 (
      words.0.2,
      (
        t.0,
        record { name = w.second_is; reads = p.0; squeezes = p.1; short_name = small.0; short_payload = small.1 },
        ap (λ (l : List ℕ). codes "cast" ++ 32 ∷ l) whole,
      ),
    )

-- ---- a line that spells a verb is read as it

pub boot_found : (node : NodeNo) → IsNode node → boot_in (decimal node.0) ≡ Ok (verb.One (event.Boot node))
unfolding boot_in
boot_found node h = step_of _ _ node _ (node_alone_found node h) refl

pub stop_found : (node : NodeNo) → IsNode node → stop_in (decimal node.0) ≡ Ok (verb.One (event.Stop node))
unfolding stop_in
stop_found node h = step_of _ _ node _ (node_alone_found node h) refl

pub ask_found : (node : NodeNo) → IsNode node → ask_in (decimal node.0) ≡ Ok (verb.One (event.Ask node))
unfolding ask_in
ask_found node h = step_of _ _ node _ (node_alone_found node h) refl

pub read_found : (node : NodeNo) → IsNode node → read_in (decimal node.0) ≡ Ok (verb.One (event.Read node))
unfolding read_in
read_found node h = step_of _ _ node _ (node_alone_found node h) refl

pub deliver_found : (node : NodeNo) → IsNode node → deliver_in (decimal node.0) ≡ Ok (verb.One (event.Deliver node))
unfolding deliver_in
deliver_found node h = step_of _ _ node _ (node_alone_found node h) refl

pub poll_found : (node : NodeNo) → IsNode node → poll_in (decimal node.0) ≡ Ok (verb.Poll node)
unfolding poll_in
poll_found node h = step_of _ _ node _ (node_alone_found node h) refl

pub drop_found : (conn : ConnNo) → IsConn conn → drop_in (decimal conn.0) ≡ Ok (verb.One (event.Drop conn))
unfolding drop_in
drop_found conn h = step_of _ _ conn _ (conn_alone_found conn h) refl

pub take_found : (conn : ConnNo) → IsConn conn → take_in (decimal conn.0) ≡ Ok (verb.One (event.Take conn))
unfolding take_in
take_found conn h = step_of _ _ conn _ (conn_alone_found conn h) refl

pub finish_found : (conn : ConnNo) → IsConn conn → finish_in (decimal conn.0) ≡ Ok (verb.One (event.Finish conn))
unfolding finish_in
finish_found conn h = step_of _ _ conn _ (conn_alone_found conn h) refl

pub beat_found : (node : NodeNo) (now : Millis) → IsNode node → IsMoment now → beat_in (decimal node.0 ++ 32 ∷ decimal now.0) ≡ Ok (verb.One (event.Beat node now))
unfolding beat_in
beat_found node now h g =
    step_of _ _ (decimal node.0, decimal now.0) _ (given_of _ _ _ (two_found (decimal node.0) (decimal now.0) (node_word node h) (millis_word now g)))
    (step_of _ _ node _ (node_found node h) (step_of _ _ now _ (millis_found now g) refl))

pub put_found : (conn : ConnNo) (moment : Millis) → IsConn conn → IsMoment moment → put_in (decimal conn.0 ++ 32 ∷ decimal moment.0) ≡ Ok (verb.One (event.Put conn moment))
unfolding put_in
put_found conn moment h g =
    step_of _ _ (decimal conn.0, decimal moment.0) _ (given_of _ _ _ (two_found (decimal conn.0) (decimal moment.0) (conn_word conn h) (millis_word moment g)))
    (step_of _ _ conn _ (conn_found conn h) (step_of _ _ moment _ (millis_found moment g) refl))

pub open_found : (node : NodeNo) (conn : ConnNo) (token : List ℕ) → IsNode node → IsConn conn → IsWord token → open_in (decimal node.0 ++ 32 ∷ (decimal conn.0 ++ 32 ∷ token)) ≡ Ok (verb.One (event.Open node conn token))
unfolding open_in
open_found node conn token h g w =
    step_of _ _ (decimal node.0, decimal conn.0, token) _ (given_of _ _ _ (three_found (decimal node.0) (decimal conn.0) token (node_word node h) (conn_word conn g) w))
    (step_of _ _ node _ (node_found node h) (step_of _ _ conn _ (conn_found conn g) refl))

pub text_found : (conn : ConnNo) (text : List ℕ) → IsConn conn → text_in (decimal conn.0 ++ 32 ∷ text) ≡ Ok (verb.One (event.In conn text))
unfolding text_in
text_found conn text h =
    step_of _ _ (decimal conn.0, text) _ (given_of _ _ _ (next_found (decimal conn.0) text (conn_word conn h)))
    (step_of _ _ conn _ (conn_found conn h) refl)

pub work_found : (conn : ConnNo) (moment : Millis) (puts : ℕ) → IsConn conn → IsMoment moment → IsFrom 0 most_puts puts
    → work_in (decimal conn.0 ++ 32 ∷ (decimal moment.0 ++ 32 ∷ decimal puts)) ≡ Ok (verb.Work conn moment puts)
unfolding work_in
work_found conn moment puts h g k =
    step_of _ _ (decimal conn.0, decimal moment.0, decimal puts) _
    (given_of _ _ _ (three_found (decimal conn.0) (decimal moment.0) (decimal puts)
    (conn_word conn h) (millis_word moment g) (from_word 0 most_puts puts (omega arith) k)))
    (step_of _ _ conn _ (conn_found conn h)
    (step_of _ _ moment _ (millis_found moment g)
    (step_of _ _ puts _ (count_found 0 most_puts puts fault.BadNumber (omega arith) k) refl)))

pub trim_found : (now retention : Millis) (batch : ℕ) → IsMoment now → IsMoment retention → IsFrom 1 most_batch batch
    → trim_in (decimal now.0 ++ 32 ∷ (decimal retention.0 ++ 32 ∷ decimal batch)) ≡ Ok (verb.One (event.Trim now retention batch))
unfolding trim_in
trim_found now retention batch h g k =
    step_of _ _ (decimal now.0, decimal retention.0, decimal batch) _
    (given_of _ _ _ (three_found (decimal now.0) (decimal retention.0) (decimal batch)
    (millis_word now h) (millis_word retention g) (from_word 1 most_batch batch (omega arith) k)))
    (step_of _ _ now _ (millis_found now h)
    (step_of _ _ retention _ (millis_found retention g)
    (step_of _ _ batch _ (count_found 1 most_batch batch fault.BadNumber (omega arith) k) refl)))

json_there : (o : Option Data) → IsSome o → (value : Data) × (o ≡ Some value)
json_there None s = absurd cc
json_there (Some d) s = (d, refl)

payload_found : (json : List ℕ) → IsSome (read json) → payload_in json ≡ Ok (squeezed json)
unfolding payload_in
payload_found json s = let value = json_there (read json) s in step_of _ _ value.0 _ (given_of _ _ _ value.1) refl

small_found : (moment : Millis) (channel payload : List ℕ) → length channel ≤ most_name → length payload ≤ most_payload
    → cast_of moment channel payload ≡ Ok (verb.One (event.Cast moment channel payload))
unfolding cast_of
small_found moment channel payload h g =
    let short : nat_le (length channel) most_name ≡ true = grind (arith, nat_tests) in
    let small : nat_le (length payload) most_payload ≡ true = grind (arith, nat_tests) in
    rw (short, small) refl

pub cast_found : (moment : Millis) (channel json payload : List ℕ) → IsMoment moment → IsCast channel json payload → cast_in (decimal moment.0 ++ 32 ∷ (channel ++ 32 ∷ json)) ≡ Ok (verb.One (event.Cast moment channel payload))
unfolding cast_in
cast_found moment channel json payload h c =
    step_of _ _ (decimal moment.0, channel, json) _ (given_of _ _ _ (two_and_rest_found (decimal moment.0) channel json (millis_word moment h) c.name))
    (step_of _ _ moment _ (millis_found moment h) (step_of _ _ payload _ (payload_found json c.reads ∙ ap (λ (p : List ℕ). Ok p) (sym c.squeezes)) (small_found moment channel payload c.short_name c.short_payload)))
