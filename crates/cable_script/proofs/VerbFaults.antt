-- What the reading of each verb answers is what the table of verbs says: the words first, then the numbers, then what a cast commits.
use Rattle.std.proofs.Common.{◌≡◌, ℕ, ◌^◌, ◌<◌, List, [], ◌∷◌, length, Bool, true, false, ◌&&◌, cond, Option, Some, None, Result, Ok, Err, refl, sym}
use Rattle.std.proofs.Common.{ap, ◌∙◌, arith}
use Rattle.std.specs.Prelude.{decimal, nat_le}
use Rattle.std.specs.Option.{option_map, is_some}
use Rattle.std.specs.Result.{result_err}
use Rattle.std.specs.Bool.{Decides}
use Rattle.serde_json.specs.Data.{Data}
use Rattle.serde_json.specs.Read.{read}
use Rattle.cable_base.specs.declared.numbers.ConnNo.{ConnNo}
use Rattle.cable_base.specs.declared.numbers.NodeNo.{NodeNo}
use Rattle.cable_base.specs.declared.numbers.Millis.{Millis}
use Rattle.cable_base.specs.Squeeze.{squeezed}
use Rattle.cable_model.specs.Limits.{most_name, most_payload, last_conn, last_moment, last_node, most_batch, most_puts}
use Rattle.cable_model.specs.Script.{IsFrom}
use Rattle.cable_model.specs.declared.events.Event.TheVariants as event
use Rattle.cable_model.specs.declared.verbs.Verb.{Verb}
use Rattle.cable_model.specs.declared.verbs.Verb.TheVariants as verb
use Rattle.cable_script.specs.declared.faults.LineFault.{LineFault}
use Rattle.cable_script.specs.declared.faults.LineFault.TheVariants as fault
use Rattle.cable_model.specs.declared.verb_names.VerbName.{VerbName}
use Rattle.cable_model.specs.declared.verb_names.VerbName.TheVariants as name
use Rattle.cable_model.specs.VerbTable.{Kind, Node, Connection, Moment, Batch, Puts, Word, Rest, kinds_behind, IsInRange, Each}
use Rattle.cable_script.specs.Words.{next_word, one_word, two_words, three_words, two_words_and_rest, number_in}
use Rattle.cable_script.specs.Reading.{◌>>=◌, or_fault, node_in, conn_in, millis_in, node_alone, conn_alone, boot_in, open_in, text_in, drop_in}
use Rattle.cable_script.specs.Reading.{stop_in, take_in, put_in, finish_in, work_in, payload_in, cast_of, cast_in, trim_in, ask_in, read_in}
use Rattle.cable_script.specs.Reading.{deliver_in, poll_in, beat_in, verb_with, verb_alone, verb_behind}
use Rattle.cable_script.proofs.Spellings.{number_is, number_of_decimal}
use Rattle.cable_script.proofs.LineWords.{words_in, words_of, two, three, one_in, two_in, three_in, next_in, rest_in}

-- ---- numbers

-- a word is a number of its kind, where the kind has numbers
abbrev passes : Kind → List ℕ → Bool
passes Node word = is_some (number_in 1 last_node word)
passes Connection word = is_some (number_in 1 last_conn word)
passes Moment word = is_some (number_in 0 last_moment word)
passes Batch word = is_some (number_in 1 most_batch word)
passes Puts word = is_some (number_in 0 most_puts word)
passes Word word = true
passes Rest word = true

abbrev pub all_pass : List Kind → List (List ℕ) → Bool
all_pass [] [] = true
all_pass [] (word ∷ words) = false
all_pass (kind ∷ kinds) [] = false
all_pass (kind ∷ kinds) (word ∷ words) = cond (passes kind word) (all_pass kinds words) false

number_Decides : (low high : ℕ) (word : List ℕ) → high < 2 ^ 64 → Decides (is_some (number_in low high word)) ((n : ℕ) × IsFrom low high n × (word ≡ decimal n))
number_Decides low high word fits = (λ e. given (number_in low high word) refl e, found)
  where
    given : (o : Option ℕ) → number_in low high word ≡ o → is_some o ≡ true → (n : ℕ) × IsFrom low high n × (word ≡ decimal n)
    given None e t = absurd cc
    given (Some n) e t = let h = number_is low high n word fits e in (n, (h.1, h.2), h.0)

    found : (n : ℕ) × IsFrom low high n × (word ≡ decimal n) → is_some (number_in low high word) ≡ true
    found (n, f, e) = ap (λ (w : List ℕ). is_some (number_in low high w)) e ∙ ap (λ (o : Option ℕ). is_some o) (number_of_decimal low high n fits f.0 f.1)

passes_Decides : (kind : Kind) (word : List ℕ) → Decides (passes kind word) (IsInRange kind word)
passes_Decides Node word =
    let d = number_Decides 1 last_node word (omega arith) in
    (λ e. let h = d.0 e in (record { 0 = h.0 }, h.1, h.2), λ h. d.1 (h.0.0, h.1, h.2))
passes_Decides Connection word =
    let d = number_Decides 1 last_conn word (omega arith) in
    (λ e. let h = d.0 e in (record { 0 = h.0 }, h.1, h.2), λ h. d.1 (h.0.0, h.1, h.2))
passes_Decides Moment word =
    let d = number_Decides 0 last_moment word (omega arith) in
    (λ e. let h = d.0 e in (record { 0 = h.0 }, h.1, h.2), λ h. d.1 (h.0.0, h.1, h.2))
passes_Decides Batch word = number_Decides 1 most_batch word (omega arith)
passes_Decides Puts word = number_Decides 0 most_puts word (omega arith)
passes_Decides Word word = (λ e. tt, λ h. refl)
passes_Decides Rest word = (λ e. tt, λ h. refl)

both : (a b : Bool) → cond a b false ≡ true → (a ≡ true) × (b ≡ true)
both true b e = (refl, e)
both false b e = absurd cc

pub all_pass_Decides : (kinds : List Kind) (words : List (List ℕ)) → Decides (all_pass kinds words) (Each IsInRange kinds words)
all_pass_Decides [] [] = (λ e. tt, λ h. refl)
all_pass_Decides [] (word ∷ words) = (λ e. absurd cc, λ h. absurd h)
all_pass_Decides (kind ∷ kinds) [] = (λ e. absurd cc, λ h. absurd h)
all_pass_Decides (kind ∷ kinds) (word ∷ words) =
    let first = passes_Decides kind word in
    let others = all_pass_Decides kinds words in
    (λ e. let h = both (passes kind word) (all_pass kinds words) e in (first.0 h.0, others.0 h.1), λ h. rw (first.1 h.0, others.1 h.1) refl)

-- ---- steps of a chain

-- the fault of words of these kinds, where this comes behind the numbers
abbrev pub faults_with : List Kind → (List (List ℕ) → Option LineFault) → Option (List (List ℕ)) → Option LineFault
faults_with kinds last None = Some fault.BadWords
faults_with kinds last (Some words) = cond (all_pass kinds words) (last words) (Some fault.BadNumber)

words_step : {P : Type 0} (o : Option P) (list : P → List (List ℕ)) (k : P → Result Verb LineFault) (kinds : List Kind) (last : List (List ℕ) → Option LineFault)
    → ((p : P) → result_err (k p) ≡ faults_with kinds last (Some (list p))) → result_err (or_fault fault.BadWords o >>= k) ≡ faults_with kinds last (option_map list o)
words_step None list k kinds last h = refl
words_step (Some p) list k kinds last h = h p

-- one number, and no more
alone_step : {A : Type 0} (o : Option (List ℕ)) (number : List ℕ → Result A LineFault) (make : A → Verb) (kind : Kind)
    → ((word : List ℕ) → result_err (number word >>= λ n. Ok (make n)) ≡ cond (cond (passes kind word) true false) None (Some fault.BadNumber))
    → result_err ((or_fault fault.BadWords o >>= number) >>= λ n. Ok (make n)) ≡ faults_with (kind ∷ []) (λ words. None) (option_map (λ w. w ∷ []) o)
alone_step None number make kind h = refl
alone_step (Some word) number make kind h = h word

-- a number, which becomes this, and what comes behind it
made_step : {A : Type 0} (o : Option ℕ) (make : ℕ → A) (k : A → Result Verb LineFault) (b : Bool) (last : Option LineFault)
    → ((x : A) → result_err (k x) ≡ cond b last (Some fault.BadNumber))
    → result_err ((or_fault fault.BadNumber o >>= λ n. Ok (make n)) >>= k) ≡ cond (cond (is_some o) b false) last (Some fault.BadNumber)
made_step None make k b last h = refl
made_step (Some n) make k b last h = h (make n)

count_step : (o : Option ℕ) (k : ℕ → Result Verb LineFault) (b : Bool) (last : Option LineFault) → ((n : ℕ) → result_err (k n) ≡ cond b last (Some fault.BadNumber))
    → result_err (or_fault fault.BadNumber o >>= k) ≡ cond (cond (is_some o) b false) last (Some fault.BadNumber)
count_step None k b last h = refl
count_step (Some n) k b last h = h n

node_step : (word : List ℕ) (k : NodeNo → Result Verb LineFault) (b : Bool) (last : Option LineFault) → ((node : NodeNo) → result_err (k node) ≡ cond b last (Some fault.BadNumber))
    → result_err (node_in word >>= k) ≡ cond (cond (passes Node word) b false) last (Some fault.BadNumber)
unfolding node_in
node_step word k b last h = made_step (number_in 1 last_node word) (λ n. record { 0 = n }) k b last h

conn_step : (word : List ℕ) (k : ConnNo → Result Verb LineFault) (b : Bool) (last : Option LineFault) → ((conn : ConnNo) → result_err (k conn) ≡ cond b last (Some fault.BadNumber))
    → result_err (conn_in word >>= k) ≡ cond (cond (passes Connection word) b false) last (Some fault.BadNumber)
unfolding conn_in
conn_step word k b last h = made_step (number_in 1 last_conn word) (λ n. record { 0 = n }) k b last h

moment_step : (word : List ℕ) (k : Millis → Result Verb LineFault) (b : Bool) (last : Option LineFault) → ((at : Millis) → result_err (k at) ≡ cond b last (Some fault.BadNumber))
    → result_err (millis_in word >>= k) ≡ cond (cond (passes Moment word) b false) last (Some fault.BadNumber)
unfolding millis_in
moment_step word k b last h = made_step (number_in 0 last_moment word) (λ n. record { 0 = n }) k b last h

-- ---- verbs

node_alone_faults : (text : List ℕ) (make : NodeNo → Verb)
    → result_err (node_alone text >>= λ node. Ok (make node)) ≡ faults_with (Node ∷ []) (λ words. None) (words_in (Node ∷ []) text)
unfolding node_alone
node_alone_faults text make =
    alone_step (one_word text) node_in make Node (λ word. node_step word _ true None (λ node. refl))
    ∙ ap (faults_with (Node ∷ []) (λ words. None)) (sym (one_in Node text refl))

conn_alone_faults : (text : List ℕ) (make : ConnNo → Verb)
    → result_err (conn_alone text >>= λ conn. Ok (make conn)) ≡ faults_with (Connection ∷ []) (λ words. None) (words_in (Connection ∷ []) text)
unfolding conn_alone
conn_alone_faults text make =
    alone_step (one_word text) conn_in make Connection (λ word. conn_step word _ true None (λ conn. refl))
    ∙ ap (faults_with (Connection ∷ []) (λ words. None)) (sym (one_in Connection text refl))

-- name and payload are within the limits
abbrev pub are_short : (channel payload : List ℕ) → Bool
are_short channel payload = nat_le (length channel) most_name && nat_le (length payload) most_payload

-- what a cast commits: its JSON first, then the sizes
abbrev pub cast_fault : (channel json : List ℕ) → Option LineFault
cast_fault channel json = cond (is_some (read json)) (cond (are_short channel (squeezed json)) None (Some fault.TooLarge)) (Some fault.BadJson)

abbrev pub last_of_cast : List (List ℕ) → Option LineFault
last_of_cast (moment ∷ channel ∷ json ∷ []) = cast_fault channel json
last_of_cast _ = None

-- the fault behind the numbers
abbrev pub last_of : VerbName → List (List ℕ) → Option LineFault
last_of name.Cast words = last_of_cast words
last_of _ words = None

abbrev pub faults_of : VerbName → Option (List (List ℕ)) → Option LineFault
faults_of verb words = faults_with (kinds_behind verb) (last_of verb) words

boot_faults : (text : List ℕ) → result_err (boot_in text) ≡ faults_of name.Boot (words_in (kinds_behind name.Boot) text)
unfolding boot_in
boot_faults text = node_alone_faults text (λ node. verb.One (event.Boot node))

stop_faults : (text : List ℕ) → result_err (stop_in text) ≡ faults_of name.Stop (words_in (kinds_behind name.Stop) text)
unfolding stop_in
stop_faults text = node_alone_faults text (λ node. verb.One (event.Stop node))

ask_faults : (text : List ℕ) → result_err (ask_in text) ≡ faults_of name.Ask (words_in (kinds_behind name.Ask) text)
unfolding ask_in
ask_faults text = node_alone_faults text (λ node. verb.One (event.Ask node))

read_faults : (text : List ℕ) → result_err (read_in text) ≡ faults_of name.Read (words_in (kinds_behind name.Read) text)
unfolding read_in
read_faults text = node_alone_faults text (λ node. verb.One (event.Read node))

deliver_faults : (text : List ℕ) → result_err (deliver_in text) ≡ faults_of name.Deliver (words_in (kinds_behind name.Deliver) text)
unfolding deliver_in
deliver_faults text = node_alone_faults text (λ node. verb.One (event.Deliver node))

poll_faults : (text : List ℕ) → result_err (poll_in text) ≡ faults_of name.Poll (words_in (kinds_behind name.Poll) text)
unfolding poll_in
poll_faults text = node_alone_faults text (λ node. verb.Poll node)

drop_faults : (text : List ℕ) → result_err (drop_in text) ≡ faults_of name.Drop (words_in (kinds_behind name.Drop) text)
unfolding drop_in
drop_faults text = conn_alone_faults text (λ conn. verb.One (event.Drop conn))

take_faults : (text : List ℕ) → result_err (take_in text) ≡ faults_of name.Take (words_in (kinds_behind name.Take) text)
unfolding take_in
take_faults text = conn_alone_faults text (λ conn. verb.One (event.Take conn))

finish_faults : (text : List ℕ) → result_err (finish_in text) ≡ faults_of name.Finish (words_in (kinds_behind name.Finish) text)
unfolding finish_in
finish_faults text = conn_alone_faults text (λ conn. verb.One (event.Finish conn))

open_faults : (text : List ℕ) → result_err (open_in text) ≡ faults_of name.Open (words_in (kinds_behind name.Open) text)
unfolding open_in
open_faults text =
    words_step (three_words text) three _ (kinds_behind name.Open) (last_of name.Open) (λ p. node_step p.0 _ _ None (λ node. conn_step p.1 _ true None (λ conn. refl)))
    ∙ ap (faults_of name.Open) (sym (three_in Node Connection Word text refl))

text_faults : (text : List ℕ) → result_err (text_in text) ≡ faults_of name.In (words_in (kinds_behind name.In) text)
unfolding text_in
text_faults text =
    words_step (next_word text) two _ (kinds_behind name.In) (last_of name.In) (λ p. conn_step p.0 _ true None (λ conn. refl))
    ∙ ap (faults_of name.In) (sym (next_in Connection text))

put_faults : (text : List ℕ) → result_err (put_in text) ≡ faults_of name.Put (words_in (kinds_behind name.Put) text)
unfolding put_in
put_faults text =
    words_step (two_words text) two _ (kinds_behind name.Put) (last_of name.Put) (λ p. conn_step p.0 _ _ None (λ conn. moment_step p.1 _ true None (λ moment. refl)))
    ∙ ap (faults_of name.Put) (sym (two_in Connection Moment text refl))

beat_faults : (text : List ℕ) → result_err (beat_in text) ≡ faults_of name.Beat (words_in (kinds_behind name.Beat) text)
unfolding beat_in
beat_faults text =
    words_step (two_words text) two _ (kinds_behind name.Beat) (last_of name.Beat) (λ p. node_step p.0 _ _ None (λ node. moment_step p.1 _ true None (λ now. refl)))
    ∙ ap (faults_of name.Beat) (sym (two_in Node Moment text refl))

work_faults : (text : List ℕ) → result_err (work_in text) ≡ faults_of name.Work (words_in (kinds_behind name.Work) text)
unfolding work_in
work_faults text =
    words_step (three_words text) three _ (kinds_behind name.Work) (last_of name.Work)
    (λ p. conn_step p.0 _ _ None (λ conn. moment_step p.1 _ _ None (λ moment. count_step (number_in 0 most_puts p.2) _ true None (λ puts. refl))))
    ∙ ap (faults_of name.Work) (sym (three_in Connection Moment Puts text refl))

trim_faults : (text : List ℕ) → result_err (trim_in text) ≡ faults_of name.Trim (words_in (kinds_behind name.Trim) text)
unfolding trim_in
trim_faults text =
    words_step (three_words text) three _ (kinds_behind name.Trim) (last_of name.Trim)
    (λ p. moment_step p.0 _ _ None (λ now. moment_step p.1 _ _ None (λ retention. count_step (number_in 1 most_batch p.2) _ true None (λ batch. refl))))
    ∙ ap (faults_of name.Trim) (sym (three_in Moment Moment Batch text refl))

-- the sizes of a cast
sizes_fault : (b : Bool) (v : Verb) → result_err (cond {A = Result Verb LineFault} b (Ok v) (Err fault.TooLarge)) ≡ cond b None (Some fault.TooLarge)
sizes_fault true v = refl
sizes_fault false v = refl

commit_faults : (moment : Millis) (channel json : List ℕ) → result_err (payload_in json >>= λ payload. cast_of moment channel payload) ≡ cast_fault channel json
unfolding payload_in cast_of
commit_faults moment channel json = by_value (read json)
  where
    by_value : (o : Option Data) → result_err ((or_fault fault.BadJson o >>= λ value. Ok (squeezed json)) >>= λ payload. cast_of moment channel payload)
        ≡ cond (is_some o) (cond (are_short channel (squeezed json)) None (Some fault.TooLarge)) (Some fault.BadJson)
    by_value None = refl
    by_value (Some value) = sizes_fault (are_short channel (squeezed json)) (verb.One (event.Cast moment channel (squeezed json)))

cast_faults : (text : List ℕ) → result_err (cast_in text) ≡ faults_of name.Cast (words_in (kinds_behind name.Cast) text)
unfolding cast_in
cast_faults text =
    words_step (two_words_and_rest text) three _ (kinds_behind name.Cast) (last_of name.Cast)
    (λ p. moment_step p.0 _ true (cast_fault p.1 p.2) (λ moment. commit_faults moment p.1 p.2))
    ∙ ap (faults_of name.Cast) (sym (rest_in Moment Word text))

-- ---- what stands behind a verb

with_faults : (k : VerbName) (text : List ℕ) → result_err (verb_with k text) ≡ faults_of k (words_of (kinds_behind k) (Some text))
with_faults name.Boot text = boot_faults text
with_faults name.Open text = open_faults text
with_faults name.In text = text_faults text
with_faults name.Drop text = drop_faults text
with_faults name.Stop text = stop_faults text
with_faults name.Take text = take_faults text
with_faults name.Put text = put_faults text
with_faults name.Finish text = finish_faults text
with_faults name.Work text = work_faults text
with_faults name.Cast text = cast_faults text
with_faults name.Trim text = trim_faults text
with_faults name.Ask text = ask_faults text
with_faults name.Read text = read_faults text
with_faults name.Deliver text = deliver_faults text
with_faults name.Poll text = poll_faults text
with_faults name.Beat text = beat_faults text
with_faults name.Fault text = refl

alone_faults : (k : VerbName) → result_err (verb_alone k) ≡ faults_of k (words_of (kinds_behind k) None)
alone_faults name.Boot = refl
alone_faults name.Open = refl
alone_faults name.In = refl
alone_faults name.Drop = refl
alone_faults name.Stop = refl
alone_faults name.Take = refl
alone_faults name.Put = refl
alone_faults name.Finish = refl
alone_faults name.Work = refl
alone_faults name.Cast = refl
alone_faults name.Trim = refl
alone_faults name.Ask = refl
alone_faults name.Read = refl
alone_faults name.Deliver = refl
alone_faults name.Poll = refl
alone_faults name.Beat = refl
alone_faults name.Fault = refl

pub behind_faults : (k : VerbName) (rest : Option (List ℕ)) → result_err (verb_behind k rest) ≡ faults_of k (words_of (kinds_behind k) rest)
behind_faults k None = alone_faults k
behind_faults k (Some text) = with_faults k text
