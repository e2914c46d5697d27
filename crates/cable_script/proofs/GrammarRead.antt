-- The lines that are read are exactly those that spell a verb.
use Rattle.std.proofs.Common.{◌≡◌, ℕ, List, [], ◌∷◌, ◌++◌, Bool, true, false, cond, Option, Some, None, Ok, refl, sym, ap, subst, ◌∙◌}
use Rattle.std.specs.Prelude.{decimal, codes, ◌==◌, bytes_eq, IsUtf8}
use Rattle.std.specs.List.{find, list_any}
use Rattle.std.proofs.lemmas.Str.{is_utf8-from_IsUtf8, IsUtf8-from_is_utf8}
use Rattle.std.proofs.lemmas.Option.{cond_some, same_Some}
use Rattle.std.proofs.lemmas.Slice.Eq.{bytes_eq-Decides}
use Rattle.cable_model.specs.declared.events.Event.TheVariants as event
use Rattle.cable_model.specs.declared.verbs.Verb.{Verb}
use Rattle.cable_model.specs.declared.verbs.Verb.TheVariants as verb
use Rattle.cable_model.specs.Script.{Spells}
use Rattle.cable_script.specs.declared.faults.LineFault.TheVariants as fault
use Rattle.cable_model.specs.declared.verb_names.VerbName.{VerbName}
use Rattle.cable_model.specs.declared.verb_names.VerbName.TheVariants as name
use Rattle.cable_script.specs.Words.{first_word, after_word}
use Rattle.cable_model.specs.VerbTable.{spelling, all_verbs}
use Rattle.cable_script.specs.Reading.{verb_named, verb_with, verb_alone, verb_behind, verb_in, text_of, verb_of}
use Rattle.cable_script.proofs.WordsRead.{word_is, word_found, word_alone}
use Rattle.cable_script.proofs.NumbersRead.{step_is, step_of, same_Ok, given_is, given_of}
use Rattle.cable_script.proofs.LinesRead.{boot_is, open_is, text_is, drop_is, stop_is, take_is, put_is, finish_is, work_is, cast_is, trim_is, ask_is, read_is, deliver_is, poll_is, beat_is, boot_found, open_found, text_found, drop_found, stop_found, take_found, put_found, finish_found, work_found, cast_found, trim_found, ask_found, read_found, deliver_found, poll_found, beat_found}

-- ---- the word of a verb

find_passes : {X : Type 0} (p : X → Bool) (xs : List X) (x : X) → find p xs ≡ Some x → p x ≡ true
find_passes p [] x e = absurd cc
find_passes p (y ∷ ys) x e = by_test (p y) refl (find_passes p ys x) e
  where
    by_test : (b : Bool) → p y ≡ b → (find p ys ≡ Some x → p x ≡ true) → cond b (Some y) (find p ys) ≡ Some x → p x ≡ true
    by_test true t ih e = subst (λ z. p z ≡ true) (same_Some y x e) t
    by_test false t ih e = ih e

pub named_is : (word : List ℕ) (v : VerbName) → verb_named word ≡ Some v → word ≡ spelling v
named_is word v e = (bytes_eq-Decides word (spelling v)).0 (find_passes (λ k. bytes_eq word (spelling k)) all_verbs v e)

pub named_found : (v : VerbName) → verb_named (spelling v) ≡ Some v
named_found name.Boot = refl
named_found name.Open = refl
named_found name.In = refl
named_found name.Drop = refl
named_found name.Stop = refl
named_found name.Take = refl
named_found name.Put = refl
named_found name.Finish = refl
named_found name.Work = refl
named_found name.Cast = refl
named_found name.Trim = refl
named_found name.Ask = refl
named_found name.Read = refl
named_found name.Deliver = refl
named_found name.Poll = refl
named_found name.Beat = refl
named_found name.Fault = refl

pub no_blank : (v : VerbName) → list_any (λ b. b == 32) (spelling v) ≡ false
no_blank name.Boot = refl
no_blank name.Open = refl
no_blank name.In = refl
no_blank name.Drop = refl
no_blank name.Stop = refl
no_blank name.Take = refl
no_blank name.Put = refl
no_blank name.Finish = refl
no_blank name.Work = refl
no_blank name.Cast = refl
no_blank name.Trim = refl
no_blank name.Ask = refl
no_blank name.Read = refl
no_blank name.Deliver = refl
no_blank name.Poll = refl
no_blank name.Beat = refl
no_blank name.Fault = refl

-- ---- what is read from a line is spelled by it

with_is : (k : VerbName) (text : List ℕ) (v : Verb) → verb_with k text ≡ Ok v → Spells v (spelling k ++ 32 ∷ text)
with_is name.Boot text v e = boot_is text v e
with_is name.Open text v e = open_is text v e
with_is name.In text v e = text_is text v e
with_is name.Drop text v e = drop_is text v e
with_is name.Stop text v e = stop_is text v e
with_is name.Take text v e = take_is text v e
with_is name.Put text v e = put_is text v e
with_is name.Finish text v e = finish_is text v e
with_is name.Work text v e = work_is text v e
with_is name.Cast text v e = cast_is text v e
with_is name.Trim text v e = trim_is text v e
with_is name.Ask text v e = ask_is text v e
with_is name.Read text v e = read_is text v e
with_is name.Deliver text v e = deliver_is text v e
with_is name.Poll text v e = poll_is text v e
with_is name.Beat text v e = beat_is text v e
with_is name.Fault text v e = absurd cc

alone_is : (k : VerbName) (v : Verb) → verb_alone k ≡ Ok v → Spells v (spelling k)
alone_is name.Boot v e = absurd cc
alone_is name.Open v e = absurd cc
alone_is name.In v e = absurd cc
alone_is name.Drop v e = absurd cc
alone_is name.Stop v e = absurd cc
alone_is name.Take v e = absurd cc
alone_is name.Put v e = absurd cc
alone_is name.Finish v e = absurd cc
alone_is name.Work v e = absurd cc
alone_is name.Cast v e = absurd cc
alone_is name.Trim v e = absurd cc
alone_is name.Ask v e = absurd cc
alone_is name.Read v e = absurd cc
alone_is name.Deliver v e = absurd cc
alone_is name.Poll v e = absurd cc
alone_is name.Beat v e = absurd cc
alone_is name.Fault v e = subst (λ (w : Verb). Spells w (codes "fault")) (same_Ok (verb.One event.Fault) v e) refl

behind_is : (line : List ℕ) (k : VerbName) (v : Verb) → first_word line ≡ spelling k → (rest : Option (List ℕ)) → after_word line ≡ rest → verb_behind k rest ≡ Ok v → Spells v line
behind_is line k v word None a e = subst (λ (l : List ℕ). Spells v l) (sym word ∙ word_alone line a) (alone_is k v e)
behind_is line k v word (Some text) a e =
    let c = word_is line text a in
    let parts : line ≡ spelling k ++ 32 ∷ text = subst (λ (w : List ℕ). line ≡ w ++ 32 ∷ text) word c.parts in
    subst (λ (l : List ℕ). Spells v l) (sym parts) (with_is k text v e)

verb_is : (line : List ℕ) (v : Verb) → verb_in line ≡ Ok v → Spells v line
verb_is line v e =
    let k = step_is _ _ v e in
    behind_is line k.0 v (named_is (first_word line) k.0 (given_is _ _ k.0 k.1.0)) (after_word line) refl k.1.1

-- ---- a line that spells a verb is read as it

line_found : (k : VerbName) (text line : List ℕ) (v : Verb) → verb_with k text ≡ Ok v → line ≡ spelling k ++ 32 ∷ text → verb_in line ≡ Ok v
line_found k text line v e whole =
    let w = word_found (spelling k) text (no_blank k) in
    let named : verb_named (first_word (spelling k ++ 32 ∷ text)) ≡ Some k = ap verb_named w.0 ∙ named_found k in
    subst (λ (l : List ℕ). verb_in l ≡ Ok v) (sym whole)
    (step_of _ _ k v (given_of fault.UnknownVerb _ k named) (ap (verb_behind k) w.1 ∙ e))

verb_found : (v : Verb) (line : List ℕ) → Spells v line → verb_in line ≡ Ok v
verb_found (verb.One (event.Boot node)) line s = line_found name.Boot (decimal node.0) line _ (boot_found node s.0) s.1
verb_found (verb.One (event.Open node conn token)) line s = line_found name.Open (decimal node.0 ++ 32 ∷ (decimal conn.0 ++ 32 ∷ token)) line _ (open_found node conn token s.0 s.1 s.2) s.3
verb_found (verb.One (event.In conn text)) line s = line_found name.In (decimal conn.0 ++ 32 ∷ text) line _ (text_found conn text s.0) s.1
verb_found (verb.One (event.Drop conn)) line s = line_found name.Drop (decimal conn.0) line _ (drop_found conn s.0) s.1
verb_found (verb.One (event.Stop node)) line s = line_found name.Stop (decimal node.0) line _ (stop_found node s.0) s.1
verb_found (verb.One (event.Take conn)) line s = line_found name.Take (decimal conn.0) line _ (take_found conn s.0) s.1
verb_found (verb.One (event.Put conn moment)) line s = line_found name.Put (decimal conn.0 ++ 32 ∷ decimal moment.0) line _ (put_found conn moment s.0 s.1) s.2
verb_found (verb.One (event.Finish conn)) line s = line_found name.Finish (decimal conn.0) line _ (finish_found conn s.0) s.1
verb_found (verb.One (event.Cast moment channel payload)) line s = line_found name.Cast (decimal moment.0 ++ 32 ∷ (channel ++ 32 ∷ s.0)) line _ (cast_found moment channel s.0 payload s.1.0 s.1.1) s.1.2
verb_found (verb.One (event.Trim now retention batch)) line s = line_found name.Trim (decimal now.0 ++ 32 ∷ (decimal retention.0 ++ 32 ∷ decimal batch)) line _ (trim_found now retention batch s.0 s.1 s.2) s.3
verb_found (verb.One (event.Ask node)) line s = line_found name.Ask (decimal node.0) line _ (ask_found node s.0) s.1
verb_found (verb.One (event.Read node)) line s = line_found name.Read (decimal node.0) line _ (read_found node s.0) s.1
verb_found (verb.One (event.Deliver node)) line s = line_found name.Deliver (decimal node.0) line _ (deliver_found node s.0) s.1
verb_found (verb.One (event.Beat node now)) line s = line_found name.Beat (decimal node.0 ++ 32 ∷ decimal now.0) line _ (beat_found node now s.0 s.1) s.2
verb_found (verb.One event.Fault) line s = subst (λ (l : List ℕ). verb_in l ≡ Ok (verb.One event.Fault)) (sym s) refl
verb_found (verb.Work conn moment puts) line s = line_found name.Work (decimal conn.0 ++ 32 ∷ (decimal moment.0 ++ 32 ∷ decimal puts)) line _ (work_found conn moment puts s.0 s.1 s.2) s.3
verb_found (verb.Poll node) line s = line_found name.Poll (decimal node.0) line _ (poll_found node s.0) s.1

-- ---- text

pub line_is : (line : List ℕ) (v : Verb) → verb_of line ≡ Ok v → IsUtf8 line × Spells v line
line_is line v e =
    let text = step_is _ _ v e in
    let c = cond_some _ line text.0 (given_is fault.NotUtf8 _ text.0 text.1.0) in
    (IsUtf8-from_is_utf8 line c.0, subst (λ (l : List ℕ). Spells v l) (sym c.1) (verb_is text.0 v text.1.1))

pub line_of : (line : List ℕ) (v : Verb) → IsUtf8 line → Spells v line → verb_of line ≡ Ok v
line_of line v u s =
    let text : text_of line ≡ Some line = rw (is_utf8-from_IsUtf8 line u) refl in
    step_of _ _ line v (given_of fault.NotUtf8 _ line text) (verb_found v line s)
