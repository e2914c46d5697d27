-- A line has a fault exactly where it breaks the rule of that fault first.
use Rattle.std.proofs.Common.{◌≡◌, ◌⊎◌, inl, inr, ℕ, ◌<◌, List, [], ◌∷◌, length, Bool, true, false, ◌&&◌, cond, Option, Some, None, Result, Ok, Err, refl, sym, ap, subst, ◌∙◌, arith}
use Rattle.std.specs.Prelude.{nat_le, IsUtf8}
use Rattle.std.specs.Option.{is_some}
use Rattle.std.specs.Result.{result_err}
use Rattle.std.specs.Str.{is_utf8}
use Rattle.std.proofs.lemmas.Bool.{leb-false}
use Rattle.std.proofs.lemmas.Bool.Decides.{nat_tests, not_from_Decides}
use Rattle.std.proofs.lemmas.Option.{same_Some}
use Rattle.std.proofs.Math.Bool.{and-false}
use Rattle.std.proofs.lemmas.Str.{is_utf8-from_IsUtf8, IsUtf8-from_is_utf8}
use Rattle.serde_json.specs.Read.{read}
use Rattle.cable_base.specs.Squeeze.{squeezed}
use Rattle.cable_model.specs.Limits.{most_name, most_payload}
use Rattle.cable_model.specs.declared.verbs.Verb.{Verb}
use Rattle.cable_script.specs.declared.faults.LineFault.{LineFault}
use Rattle.cable_script.specs.declared.faults.LineFault.TheVariants as fault
use Rattle.cable_model.specs.declared.verb_names.VerbName.{VerbName}
use Rattle.cable_model.specs.declared.verb_names.VerbName.TheVariants as name
use Rattle.cable_script.specs.Words.{first_word, after_word}
use Rattle.cable_model.specs.VerbTable.{spelling, kinds_behind, BeginsWith, HasWords, HasNumbers}
use Rattle.cable_script.specs.Reading.{◌>>=◌, or_fault, verb_named, verb_behind, verb_in, verb_of}
use Rattle.cable_model.specs.LineBreaks.{NamesNoVerb, LacksWords, LacksNumber, Casts, CastsNoJson, CastsTooMuch}
use Rattle.cable_script.specs.LineFaults.{HasFault}
use Rattle.cable_script.proofs.GrammarRead.{named_is, named_found, no_blank}
use Rattle.cable_script.proofs.LineWords.{words_of, begins, begun, has_words, words_had}
use Rattle.cable_script.proofs.VerbFaults.{all_pass, all_pass_Decides, are_short, cast_fault, last_of, faults_of, behind_faults}

-- ---- what is answered of a line

faulted : (r : Result Verb LineFault) (f : LineFault) → result_err r ≡ Some f → r ≡ Err f
faulted (Ok v) f e = absurd cc
faulted (Err g) f e = ap (λ h. Err h) (same_Some g f e)

abbrev read_as : Bool → List ℕ → Result Verb LineFault
read_as b line = or_fault fault.NotUtf8 (cond b (Some line) None) >>= verb_in

text_read : (line : List ℕ) → IsUtf8 line → verb_of line ≡ verb_in line
text_read line u = ap (λ (b : Bool). read_as b line) (is_utf8-from_IsUtf8 line u)

abbrev behind_named : List ℕ → Option VerbName → Result Verb LineFault
behind_named line o = or_fault fault.UnknownVerb o >>= λ k. verb_behind k (after_word line)

-- the words of a line that begins with this verb
abbrev words_at : VerbName → List ℕ → Option (List (List ℕ))
words_at k line = words_of (kinds_behind k) (after_word line)

line_faults : (line : List ℕ) (k : VerbName) → IsUtf8 line → first_word line ≡ spelling k → result_err (verb_of line) ≡ faults_of k (words_at k line)
line_faults line k u first =
    ap (λ (r : Result Verb LineFault). result_err r) (text_read line u ∙ ap (behind_named line) (ap verb_named first ∙ named_found k)) ∙ behind_faults k (after_word line)

-- ---- the rule that is broken first is answered

no_utf8 : (line : List ℕ) → ¬ IsUtf8 line → verb_of line ≡ Err fault.NotUtf8
no_utf8 line none = by_test (is_utf8 line) refl
  where
    by_test : (b : Bool) → is_utf8 line ≡ b → read_as b line ≡ Err fault.NotUtf8
    by_test true t = absurd (none (IsUtf8-from_is_utf8 line t))
    by_test false t = refl

names_none : (line : List ℕ) → IsUtf8 line → NamesNoVerb line → verb_of line ≡ Err fault.UnknownVerb
names_none line u n = text_read line u ∙ by_name (verb_named (first_word line)) refl
  where
    by_name : (o : Option VerbName) → verb_named (first_word line) ≡ o → behind_named line o ≡ Err fault.UnknownVerb
    by_name None e = refl
    by_name (Some k) e = absurd (n.none k (sym (begun line n.word n.first) ∙ named_is (first_word line) k e))

lacks_words : (line : List ℕ) → IsUtf8 line → LacksWords line → verb_of line ≡ Err fault.BadWords
lacks_words line u l =
    let first = begun line (spelling l.verb) l.first in
    faulted (verb_of line) fault.BadWords (line_faults line l.verb u first ∙ by_words first (words_at l.verb line) refl)
  where
    by_words : first_word line ≡ spelling l.verb → (o : Option (List (List ℕ))) → words_at l.verb line ≡ o → faults_of l.verb o ≡ Some fault.BadWords
    by_words first None e = refl
    by_words first (Some words) e = absurd (l.none words (has_words l.verb words line first e))

-- a line with the words of its verb
worded : (line : List ℕ) (k : VerbName) (words : List (List ℕ)) → IsUtf8 line → HasWords k words line → result_err (verb_of line) ≡ faults_of k (Some words)
worded line k words u h = let found = words_had k words line (no_blank k) h in line_faults line k u found.0 ∙ ap (faults_of k) found.1

lacks_number : (line : List ℕ) → IsUtf8 line → LacksNumber line → verb_of line ≡ Err fault.BadNumber
lacks_number line u l = faulted (verb_of line) fault.BadNumber (worded line l.verb l.words u l.has ∙ by_test (all_pass (kinds_behind l.verb) l.words) refl)
  where
    by_test : (b : Bool) → all_pass (kinds_behind l.verb) l.words ≡ b → cond b (last_of l.verb l.words) (Some fault.BadNumber) ≡ Some fault.BadNumber
    by_test true e = absurd (l.none ((all_pass_Decides (kinds_behind l.verb) l.words).0 e))
    by_test false e = refl

-- a cast whose moment is a number
cast_read : (line channel json : List ℕ) → IsUtf8 line → Casts channel json line → result_err (verb_of line) ≡ cast_fault channel json
cast_read line channel json u (moment, h) =
    worded line name.Cast (moment ∷ channel ∷ json ∷ []) u h.has
    ∙ ap (λ (b : Bool). cond b (cast_fault channel json) (Some fault.BadNumber)) ((all_pass_Decides (kinds_behind name.Cast) (moment ∷ channel ∷ json ∷ [])).1 h.in_range)

casts_no_json : (line : List ℕ) → IsUtf8 line → CastsNoJson line → verb_of line ≡ Err fault.BadJson
casts_no_json line u c = faulted (verb_of line) fault.BadJson (cast_read line c.channel c.json u c.casts ∙ by_test (is_some (read c.json)) refl)
  where
    by_test : (b : Bool) → is_some (read c.json) ≡ b → cond b (cond (are_short c.channel (squeezed c.json)) None (Some fault.TooLarge)) (Some fault.BadJson) ≡ Some fault.BadJson
    by_test true e = absurd (c.none e)
    by_test false e = refl

-- over one of the limits
one_long : (channel payload : List ℕ) → (most_name < length channel) ⊎ (most_payload < length payload) → are_short channel payload ≡ false
one_long channel payload (inl long) = let f : nat_le (length channel) most_name ≡ false = grind (arith, nat_tests) in rw f refl
one_long channel payload (inr long) = let f : nat_le (length payload) most_payload ≡ false = grind (arith, nat_tests) in rw f (and-false (nat_le (length channel) most_name))

long_one : (channel payload : List ℕ) → are_short channel payload ≡ false → (most_name < length channel) ⊎ (most_payload < length payload)
long_one channel payload e = by_test (nat_le (length channel) most_name) refl e
  where
    by_test : (b : Bool) → nat_le (length channel) most_name ≡ b → (b && nat_le (length payload) most_payload) ≡ false → (most_name < length channel) ⊎ (most_payload < length payload)
    by_test true t e = inr (leb-false _ _ e)
    by_test false t e = inl (leb-false _ _ t)

casts_too_much : (line : List ℕ) → IsUtf8 line → CastsTooMuch line → verb_of line ≡ Err fault.TooLarge
casts_too_much line u c =
    faulted (verb_of line) fault.TooLarge
    (cast_read line c.channel c.json u c.casts
    ∙ ap (λ (b : Bool). cond b (cond (are_short c.channel (squeezed c.json)) None (Some fault.TooLarge)) (Some fault.BadJson)) c.reads
    ∙ ap (λ (b : Bool). cond {A = Option LineFault} b None (Some fault.TooLarge)) (one_long c.channel (squeezed c.json) c.long))

pub answered : (line : List ℕ) (f : LineFault) → HasFault f line → verb_of line ≡ Err f
answered line fault.NotUtf8 b = no_utf8 line b
answered line fault.UnknownVerb b = names_none line b.0 b.1
answered line fault.BadWords b = lacks_words line b.0 b.1
answered line fault.BadNumber b = lacks_number line b.0 b.1
answered line fault.BadJson b = casts_no_json line b.0 b.1
answered line fault.TooLarge b = casts_too_much line b.0 b.1
answered line fault.OutOfMemory b = absurd b

-- ---- what is answered is the rule that is broken first

-- the fault of a line, where this fault is answered
same : (line : List ℕ) (g f : LineFault) → Some g ≡ Some f → HasFault g line → HasFault f line
same line g f e b = subst (λ (h : LineFault). HasFault h line) (same_Some g f e) b

cast_broken : (line channel json : List ℕ) (f : LineFault) → IsUtf8 line → Casts channel json line → cast_fault channel json ≡ Some f → HasFault f line
cast_broken line channel json f u casts e = by_json (is_some (read json)) refl e
  where
    by_sizes : is_some (read json) ≡ true → (b : Bool) → are_short channel (squeezed json) ≡ b → cond {A = Option LineFault} b None (Some fault.TooLarge) ≡ Some f → HasFault f line
    by_sizes reads true t e = absurd cc
    by_sizes reads false t e = same line fault.TooLarge f e (u, record { channel = channel; json = json; casts = casts; reads = reads; long = long_one channel (squeezed json) t })

    by_json : (b : Bool) → is_some (read json) ≡ b → cond b (cond (are_short channel (squeezed json)) None (Some fault.TooLarge)) (Some fault.BadJson) ≡ Some f → HasFault f line
    by_json true t e = by_sizes t (are_short channel (squeezed json)) refl e
    by_json false t e = same line fault.BadJson f e (u, record { channel = channel; json = json; casts = casts; none = λ (r : is_some (read json) ≡ true). absurd cc })

-- behind its numbers only a cast breaks a rule
last_broken : (line : List ℕ) (k : VerbName) (words : List (List ℕ)) (f : LineFault) → IsUtf8 line → HasNumbers k words line → last_of k words ≡ Some f → HasFault f line
last_broken line name.Cast (moment ∷ channel ∷ json ∷ []) f u h e = cast_broken line channel json f u (moment, h) e
last_broken line name.Cast [] f u h e = absurd cc
last_broken line name.Cast (moment ∷ []) f u h e = absurd cc
last_broken line name.Cast (moment ∷ channel ∷ []) f u h e = absurd cc
last_broken line name.Cast (moment ∷ channel ∷ json ∷ more ∷ words) f u h e = absurd cc
last_broken line name.Boot words f u h e = absurd cc
last_broken line name.Open words f u h e = absurd cc
last_broken line name.In words f u h e = absurd cc
last_broken line name.Drop words f u h e = absurd cc
last_broken line name.Stop words f u h e = absurd cc
last_broken line name.Take words f u h e = absurd cc
last_broken line name.Put words f u h e = absurd cc
last_broken line name.Finish words f u h e = absurd cc
last_broken line name.Work words f u h e = absurd cc
last_broken line name.Trim words f u h e = absurd cc
last_broken line name.Ask words f u h e = absurd cc
last_broken line name.Read words f u h e = absurd cc
last_broken line name.Deliver words f u h e = absurd cc
last_broken line name.Poll words f u h e = absurd cc
last_broken line name.Beat words f u h e = absurd cc
last_broken line name.Fault words f u h e = absurd cc

-- a line that begins with a verb
verb_broken : (line : List ℕ) (k : VerbName) (f : LineFault) → IsUtf8 line → first_word line ≡ spelling k → faults_of k (words_at k line) ≡ Some f → HasFault f line
verb_broken line k f u first e = by_words (words_at k line) refl e
  where
    begins_so : BeginsWith line (spelling k)
    begins_so = subst (λ (w : List ℕ). BeginsWith line w) first (begins line)

    not_had : (words : List (List ℕ)) → words_at k line ≡ None → ¬ HasWords k words line
    not_had words none h = let found : words_at k line ≡ Some words = (words_had k words line (no_blank k) h).1 in absurd cc

    by_numbers : (words : List (List ℕ)) → HasWords k words line → (b : Bool) → all_pass (kinds_behind k) words ≡ b
        → cond b (last_of k words) (Some fault.BadNumber) ≡ Some f → HasFault f line
    by_numbers words h true t e = last_broken line k words f u (record { has = h; in_range = (all_pass_Decides (kinds_behind k) words).0 t }) e
    by_numbers words h false t e = same line fault.BadNumber f e (u, record { verb = k; words = words; has = h; none = not_from_Decides _ (all_pass_Decides (kinds_behind k) words) t })

    by_words : (o : Option (List (List ℕ))) → words_at k line ≡ o → faults_of k o ≡ Some f → HasFault f line
    by_words None w e = same line fault.BadWords f e (u, record { verb = k; first = begins_so; none = λ words. not_had words w })
    by_words (Some words) w e = by_numbers words (has_words k words line first w) (all_pass (kinds_behind k) words) refl e

text_broken : (line : List ℕ) (f : LineFault) → IsUtf8 line → verb_of line ≡ Err f → HasFault f line
text_broken line f u e = by_name (verb_named (first_word line)) refl
  where
    errs : result_err (verb_of line) ≡ Some f
    errs = ap (λ (r : Result Verb LineFault). result_err r) e

    unnamed : (k : VerbName) → verb_named (first_word line) ≡ None → ¬ (first_word line ≡ spelling k)
    unnamed k none is = let found : verb_named (first_word line) ≡ Some k = ap verb_named is ∙ named_found k in absurd cc

    by_name : (o : Option VerbName) → verb_named (first_word line) ≡ o → HasFault f line
    by_name None n =
        same line fault.UnknownVerb f (sym (ap (λ (r : Result Verb LineFault). result_err r) (text_read line u ∙ ap (behind_named line) n)) ∙ errs)
        (u, record { word = first_word line; first = begins line; none = λ k is. unnamed k n is })
    by_name (Some k) n = let first = named_is (first_word line) k n in verb_broken line k f u first (sym (line_faults line k u first) ∙ errs)

pub broken : (line : List ℕ) (f : LineFault) → verb_of line ≡ Err f → HasFault f line
broken line f e = by_test (is_utf8 line) refl
  where
    by_test : (b : Bool) → is_utf8 line ≡ b → HasFault f line
    by_test true t = text_broken line f (IsUtf8-from_is_utf8 line t) e
    by_test false t =
        let none : ¬ IsUtf8 line = λ u. absurd (let r : is_utf8 line ≡ true = is_utf8-from_IsUtf8 line u in cc) in
        same line fault.NotUtf8 f (ap (λ (r : Result Verb LineFault). result_err r) (sym (no_utf8 line none) ∙ e)) none
