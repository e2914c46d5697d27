-- The lines of a made script, run one behind the other.
use Rattle.std.proofs.Common.{◌≡◌, ℕ, ◌+◌, ◌-◌, ◌<◌, ◌≤◌, suc, List, [], ◌∷◌, ◌++◌, refl, sym, ap, subst, ◌∙◌, append_assoc, append-nil, length-append, arith}
use Rattle.std.specs.Prelude.{Ok}
use Rattle.rand_pcg.specs.Lcg.{Lcg}
use Rattle.rand_pcg.specs.Pcg.{pcg32}
use Rattle.channel_book.specs.Shapes.{Declared}
use Rattle.cable_model.specs.declared.events.Event.{Event}
use Rattle.cable_model.specs.declared.verbs.Verb.{Verb}
use Rattle.cable_model.specs.History.{start}
use Rattle.cable_model.specs.Script.{expand, expand_all, rules_of}
use Rattle.cable_model.specs.Transcript.{no_totals}
use Rattle.node_world.specs.Worlds.{WorldState, StandsFor}
use Rattle.replay_cli.specs.declared.running.Tally.{Tally}
use Rattle.replay_cli.specs.Made.{draw_of, drawn, node_no, opening, opens, verb_of_draw}
use Rattle.replay_cli.specs.MadeRuns.{HasRun, IsUpTo, RunsOn, boots, coming}
use Rattle.replay_cli.specs.Running.{CountsAs, IsTallyOf}
use Rattle.replay_cli.proofs.RunsOn.{idle_count-append, totals-append}

expand_all-append : (us vs : List Verb) → expand_all (us ++ vs) ≡ expand_all us ++ expand_all vs
expand_all-append [] vs = refl
expand_all-append (u ∷ us) vs = ap (λ (es : List Event). expand u ++ es) (expand_all-append us vs) ∙ sym (append_assoc (expand u) (expand_all us) (expand_all vs))

expand_all-line : (us : List Verb) (v : Verb) → expand_all us ++ expand v ≡ expand_all (us ++ v ∷ [])
expand_all-line us v = sym (expand_all-append us (v ∷ []) ∙ ap (λ (es : List Event). expand_all us ++ es) (append-nil (expand v)))

-- events that are counted behind all others
tally_on : (before es : List Event) (old new : WorldState) (tally tally' : Tally) → StandsFor old before → IsTallyOf (rules_of old.book) before tally → CountsAs es old new tally tally' → IsTallyOf (rules_of old.book) (before ++ es) tally'
tally_on before es old new tally tally' s t p =
    let r = rules_of old.book in
    record {
      counted = omega (arith, t.counted, p.counted, length-append before es);
      idle = omega (arith, t.idle, p.idle before s, idle_count-append r start before es);
      totals = totals-append r start before es no_totals tally.totals tally'.totals t.totals (p.totals before s);
    }

-- a line was run whose events were counted
pub line_runs : (v : Verb) (old new : WorldState) (tally tally' : Tally) → new.book ≡ old.book → CountsAs (expand v) old new tally tally' → RunsOn (v ∷ []) old new tally tally'
line_runs v old new tally tally' same p before h =
    let events = expand_all before ++ expand v in
    record {
      declares = h.declares ∙ ap (λ (b : Declared). Ok b) (sym same);
      stands = subst (λ (es : List Event). StandsFor new es) (expand_all-line before v) (p.stands (expand_all before) h.stands);
      counts = subst (λ (es : List Event). IsTallyOf (rules_of new.book) es tally') (expand_all-line before v)
          (subst (λ (b : Declared). IsTallyOf (rules_of b) events tally') (sym same) (tally_on (expand_all before) (expand v) old new tally tally' h.stands h.counts p));
    }

-- ---- a script, line by line

-- nothing is done yet
pub all_left : (script : List Verb) (w : WorldState) (tally : Tally) → IsUpTo script script w w tally tally
all_left script w tally = record { done = []; ran = λ before h. subst (λ (vs : List Verb). HasRun vs w tally) (sym (append-nil before)) h; whole = refl }

-- the next line is done
pub one_more : (script : List Verb) (v : Verb) (rest : List Verb) (w0 w1 w2 : WorldState) (t0 t1 t2 : Tally) → IsUpTo script (v ∷ rest) w0 w1 t0 t1 → RunsOn (v ∷ []) w1 w2 t1 t2 → IsUpTo script rest w0 w2 t0 t2
one_more script v rest w0 w1 w2 t0 t1 t2 u q =
    record {
      done = u.done ++ v ∷ [];
      ran = λ before h. subst (λ (vs : List Verb). HasRun vs w2 t2) (append_assoc before u.done (v ∷ [])) (q (before ++ u.done) (u.ran before h));
      whole = append_assoc u.done (v ∷ []) rest ∙ u.whole;
    }

-- nothing is left
pub none_left : (script rest : List Verb) (old new : WorldState) (tally tally' : Tally) → rest ≡ [] → IsUpTo script rest old new tally tally' → RunsOn script old new tally tally'
none_left script rest old new tally tally' e u = subst (λ (vs : List Verb). RunsOn vs old new tally tally') (sym (append-nil u.done) ∙ ap (λ (vs : List Verb). u.done ++ vs) (sym e) ∙ u.whole) u.ran

-- ---- the lines that are left

pub coming-next : (client : ℕ) → client ≤ 8 → coming (9 - client) client ≡ opens client ∷ coming (9 - (client + 1)) (client + 1)
unfolding coming
coming-next client few = let e : 9 - client ≡ suc (9 - (client + 1)) = omega arith in rw e refl

pub coming-none : (client : ℕ) → 8 < client → coming (9 - client) client ≡ []
unfolding coming
coming-none client many = let e : 9 - client ≡ 0 = omega arith in rw e refl

pub opening-coming : opening ≡ boots (node_no 1) ∷ boots (node_no 2) ∷ coming 8 1
unfolding coming
opening-coming = refl

pub drawn-next : (count place : ℕ) (g : Lcg) → place ≤ count → drawn (count + 1 - place) place g ≡ verb_of_draw (draw_of place (pcg32 g).0) ∷ drawn (count + 1 - (place + 1)) (place + 1) (pcg32 g).1
unfolding drawn
drawn-next count place g few = let e : count + 1 - place ≡ suc (count + 1 - (place + 1)) = omega arith in rw e refl

pub drawn-none : (count place : ℕ) (g : Lcg) → count < place → drawn (count + 1 - place) place g ≡ []
unfolding drawn
drawn-none count place g many = let e : count + 1 - place ≡ 0 = omega arith in rw e refl

-- the line of the next draw is done
pub draw_more : (script : List Verb) (count place word : ℕ) (g h : Lcg) (w0 w1 w2 : WorldState) (t0 t1 t2 : Tally) → place ≤ count → IsUpTo script (drawn (count + 1 - place) place g) w0 w1 t0 t1 → (word, h) ≡ pcg32 g
    → RunsOn (verb_of_draw (draw_of place word) ∷ []) w1 w2 t1 t2 → IsUpTo script (drawn (count + 1 - (place + 1)) (place + 1) h) w0 w2 t0 t2
draw_more script count place word g h w0 w1 w2 t0 t1 t2 few u d q =
    let left = drawn (count + 1 - (place + 1)) (place + 1) in
    let next : drawn (count + 1 - place) place g ≡ verb_of_draw (draw_of place word) ∷ left h =
    drawn-next count place g few ∙ ap (λ (p : ℕ × Lcg). verb_of_draw (draw_of place p.0) ∷ left p.1) (sym d) in
    one_more script (verb_of_draw (draw_of place word)) (left h) w0 w1 w2 t0 t1 t2 (subst (λ (rest : List Verb). IsUpTo script rest w0 w1 t0 t1) next u) q
