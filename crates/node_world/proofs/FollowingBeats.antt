-- Boots and beats of a node are the model's.
use Rattle.std.proofs.Common.{◌≡◌, ◌≤◌, ℕ, ◌==◌, Bool, true, false, cond, not, ◌&&◌, ◌||◌, List, [], ◌∷◌, ◌++◌, map, flat_map, filter, length, Option, Some, None, refl, sym, ap, subst, ◌∙◌, arith}
use Rattle.std.specs.Prelude.{is_some, ltb, option_map}
use Rattle.std.specs.BTreeMap.{is_at}
use Rattle.std.specs.List.{list_any, AllByRecursion, IsDistinct}
use Rattle.std.specs.Ordering.{nat_cmp, eq_by_cmp}
use Rattle.std.proofs.lemmas.Bool.Decides.{nat_tests}
use Rattle.std.proofs.lemmas.Map.Keys.{IsDistinct-cons, IsDistinct-head, IsDistinct-tail}
use Rattle.std.proofs.lemmas.List.{append-nil}
use Rattle.std.proofs.lemmas.Map.Views.{any-filter_same}
use Rattle.cable_base.specs.declared.numbers.ConnNo.{ConnNo}
use Rattle.cable_base.specs.declared.numbers.Millis.{Millis}
use Rattle.cable_base.specs.declared.numbers.NodeNo.{NodeNo}
use Rattle.cable_base.specs.declared.numbers.RowId.{RowId}
use Rattle.cable_model.specs.declared.events.Event.TheVariants as event
use Rattle.cable_model.specs.Journal.{Kept, past_of}
use Rattle.cable_model.specs.Legal.{Legal}
use Rattle.cable_model.specs.Steps.{Step}
use Rattle.cable_model.specs.Table.{TableStep, last_id}
use Rattle.cable_model.specs.Plans.{AlwaysAnswer}
use Rattle.cable_model.specs.Possible.{opened, is_opened, is_live, is_receiving, receiving, inserted, is_booted, is_out}
use Rattle.cable_model.specs.History.{Rules, World, boot, logged, tabled}
use Rattle.cable_model.specs.Transcript.{queued, ping_line}
use Rattle.cable_model.proofs.JobsStay.{new-number, unopened-user}
use Rattle.node_core.specs.Nodes.{NodeState, TakesNone, past, taken_out}
use Rattle.table_core.specs.Memory.{MemRows}
use Rattle.table_core.specs.Shown.{Shows}
use Rattle.table_core.specs.Tables.{TableState}
use Rattle.table_core.proofs.Following.{refusals_follow}
use Rattle.node_world.specs.declared.outstanding.TurnOut.{TurnOut}
use Rattle.node_world.specs.declared.outstanding.TurnOut.TheVariants as turn_out
use Rattle.node_world.specs.declared.parts.Opened.{Opened}
use Rattle.node_world.specs.declared.parts.Post.{Post}
use Rattle.node_world.specs.declared.saying.Said.{Said}
use Rattle.node_world.specs.Draining.{left_on}
use Rattle.node_world.specs.Parts.{Held, IsConnIn, IsNodeOf, IsPostIn, IsTableOf, IsTurnIn, conn_at, post_at, FollowsWorld, FollowsSome}
use Rattle.node_world.specs.Steps.{StepsIn, NodeStays, silent_said}
use Rattle.node_world.proofs.Drained.{is_in}
use Rattle.node_world.proofs.Following.{possible_steps, same-calls, comes, legal-now, node-of, turn-of, unbooted, is-same, is-self, hits, misses, turned, PostMoves, others-as, post-stays, conn-entered, other-nodes, other-notes, own-node, post-entered, turn-entered, one-entry}
use Rattle.node_world.proofs.FollowingNode.{left-lines, taken-within}
use Rattle.node_world.proofs.FollowingTable.{conn-stays}

-- ---- the connections that were opened differ

module _ (P : ℕ → Type 0) where
  all-inserted : (c : ℕ) (ds : List ℕ) → P c → AllByRecursion P ds → AllByRecursion P (inserted c ds)
  all-inserted c [] one all = (one, tt)
  all-inserted c (d ∷ ds) one all = by-test (ltb d c) (all-inserted c ds one all.1)
    where
      by-test : (b : Bool) → AllByRecursion P (inserted c ds) → AllByRecursion P (cond b (d ∷ inserted c ds) (c ∷ d ∷ ds))
      by-test true more = (all.0, more)
      by-test false more = (one, all)

  all-filter : (p : ℕ → Bool) (ds : List ℕ) → AllByRecursion P ds → AllByRecursion P (filter p ds)
  all-filter p [] all = tt
  all-filter p (d ∷ ds) all = by-test (p d) (all-filter p ds all.1)
    where
      by-test : (b : Bool) → AllByRecursion P (filter p ds) → AllByRecursion P (cond b (d ∷ filter p ds) (filter p ds))
      by-test true more = (all.0, more)
      by-test false more = more

none-in : (c : ℕ) (ds : List ℕ) → list_any (λ x. x == c) ds ≡ false → AllByRecursion (λ y. eq_by_cmp nat_cmp c y ≡ false) ds
none-in c [] e = tt
none-in c (d ∷ ds) e = by-test (d == c) refl e (none-in c ds)
  where
    by-test : (b : Bool) → (d == c) ≡ b → (b || list_any (λ x. x == c) ds) ≡ false → (list_any (λ x. x == c) ds ≡ false → AllByRecursion (λ y. eq_by_cmp nat_cmp c y ≡ false) ds)
        → AllByRecursion (λ y. eq_by_cmp nat_cmp c y ≡ false) (d ∷ ds)
    by-test true is h more = absurd cc
    by-test false is h more = (grind (arith, nat_tests), more h)

distinct-inserted : (c : ℕ) (ds : List ℕ) → list_any (λ x. x == c) ds ≡ false → IsDistinct (eq_by_cmp nat_cmp) ds → IsDistinct (eq_by_cmp nat_cmp) (inserted c ds)
distinct-inserted c [] fresh apart = IsDistinct-cons (eq_by_cmp nat_cmp) c [] tt apart
distinct-inserted c (d ∷ ds) fresh apart = by-test (ltb d c) (d == c) refl fresh (distinct-inserted c ds)
  where
    by-test : (b x : Bool) → (d == c) ≡ x → (x || list_any (λ k. k == c) ds) ≡ false
        → (list_any (λ k. k == c) ds ≡ false → IsDistinct (eq_by_cmp nat_cmp) ds → IsDistinct (eq_by_cmp nat_cmp) (inserted c ds))
        → IsDistinct (eq_by_cmp nat_cmp) (cond b (d ∷ inserted c ds) (c ∷ d ∷ ds))
    by-test b true is h ih = absurd cc
    by-test true false is h ih =
        IsDistinct-cons (eq_by_cmp nat_cmp) d (inserted c ds)
        (all-inserted (λ y. eq_by_cmp nat_cmp d y ≡ false) c ds (grind (arith, nat_tests)) (IsDistinct-head (eq_by_cmp nat_cmp) d ds apart))
        (ih h (IsDistinct-tail (eq_by_cmp nat_cmp) d ds apart))
    by-test false false is h ih = IsDistinct-cons (eq_by_cmp nat_cmp) c (d ∷ ds) (none-in c (d ∷ ds) fresh) apart

distinct-filter : (p : ℕ → Bool) (ds : List ℕ) → IsDistinct (eq_by_cmp nat_cmp) ds → IsDistinct (eq_by_cmp nat_cmp) (filter p ds)
distinct-filter p [] apart = apart
distinct-filter p (d ∷ ds) apart = by-test (p d) (distinct-filter p ds (IsDistinct-tail (eq_by_cmp nat_cmp) d ds apart))
  where
    by-test : (b : Bool) → IsDistinct (eq_by_cmp nat_cmp) (filter p ds) → IsDistinct (eq_by_cmp nat_cmp) (cond b (d ∷ filter p ds) (filter p ds))
    by-test true more =
        IsDistinct-cons (eq_by_cmp nat_cmp) d (filter p ds) (all-filter (λ y. eq_by_cmp nat_cmp d y ≡ false) p ds (IsDistinct-head (eq_by_cmp nat_cmp) d ds apart)) more
    by-test false more = more

none-distinct : IsDistinct (eq_by_cmp nat_cmp) []
unfolding IsDistinct
none-distinct = tt

opened-distinct : (past : List Step) → Legal past → IsDistinct (eq_by_cmp nat_cmp) (opened past)
opened-distinct [] l = none-distinct
opened-distinct (Step.Open c token user ∷ past) l = distinct-inserted c (opened past) (new-number c past l.0) (opened-distinct past l.1)
opened-distinct (Step.Boot last ∷ past) l = opened-distinct past l.1
opened-distinct (Step.In c text ∷ past) l = opened-distinct past l.1
opened-distinct (Step.Drop c ∷ past) l = opened-distinct past l.1
opened-distinct (Step.Stop ∷ past) l = opened-distinct past l.1
opened-distinct (Step.Take c ∷ past) l = opened-distinct past l.1
opened-distinct (Step.Finish c puts plan ∷ past) l = opened-distinct past l.1
opened-distinct (Step.Ask turn ∷ past) l = opened-distinct past l.1
opened-distinct (Step.Deliver turn note ∷ past) l = opened-distinct past l.1
opened-distinct (Step.Beat now ∷ past) l = opened-distinct past l.1

-- ---- a beat

any-map : (c : ℕ) (conns : List ConnNo) → is_in c conns ≡ list_any (λ k. k == c) (map (λ (d : ConnNo). d.0) conns)
any-map c [] = refl
any-map c (d ∷ ds) = ap (λ b. (d.0 == c) || b) (any-map c ds)

dead-unopened : (c : ℕ) (past : List Step) → is_opened c past ≡ false → is_live c past ≡ false
dead-unopened c past e = rw (unopened-user c past e) refl

receiving-opened : (c : ℕ) (past : List Step) → (is_receiving c past && is_opened c past) ≡ is_receiving c past
receiving-opened c past = by-opened (is_opened c past) refl
  where
    both : (b : Bool) → (b && true) ≡ b
    both true = refl
    both false = refl

    by-opened : (b : Bool) → is_opened c past ≡ b → (is_receiving c past && b) ≡ is_receiving c past
    by-opened true e = both (is_receiving c past)
    by-opened false e = rw (dead-unopened c past e) refl

listed : (c : ℕ) (conns : List ConnNo) (past : List Step) → map (λ (d : ConnNo). d.0) conns ≡ receiving past → is_in c conns ≡ is_receiving c past
listed c conns past is =
    any-map c conns ∙ ap (list_any (λ k. k == c)) is
    ∙ any-filter_same (λ k. k == c) (λ k. is_receiving k past) (is_receiving c past)
    (λ k e. let same : k ≡ c = grind (arith, nat_tests) in ap (λ x. is_receiving x past) same) (opened past)
    ∙ receiving-opened c past

pub receiving-distinct : (r : Rules) → AlwaysAnswer r.callbacks → (h : Held) → FollowsSome r h → (n : ℕ) (p : Post) (conns : List ConnNo) → post_at n h.posts ≡ Some p
    → map (λ (d : ConnNo). d.0) conns ≡ receiving (past p.node) → IsDistinct (eq_by_cmp nat_cmp) (map (λ (d : ConnNo). d.0) conns)
receiving-distinct r a h stands n p conns at is =
    let w = stands.0 in
    let f = stands.1 in
    subst (IsDistinct (eq_by_cmp nat_cmp)) (sym (is ∙ ap receiving (node-of r h w n p f at).journal)) (distinct-filter (λ c. is_receiving c (w.nodes n)) (opened (w.nodes n)) (opened-distinct (w.nodes n) (legal-now r a h w f n)))

-- the pings of the connections that receive
pings : (now : ℕ) (m : NodeState) (conns : List ConnNo) → ((c : ℕ) → is_in c conns ≡ true → left_on m c ≡ ping_line now c ∷ [])
    → flat_map (λ (c : ConnNo). left_on m c.0) conns ≡ map (ping_line now) (map (λ (d : ConnNo). d.0) conns)
pings now m [] each = refl
pings now m (d ∷ ds) each =
    ap (λ ls. ls ++ flat_map (λ (c : ConnNo). left_on m c.0) ds) (each d.0 (ap (λ b. b || is_in d.0 ds) (self d.0)))
    ∙ ap (λ ls. ping_line now d.0 ∷ ls) (pings now m ds (λ c e. each c (later (d.0 == c) (is_in c ds) e)))
  where
    self : (c : ℕ) → (c == c) ≡ true
    self c = grind (arith, nat_tests)

    later : (a b : Bool) → b ≡ true → (a || b) ≡ true
    later true b e = refl
    later false b e = e

beat-there : (now c : ℕ) (steps : List Step) → is_receiving c steps ≡ true → queued c (Step.Beat now ∷ steps) ≡ queued c steps ++ ping_line now c ∷ []
beat-there now c steps e = ap (λ b. cond b (queued c steps ++ ping_line now c ∷ []) (queued c steps)) e

beat-elsewhere : (now c : ℕ) (steps : List Step) → is_receiving c steps ≡ false → queued c (Step.Beat now ∷ steps) ≡ queued c steps
beat-elsewhere now c steps e = ap (λ b. cond b (queued c steps ++ ping_line now c ∷ []) (queued c steps)) e

module _ (r : Rules) (h h' : Held) (node : NodeNo) (now : Millis) (p p' : Post) (m : NodeState) (conns : List ConnNo) (s : Said) (moves : PostMoves node.0 p p' h.posts h'.posts)
    (is : map (λ (d : ConnNo). d.0) conns ≡ receiving (past p.node)) (grown : past m ≡ Step.Beat now.0 ∷ past p.node) (takes : TakesNone p.node m) where
  node-was : (w : World) → FollowsWorld r h w → IsNodeOf node.0 p.node (w.nodes node.0)
  node-was w f = node-of r h w node.0 p f moves.was

  listed-now : (w : World) → FollowsWorld r h w → map (λ (d : ConnNo). d.0) conns ≡ receiving (w.nodes node.0)
  listed-now w f = is ∙ ap receiving (node-was w f).journal

  beat-lines : (w : World) → FollowsWorld r h w → flat_map (λ (c : ConnNo). left_on m c.0) conns ≡ map (ping_line now.0) (receiving (w.nodes node.0))
  beat-lines w f =
      pings now.0 m conns
      (λ c e. left-lines node.0 p.node m (Step.Beat now.0) c (w.nodes node.0) (ping_line now.0 c ∷ []) grown takes
      (beat-there now.0 c (w.nodes node.0) (sym (listed c conns (w.nodes node.0) (listed-now w f)) ∙ e)) (node-was w f))
      ∙ ap (map (ping_line now.0)) (listed-now w f)

  node-now : m.no ≡ p.node.no → p'.node.kept ≡ m.kept → p'.node.no ≡ m.no → ((c : ℕ) → is_in c conns ≡ true → taken_out c p'.node ≡ length (queued c (past m))) → ((c : ℕ) → is_in c conns ≡ false → taken_out c p'.node ≡ taken_out c m)
      → (w : World) → FollowsWorld r h w → IsNodeOf node.0 p'.node (Step.Beat now.0 ∷ w.nodes node.0)
  node-now same_no kept no_now taken others w f = record {
    number = ap (λ x. x.0) (no_now ∙ same_no) ∙ (node-was w f).number;
    journal = ap (λ (k : Kept). past_of k) kept ∙ journal;
    booted = refl;
    drained = λ c. by-test c (is_receiving c (w.nodes node.0)) refl;
  }
    where
      journal : past m ≡ Step.Beat now.0 ∷ w.nodes node.0
      journal = grown ∙ ap (λ (x : List Step). Step.Beat now.0 ∷ x) (node-was w f).journal

      by-test : (c : ℕ) (b : Bool) → is_receiving c (w.nodes node.0) ≡ b → taken_out c p'.node ≡ length (queued c (Step.Beat now.0 ∷ w.nodes node.0))
      by-test c true e = taken c (listed c conns (w.nodes node.0) (listed-now w f) ∙ e) ∙ ap (λ (x : List Step). length (queued c x)) journal
      by-test c false e =
          others c (listed c conns (w.nodes node.0) (listed-now w f) ∙ e) ∙ takes c ∙ (node-was w f).drained c ∙ ap (λ ls. length ls) (sym (beat-elsewhere now.0 c (w.nodes node.0) e))

  pub beat_steps : h'.conns ≡ h.conns → h'.table ≡ h.table → p'.turn ≡ p.turn → m.no ≡ p.node.no → p'.node.kept ≡ m.kept → p'.node.no ≡ m.no
      → ((c : ℕ) → is_in c conns ≡ true → taken_out c p'.node ≡ length (queued c (past m))) → ((c : ℕ) → is_in c conns ≡ false → taken_out c p'.node ≡ taken_out c m)
      → s ≡ record { idle = false; lines = flat_map (λ (c : ConnNo). left_on m c.0) conns } → StepsIn r (event.Beat node now) h s h'
  beat_steps conns_same table turn same_no kept no_now taken others told =
      possible_steps r (event.Beat node now) h h' s (λ w f. (node-was w f).booted) (ap (λ (x : Said). x.idle) told)
      (λ w f. ap (λ (x : Said). x.lines) told ∙ beat-lines w f)
      (λ w f may. comes r h h' w (logged w node.0 (Step.Beat now.0)) (event.Beat node now) f may refl
      (one-entry r h h' w node.0 (Step.Beat now.0) p p' f moves conns_same table (node-now same_no kept no_now taken others w f)
      (turn-entered r w node.0 (Step.Beat now.0) p'.turn refl refl refl refl (subst (λ (t : TurnOut). IsTurnIn r w node.0 t) (sym turn) (turn-of r h w node.0 p f moves.was)))
      (λ c. refl)))
      (same-calls h h' table) (λ n off. others-as node.0 p p' h h' moves n off)

-- at most all were taken out
pub beat-within : (r : Rules) (h : Held) → FollowsSome r h → (now n : ℕ) (p : Post) (m : NodeState) → post_at n h.posts ≡ Some p → past m ≡ Step.Beat now ∷ past p.node → TakesNone p.node m
    → (c : ℕ) → taken_out c m ≤ length (queued c (past m))
beat-within r h stands now n p m at grown takes c = by-test (is_receiving c (w.nodes n)) refl
  where
    w : World
    w = stands.0

    by-test : (b : Bool) → is_receiving c (w.nodes n) ≡ b → taken_out c m ≤ length (queued c (past m))
    by-test true e = taken-within n p.node m (Step.Beat now) c (w.nodes n) (ping_line now c ∷ []) grown takes (beat-there now c (w.nodes n) e) (node-of r h w n p stands.1 at)
    by-test false e =
        taken-within n p.node m (Step.Beat now) c (w.nodes n) [] grown takes (beat-elsewhere now c (w.nodes n) e ∙ sym (append-nil (queued c (w.nodes n)))) (node-of r h w n p stands.1 at)

-- ---- a boot

-- what was not kept isn't there
pub none-of : {A : Type 0} (o : Option A) → is_some o ≡ false → o ≡ None
none-of None e = refl
none-of (Some x) e = absurd cc

-- the table behind a Boot, which tells the last id
abbrev booted-table : World → ℕ → World
booted-table w n = tabled w (TableStep.Boot n (last_id w.table))

abbrev boot-entry : World → Step
boot-entry w = Step.Boot (last_id w.table)

module _ (r : Rules) (h h' : Held) (node : NodeNo) (p : Post) (last : RowId) (none : post_at node.0 h.posts ≡ None) (moves : (m : ℕ) → post_at m h'.posts ≡ cond (is_at (nat_cmp node.0) m) (Some p) (post_at m h.posts))
    (last_is : last ≡ h.table.last) (number : p.node.no.0 ≡ node.0) (booted : past p.node ≡ Step.Boot last.0 ∷ []) (taken : (c : ℕ) → taken_out c p.node ≡ 0) (turn : p.turn ≡ turn_out.None) where
  first-node : (w : World) → FollowsWorld r h w → IsNodeOf node.0 p.node (boot-entry w ∷ w.nodes node.0)
  first-node w f = record {
    number = number;
    journal =
        booted
        ∙ ap (λ k. Step.Boot k ∷ []) (ap (λ (x : RowId). x.0) last_is ∙ f.table.shows.last_is)
        ∙ ap (λ (x : List Step). boot-entry w ∷ x) (sym (unbooted r h w node.0 f none));
    booted = refl;
    drained = λ c. taken c ∙ ap (λ (x : List Step). length (queued c x)) (sym (unbooted r h w node.0 f none));
  }

  -- no turn is out
  first-turn : (w : World) → FollowsWorld r h w → IsTurnIn r (boot w node.0) node.0 p.turn
  first-turn w f =
      subst (λ (t : TurnOut). IsTurnIn r (boot w node.0) node.0 t) (sym turn)
      (ap is_out (own-node (booted-table w node.0) node.0 (boot-entry w)) ∙ ap (λ (x : List Step). is_out (boot-entry w ∷ x)) (unbooted r h w node.0 f none))

  posts-now : (w : World) → FollowsWorld r h w → (n : ℕ) → IsPostIn r (boot w node.0) n (post_at n h'.posts)
  posts-now w f n = by-test (n == node.0) refl
    where
      by-test : (b : Bool) → (n == node.0) ≡ b → IsPostIn r (boot w node.0) n (post_at n h'.posts)
      by-test true e =
          let here : post_at node.0 h'.posts ≡ Some p = moves node.0 ∙ ap (λ b. cond b (Some p) (post_at node.0 h.posts)) (hits node.0 node.0 (is-self node.0)) in
          subst (λ x. IsPostIn r (boot w node.0) x (post_at x h'.posts)) (sym (is-same n node.0 e))
          (subst (IsPostIn r (boot w node.0) node.0) (sym here) (post-entered r (booted-table w node.0) node.0 (boot-entry w) p (first-node w f) (first-turn w f)))
      by-test false e =
          subst (IsPostIn r (boot w node.0) n) (sym (moves n ∙ ap (λ b. cond b (Some p) (post_at n h.posts)) (misses node.0 n e)))
          (post-stays r w (boot w node.0) n (post_at n h.posts) (other-nodes (booted-table w node.0) node.0 n (boot-entry w) e) (other-notes (booted-table w node.0) node.0 n (boot-entry w) e) (f.posts n))

  table-now : (w : World) → FollowsWorld r h w → IsTableOf h.table (TableStep.Boot node.0 (last_id w.table) ∷ w.table) w.failing
  table-now w f = record {
    shows = subst (λ k. Shows h.table.keeper.rows h.table.last.0 (TableStep.Boot node.0 k ∷ w.table)) f.table.shows.last_is
        ((refusals_follow h.table.keeper.rows h.table.last.0 w.table f.table.shows).boot node.0).shows;
    unplanned = f.table.unplanned;
    failing_is = f.table.failing_is;
  }

  -- the nodes that a boot doesn't call
  others-stay : (n : ℕ) → (node.0 == n) ≡ false → NodeStays h h' n
  others-stay n e = ap (λ o. option_map (λ (x : Post). x.node) o) (moves n ∙ ap (λ b. cond b (Some p) (post_at n h.posts)) (misses node.0 n (turned n node.0 e)))

  pub boot_steps : h'.conns ≡ h.conns → h'.table ≡ h.table → StepsIn r (event.Boot node) h silent_said h'
  boot_steps conns table =
      possible_steps r (event.Boot node) h h' silent_said (λ w f. ap (λ (x : List Step). not (is_booted x)) (unbooted r h w node.0 f none)) refl (λ w f. refl)
      (λ w f may. comes r h h' w (boot w node.0) (event.Boot node) f may refl
      (record {
        posts = posts-now w f;
        conns = λ c.
            subst (λ (os : List (ℕ × Opened)). IsConnIn r (boot w node.0) c (conn_at c os)) (sym conns)
            (conn-stays r (logged w node.0 (boot-entry w)) (boot w node.0) c (conn_at c h.conns) refl (λ n. refl) refl (conn-entered r h w node.0 (boot-entry w) f c refl (conn_at c h.conns) (f.conns c)));
        table = subst (λ (t : TableState MemRows). IsTableOf t (TableStep.Boot node.0 (last_id w.table) ∷ w.table) w.failing) (sym table) (table-now w f);
      }))
      (same-calls h h' table) others-stay
