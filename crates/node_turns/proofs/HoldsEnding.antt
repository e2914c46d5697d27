-- A Finish ends the holds of the wants that its plan's change ends.
use Rattle.std.proofs.Common.{◌≡◌, ℕ, ◌+◌, ◌<◌, ◌==◌, not, Bool, true, false, cond, List, [], ◌∷◌, ◌++◌, map, Option, Some, None, refl, sym, ap, subst, ◌∙◌}
use Rattle.std.proofs.Common.{arith}
use Rattle.std.specs.List.{filter, list_any, flat_map, AllByRecursion}
use Rattle.std.specs.Str.{bytes_eq}
use Rattle.std.proofs.lemmas.Bool.Decides.{nat_tests}
use Rattle.std.proofs.lemmas.List.Elements.{filter-append}
use Rattle.cable_base.specs.Names.{own_name}
use Rattle.cable_base.specs.declared.numbers.RowId.{RowId}
use Rattle.cable_base.specs.declared.numbers.SubNo.{SubNo}
use Rattle.cable_base.specs.declared.numbers.WantNo.{WantNo}
use Rattle.cable_base.proofs.Each.{All-append, All-implied}
use Rattle.cable_base.proofs.Filters.{filter-same}
use Rattle.cable_base.proofs.Rises.{Rises}
use Rattle.stream_set.specs.Streams.{has_want}
use Rattle.cable_model.specs.declared.plans.Change.{Change}
use Rattle.cable_model.specs.declared.plans.Change.TheVariants as change
use Rattle.cable_model.specs.declared.plans.Plan.{Plan}
use Rattle.cable_model.specs.Connection.{Want, Sub, Conn, changed}
use Rattle.cable_model.specs.Legal.{Legal, stored_plans}
use Rattle.cable_model.specs.Pieces.{seat, with_plan}
use Rattle.cable_model.specs.Steps.{Step}
use Rattle.cable_model.specs.Wants.{marks, mark_of, user_of}
use Rattle.cable_model.specs.Window.{finished}
use Rattle.cable_model.proofs.Inbox.{valid-at}
use Rattle.cable_model.proofs.Stored.{stored-works}
use Rattle.cable_model.proofs.Valid.{Valid}
use Rattle.cable_model.proofs.Working.{working}
use Rattle.conn_core.specs.Connections.{applied, over_behind, connection_behind}
use Rattle.conn_core.specs.Marked.{Marks, IsMarked, marked_want, marked_sub}
use Rattle.conn_core.specs.Subscriptions.{Subscription, WantsApart, has_identifier}
use Rattle.conn_core.proofs.MarkedSteps.{marked-step}
use Rattle.conn_seat.specs.Seated.{SeatOf, connection_of, marks_at}
use Rattle.conn_seat.specs.Seats.{Seated}
use Rattle.conn_seat.proofs.Sitting.{unmarked}
use Rattle.node_seats.proofs.Onward.{leaves-other}
use Rattle.subscriber_map.specs.declared.holding.Hold.{Hold}
use Rattle.subscriber_map.specs.HoldMaps.{HoldMap, holds_at}
use Rattle.node_turns.specs.Held.{own_hold, sub_holds, holds_of, holds_on, AreHeld}
use Rattle.node_turns.specs.Holding.{NamedWant, named_in, named_stops, when_named, own_want, ended_by, released}
use Rattle.node_turns.proofs.HoldsEndedIn.{filter-alike, all-or-none, or-later, all-held, held_in, ends_in, kept_holds, unwanted, self, kept-are, stops_in}
use Rattle.node_turns.proofs.HoldsEndedIn.{removed-ended, stopped-ended, all-ended, added-holds, removed-holds, restreamed-holds}
use Rattle.node_turns.proofs.HoldsOn.{filter-every, ended, holds-ended, holds-others}
use Rattle.node_turns.proofs.HoldsStaying.{holds_read, same-holds, left-alone}

-- ---- the own hold

-- the own hold, until the connection is over
abbrev own_part : ℕ → List ℕ → (user : List ℕ) → (over : Bool) → Option ℕ → List Hold
own_part c name user over mark = cond over [] (own_hold c name (Some user) mark)

abbrev owned : List ℕ → List ℕ → Hold → Type 0
owned name user h = (h.want ≡ own_want) × (bytes_eq (own_name user) name ≡ true)

each-owned : (c : ℕ) (name user : List ℕ) (over : Bool) (mark : Option ℕ) → AllByRecursion (owned name user) (own_part c name user over mark)
each-owned c name user true mark = tt
each-owned c name user false None = tt
each-owned c name user false (Some mark) = by-name (bytes_eq (own_name user) name) refl
  where
    by-name : (b : Bool) → bytes_eq (own_name user) name ≡ b → AllByRecursion (owned name user) (own_hold c name (Some user) (Some mark))
    by-name true is = rw is ((refl, is), tt)
    by-name false is = rw is tt

-- a change that doesn't end the own want leaves the own hold
own-stays : (c : ℕ) (name user : List ℕ) (over : Bool) (mark : Option ℕ) (ends : WantNo → Bool) → ends own_want ≡ false
    → filter (λ h. not (ends h.want)) (own_part c name user over mark) ≡ own_part c name user over mark
own-stays c name user over mark ends stays =
    filter-alike (λ (h : Hold). not (ends h.want)) (λ (h : Hold). true) (own_part c name user over mark)
    (All-implied (owned name user) (λ (h : Hold). not (ends h.want) ≡ true) (own_part c name user over mark) (λ h o. ap (λ w. not (ends w)) o.0 ∙ ap not stays)
    (each-owned c name user over mark))
    ∙ filter-every (own_part c name user over mark)

-- wants of streams are numbered from 1
own-unwanted : (marks : Marks) (b e : ℕ) (ws : List Want) → Rises (λ (y : Want). y.number) b ws e → has_want own_want (map (marked_want marks) ws) ≡ false
own-unwanted marks b e [] r = refl
own-unwanted marks b e (w ∷ ws) r =
    let above : b < w.number = r.0 in
    let other : (w.number == 0) ≡ false = grind (arith, nat_tests) in
    rw other (own-unwanted marks w.number e ws r.1)

none-own : (marks : Marks) (made : ℕ) (xs : List Sub) → AllByRecursion (λ (x : Sub). Rises (λ (y : Want). y.number) 0 x.wants made) xs
    → list_any (λ (s : Subscription). has_want own_want s.streams) (map (marked_sub marks) xs) ≡ false
none-own marks made [] v = refl
none-own marks made (x ∷ xs) v = rw (own-unwanted marks 0 made x.wants v.0) (none-own marks made xs v.1)

-- ---- all holds of the connection

-- where the own hold stays, and those of the subscriptions end with their wants
parts-left : (c : ℕ) (name user : List ℕ) (over : Bool) (mark : Option ℕ) (ns : List NamedWant) (ends : Subscription → Bool) (subs : List Subscription)
    (left : List Hold) → WantsApart subs
    → list_any (λ (s : Subscription). has_want own_want s.streams) subs ≡ false → ((want : WantNo) → ended ns name want ≡ ends_in name ends subs want)
    → left ≡ kept_holds c name ends subs
    → filter (λ h. not (ended ns name h.want)) (own_part c name user over mark ++ sub_holds c name subs) ≡ own_part c name user over mark ++ left
parts-left c name user over mark ns ends subs left a none same is =
    filter-append (λ (h : Hold). not (ended ns name h.want)) (own_part c name user over mark) (sub_holds c name subs)
    ∙ (ap (λ (hs : List Hold). hs ++ filter (λ (h : Hold). not (ended ns name h.want)) (sub_holds c name subs))
    (own-stays c name user over mark (ended ns name) (same own_want ∙ unwanted name own_want ends subs none))
    ∙ ap (λ (hs : List Hold). own_part c name user over mark ++ hs)
    (filter-same (λ (h : Hold). not (ended ns name h.want)) (λ (h : Hold). not (ends_in name ends subs h.want)) (sub_holds c name subs)
    (λ h. ap not (same h.want)) ∙ (kept-are c name ends subs a ∙ sym is)))

-- a Close ends them all
none-left : (c : ℕ) (name user : List ℕ) (over : Bool) (mark : Option ℕ) (subs : List Subscription)
    → filter (λ h. not (ended (ended_by change.Close user subs) name h.want)) (own_part c name user over mark ++ sub_holds c name subs) ≡ []
none-left c name user over mark subs =
    filter-alike (λ (h : Hold). not (ended (ended_by change.Close user subs) name h.want)) (λ (h : Hold). not true)
    (own_part c name user over mark ++ sub_holds c name subs)
    (All-append (λ (h : Hold). not (ended (ended_by change.Close user subs) name h.want) ≡ false) (own_part c name user over mark) (sub_holds c name subs)
    (All-implied (owned name user) (λ (h : Hold). not (ended (ended_by change.Close user subs) name h.want) ≡ false) (own_part c name user over mark) own
    (each-owned c name user over mark))
    (All-implied (λ (h : Hold). list_any (held_in name h.want) subs ≡ true) (λ (h : Hold). not (ended (ended_by change.Close user subs) name h.want) ≡ false)
    (sub_holds c name subs) other (all-held c name subs)))
    ∙ all-or-none true (own_part c name user over mark ++ sub_holds c name subs)
  where
    own : (h : Hold) → owned name user h → not (ended (ended_by change.Close user subs) name h.want) ≡ false
    own h o = ap (λ w. not (ended (ended_by change.Close user subs) name w)) o.0 ∙ rw o.1 refl

    other : (h : Hold) → list_any (held_in name h.want) subs ≡ true → not (ended (ended_by change.Close user subs) name h.want) ≡ false
    other h t = ap not (or-later _ (ended (flat_map named_in subs) name h.want) (all-ended subs name h.want ∙ t))

pub change-ends : (c : ℕ) (name user : List ℕ) (over : Bool) (mark : Option ℕ) (d : Change) (sub : SubNo) (first : WantNo) (subs : List Subscription)
    → WantsApart subs
    → list_any (λ (s : Subscription). has_want own_want s.streams) subs ≡ false
    → filter (λ h. not (ended (ended_by d user subs) name h.want)) (own_part c name user over mark ++ sub_holds c name subs)
    ≡ own_part c name user (over_behind d over) mark ++ sub_holds c name (applied d sub first subs)
change-ends c name user over mark change.Nothing sub first subs a none = filter-every (own_part c name user over mark ++ sub_holds c name subs)
change-ends c name user over mark (change.Add identifier streams) sub first subs a none =
    filter-every (own_part c name user over mark ++ sub_holds c name subs)
    ∙ ap (λ (hs : List Hold). own_part c name user over mark ++ hs) (sym (added-holds c name sub identifier first.0 streams subs))
change-ends c name user over mark (change.Streams identifier stops streams) sub first subs a none =
    parts-left c name user over mark (flat_map (when_named identifier (named_stops stops)) subs) (stops_in identifier stops name) subs
    (sub_holds c name (applied (change.Streams identifier stops streams) sub first subs)) a none
    (stopped-ended identifier stops subs name) (restreamed-holds c name identifier stops streams first.0 subs)
change-ends c name user over mark (change.Remove identifier) sub first subs a none =
    parts-left c name user over mark (flat_map (when_named identifier named_in) subs) (has_identifier identifier) subs
    (sub_holds c name (applied (change.Remove identifier) sub first subs)) a none
    (removed-ended identifier subs name) (removed-holds c name identifier subs)
change-ends c name user over mark change.Close sub first subs a none = none-left c name user over mark subs

-- ---- in the journal

own-finish : (c : ℕ) (puts : List (Option RowId)) (plan : Plan) (past : List Step) (s : Seated) (m : HoldMap) (name : List ℕ)
    → Legal (Step.Finish c puts plan ∷ past) → SeatOf c past s → AreHeld past m
    → holds_on c (holds_at (released c plan.change s.user s.subs m) name) ≡ holds_of c (Step.Finish c puts plan ∷ past) name
own-finish c puts plan past s m name l h held =
    holds-ended c (ended_by plan.change s.user s.subs) m name
    ∙ (ap (filter (λ (x : Hold). not (ended (ended_by plan.change s.user s.subs) name x.want))) (held c name ∙ before)
    ∙ (change-ends c name s.user k.over (mark_of 0 (marks c past)) plan.change sub first s.subs h.shows.wants none ∙ sym behind))
  where
    k : Conn
    k = (seat c past).conn

    sub : SubNo
    sub = record { 0 = (seat c past).taken }

    first : WantNo
    first = record { 0 = k.made + 1 }

    v : Valid (seat c past).done k
    v = valid-at (stored_plans c past) (seat c past) (λ sub want. finished c sub want past) (working (stored_plans c past) c past (stored-works c past l.1))

    none : list_any (λ (x : Subscription). has_want own_want x.streams) s.subs ≡ false
    none = ap (list_any (λ (x : Subscription). has_want own_want x.streams)) h.shows.conn.subs ∙ none-own (marks_at c past) k.made k.subs v.wants

    step : IsMarked (marks_at c past) (changed plan.change (seat c past).taken k) (connection_behind plan.change sub first (connection_of s))
    step = marked-step (marks_at c past) k (connection_of s) plan.change sub first h.shows.conn (unmarked c past) refl

    before : holds_of c past name ≡ own_part c name s.user k.over (mark_of 0 (marks c past)) ++ sub_holds c name s.subs
    before =
        ap (λ (u : Option (List ℕ)). holds_read c k u (marks c past) name) h.user
        ∙ ap (λ (ss : List Subscription). own_part c name s.user k.over (mark_of 0 (marks c past)) ++ sub_holds c name ss) (sym h.shows.conn.subs)

    now : (seat c (Step.Finish c puts plan ∷ past)).conn ≡ changed plan.change (seat c past).taken k
    now = ap (λ b. (cond b (with_plan (seat c past) plan) (seat c past)).conn) (self c)

    behind : holds_of c (Step.Finish c puts plan ∷ past) name
        ≡ own_part c name s.user (over_behind plan.change k.over) (mark_of 0 (marks c past)) ++ sub_holds c name (applied plan.change sub first s.subs)
    behind =
        ap (λ (x : Conn). holds_read c x (user_of c past) (marks c past) name) now
        ∙ (ap (λ (u : Option (List ℕ)). holds_read c (changed plan.change (seat c past).taken k) u (marks c past) name) h.user
        ∙ (ap (λ b. own_part c name s.user b (mark_of 0 (marks c past))
        ++ sub_holds c name (map (marked_sub (marks_at c past)) (changed plan.change (seat c past).taken k).subs))
        (sym step.over ∙ ap (over_behind plan.change) h.shows.conn.over)
        ∙ ap (λ (ss : List Subscription). own_part c name s.user (over_behind plan.change k.over) (mark_of 0 (marks c past)) ++ sub_holds c name ss)
        (sym step.subs)))

pub held-finish : (c : ℕ) (puts : List (Option RowId)) (plan : Plan) (past : List Step) (s : Seated) (m : HoldMap) → Legal (Step.Finish c puts plan ∷ past)
    → SeatOf c past s → AreHeld past m
    → AreHeld (Step.Finish c puts plan ∷ past) (released c plan.change s.user s.subs m)
held-finish c puts plan past s m l h held x name = by-number (c == x) refl
  where
    now : List Step
    now = Step.Finish c puts plan ∷ past

    by-number : (b : Bool) → (c == x) ≡ b → holds_on x (holds_at (released c plan.change s.user s.subs m) name) ≡ holds_of x now name
    by-number false other =
        holds-others x c (ended_by plan.change s.user s.subs) m name other
        ∙ (held x name ∙ sym (same-holds x past now name (left-alone x past now (leaves-other x (Step.Finish c puts plan) past other refl))))
    by-number true same =
        let e : c ≡ x = grind (arith, nat_tests) in
        subst (λ n. holds_on n (holds_at (released c plan.change s.user s.subs m) name) ≡ holds_of n now name) e (own-finish c puts plan past s m name l h held)
