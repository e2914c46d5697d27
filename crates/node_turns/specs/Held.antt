-- The holds of a node's connections, as its journal has them.
use Rattle.std.specs.Prelude.{◌≡◌, ◌==◌, ℕ, Bool, true, false, cond, List, [], ◌∷◌, ◌++◌, map, filter, Option, None, Some, bytes_eq}
use Rattle.cable_base.specs.Names.{own_name}
use Rattle.cable_base.specs.declared.numbers.ConnNo.{ConnNo}
use Rattle.cable_base.specs.declared.numbers.RowId.{RowId}
use Rattle.cable_base.specs.declared.numbers.SubNo.{SubNo}
use Rattle.cable_base.specs.declared.numbers.WantNo.{WantNo}
use Rattle.stream_set.specs.declared.entries.StreamEntry.{StreamEntry}
use Rattle.cable_model.specs.Pieces.{seat}
use Rattle.cable_model.specs.Steps.{Step}
use Rattle.cable_model.specs.Wants.{marks, mark_of, user_of}
use Rattle.conn_core.specs.Marked.{marked_sub, row_id}
use Rattle.conn_core.specs.Subscriptions.{Subscription}
use Rattle.conn_seat.specs.Seated.{marks_at}
use Rattle.subscriber_map.specs.declared.holding.Hold.{Hold}
use Rattle.subscriber_map.specs.HoldMaps.{HoldMap, holds_at}

abbrev pub conn_of : ℕ → ConnNo
conn_of c = record { 0 = c }

-- the hold that a want with this mark is, if it has one
abbrev pub marked_hold : ℕ → SubNo → WantNo → Option RowId → List Hold
marked_hold c sub want None = []
marked_hold c sub want (Some mark) = record { conn = conn_of c; sub = sub; want = want; mark = mark } ∷ []

-- the holds of the name among these streams of a subscription
abbrev pub stream_holds : ℕ → (name : List ℕ) → SubNo → List StreamEntry → List Hold
stream_holds c name sub [] = []
stream_holds c name sub (e ∷ es) = cond (bytes_eq e.name name) (marked_hold c sub e.want e.mark ++ stream_holds c name sub es) (stream_holds c name sub es)

-- .. among the streams of these subscriptions
abbrev pub sub_holds : ℕ → (name : List ℕ) → List Subscription → List Hold
sub_holds c name [] = []
sub_holds c name (s ∷ subs) = stream_holds c name s.number s.streams ++ sub_holds c name subs

-- the hold of a connection's own name. Its want is number 0, of no subscription
abbrev pub own_hold : ℕ → (name : List ℕ) → (user : Option (List ℕ)) → (mark : Option ℕ) → List Hold
own_hold c name None mark = []
own_hold c name (Some user) None = []
own_hold c name (Some user) (Some mark) =
    cond (bytes_eq (own_name user) name) (record { conn = conn_of c; sub = record { 0 = 0 }; want = record { 0 = 0 }; mark = row_id mark } ∷ []) []

-- the subscriptions of c with the marks of their wants
abbrev pub subs_at : ℕ → List Step → List Subscription
subs_at c past = map (marked_sub (marks_at c past)) (seat c past).conn.subs

-- the holds of the name that c has: its own until it is over, and those of its subscriptions in their order
abbrev pub holds_of : ℕ → List Step → (name : List ℕ) → List Hold
holds_of c past name = cond (seat c past).conn.over [] (own_hold c name (user_of c past) (mark_of 0 (marks c past))) ++ sub_holds c name (subs_at c past)

abbrev pub is_on : ℕ → Hold → Bool
is_on c h = h.conn.0 == c

-- the holds of a connection under a name, in the order in which the name has them
abbrev pub holds_on : ℕ → List Hold → List Hold
holds_on c hs = filter (is_on c) hs

-- under each name stand the holds of each connection that the journal says
abbrev pub AreHeld : List Step → HoldMap → Type 0
AreHeld past m = (c : ℕ) (name : List ℕ) → holds_on c (holds_at m name) ≡ holds_of c past name

-- an entry that neither makes nor ends a connection, a want or a hold
abbrev pub is_steady : Step → Bool
is_steady (Step.Boot last) = false
is_steady (Step.Open c token user) = false
is_steady (Step.Finish c puts plan) = false
is_steady (Step.Deliver turn note) = false
is_steady _ = true
