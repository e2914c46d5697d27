-- The table's journal, newest entry first: which rows were committed, which a Trim took, which a Read finds, and its note.
use Rattle.std.specs.Prelude.{ℕ, ◌+◌, ◌-◌, ◌==◌, Bool, true, false, cond, not, ◌&&◌, ◌||◌, List, [], ◌∷◌, ◌++◌, length, take, filter, Option, None, Some, ltb, leb, slice_get, ℤ}
use Rattle.std.specs.List.{list_any}
use Rattle.std.specs.Ordering.{int_eq}
use Rattle.cable_base.specs.declared.rows.Row.{Row}
use Rattle.cable_model.specs.declared.journals.ReadNote.{ReadNote}
use Rattle.cable_model.specs.Window.{Reads}

-- what a commit is given: the name, the payload, the moment
pub record Offer : Type 0 where
  pub channel : List ℕ
  pub payload : List ℕ
  pub at : ℕ

-- an id, a count that is missing, and a note that failed mean that the store refused. A Commit is one of a connection or of none. The hashes stand beside a Read
pub data TableStep : Type 0 where
  Boot : (node : ℕ) → (last : ℕ) → TableStep
  Commit : (conn : Option ℕ) → (offer : Offer) → (id : Option ℕ) → TableStep
  Trim : (now : ℕ) → (retention : ℕ) → (batch : ℕ) → (taken : Option ℕ) → TableStep
  Read : (node : ℕ) → (turn : ℕ) → (note : ReadNote) → (hashes : List ℤ) → TableStep

abbrev pub row_with : ℕ → Offer → Row
row_with id offer = record { id = record { 0 = id }; channel = offer.channel; payload = offer.payload; created_at = record { 0 = offer.at } }

-- the rows that were committed, in order
abbrev pub commits : List TableStep → List Row
commits [] = []
commits (Commit conn offer (Some id) ∷ past) = commits past ++ row_with id offer ∷ []
commits (_ ∷ past) = commits past

-- the number of commits, which is the id of the last one
abbrev pub last_id : List TableStep → ℕ
last_id past = length (commits past)

-- ---- trims

-- a row that is older than the retention, and isn't the newest of all commits
abbrev pub is_old : (now retention last : ℕ) → Row → Bool
is_old now retention last r = ltb (r.created_at.0 + retention) now && ltb r.id.0 last

-- what a Trim takes of these rows: the first old ones
abbrev pub oldest : (now retention batch last : ℕ) → List Row → List Row
oldest now retention batch last rows = take batch (filter (is_old now retention last) rows)

abbrev pub has_id : Row → List Row → Bool
has_id r rows = list_any (λ x. x.id.0 == r.id.0) rows

-- whether a Trim took the row
abbrev pub gone : List TableStep → Row → Bool
gone [] r = false
gone (Trim now retention batch (Some taken) ∷ past) r =
    gone past r || has_id r (oldest now retention batch (last_id past) (filter (λ x. not (gone past x)) (commits past)))
gone (_ ∷ past) r = gone past r

-- the rows that were committed and that no Trim took
abbrev pub present : List TableStep → List Row
present past = filter (λ r. not (gone past r)) (commits past)

-- the rows that a Trim behind this past takes
abbrev pub trimmed : (now retention batch : ℕ) → List TableStep → List Row
trimmed now retention batch past = oldest now retention batch (last_id past) (present past)

-- ---- reads

-- the hashes of a turn are a set
abbrev pub contains : List ℤ → ℤ → Bool
contains hashes hash = list_any (λ h. int_eq h hash) hashes

-- the rows above `low` whose name's hash is asked for
abbrev pub matching : (hash : List ℕ → ℤ) → (low : ℕ) → (hashes : List ℤ) → List TableStep → List Row
matching hash low hashes past = filter (λ r. ltb low r.id.0 && contains hashes (hash r.channel)) (present past)

abbrev pub id_or : Option Row → ℕ → ℕ
id_or None last = last
id_or (Some r) last = r.id.0

-- where a turn ends: at the last id, or at the id of the row that fills a page
abbrev pub upto_of : (page last : ℕ) → List Row → ℕ
upto_of page last rows = id_or (slice_get rows (page - 1)) last

-- the rows up to an id
abbrev pub up_to : ℕ → List Row → List Row
up_to id rows = filter (λ r. leb r.id.0 id) rows

abbrev pub note_with : (low last upto : ℕ) → List Row → ReadNote
note_with low last upto rows = record { failed = false; lower = record { 0 = low }; upto = record { 0 = upto }; last = record { 0 = last }; rows = up_to upto rows }

-- the note of a turn whose Read doesn't fail
abbrev pub note_of : (hash : List ℕ → ℤ) → (page low : ℕ) → (hashes : List ℤ) → List TableStep → ReadNote
note_of hash page low hashes past =
    note_with low (last_id past) (upto_of page (last_id past) (matching hash low hashes past)) (matching hash low hashes past)

-- the note of a missed turn
abbrev pub missed_note : (low : ℕ) → ReadNote
missed_note low = record { failed = true; lower = record { 0 = low }; upto = record { 0 = low }; last = record { 0 = low }; rows = [] }

-- the note of a node's turn, once it is read
abbrev pub read_of : (node turn : ℕ) → List TableStep → Option ReadNote
read_of n t [] = None
read_of n t (Read node turn note hashes ∷ past) = cond (node == n && turn == t) (Some note) (read_of n t past)
read_of n t (_ ∷ past) = read_of n t past

-- whether a row was present at the Read of a node's turn
abbrev pub present_at : ℕ → List TableStep → ℕ → Row → Bool
present_at n [] t r = false
present_at n (Read node turn note hashes ∷ past) t r = cond (node == n && turn == t) (not (gone past r)) (present_at n past t r)
present_at n (_ ∷ past) t r = present_at n past t r

-- whether the hash of its name was asked for there
abbrev pub asked_at : (hash : List ℕ → ℤ) → ℕ → List TableStep → ℕ → Row → Bool
asked_at hash n [] t r = false
asked_at hash n (Read node turn note hashes ∷ past) t r = cond (node == n && turn == t) (contains hashes (hash r.channel)) (asked_at hash n past t r)
asked_at hash n (_ ∷ past) t r = asked_at hash n past t r

-- the reads of a node's turns
abbrev pub reads_of : (hash : List ℕ → ℤ) → ℕ → List TableStep → Reads
reads_of hash n past = record { present = present_at n past; asked = asked_at hash n past }
