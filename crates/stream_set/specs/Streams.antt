-- The streams of one subscription, in the order in which they were wanted.
use Rattle.std.specs.Prelude.{◌≡◌, ℕ, ◌==◌, Bool, false, not, ◌&&◌, List, [], ◌∷◌, Option, Some, None, option_map, option_and_then, is_none, find, filter, map, if◌then◌else◌}
use Rattle.std.specs.List.{list_any}
use Rattle.std.specs.Str.{bytes_eq}
use Rattle.cable_base.specs.declared.numbers.RowId.{RowId}
use Rattle.cable_base.specs.declared.numbers.WantNo.{WantNo}
use Rattle.stream_set.specs.declared.entries.StreamEntry.{StreamEntry}

-- the streams, and for how many more there is room
pub record Streams : Type 0 where
  pub entries : List StreamEntry
  pub spare : ℕ

-- a stream that was just wanted
abbrev pub wanted_now : List ℕ → WantNo → StreamEntry
wanted_now name want = record { name = name; want = want; mark = None }

abbrev pub is_named : List ℕ → StreamEntry → Bool
is_named name entry = bytes_eq entry.name name

abbrev pub has_name : List ℕ → List StreamEntry → Bool
has_name name entries = list_any (is_named name) entries

abbrev pub is_wanted_as : WantNo → StreamEntry → Bool
is_wanted_as want entry = entry.want.0 == want.0

abbrev pub has_want : WantNo → List StreamEntry → Bool
has_want want entries = list_any (is_wanted_as want) entries

-- it was wanted under this number and has no mark yet
abbrev pub waits_as : WantNo → StreamEntry → Bool
waits_as want entry = is_wanted_as want entry && is_none entry.mark

abbrev pub waits : WantNo → List StreamEntry → Bool
waits want entries = list_any (waits_as want) entries

-- the mark is given to the stream that waits under this number
abbrev pub placed_one : WantNo → RowId → StreamEntry → StreamEntry
placed_one want mark entry = if waits_as want entry then record entry { mark = Some mark } else entry

abbrev pub placed : WantNo → RowId → List StreamEntry → List StreamEntry
placed want mark entries = map (placed_one want mark) entries

abbrev pub without : List ℕ → List StreamEntry → List StreamEntry
without name entries = filter (λ entry. not (is_named name entry)) entries

-- the number under which the stream of this name was wanted
abbrev pub want_of : List ℕ → List StreamEntry → Option WantNo
want_of name entries = option_map (λ (entry : StreamEntry). entry.want) (find (is_named name) entries)

-- the mark of the stream of this name
abbrev pub mark_of : List ℕ → List StreamEntry → Option RowId
mark_of name entries = option_and_then (λ (entry : StreamEntry). entry.mark) (find (is_named name) entries)

-- no two streams have one name or one number
abbrev pub AreApart : List StreamEntry → Type 0
AreApart [] = Unit {0}
AreApart (entry ∷ entries) = (has_name entry.name entries ≡ false) × (has_want entry.want entries ≡ false) × AreApart entries
