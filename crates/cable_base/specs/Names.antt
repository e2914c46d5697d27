-- The names of streams: those that are reserved, and a user's own.
use Rattle.std.specs.Prelude.{ℕ, ◌++◌, Bool, List, codes, eqb}
use Rattle.std.specs.List.{starts_with}

-- names that begin so may not be held or cast to by callbacks
abbrev pub reserved_prefix : List ℕ
reserved_prefix = codes "action_cable/"

-- the name is one of these
abbrev pub is_reserved : List ℕ → Bool
is_reserved name = starts_with eqb name reserved_prefix

-- the stream that disconnects a user
abbrev pub own_name : List ℕ → List ℕ
own_name user = reserved_prefix ++ user
