use Rattle.std.proofs.Common.{◌≡◌, ◌≤◌, ◌+◌, ◌-◌, ◌++◌, length, take, drop}
use Rattle.std.specs.List.{filter}
use Rattle.table_core.specs.Inside.{IsSortedFrom, is_taken, left_of}
use Rattle.table_core.proofs.memory.take_first.Given as goal

-- the rows in front of the place stay, and what is taken of those behind it makes up the whole
abbrev pub invariant-loop-taken : goal.invariant-loop-taken
invariant-loop-taken l =
    record {
      left : take l.at l.rows.items ++ left_of (is_taken l.before.0 l.below.0) (l.limit - l.taken) (drop l.at l.rows.items) ≡ left_of (is_taken l.before.0 l.below.0) l.limit l.fn.rows.items;
      count : l.taken + length (take (l.limit - l.taken) (filter (is_taken l.before.0 l.below.0) (drop l.at l.rows.items))) ≡ length (take l.limit (filter (is_taken l.before.0 l.below.0) l.fn.rows.items));
      within : l.at ≤ length l.rows.items;
      most : l.taken ≤ l.limit;
      sorted : IsSortedFrom l.sorted_from.0 (drop l.at l.rows.items);
    }

abbrev pub decreases-loop-taken : goal.decreases-loop-taken
decreases-loop-taken l = length l.rows.items - l.at
