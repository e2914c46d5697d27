use Rattle.std.proofs.Common.{◌≡◌, ◌≤◌, ◌-◌, ◌++◌, length, take, drop}
use Rattle.table_core.specs.Inside.{asked}
use Rattle.table_core.proofs.memory.copied_from.Given as goal

-- what was found, and what is to be found behind it, make up the whole
abbrev pub invariant-loop-at : goal.invariant-loop-at
invariant-loop-at l =
    record {
      made : l.found.items ++ take (l.limit - length l.found.items) (asked l.hashes (drop l.at l.rows.items)) ≡ take l.limit (asked l.hashes (drop l.start l.rows.items));
      most : length l.found.items ≤ l.limit;
    }
