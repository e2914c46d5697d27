use Rattle.std.proofs.Common.{◌≡◌, drop}
use Rattle.channel_book.specs.Books.{first_reserved, targets}
use Rattle.channel_book.proofs.checks.reserved_target.Given as goal

-- none of the targets so far is reserved
abbrev pub invariant-loop-rule : goal.invariant-loop-rule
invariant-loop-rule l = first_reserved (targets (drop l.rule-index l.rules)) ≡ first_reserved (targets l.rules)
