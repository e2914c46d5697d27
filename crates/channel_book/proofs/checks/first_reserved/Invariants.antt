use Rattle.std.proofs.Common.{◌≡◌, drop}
use Rattle.channel_book.specs.Books.{first_reserved}
use Rattle.channel_book.proofs.checks.first_reserved.Given as goal

-- none of the templates so far is reserved
abbrev pub invariant-loop-template : goal.invariant-loop-template
invariant-loop-template l = first_reserved (drop l.template-index l.templates) ≡ first_reserved l.templates
