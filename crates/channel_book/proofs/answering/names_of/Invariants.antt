use Rattle.std.proofs.Common.{◌≡◌, ◌++◌, drop}
use Rattle.serde_json.specs.View.{view}
use Rattle.channel_book.specs.Answers.{names_of}
use Rattle.channel_book.proofs.answering.names_of.Given as goal

-- the names so far, and those of the templates that are left
abbrev pub invariant-loop-template : goal.invariant-loop-template
invariant-loop-template l = l.names ++ names_of l.user (view l.identifier) (drop l.template-index l.templates) ≡ names_of l.user (view l.identifier) l.templates
