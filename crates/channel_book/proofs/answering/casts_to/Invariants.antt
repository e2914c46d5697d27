use Rattle.std.proofs.Common.{◌≡◌, ◌++◌, drop}
use Rattle.std.specs.Prelude.{All}
use Rattle.serde_json.specs.View.{view}
use Rattle.cable_base.specs.Squeeze.{IsSqueezedJson}
use Rattle.channel_book.specs.declared.answers.Cast.{Cast}
use Rattle.channel_book.specs.Answers.{casts_to}
use Rattle.channel_book.proofs.answering.casts_to.Given as goal

-- the casts so far, and those to the templates that are left
abbrev pub invariant-loop-template : goal.invariant-loop-template
invariant-loop-template l =
    record {
      made : l.casts ++ casts_to l.user (view l.identifier) l.payload (drop l.template-index l.templates) ≡ casts_to l.user (view l.identifier) l.payload l.templates;
      json : All (λ (c : Cast). IsSqueezedJson c.payload) l.casts;
    }
