use Rattle.std.proofs.Common.{◌≡◌, ◌++◌, drop}
use Rattle.std.specs.Prelude.{All}
use Rattle.serde_json.specs.View.{view}
use Rattle.cable_base.specs.Squeeze.{IsSqueezedJson}
use Rattle.channel_book.specs.declared.answers.Cast.{Cast}
use Rattle.channel_book.specs.Answers.{casts_of}
use Rattle.channel_book.proofs.answering.casts_of.Given as goal

-- the casts so far, and those of the rules that are left
abbrev pub invariant-loop-rule : goal.invariant-loop-rule
invariant-loop-rule l =
    record {
      made : l.casts ++ casts_of l.user (view l.identifier) (drop l.rule-index l.rules) ≡ casts_of l.user (view l.identifier) l.rules;
      json : All (λ (c : Cast). IsSqueezedJson c.payload) l.casts;
    }
