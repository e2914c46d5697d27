use Rattle.std.proofs.Common.{◌≡◌, take}
use Rattle.std.specs.Prelude.{All}
use Rattle.cable_base.specs.Squeeze.{IsSqueezedJson}
use Rattle.channel_book.proofs.answering.says_of.Given as goal

-- the texts so far are those of the says so far
abbrev pub invariant-loop-say : goal.invariant-loop-say
invariant-loop-say l =
    record {
      texts : l.texts ≡ take l.say-index l.says;
      json : All IsSqueezedJson l.texts;
    }
