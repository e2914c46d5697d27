use Rattle.std.proofs.Common.{◌≡◌, map, take}
use Rattle.cable_json.specs.Texts.{message_text}
use Rattle.conn_core.proofs.saying.says.Given as goal

-- the says so far
abbrev pub invariant-loop-say : goal.invariant-loop-say
invariant-loop-say l = l.texts ≡ map (message_text l.identifier) (take l.say-index l.says)
