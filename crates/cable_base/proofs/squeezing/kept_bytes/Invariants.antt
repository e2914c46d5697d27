use Rattle.std.proofs.Common.{◌≡◌, ◌++◌, drop}
use Rattle.cable_base.specs.Squeeze.{squeezed, squeezed_from}
use Rattle.cable_base.proofs.squeezing.kept_bytes.Given as goal

-- what was kept so far, and what is kept of the rest
abbrev pub invariant-loop-byte : goal.invariant-loop-byte
invariant-loop-byte l = l.kept.items ++ squeezed_from l.quoting (drop l.byte-index l.text) ≡ squeezed l.text
