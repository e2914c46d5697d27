use Rattle.std.proofs.Common.{◌≡◌, ◌++◌, map, drop}
use Rattle.std.specs.Prelude.{option_map}
use Rattle.channel_book.specs.Templates.{slots_of}
use Rattle.channel_book.proofs.templates.slots_of.Given as goal

-- the slots so far, and those of the parts that are left
abbrev pub invariant-loop-part : goal.invariant-loop-part
invariant-loop-part l = option_map (λ more. l.slots ++ more) (slots_of l.names (map (λ s. s.now) (drop l.part-index l.parts))) ≡ slots_of l.names (map (λ s. s.now) l.parts)
