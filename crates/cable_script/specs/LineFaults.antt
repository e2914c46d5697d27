-- Which rule of lines each fault of `read_line` stands for.
use Rattle.std.specs.Prelude.{ℕ, List}
use Rattle.cable_model.specs.declared.statuses.BreakReason.TheVariants as reason
use Rattle.cable_model.specs.LineBreaks.{BreaksFirst}
use Rattle.cable_script.specs.declared.faults.LineFault.{LineFault}
use Rattle.cable_script.specs.declared.faults.LineFault.TheVariants as fault

-- the line breaks the rule of this fault, and none before it. Want of memory is no property of a line
abbrev pub HasFault : LineFault → List ℕ → Type 0
HasFault fault.NotUtf8 line = BreaksFirst reason.NotUtf8 line
HasFault fault.UnknownVerb line = BreaksFirst reason.UnknownVerb line
HasFault fault.BadWords line = BreaksFirst reason.BadWords line
HasFault fault.BadNumber line = BreaksFirst reason.BadNumber line
HasFault fault.BadJson line = BreaksFirst reason.BadJson line
HasFault fault.TooLarge line = BreaksFirst reason.TooLarge line
HasFault fault.OutOfMemory line = ⊥
