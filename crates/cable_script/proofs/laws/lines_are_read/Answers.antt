use Rattle.cable_script.specs.declared.faults.LineFault.TheVariants as fault
use Rattle.cable_script.proofs.FirstFaults.{answered, broken}
use Rattle.cable_script.proofs.GrammarRead.{line_is, line_of}
use Rattle.cable_script.proofs.laws.lines_are_read.Goals as goal

pub returns-clause-read : goal.returns-clause-read
returns-clause-read c line v = (line_is line v, λ h. line_of line v h.0 h.1)

pub returns-clause-line : goal.returns-clause-line
returns-clause-line c line v l = (λ e. (line_is line v e).1, λ s. line_of line v l.utf8 s)

pub returns-clause-utf8 : goal.returns-clause-utf8
returns-clause-utf8 c line = (broken line fault.NotUtf8, answered line fault.NotUtf8)

pub returns-clause-memory : goal.returns-clause-memory
returns-clause-memory c line e = broken line fault.OutOfMemory e
