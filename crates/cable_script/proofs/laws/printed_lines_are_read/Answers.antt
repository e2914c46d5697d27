use Rattle.cable_script.proofs.PrintedRead.{printed_is_read}
use Rattle.cable_script.proofs.laws.printed_lines_are_read.Goals as goal

pub returns : goal.returns
returns c = printed_is_read
