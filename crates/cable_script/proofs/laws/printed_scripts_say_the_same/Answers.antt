use Rattle.cable_script.proofs.PrintedScripts.{prints_again}
use Rattle.cable_script.proofs.laws.printed_scripts_say_the_same.Goals as goal

pub returns : goal.returns
returns c = prints_again c.squeezing_keeps_the_value.ensures.value c.squeezing_keeps_the_value.ensures.squeezed
