use Rattle.cable_json.proofs.Said.{read_says, says_read, bad_no_object, no_object_bad, no_memory}
use Rattle.cable_json.proofs.laws.commands_are_what_texts_say.Goals as goal

pub returns-clause-says : goal.returns-clause-says
returns-clause-says c = λ text command. (read_says text command, says_read text command)

pub returns-clause-bad_json : goal.returns-clause-bad_json
returns-clause-bad_json c = λ text. (bad_no_object text, no_object_bad text)

pub returns-clause-memory : goal.returns-clause-memory
returns-clause-memory c = no_memory
