use Rattle.cable_model.proofs.Answering.{books-answer}
use Rattle.cable_laws.proofs.histories.books_always_answer.Goals as goal

pub returns : goal.returns
returns c = books-answer
