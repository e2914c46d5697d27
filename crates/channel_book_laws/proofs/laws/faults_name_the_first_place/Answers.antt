use Rattle.channel_book_laws.proofs.Walk.{shape_broken, broken_shape, book_met, met_book}
use Rattle.channel_book_laws.proofs.laws.faults_name_the_first_place.Goals as goal

pub returns-clause-fault : goal.returns-clause-fault
returns-clause-fault c d path = (shape_broken d path, broken_shape d path)

pub returns-clause-book : goal.returns-clause-book
returns-clause-book c d = (book_met d, met_book d)
