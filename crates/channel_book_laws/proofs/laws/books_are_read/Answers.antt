use Rattle.channel_book_laws.proofs.Texts.{book_is, is_book, fault_is, is_fault}
use Rattle.channel_book_laws.proofs.laws.books_are_read.Goals as goal

pub returns-clause-book : goal.returns-clause-book
returns-clause-book c text book = (book_is text book, is_book text book)

pub returns-clause-fault : goal.returns-clause-fault
returns-clause-fault c text e = (fault_is text e, is_fault text e)
