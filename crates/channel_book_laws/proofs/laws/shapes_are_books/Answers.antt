use Rattle.channel_book_laws.proofs.Shapes.{shape_reads}
use Rattle.channel_book_laws.proofs.laws.shapes_are_books.Goals as goal

pub returns : goal.returns
returns c d book = let r = shape_reads d in (r.is book, r.of book)
