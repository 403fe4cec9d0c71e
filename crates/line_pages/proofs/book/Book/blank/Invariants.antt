use Rattle.line_pages.proofs.BookLemmas.{AreEmpty}
use Rattle.line_pages.proofs.book.Book.blank.Given as goal

abbrev pub invariant-loop-index : goal.invariant-loop-index
invariant-loop-index g l = AreEmpty l.index l.initial.room l.chunks.items
