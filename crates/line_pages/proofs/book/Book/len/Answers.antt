use Rattle.std.proofs.Common.{sym, ap, length, ◌∙◌}
use Rattle.line_pages.{specs.Book.Kept, proofs.BookLemmas.pages-count}
use Rattle.line_pages.proofs.book.Book.len.Goals as goal

pub returns : goal.returns
returns g c = sym (pages-count _ _ _ c.self.invariant.0) ∙ ap (λ (k : Kept g.row.T.Denot). length k.pages) c.self.view_is
