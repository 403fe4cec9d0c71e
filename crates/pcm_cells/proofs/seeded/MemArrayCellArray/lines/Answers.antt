use Rattle.std.proofs.Common.{◌∙◌, sym, ap, length}
use Rattle.line_pages.{specs.Paging.seeded_lines, proofs.PagingLemmas.lines_size}
use Rattle.pcm_cells.proofs.seeded.MemArrayCellArray.lines.Goals as goal

pub returns-in-Some : goal.returns-in-Some
returns-in-Some g c =
    c.len.ensures ∙ sym (lines_size c.in-Some.lines)
    ∙ sym (ap (λ o. length (seeded_lines o)) c.in-Some.is) ∙ ap (λ a. length a.lines) c.self.view_is
