use Rattle.std.proofs.Common.{◌∙◌, sym, ap, length}
use Rattle.line_pages.proofs.TableLemmas.{pages-count}
use Rattle.line_pages.proofs.page_table.PageTable.len.Goals as goal

pub returns : goal.returns
returns g c = c.len.ensures ∙ sym (pages-count c.self.inside.pages.pages c.self.inside.table) ∙ ap length c.self.view_is
