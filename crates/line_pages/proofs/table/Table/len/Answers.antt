use Rattle.std.proofs.Common.{◌∙◌, sym, ap, length}
use Rattle.line_pages.proofs.TableLemmas.{numbers-count}
use Rattle.line_pages.proofs.table.Table.len.Goals as goal

pub returns : goal.returns
returns c = sym (numbers-count c.self.inside.blocks.items c.self.inside.numbers.items c.self.inside.lines) ∙ ap length c.self.view_is
