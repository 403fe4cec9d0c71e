use Rattle.std.proofs.Common.{◌<◌, ◌∙◌, sym, ap, arith, cond, length}
use Rattle.cell_rows.specs.{Device.counted, Rows.cell}
use Rattle.seeded_lines.{specs.Seeded.seeded, proofs.SizeLemmas.row_fits}
use Rattle.line_pages.proofs.pages.Pages.outgrow.Goals as goal

pub wear_grown-requires : goal.wear_grown-requires
wear_grown-requires g c =
    let within : c.args.line < length c.grow.new.self.grown = omega (arith, c.requires.exists, c.grow.ensures.lines) in
    (omega arith, (row_fits c.requires.shape, (within, (c.grow.ensures.has, (c.requires.shape, c.requires.whole)))))

pub returns : goal.returns
returns g c =
    let worn = c.wear_grown.ensures in
    let grown = c.grow.ensures in
    record {
      cells = λ n. worn.cells n ∙ ap (λ x. cond (cell c.args.mask.now n) (seeded c.args.tearing (cell c.args.want.now) n x) x) (sym (grown.page.cells n));
      pulses = worn.pulses ∙ ap counted (ap (λ l. l.pulses) (sym grown.page.line));
      others = λ n apart. worn.others n apart ∙ grown.others n apart;
      lines = worn.lines ∙ grown.lines;
      wear = worn.wear ∙ grown.wear;
    }
