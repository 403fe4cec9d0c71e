use Rattle.std.proofs.Common.{◌*◌, ◌∙◌, ap, sym, arith}
use Rattle.std.proofs.lemmas.List.FromFn.{get_or-map-range_with_len}
use Rattle.cell_rows.specs.Rows.{zero_row}
use Rattle.pcm_image.specs.{Giving.head_view, Saved.array_lines_in}
use Rattle.large_reader.specs.Rows.{listed}
use Rattle.large_reader.proofs.image.LargeImage.row.Goals as goal

pub cells_of-requires : goal.cells_of-requires
cells_of-requires g c = (omega (arith, c.requires.few, c.requires.checks), (omega (arith, c.requires.few, c.requires.checks), (c.self.inside.head.banks * array_lines_in (head_view c.self.inside.head), rw c.deref.ensures.value c.self.invariant)))

pub returns : goal.returns
returns g c =
    let count = c.self.inside.head.banks * array_lines_in (head_view c.self.inside.head) in
    rw (← c.self.view_is) (c.cells_of.ensures ∙ ap (λ rows. listed rows c.args.line) c.deref.ensures.value
    ∙ sym (get_or-map-range_with_len (listed c.self.inside.rows.items) 0 count c.args.line c.args.line (zero_row g.row.B g.row.M) (rw (← c.self.view_is) at c.requires.exists) (omega arith)))
