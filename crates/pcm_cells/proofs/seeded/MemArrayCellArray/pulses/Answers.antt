use Rattle.std.proofs.Common.{◌≡◌, ◌<◌, ◌≤◌, ◌∙◌, rules, sym, ap, arith, length, get_or}
use Rattle.line_pages.{specs.Paging.seeded_lines, proofs.PagingLemmas.{lines_size, lines_at}}
use Rattle.seeded_lines.specs.Seeded.{lifeless}
use Rattle.pcm_cells.proofs.seeded.MemArrayCellArray.pulses.Goals as goal

pub pulses-requires : goal.pulses-requires
pulses-requires g c =
    let exists = c.requires in
    let shape = c.self.invariant.0 in
    let few_bytes : g.row.B ≤ 128 = shape.1 in
    let few_check : g.row.M ≤ 16 = shape.3 in
    let is : length c.args.self.now.lines ≡ length c.in-Some.lines.grown =
    ap (λ a. length a.lines) (sym c.self.view_is) ∙ ap (λ o. length (seeded_lines o)) c.in-Some.is ∙ lines_size c.in-Some.lines in
    (search rules, (omega (arith, exists, is), shape))

pub returns : goal.returns
returns g c =
    let p = c.in-Some.lines in
    let lines : c.args.self.now.lines ≡ seeded_lines c.self.inside.lines = ap (λ a. a.lines) (sym c.self.view_is) in
    let is = lines ∙ ap seeded_lines c.in-Some.is in
    let within : c.args.line < length p.grown = omega (arith, c.requires, ap length is, lines_size p) in
    c.pulses.ensures
    ∙ sym (ap (λ xs. (get_or xs c.args.line (lifeless g.row.B g.row.M)).line.pulses) is ∙ ap (λ l. l.line.pulses) (lines_at p c.args.line (lifeless g.row.B g.row.M) within))
