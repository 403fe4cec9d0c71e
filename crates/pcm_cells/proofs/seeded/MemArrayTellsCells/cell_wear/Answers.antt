use Rattle.std.proofs.Common.{◌≡◌, ◌<◌, ◌≤◌, ◌∙◌, rules, refl, sym, ap, arith, length, get_or, Some}
use Rattle.line_pages.{specs.Paging.{seeded_lines, seeded_wear, seen}, proofs.PagingLemmas.{lines_size, lines_at}}
use Rattle.pcm_cells.specs.Seeded.{bounds_of, life_state, seeded_line}
use Rattle.pcm_cells.proofs.seeded.MemArrayTellsCells.cell_wear.Goals as goal
use Rattle.seeded_lines.{specs.Seeded.lifeless, proofs.WearLemmas.told_wear}

pub cell_wear-requires : goal.cell_wear-requires
cell_wear-requires g c =
    let exists = c.requires.exists in
    let shape = c.requires.shape in
    let few_bytes : g.row.B ≤ 128 = shape.1 in
    let few_check : g.row.M ≤ 16 = shape.3 in
    let is : length c.args.self.now.lines ≡ length c.in-Some.lines.grown =
    ap (λ a. length a.lines) (sym c.self.view_is) ∙ ap (λ o. length (seeded_lines o)) c.in-Some.is ∙ lines_size c.in-Some.lines in
    (search rules, (omega (arith, exists, is), shape))

pub returns : goal.returns
returns g c =
    let p = c.in-Some.lines in
    let lines : c.args.self.now.lines ≡ seeded_lines c.self.inside.lines = ap (λ a. a.lines) (sym c.self.view_is) in
    let is = lines ∙ ap seeded_lines c.in-Some.is in
    let within : c.args.line < length p.grown = omega (arith, c.requires.exists, ap length is, lines_size p) in
    let row : seeded_line c.args.self.now c.args.line ≡ seen p c.args.line =
    ap (λ xs. get_or xs c.args.line (lifeless g.row.B g.row.M)) is ∙ lines_at p c.args.line (lifeless g.row.B g.row.M) within in
    let wear : c.args.self.now.wear ≡ Some p.wear = ap (λ a. a.wear) (sym c.self.view_is) ∙ ap seeded_wear c.in-Some.is in
    told_wear (life_state (bounds_of c.args.self.now.wear) (seeded_line c.args.self.now c.args.line)) c.args.self.now.wear p.wear c.args.line
    (seeded_line c.args.self.now c.args.line) (seen p c.args.line) c.cell_wear.result wear row refl c.cell_wear.ensures.stuck c.cell_wear.ensures.changes
