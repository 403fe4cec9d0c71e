use Rattle.std.proofs.Common.{◌≡◌, ℕ, ◌+◌, ◌-◌, ◌*◌, ◌/◌, ◌≤◌, ◌∙◌, sym, ap, arith}
use Rattle.cell_rows.specs.{Energy.{reset_cells, set_cells}, Rows.cell}
use Rattle.line_pages.specs.declared.work.LineWork.TheVariants.{Drives}
use Rattle.pcm_cells.proofs.EnergyLemmas.{driven}
use Rattle.pcm_cells.proofs.energies.drives_blocks.Goals as goal
use Rattle.seeded_lines.proofs.SizeLemmas.{blocks_all, blocks_within, data_first, data_within, from_first, row_fits}

same : (n : ℕ) → n ≤ n
same n = omega arith

pub count_in-data-requires : goal.count_in-data-requires
count_in-data-requires g c = (row_fits c.requires.shape, (from_first _, (data_within g.row.B g.row.M, (c.requires.shape, c.requires.whole))))

pub count_in-checks-requires : goal.count_in-checks-requires
count_in-checks-requires g c = (row_fits c.requires.shape, (data_first g.row.B g.row.M, (blocks_within g.row.B g.row.M, (c.requires.shape, c.requires.whole))))

pub overflow_add-set : goal.overflow_add-set
overflow_add-set g c =
    let mask = cell c.args.mask.now in
    let want = cell c.args.want.now in
    let first = c.count_in-data in
    let rest = c.count_in-checks in
    let all : ℕ = (g.row.B + g.row.M) / 8 in
    let counts = driven mask want (g.row.B / 8) all (8 * (g.row.B + g.row.M)) first.result.0 rest.result.0 first.result.1 rest.result.1
    (blocks_all g.row.B g.row.M all c.requires.whole (same all) (same all)) first.ensures.all rest.ensures.all first.ensures.set rest.ensures.set in
    let few_bytes : g.row.B ≤ 128 = c.requires.shape.1 in
    let few_check : g.row.M ≤ 16 = c.requires.shape.3 in
    omega (arith, counts.less, counts.most, few_bytes, few_check)

pub overflow_add-result : goal.overflow_add-result
overflow_add-result g c =
    let mask = cell c.args.mask.now in
    let want = cell c.args.want.now in
    let first = c.count_in-data in
    let rest = c.count_in-checks in
    let all : ℕ = (g.row.B + g.row.M) / 8 in
    let counts = driven mask want (g.row.B / 8) all (8 * (g.row.B + g.row.M)) first.result.0 rest.result.0 first.result.1 rest.result.1
    (blocks_all g.row.B g.row.M all c.requires.whole (same all) (same all)) first.ensures.all rest.ensures.all first.ensures.set rest.ensures.set in
    let few_bytes : g.row.B ≤ 128 = c.requires.shape.1 in
    let few_check : g.row.M ≤ 16 = c.requires.shape.3 in
    omega (arith, counts.most, few_bytes, few_check)

pub overflow_sub-result : goal.overflow_sub-result
overflow_sub-result g c =
    let mask = cell c.args.mask.now in
    let want = cell c.args.want.now in
    let first = c.count_in-data in
    let rest = c.count_in-checks in
    let all : ℕ = (g.row.B + g.row.M) / 8 in
    let counts = driven mask want (g.row.B / 8) all (8 * (g.row.B + g.row.M)) first.result.0 rest.result.0 first.result.1 rest.result.1
    (blocks_all g.row.B g.row.M all c.requires.whole (same all) (same all)) first.ensures.all rest.ensures.all first.ensures.set rest.ensures.set in
    counts.less

pub returns : goal.returns
returns g c =
    let mask = cell c.args.mask.now in
    let want = cell c.args.want.now in
    let first = c.count_in-data in
    let rest = c.count_in-checks in
    let all : ℕ = (g.row.B + g.row.M) / 8 in
    let counts = driven mask want (g.row.B / 8) all (8 * (g.row.B + g.row.M)) first.result.0 rest.result.0 first.result.1 rest.result.1
    (blocks_all g.row.B g.row.M all c.requires.whole (same all) (same all)) first.ensures.all rest.ensures.all first.ensures.set rest.ensures.set in
    let reset : first.result.0 + rest.result.0 - (first.result.1 + rest.result.1) ≡ reset_cells c.args.mask.now c.args.want.now = sym counts.reset_is in
    ap (λ (n : ℕ). Drives n (first.result.0 + rest.result.0 - (first.result.1 + rest.result.1))) (sym counts.set_is) ∙ ap (Drives (set_cells c.args.mask.now c.args.want.now)) reset
