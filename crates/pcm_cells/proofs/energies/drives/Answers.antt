use Rattle.std.proofs.Common.{◌≡◌, ◌+◌, ◌-◌, ◌*◌, ◌∙◌, ◌&&◌, ap, arith, ℕ}
use Rattle.cell_rows.specs.{Energy.{reset_cells, set_cells}, Rows.cell}
use Rattle.line_pages.specs.declared.work.LineWork.TheVariants.{Drives}
use Rattle.pcm_cells.proofs.EnergyLemmas.{members-as, members-both}
use Rattle.pcm_cells.proofs.energies.drives.Goals as goal

pub overflow_sub-result : goal.overflow_sub-result
overflow_sub-result g c =
    let mask = c.args.mask.now in
    let want = c.args.want.now in
    let set : c.count-set.result ≡ set_cells mask want = c.count-set.ensures ∙ members-as (cell c.meet.result) (λ n. cell mask n && cell want n) (8 * (g.row.B + g.row.M)) c.meet.ensures in
    omega (arith, c.count.ensures, set, members-both (cell mask) (cell want) (8 * (g.row.B + g.row.M)))

pub returns : goal.returns
returns g c =
    let mask = c.args.mask.now in
    let want = c.args.want.now in
    let set : c.count-set.result ≡ set_cells mask want = c.count-set.ensures ∙ members-as (cell c.meet.result) (λ n. cell mask n && cell want n) (8 * (g.row.B + g.row.M)) c.meet.ensures in
    let reset : c.count.result - c.count-set.result ≡ reset_cells mask want = omega (arith, c.count.ensures, set, members-both (cell mask) (cell want) (8 * (g.row.B + g.row.M))) in
    ap (λ (n : ℕ). Drives n (c.count.result - c.count-set.result)) set ∙ ap (Drives (set_cells mask want)) reset
