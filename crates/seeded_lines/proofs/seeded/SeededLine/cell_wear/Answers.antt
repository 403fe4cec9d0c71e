use Rattle.std.proofs.Common.{◌≡◌, ◌+◌, ◌*◌, ◌∙◌, sym, ap, rules, max, arith}
use Rattle.cell_rows.{specs.Told.most, proofs.Most.{most-zero, most-more}}
use Rattle.seeded_lines.proofs.SizeLemmas.{line_fits, row_fits}
use Rattle.seeded_lines.proofs.seeded.SeededLine.cell_wear.Goals as goal
use borrow.Author.Count.{falls}

pub loop-number-init : goal.loop-number-init
loop-number-init g c = sym (most-zero _)

pub loop-number-preserved : goal.loop-number-preserved
loop-number-preserved g c =
    let greatest : c.max-changes.result ≡ max c.loop-number.changes c.saturating_sub.result = search rules in
    greatest
    ∙ rw (c.loop-number.invariant, c.saturating_sub.ensures, c.left_at.ensures, c.left_at-left.ensures) (sym (most-more _ c.loop-number.number))

pub returns-clause-changes : goal.returns-clause-changes
returns-clause-changes g c =
    let all : c.loop-number.number ≡ 8 * (g.row.B + g.row.M) = omega arith in
    c.loop-number.invariant ∙ ap (most _) all

pub overflow_add-number-end : goal.overflow_add-number-end
overflow_add-number-end g c = omega arith

pub overflow_cast-number-end : goal.overflow_cast-number-end
overflow_cast-number-end g c = omega arith

pub overflow_mul-number-end : goal.overflow_mul-number-end
overflow_mul-number-end g c = omega arith

pub left_at-left-requires : goal.left_at-left-requires
left_at-left-requires g c = (line_fits c.requires, c.loop-number-test.true)

pub left_at-requires : goal.left_at-requires
left_at-requires g c = (line_fits c.requires, c.loop-number-test.true)

pub saturating_sub-requires : goal.saturating_sub-requires
saturating_sub-requires g c = tt

pub count-requires : goal.count-requires
count-requires g c = (row_fits c.requires, c.requires)

pub returns-clause-stuck : goal.returns-clause-stuck
returns-clause-stuck g c = rw (← c.self.view_is) c.count.ensures

pub loop-number-smaller : goal.loop-number-smaller
loop-number-smaller g c = falls _ c.loop-number.number c.loop-number-test.true
