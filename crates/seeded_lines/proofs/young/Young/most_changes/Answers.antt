use Rattle.std.proofs.Common.{◌≡◌, ◌∙◌, sym, rules, max}
use Rattle.cell_rows.proofs.Most.{most-zero, most-more}
use Rattle.seeded_lines.proofs.young.Young.most_changes.Goals as goal

pub loop-number-init : goal.loop-number-init
loop-number-init g c = sym (most-zero _)

pub loop-number-preserved : goal.loop-number-preserved
loop-number-preserved g c =
    let greatest : c.max-changes.result ≡ max c.loop-number.changes c.changes.result = search rules in
    greatest ∙ rw (c.loop-number.invariant, c.changes.ensures) (sym (most-more _ c.loop-number.number))
