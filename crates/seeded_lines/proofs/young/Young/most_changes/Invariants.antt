use Rattle.std.proofs.Common.{◌≡◌}
use Rattle.cell_rows.specs.Told.{most}
use Rattle.seeded_lines.specs.Young.{changes_in}
use Rattle.seeded_lines.proofs.young.Young.most_changes.Given as goal

-- the greatest of the cells so far
abbrev pub invariant-loop-number : goal.invariant-loop-number
invariant-loop-number g l = l.changes ≡ most (changes_in l.self) l.number
