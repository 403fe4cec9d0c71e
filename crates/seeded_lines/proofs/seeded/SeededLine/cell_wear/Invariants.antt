use Rattle.std.proofs.Common.{◌≡◌, ◌-◌, slice_index}
use Rattle.cell_rows.specs.Told.{most}
use Rattle.seeded_lines.proofs.seeded.SeededLine.cell_wear.Given as goal

-- the greatest of the cells so far
abbrev pub invariant-loop-number : goal.invariant-loop-number
invariant-loop-number g l = l.changes ≡ most (λ n. slice_index l.drawn.left n - slice_index l.self.left n) l.number
