use Rattle.std.proofs.Common.{◌≡◌, ℕ, ◌*◌, ◌<◌, ◌≤◌, true}
use Rattle.cell_rows.specs.Rows.{cell}
use Rattle.seeded_lines.specs.Planes.{digit}
use Rattle.seeded_lines.proofs.calm.has_room_in.Given as goal

-- where `full` is still 0, no masked cell of the blocks so far has the number 7
abbrev pub invariant-loop-block : goal.invariant-loop-block
invariant-loop-block g l = l.full ≡ 0 → (n : ℕ) → 64 * l.from ≤ n → n < 64 * l.block → cell l.mask n ≡ true → digit l.spent n < 7
