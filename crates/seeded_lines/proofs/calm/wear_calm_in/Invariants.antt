use Rattle.std.proofs.Common.{◌≡◌, ℕ, ◌*◌, ◌≤◌}
use Rattle.cell_rows.specs.Rows.{cell}
use Rattle.seeded_lines.specs.{Follows.FollowsIn, Planes.digit, Seeded.{seeded, seeded_cell, life_of}}
use Rattle.seeded_lines.proofs.calm.wear_calm_in.Given as goal

-- the blocks so far have worn
abbrev pub invariant-loop-block : goal.invariant-loop-block
invariant-loop-block g l = record {
  order : l.from ≤ l.block;
  cells : FollowsIn (64 * l.from) (64 * l.block) (cell l.mask) (seeded l.tearing (cell l.want))
      (seeded_cell (life_of l.initial.moving l.settled))
      (seeded_cell (life_of l.moving l.settled));
  others : (n : ℕ) → 64 * l.block ≤ n → digit l.moving.spent n ≡ digit l.initial.moving.spent n;
}
