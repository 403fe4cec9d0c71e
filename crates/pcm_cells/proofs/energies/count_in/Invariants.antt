use Rattle.std.proofs.Common.{◌≡◌, ◌+◌, ◌*◌, ◌≤◌, ◌&&◌}
use Rattle.cell_rows.specs.Rows.{cell, members}
use Rattle.pcm_cells.proofs.energies.count_in.Given as goal

-- the cells of the blocks so far are counted
abbrev pub invariant-loop-block : goal.invariant-loop-block
invariant-loop-block g l = record {
  order : l.from ≤ l.block;
  all : members (cell l.mask) (64 * l.block) ≡ members (cell l.mask) (64 * l.from) + l.all;
  set : members (λ n. cell l.mask n && cell l.want n) (64 * l.block) ≡ members (λ n. cell l.mask n && cell l.want n) (64 * l.from) + l.set;
}
