use Rattle.std.proofs.Common.{◌≡◌, ◌*◌, ◌≤◌}
use Rattle.cell_rows.specs.Rows.{cell}
use Rattle.seeded_lines.specs.{Follows.FollowsIn, Young.{aging, young_cell}}
use Rattle.seeded_lines.proofs.aging.wear_in.Given as goal

-- the blocks so far have aged
abbrev pub invariant-loop-block : goal.invariant-loop-block
invariant-loop-block g l = record {
  order : l.from ≤ l.block;
  cells : FollowsIn (64 * l.from) (64 * l.block) (cell l.mask) (aging l.tearing (cell l.want)) (young_cell (g.P.YoungPage.young l.initial.page)) (young_cell (g.P.YoungPage.young l.page));
  pulses : (g.P.YoungPage.young l.page).pulses ≡ (g.P.YoungPage.young l.initial.page).pulses;
}
