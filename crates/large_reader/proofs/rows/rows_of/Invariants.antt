use Rattle.std.proofs.Common.{◌-◌}
use Rattle.pcm_image.specs.Giving.{cursor}
use Rattle.large_reader.proofs.Lines.{IsRead}
use Rattle.large_reader.proofs.rows.rows_of.Given as goal

abbrev pub invariant-loop-rows : goal.invariant-loop-rows
invariant-loop-rows g l = IsRead {B = g.row.B} {M = g.row.M} l.count (cursor l.fields) (cursor l.rest) l.least l.rows.items

abbrev pub decreases-loop-rows : goal.decreases-loop-rows
decreases-loop-rows g l = l.count - l.least
