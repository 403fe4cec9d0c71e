use Rattle.std.proofs.Common.{◌≡◌, ◌+◌, ◌-◌, ◌*◌, ◌≤◌}
use Rattle.pcm_image.{specs.Giving.cursor, specs.Reading.{cells_at, times}, proofs.Loop.with_front}
use Rattle.pcm_image.proofs.parts.rows_of.Given as goal

abbrev pub invariant-loop : goal.invariant-loop
invariant-loop g l =
    (with_front l.items.items (times (l.count - l.counter) (cells_at g.row.B g.row.M) (cursor l.rest)) ≡ times l.count (cells_at g.row.B g.row.M) (cursor l.fields))
    × (l.rest.at ≤ l.fields.at + 144 * l.counter)
