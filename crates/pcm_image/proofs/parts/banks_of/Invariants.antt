use Rattle.std.proofs.Common.{◌≡◌, ◌+◌, ◌-◌, ◌*◌, ◌≤◌}
use Rattle.pcm_image.{specs.Giving.{cursor, head_view}, specs.Reading.{bank_at, times}, proofs.Loop.with_front}
use Rattle.pcm_image.proofs.parts.banks_of.Given as goal

abbrev pub invariant-loop : goal.invariant-loop
invariant-loop g l =
    (with_front l.items.items (times (l.head.banks - l.counter) (bank_at l.format g.row.B (head_view l.head)) (cursor l.rest)) ≡ times l.head.banks (bank_at l.format g.row.B (head_view l.head)) (cursor l.fields))
    × (l.rest.at ≤ l.fields.at + 42629 * l.counter)
