use Rattle.std.proofs.Common.{◌≡◌, ◌+◌, ◌-◌, ◌*◌, ◌≤◌}
use Rattle.pcm_image.{specs.Giving.{cursor, head_view}, specs.Reading.{region_at, times}, proofs.Loop.with_front}
use Rattle.pcm_image.proofs.parts.regions_of.Given as goal

abbrev pub invariant-loop : goal.invariant-loop
invariant-loop l =
    (with_front l.items.items (times (l.head.regions - l.counter) (region_at l.format (head_view l.head)) (cursor l.rest)) ≡ times l.head.regions (region_at l.format (head_view l.head)) (cursor l.fields))
    × (l.rest.at ≤ l.fields.at + 10 * l.counter)
