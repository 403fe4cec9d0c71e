use Rattle.std.proofs.Common.{◌≡◌, ◌+◌, ◌-◌, ◌*◌, ◌≤◌}
use Rattle.std.specs.{Int.w32, Prelude.nat_lt}
use Rattle.pcm_image.{specs.Giving.cursor, specs.Reading.{number_at, times}, proofs.Loop.with_front}
use Rattle.pcm_image.specs.declared.ImageKind.TheVariants as kind
use Rattle.pcm_image.proofs.parts.slots_of.Given as goal

abbrev pub invariant-loop : goal.invariant-loop
invariant-loop l =
    (with_front l.items.items (times (l.used - l.counter) (number_at w32 kind.Bank (λ n. nat_lt n l.slots)) (cursor l.rest)) ≡ times l.used (number_at w32 kind.Bank (λ n. nat_lt n l.slots)) (cursor l.fields))
    × (l.rest.at ≤ l.fields.at + 4 * l.counter)
