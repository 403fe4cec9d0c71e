use Rattle.std.proofs.Common.{◌+◌, ◌-◌, ◌*◌}
use Rattle.seeded_lines.{specs.Planes.{bit_in, number_of}, proofs.CountLemmas.Lessens}
use Rattle.seeded_lines.proofs.levels.level.Given as goal

-- the rows so far are done, and the others are as they were
abbrev pub invariant-loop-pair : goal.invariant-loop-pair
invariant-loop-pair l =
    Lessens (λ n. number_of (bit_in l.low (n - 64 * l.block)) (bit_in l.middle (n - 64 * l.block)) (bit_in l.high (n - 64 * l.block)))
    (64 * l.block) (64 * l.block + 16 * l.pair) l.fn.rows l.rows
