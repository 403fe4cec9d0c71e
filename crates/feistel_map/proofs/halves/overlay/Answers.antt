use Rattle.std.proofs.Common.{bit_xor, arith}
use Rattle.std.proofs.lemmas.Nat.{xor_lt}
use Rattle.feistel_map.proofs.Inverse.{square_fits}
use Rattle.feistel_map.proofs.halves.overlay.Goals as goal

pub overflow_mul-result : goal.overflow_mul-result
overflow_mul-result c =
    omega (
      arith,
      square_fits (bit_xor c.args.other c.from.result)
          (xor_lt 16 c.args.other c.from.result c.requires.other_fits (omega (arith, c.from.ensures, c.ranges.key))),
    )
