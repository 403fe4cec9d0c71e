use Rattle.std.proofs.Common.{◌≡◌, drop}
use Rattle.masked_bytes.specs.Masked.{zero_elsewhere}
use Rattle.pcm_image.proofs.parts.zeros.Given as goal

-- the answer is that of what is left
abbrev pub invariant-loop-i : goal.invariant-loop-i
invariant-loop-i l = zero_elsewhere (drop l.i l.bytes) (drop l.i l.given) ≡ zero_elsewhere l.bytes l.given
