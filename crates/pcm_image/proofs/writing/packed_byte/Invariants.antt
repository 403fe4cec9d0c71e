use Rattle.std.proofs.Common.{◌≡◌, ◌*◌, false}
use Rattle.std.specs.Prelude.{slice_index_or}
use Rattle.ecp_line.specs.Layout.{number}
use Rattle.pcm_image.proofs.writing.packed_byte.Given as goal

-- the bits so far
abbrev pub invariant-loop-i : goal.invariant-loop-i
invariant-loop-i l = l.bits ≡ number (λ i. slice_index_or l.given i false) (8 * l.byte) l.i
