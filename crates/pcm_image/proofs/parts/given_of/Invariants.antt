use Rattle.std.proofs.Common.{◌≡◌, ◌<◌, ℕ, false, get_or, length}
use Rattle.cell_rows.specs.Rows.{bit_of}
use Rattle.pcm_image.proofs.parts.given_of.Given as goal

-- the bits so far
abbrev pub invariant-loop-i : goal.invariant-loop-i
invariant-loop-i g l = (length l.given ≡ g.row.B) × ((k : ℕ) → k < l.i → get_or l.given k false ≡ bit_of l.bits k)
