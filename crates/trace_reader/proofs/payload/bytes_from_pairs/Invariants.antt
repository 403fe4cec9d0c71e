use Rattle.std.proofs.Common.{◌≡◌, length}
use Rattle.trace_reader.proofs.Pairs.{ReadsPairs}
use Rattle.trace_reader.proofs.payload.bytes_from_pairs.Given as goal

-- the pairs so far were read
abbrev pub invariant-pairs : goal.invariant-pairs
invariant-pairs g l = (length l.bytes ≡ g.row.B) × (length l.given ≡ g.row.B) × ReadsPairs l.text l.i l.bytes l.given
