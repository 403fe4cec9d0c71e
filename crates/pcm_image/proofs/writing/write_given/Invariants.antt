use Rattle.std.proofs.Common.{◌≡◌, ◌+◌}
use Rattle.std.specs.Prelude.{slice_index_or, false}
use Rattle.pcm_io.specs.Reserved.{room_in, appended}
use Rattle.ecp_line.specs.Reading.{bytes_from}
use Rattle.pcm_image.proofs.writing.write_given.Given as goal

-- the bytes so far
abbrev pub invariant-loop-byte : goal.invariant-loop-byte
invariant-loop-byte g l =
    (l.text ≡ appended l.fn.text (bytes_from (λ i. slice_index_or l.fn.given i false) 0 l.byte))
    × (room_in l.text + l.byte ≡ room_in l.fn.text)
