use Rattle.std.proofs.Common.{◌≡◌, ◌+◌, ◌*◌, ◌/◌, length, take}
use Rattle.hex.specs.Hex.{encode_lower}
use Rattle.pcm_io.specs.Reserved.{appended}
use Rattle.pcm_io.proofs.text.Text.push_hex.Given as goal

-- the digits of the blocks so far stand behind what was there
abbrev pub invariant-loop-block : goal.invariant-loop-block
invariant-loop-block g l =
    l.self ≡ appended l.fn.self (encode_lower (take (l.block-index * 16) l.fn.bytes))

-- those of all blocks and of the bytes so far
abbrev pub invariant-loop-byte : goal.invariant-loop-byte
invariant-loop-byte g l =
    l.self ≡ appended l.fn.self (encode_lower (take (length l.fn.bytes / 16 * 16 + l.byte-index) l.fn.bytes))
