use Rattle.std.proofs.Common.{◌≡◌, ◌+◌, ◌*◌, ◌/◌, ◌<◌, length, arith}
use Rattle.pcm_io.proofs.HexPushes.{block_at, byte_at, more_fit, more_pushed, nothing, room_behind}
use Rattle.pcm_io.proofs.text.Text.push_hex.Goals as goal

pub loop-block-init : goal.loop-block-init
loop-block-init g c = nothing c.args.self.now

pub push-requires : goal.push-requires
push-requires g c =
    let bytes = c.args.bytes.now in
    let i = c.loop-block.block-index in
    let low : i < length bytes / 16 = omega (arith, c.loop-block-test.true, c.as_chunks.ensures.front_len) in
    more_fit c.args.self.now c.loop-block.self bytes _ _ g.row.B (i * 16) 16 c.told-bytes (omega (arith, low, c.told-bytes)) c.loop-block.invariant
    (block_at bytes _ (length bytes / 16) i _ c.as_chunks.ensures.front low) c.digits_of.ensures c.requires.room

pub loop-block-preserved : goal.loop-block-preserved
loop-block-preserved g c =
    let bytes = c.args.bytes.now in
    let i = c.loop-block.block-index in
    let low : i < length bytes / 16 = omega (arith, c.loop-block-test.true, c.as_chunks.ensures.front_len) in
    more_pushed c.args.self.now c.loop-block.self bytes _ _ g.row.B (i * 16) 16 c.told-bytes (omega (arith, low, c.told-bytes)) c.loop-block.invariant
    (block_at bytes _ (length bytes / 16) i _ c.as_chunks.ensures.front low) c.digits_of.ensures ((i + 1) * 16) c.push.ensures.after (omega arith)

pub push-requires-in-loop-byte : goal.push-requires-in-loop-byte
push-requires-in-loop-byte g c =
    let bytes = c.args.bytes.now in
    let m = length bytes / 16 * 16 in
    let i = c.loop-byte.byte-index in
    let low : m + i < length bytes = omega (arith, c.loop-byte-test.true, c.as_chunks.ensures.back_len) in
    more_fit c.args.self.now c.loop-byte.self bytes _ _ g.row.B (m + i) 1 c.told-bytes (omega (arith, low, c.told-bytes)) c.loop-byte.invariant
    (byte_at bytes _ m i c.as_chunks.ensures.back low) c.digits_of_byte.ensures c.requires.room

pub loop-byte-preserved : goal.loop-byte-preserved
loop-byte-preserved g c =
    let bytes = c.args.bytes.now in
    let m = length bytes / 16 * 16 in
    let i = c.loop-byte.byte-index in
    let low : m + i < length bytes = omega (arith, c.loop-byte-test.true, c.as_chunks.ensures.back_len) in
    more_pushed c.args.self.now c.loop-byte.self bytes _ _ g.row.B (m + i) 1 c.told-bytes (omega (arith, low, c.told-bytes)) c.loop-byte.invariant
    (byte_at bytes _ m i c.as_chunks.ensures.back low) c.digits_of_byte.ensures (m + (i + 1)) c.push-in-loop-byte.ensures.after (omega arith)

pub returns-clause-room : goal.returns-clause-room
returns-clause-room g c =
    let bytes = c.args.bytes.now in
    let m = length bytes / 16 * 16 in
    let end : m + c.loop-byte.byte-index ≡ g.row.B = omega (arith, c.loop-byte-test.false, c.loop-byte.auto.byte-index-end, c.as_chunks.ensures.back_len, c.told-bytes) in
    let left = room_behind c.args.self.now c.loop-byte.self bytes g.row.B (m + c.loop-byte.byte-index) c.told-bytes c.requires.room (omega (arith, end)) c.loop-byte.invariant in
    omega (arith, left, end)
