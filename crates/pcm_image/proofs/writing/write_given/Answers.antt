use Rattle.std.proofs.Common.{ℕ, Bool, ◌≡◌, ◌∙◌, ◌+◌, ◌*◌, ◌++◌, ◌∷◌, [], false, ap, sym, arith}
use Rattle.std.specs.Prelude.{slice_index_or}
use Rattle.pcm_io.specs.Reserved.{appended}
use Rattle.ecp_line.specs.{Layout.number, Reading.bytes_from}
use Rattle.pcm_image.proofs.Steps.{appended_twice, bytes_more}
use Rattle.pcm_image.proofs.writing.write_given.Goals as goal

pub loop-byte-preserved : goal.loop-byte-preserved
loop-byte-preserved g c =
    let f : ℕ → Bool = λ i. slice_index_or c.args.given.now i false in
    let at : 8 * c.loop-byte.byte ≡ 8 * (0 + c.loop-byte.byte) = omega arith in (
      appended_twice c.args.text.now c.loop-byte.text c.push.new.self (bytes_from f 0 c.loop-byte.byte) (c.packed_byte.result ∷ []) c.loop-byte.invariant.0 c.push.ensures.after
          ∙ ap (λ bs. appended c.args.text.now bs) (ap (λ b. bytes_from f 0 c.loop-byte.byte ++ b ∷ []) (c.packed_byte.ensures ∙ ap (λ k. number f k 8) at) ∙ sym (bytes_more f 0 c.loop-byte.byte)),
      omega (arith, c.loop-byte.invariant.1, c.push.ensures.room),
    )
