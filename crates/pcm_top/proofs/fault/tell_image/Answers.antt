use Rattle.std.proofs.Common.{◌≡◌, ◌++◌, [], refl}
use Rattle.program_calls.proofs.Written.{writes-as}
use Rattle.pcm_top.specs.{FaultLines.fault_line, declared.fault.Fault.TheVariants.Image}
use Rattle.pcm_top.proofs.fault.tell_image.Goals as goal

pub returns : goal.returns
unfolding fault_line
returns g c =
    let line : c.as_slice.result.now ++ (c.as_bytes-at.result.now ++ (c.as_slice-2.result.now ++ (c.image_word_of.result.now ++ (c.as_slice-3.result.now ++ [])))) ≡ fault_line (Image c.args.fault) = rw (c.as_slice.ensures, c.as_bytes-at.ensures.value, c.format.ensures.text, c.as_slice-2.ensures, c.image_word_of.ensures, c.as_slice-3.ensures) refl in
    writes-as c.write_parts.result _ _ _ line c.write_parts.ensures
