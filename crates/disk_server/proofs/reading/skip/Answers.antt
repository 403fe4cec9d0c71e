use Rattle.std.proofs.Common.{◌≡◌, ◌<◌, ◌++◌, length, drop, ◌∙◌, arith}
use Rattle.std.proofs.{lemmas.List.{length-append, length-drop, length-take-le}, lemmas.Result.err_from_is_err_and}
use Rattle.pcm_io.proofs.ByteLemmas.{Takes-Takes}
use Rattle.disk_server.proofs.Filling.{amid_before, errs}
use Rattle.disk_server.proofs.reading.skip.Goals as goal

pub returns-in_err-fill_on-clause-short : goal.returns-in_err-fill_on-clause-short
returns-in_err-fill_on-clause-short g c =
    let short = c.in_err-fill_on.ensures.short in
    let before = c.loop-done.invariant.taken in
    let some : length short.0 < c.min-next.result = omega (arith, short.1, length-take-le c.min-next.result c.loop-done.piece (omega arith)) in
    errs c.from_residual.result _ c.in_err-fill_on.field-0.0 (err_from_is_err_and c.from_residual.result c.from_residual.ensures.1) (
      before.0 ++ short.0,
      omega (arith, length-append before.0 short.0, before.1, some),
      Takes-Takes _ _ _ _ _ _ before.0 short.0 before.2 short.2,
      amid_before c.in_err-fill_on.field-0.0 _ _ (g.S.Source.faults c.loop-done.source) _ c.loop-done.invariant.faults short.3,
    )

pub loop-done-preserved : goal.loop-done-preserved
loop-done-preserved g c =
    let before = c.loop-done.invariant.taken in
    let more = c.fill_on.new.buffer in
    let size : length more ≡ c.min-next.result = c.fill_on.auto.buffer ∙ length-take-le c.min-next.result c.loop-done.piece (omega arith) in
    record {
      within = omega arith;
      size = omega (arith, length-append more (drop c.min-next.result c.loop-done.piece), length-drop c.min-next.result c.loop-done.piece, size);
      taken = (before.0 ++ more, omega (arith, length-append before.0 more, before.1, size), Takes-Takes _ _ _ _ _ _ before.0 more before.2 c.in_ok-fill_on.ensures.full);
      faults = omega arith;
    }
