use Rattle.std.proofs.Common.{◌+◌, arith}
use Rattle.std.proofs.lemmas.Grind.{common_steps}
use Rattle.pcm_io.proofs.ByteLemmas.{Appends-take}
use Rattle.pcm_io.proofs.whole.write_all.Goals as goal

pub returns-in_default-clause-prefix : goal.returns-in_default-clause-prefix
returns-in_default-clause-prefix g c =
    let later = c.in_default.ensures.bytes in (
      c.loop-done.done + later.0,
      grind (arith, common_steps, later.1),
      Appends-take _ _ _ c.loop-done.done later.0 _ _ (grind (arith, common_steps)) c.loop-done.invariant.appended later.2,
    )

pub loop-done-preserved : goal.loop-done-preserved
loop-done-preserved g c = record {
  within = grind (arith, common_steps);
  appended = Appends-take _ _ _ c.loop-done.done c.in-Ok.n _ _ (grind (arith, common_steps)) c.loop-done.invariant.appended c.in-Ok.ensures.bytes;
  faults = omega (arith, c.in-Ok.ensures.never_falls);
}
