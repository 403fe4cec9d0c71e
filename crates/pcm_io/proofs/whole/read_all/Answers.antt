use Rattle.std.proofs.Common.{◌<◌, ◌≤◌, ◌≡◌, ◌++◌, length, take, arith, refl}
use Rattle.std.proofs.{lemmas.Grind.common_steps, lemmas.Result.err_from_is_err_and}
use Rattle.pcm_io.{specs.declared.fault.ReadAllFault.TheVariants.{NoMemory, TooLong}, proofs.ByteLemmas.Takes-read}
use Rattle.pcm_io.proofs.whole.read_all.Goals as goal

pub returns-then-limit-len-clause-err : goal.returns-then-limit-len-clause-err
returns-then-limit-len-clause-err g c = (
  c.loop-n.bytes.items ++ take c.in-Ok.n c.read.new.buf,
  Takes-read _ _ _ _ _ _ _ _ _ c.loop-n.invariant.taken c.in-Ok.ensures.bound.0 c.in-Ok.ensures.next.0 c.in-Ok.ensures.counted,
  ((λ _. grind (arith, common_steps)), (λ _. refl)),
)

pub returns-in_err-extend_from_slice-clause-err : goal.returns-in_err-extend_from_slice-clause-err
returns-in_err-extend_from_slice-clause-err g c =
    let fault = err_from_is_err_and c.from_residual.result c.from_residual.ensures.1 in
    let within : length (c.loop-n.bytes.items ++ take c.in-Ok.n c.read.new.buf) ≤ c.args.limit = grind (arith, common_steps) in
    rw (fault.1, fault.2) (
      c.loop-n.bytes.items ++ take c.in-Ok.n c.read.new.buf,
      Takes-read _ _ _ _ _ _ _ _ _ c.loop-n.invariant.taken c.in-Ok.ensures.bound.0 c.in-Ok.ensures.next.0 c.in-Ok.ensures.counted,
      ((λ (e : NoMemory ≡ TooLong). cc), (λ (past : c.args.limit < length (c.loop-n.bytes.items ++ take c.in-Ok.n c.read.new.buf)). absurd (omega arith))),
    )
