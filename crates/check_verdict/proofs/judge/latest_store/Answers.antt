use Rattle.std.proofs.Common.{refl}
use Rattle.check_verdict.proofs.judge.latest_store.Goals as goal

pub returns : goal.returns
returns c =
    rw (
      c.longest.ensures.value,
      c.number_between-stored.ensures.value,
      c.number_between-read.ensures.value,
      c.up_to.ensures.number,
      c.deref.ensures.value,
      c.deref-2.ensures.value,
      c.key-from.ensures,
      c.key-to.ensures,
    ) refl
