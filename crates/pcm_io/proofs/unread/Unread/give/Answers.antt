use Rattle.std.proofs.Common.{arith}
use Rattle.std.proofs.lemmas.Grind.{common_steps}
use Rattle.pcm_io.proofs.ByteLemmas.{front_moved}
use Rattle.pcm_io.proofs.unread.Unread.give.Goals as goal

pub returns-clause-next : goal.returns-clause-next
returns-clause-next c = rw (← c.self.view_is)
    (front_moved c.self.inside.bytes.items c.copy_from_slice.new.self _ c.self.inside.taken c.min-n.result (grind (arith, common_steps)) (grind (arith, common_steps)))
