use Rattle.pcm_io.proofs.ByteLemmas.{AppendsPrefix-longer}
use Rattle.disk_server.proofs.Moving.{on_err, then_err}
use Rattle.disk_server.proofs.choosing.say_all.Goals as goal

pub returns-in_err-say-clause-prefix : goal.returns-in_err-say-clause-prefix
returns-in_err-say-clause-prefix g c = on_err c.from_residual.result _ (AppendsPrefix-longer _ _ _ _ c.in_err-say.ensures.prefix)

pub returns-clause-prefix : goal.returns-clause-prefix
returns-clause-prefix g c = then_err _ _ _ _ _ c.in_ok-say.ensures.ok c.say-2.result c.say-2.ensures.prefix
