use Rattle.stream_top.proofs.Keeping.{keeps}
use Rattle.stream_top.proofs.program.stream_run.Goals as goal

pub returns-clause-promises : goal.returns-clause-promises
returns-clause-promises g c = keeps _ _ c.say.result c.work-result.result.0 c.work-result.ensures.ends c.say.ensures

pub returns-clause-waits : goal.returns-clause-waits
returns-clause-waits g c = c.work-result.ensures.waits
