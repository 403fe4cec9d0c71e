use Rattle.check_judging.proofs.Steps.{settle_law, step_law}
use Rattle.check_judging.proofs.steps_tell.Goals as goal

pub returns : goal.returns
returns c = record { settle = settle_law; step = step_law }
