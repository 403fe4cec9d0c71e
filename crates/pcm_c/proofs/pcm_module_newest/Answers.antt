use Rattle.std.proofs.Common.{◌∙◌}
use Rattle.pcm_c.proofs.Handles.{same-handle}
use Rattle.pcm_c.proofs.pcm_module_newest.Goals as goal

pub returns-clause-rest : goal.returns-clause-rest
returns-clause-rest c = same-handle c.pcm.inside.handle c.held.result.now c.held.ensures.value ∙ c.pcm.view_is
