use Rattle.std.proofs.Common.{◌∙◌}
use Rattle.pcm_c.proofs.Handles.{left-handle}
use Rattle.pcm_c.proofs.pcm_module_settle_any.Goals as goal

pub returns-clause-rest : goal.returns-clause-rest
returns-clause-rest c = λ refused.
    left-handle c.pcm.inside.handle c.held.result.now c.settle_any.new.self c.held.ensures.value (c.settle_any.ensures.rest (c.number-2.ensures.other refused))
    ∙ c.pcm.view_is
