use Rattle.std.proofs.Common.{◌≡◌, ap, subst, sym}
use Rattle.std.specs.Prelude.{IfErr, Option}
use Rattle.std.proofs.lemmas.Result.{IfOk-weaker}
use Rattle.pcm_c.specs.{Opening.open_refusal, declared.options.BadOption.BadOption}
use Rattle.pcm_c.proofs.Opening.{opens}
use Rattle.pcm_c.proofs.opened.Goals as goal

pub returns-in-Ok-clause-held : goal.returns-in-Ok-clause-held
returns-in-Ok-clause-held c = IfOk-weaker c.boxed.result _ _ (λ held begins. opens c.args.options.now c.in-Ok.chosen held.value c.in-Ok.ensures.right begins) c.boxed.ensures.held

pub returns-in-Ok-clause-right : goal.returns-in-Ok-clause-right
returns-in-Ok-clause-right c = IfOk-weaker c.boxed.result _ _ (λ held begins. sym c.in-Ok.ensures.exact) c.boxed.ensures.held

pub returns-in-Ok-clause-why : goal.returns-in-Ok-clause-why
returns-in-Ok-clause-why c = subst (λ (option : Option BadOption). IfErr c.boxed.result (λ status. status ≡ open_refusal option)) c.in-Ok.ensures.exact c.boxed.ensures.refused

pub returns-in-Err-clause-why : goal.returns-in-Err-clause-why
returns-in-Err-clause-why c = ap open_refusal c.in-Err.ensures.exact
