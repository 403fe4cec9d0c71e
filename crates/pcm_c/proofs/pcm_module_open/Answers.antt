use Rattle.std.proofs.Common.{◌≡◌, ◌∙◌, ℕ, false, ap, subst, sym}
use Rattle.std.specs.Prelude.{is_some}
use Rattle.pcm_c.{specs.Opening.OpenToldAt, specs.declared.handle.Handle.Handle, proofs.Opening.told-refused}
use Rattle.pcm_c.proofs.pcm_module_open.Goals as goal

pub returns-in-Err-clause-answer : goal.returns-in-Err-clause-answer
returns-in-Err-clause-answer c =
    let was = c.args.pcm.now.value in
    let closed : false ≡ is_some was = sym c.if-pcm.false ∙ c.pcm.invariant ∙ ap (λ (h : Handle). is_some h.value) c.pcm.view_is in
    subst (λ (number : ℕ). OpenToldAt c.args.options.now was number) (sym c.number-in-Err.ensures.is) (told-refused c.args.options.now was c.in-Err.refused closed c.in-Err.ensures.why)
