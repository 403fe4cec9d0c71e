use Rattle.std.proofs.Common.{◌∙◌, refl, sym, arith}
use Rattle.result_check.proofs.Taking.{cut_taken}
use Rattle.result_check.proofs.kept.KeptRows.take_cut.Goals as goal

pub returns-in-None-clause-passes : goal.returns-in-None-clause-passes
returns-in-None-clause-passes g c = λ laws banks keys before after coming cuts h.
    cut_taken laws banks keys before c.args.tick c.args.outcome.now after c.args.self.now.banks.items _ c.args.self.now.joined _ c.args.self.now.lines.items _ c.args.room coming cuts _
    h (omega (arith, c.requires.arrived)) (sym c.in-None.is ∙ c.judge_cut-broken.ensures) (λ e. c.cut_all.ensures.facts) (λ e. refl) (λ e. refl)
