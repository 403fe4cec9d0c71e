use Rattle.std.proofs.Common.{◌≡◌, ◌++◌, ◌∷◌, [], rules}
use Rattle.right_runs.specs.Banks.{bank_of_line}
use Rattle.check_text.proofs.Judged.{one_bank_more}
use Rattle.check_text.proofs.banks.banks.Goals as goal

pub loop-line-preserved : goal.loop-line-preserved
loop-line-preserved c =
    let raw = c.args.shape.now in
    let bank : c.locate.result.bank ≡ bank_of_line raw c.args.seed c.loop-line.line = search rules in
    let pushed : c.push.new.self.items ≡ c.loop-line.banks.items ++ (c.locate.result.bank ∷ []) = search rules in
    rw pushed (one_bank_more raw c.args.seed c.loop-line.line c.loop-line.banks.items c.locate.result.bank c.loop-line.invariant bank)
