use Rattle.std.proofs.Common.{◌∙◌, sym}
use Rattle.seeded_lines.proofs.PlaneLemmas.{digit-is, number_by_digits}
use Rattle.seeded_lines.proofs.digits.Digits.get.Goals as goal

pub returns : goal.returns
returns g c =
    rw (c.get-low.ensures, c.get-middle.ensures, c.get-high.ensures)
    (number_by_digits _ _ _ ∙ sym (digit-is c.args.self.now c.args.number))
