use Rattle.std.proofs.Common.{◌+◌, ◌≤◌, sym, subst}
use Rattle.module_shape.proofs.Bounds.{array_lines_few}
use Rattle.module_shape.proofs.shape.Shape.bank_lines.Goals as goal

pub returns-clause-few : goal.returns-clause-few
returns-clause-few c =
    let inv = c.self.invariant in
    let controls : c.control_lines.result ≤ c.self.inside.raw.regions + c.self.inside.raw.spares + 1
    = subst (λ r. c.control_lines.result ≤ r.regions + r.spares + 1) (sym c.self.view_is) c.control_lines.ensures.few in
    rw (← c.self.view_is) (array_lines_few _ _ _ _ _ inv.few_banks inv.few_regions inv.few_spares inv.few_in_all controls)
