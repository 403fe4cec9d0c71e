use Rattle.std.proofs.Common.{◌≡◌, ap}
use Rattle.bank_shape.specs.Shape.{lines_in}
use Rattle.module_shape.{specs.Addresses.{array_lines_of, module_of}, proofs.Bounds.banks_apart}
use Rattle.module_shape.proofs.shape.Shape.bank_shape.Goals as goal

pub returns-clause-within : goal.returns-clause-within
returns-clause-within c =
    let shape = c.args.self.now in
    let raw = c.self.inside.raw in
    let lines : lines_in (module_of raw).bank ≡ array_lines_of (module_of shape)
    = ap (λ r. array_lines_of (module_of r)) c.self.view_is in
    let apart = banks_apart c.args.bank shape.banks (array_lines_of (module_of shape)) c.requires in
    rw (c.bank_lines.ensures.number, lines) apart
