use Rattle.std.proofs.Common.{◌%◌, ◌∙◌, ap, sym}
use Rattle.module_shape.specs.declared.raw.RawShape.{RawShape}
use Rattle.disk_lines.proofs.Placing.{place-bank}
use Rattle.disk_lines.proofs.places.Places.bank.Goals as goal

pub returns-clause-bank : goal.returns-clause-bank
returns-clause-bank c =
    rw (← c.self.view_is) (ap (λ (raw : RawShape). c.args.line % raw.banks) c.raw.ensures.same
    ∙ sym (place-bank c.self.inside.shape c.self.inside.seed c.self.invariant.in_range c.args.line (rw (← c.self.view_is) at c.requires)))
