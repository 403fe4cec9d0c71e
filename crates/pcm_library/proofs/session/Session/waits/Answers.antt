use Rattle.std.proofs.Common.{ap, arith}
use Rattle.module_shape.specs.declared.raw.RawShape.{RawShape}
use Rattle.pcm_library.proofs.session.Session.waits.Goals as goal

pub look_at-requires : goal.look_at-requires
look_at-requires g c =
    (omega arith, (c.self.invariant.layout, omega (arith, c.if-bank-banks.false, c.banks.ensures.number, ap (λ (r : RawShape). r.banks) c.shape.ensures.shape)))
