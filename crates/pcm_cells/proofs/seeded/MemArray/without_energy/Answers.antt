use Rattle.std.proofs.Common.{◌≡◌, arith, length, subst, sym}
use Rattle.std.specs.Prelude.{IfSome}
use Rattle.pcm_cells.proofs.EnduranceLemmas.{bounded_none}
use Rattle.pcm_cells.proofs.seeded.MemArray.without_energy.Goals as goal

pub invariant_of-result : goal.invariant_of-result
invariant_of-result g c = (
  c.requires.shape,
  c.requires.whole,
  record { endures = omega arith; misses = omega arith },
  bounded_none g.row.B g.row.M (record { endures = 0; misses = 7 }),
  subst (λ kept. IfSome kept (λ energies. length energies ≡ 0)) (sym c.nothing.ensures) tt,
)
