use Rattle.start_gap.proofs.Turning.{move-stands, place_by-moved}
use Rattle.start_gap.proofs.Registers.next_move.Goals as goal

pub returns-clause-after : goal.returns-clause-after
returns-clause-after c = rw (← c.self.view_is, c.place_below.ensures) (λ t stands. move-stands _ t c.self.invariant stands)

pub returns-clause-stands : goal.returns-clause-stands
returns-clause-stands c = rw (← c.self.view_is, c.place_below.ensures) (place_by-moved _ c.self.invariant)
