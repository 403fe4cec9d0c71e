use Rattle.std.proofs.Common.{ap}
use Rattle.seeded_lines.proofs.SizeLemmas.{calm_fits, digits_fit, line_fits, moving_fits, row_fits, settled_fits}
use Rattle.seeded_lines.proofs.seeded.SeededLine.wear_cells.Goals as goal

pub is_calm-requires : goal.is_calm-requires
is_calm-requires g c = (calm_fits c.requires.shape, (c.requires.whole, c.requires.shape))

pub has_room-requires : goal.has_room-requires
has_room-requires g c = (digits_fit c.requires.shape, (row_fits c.requires.shape, (c.requires.whole, c.requires.shape)))

pub wear_calm-requires : goal.wear_calm-requires
wear_calm-requires g c =
    let shape = c.requires.shape in
    (moving_fits shape, (settled_fits shape, (row_fits shape, (shape, (c.requires.whole, (λ n low. c.self.invariant.1 n low (c.is_calm.ensures c.if-is_calm.true n low), c.has_room.ensures c.if-has_room.true))))))

pub invariant_of-self : goal.invariant_of-self
invariant_of-self g c = c.self.invariant

pub wear_levelled-requires : goal.wear_levelled-requires
wear_levelled-requires g c =
    let shape = c.requires.shape in
    (line_fits shape, (row_fits shape, (shape, c.requires.whole)))

pub returns-then-has_room-clause-cells : goal.returns-then-has_room-clause-cells
returns-then-has_room-clause-cells g c = rw (← c.self.view_is) c.wear_calm.ensures

pub returns-then-has_room-clause-pulses : goal.returns-then-has_room-clause-pulses
returns-then-has_room-clause-pulses g c = ap (λ s. s.line.pulses) c.self.view_is

pub returns-else-is_calm-clause-cells : goal.returns-else-is_calm-clause-cells
returns-else-is_calm-clause-cells g c = c.wear_levelled.ensures.cells

pub returns-else-is_calm-clause-pulses : goal.returns-else-is_calm-clause-pulses
returns-else-is_calm-clause-pulses g c = c.wear_levelled.ensures.pulses
