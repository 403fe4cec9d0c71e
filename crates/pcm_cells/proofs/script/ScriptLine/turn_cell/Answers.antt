use Rattle.std.proofs.Common.{arith}
use Rattle.pcm_cells.proofs.script.ScriptLine.turn_cell.Goals as goal

pub index-requires : goal.index-requires
index-requires g c = grind arith

pub saturating_add-turn-requires : goal.saturating_add-turn-requires
saturating_add-turn-requires g c = grind arith

pub index_mut-requires : goal.index_mut-requires
index_mut-requires g c = grind arith

pub cell-old-requires : goal.cell-old-requires
cell-old-requires g c = grind arith

pub act_at-act-requires : goal.act_at-act-requires
act_at-act-requires g c = grind arith

pub get-requires : goal.get-requires
get-requires g c = grind arith

pub acted-new-requires : goal.acted-new-requires
acted-new-requires g c = grind arith

pub set_cell-requires : goal.set_cell-requires
set_cell-requires g c = grind arith

pub invariant_of-self : goal.invariant_of-self
invariant_of-self g c = grind arith

pub invariant_of-self-else-not-old : goal.invariant_of-self-else-not-old
invariant_of-self-else-not-old g c = grind arith

pub returns-then-not-old-clause-pulses : goal.returns-then-not-old-clause-pulses
returns-then-not-old-clause-pulses g c = grind arith

pub returns-else-not-old-clause-pulses : goal.returns-else-not-old-clause-pulses
returns-else-not-old-clause-pulses g c = grind arith
