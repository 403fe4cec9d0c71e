use Rattle.std.proofs.Common.{◌*◌, ◌∙◌, ap, arith}
use Rattle.pcm_cells.specs.Scripted.{scripted, scripted_cell}
use Rattle.pcm_cells.proofs.script.ScriptLine.turn.Goals as goal
use Rattle.seeded_lines.proofs.FollowsLemmas.{followed_all}
use Rattle.cell_rows.specs.Rows.{cell}

pub returns-clause-cells : goal.returns-clause-cells
returns-clause-cells g c n =
    let all = followed_all (8 * c.loop-group.group) (cell c.args.mask.now) (scripted c.args.script.now c.args.line c.args.tearing (cell c.args.want.now))
    (scripted_cell c.args.self.now) (scripted_cell c.loop-group.self) c.loop-group.invariant.cells
    (λ k h. c.has_end.ensures k (omega arith)) n in
    rw c.count_pulse.ensures (ap (λ s. scripted_cell s n) c.self.view_is ∙ all)

pub overflow_add-group-end : goal.overflow_add-group-end
overflow_add-group-end g c = grind arith

pub loop-group-init : goal.loop-group-init
loop-group-init g c = grind arith

pub is_clear-requires : goal.is_clear-requires
is_clear-requires g c = grind arith

pub turn_group-requires : goal.turn_group-requires
turn_group-requires g c = grind arith

pub loop-group-smaller : goal.loop-group-smaller
loop-group-smaller g c = grind arith

pub loop-group-preserved : goal.loop-group-preserved
loop-group-preserved g c = grind arith

pub count_pulse-requires : goal.count_pulse-requires
count_pulse-requires g c = grind arith

pub invariant_of-self : goal.invariant_of-self
invariant_of-self g c = grind arith

pub returns-clause-pulses : goal.returns-clause-pulses
returns-clause-pulses g c = grind arith

pub returns-clause-few : goal.returns-clause-few
returns-clause-few g c = grind arith
