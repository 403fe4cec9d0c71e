use Rattle.std.proofs.Common.{sym, subst}
use Rattle.cell_rows.specs.Device.{TornStep}
use Rattle.pcm_cells.{specs.Cell.line_state, specs.Scripted.{scripted_bounds, scripted_line, ScriptedArray}, proofs.ScriptedLemmas.scripted_torn_step}
use Rattle.pcm_cells.proofs.script.ScriptArrayCellArray.tear.Goals as goal

pub returns-clause-step : goal.returns-clause-step
returns-clause-step g c =
    let turn = c.turn.ensures.turn in
    let step = scripted_torn_step c.args.mask.now c.args.want.now c.args.self.now.script c.args.line
    (scripted_line c.args.self.now c.args.line) (scripted_line c.turn.new.self c.args.line) turn.cells c.turn.ensures.few turn.pulses in
    subst
    (λ (s : ScriptedArray g.row.B g.row.M). TornStep scripted_bounds c.args.mask.now (line_state (scripted_line c.args.self.now c.args.line).line) (line_state (scripted_line s c.args.line).line))
    (sym c.self.view_is) step
