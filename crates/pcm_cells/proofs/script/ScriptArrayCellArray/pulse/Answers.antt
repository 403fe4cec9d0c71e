use Rattle.pcm_cells.{specs.Scripted.scripted_line, proofs.ScriptedLemmas.scripted_device_step}
use Rattle.pcm_cells.proofs.script.ScriptArrayCellArray.pulse.Goals as goal

pub returns-clause-step : goal.returns-clause-step
returns-clause-step g c =
    let turn = c.turn.ensures.turn in
    scripted_device_step c.args.mask.now c.args.want.now c.args.self.now.script c.args.line
    (scripted_line c.args.self.now c.args.line) (scripted_line c.turn.new.self c.args.line) turn.cells c.turn.ensures.few turn.pulses
