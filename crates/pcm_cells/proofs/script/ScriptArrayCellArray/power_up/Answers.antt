use Rattle.std.proofs.Common.{◌∙◌, sym, ap, refl, arith, Some}
use Rattle.std.proofs.{lemmas.List.length-replicate, lemmas.Option.same_Some, lemmas.Result.on_ok_weaker}
use Rattle.cell_rows.specs.Energy.{no_energy}
use Rattle.pcm_cells.{specs.Cell.line_state, specs.Scripted.blank_scripted, proofs.EnergyLemmas.energy-none, proofs.LineLemmas.blank_lines}
use Rattle.pcm_cells.proofs.script.ScriptArrayCellArray.power_up.Goals as goal

pub returns-clause-ok : goal.returns-clause-ok
returns-clause-ok g c =
    on_ok_weaker c.renew.result
    (λ e. rw e
    (record {
      count = length-replicate c.args.lines (blank_scripted g.row.B g.row.M);
      blank = blank_lines g.row.B g.row.M c.args.lines (λ row. line_state row.line) (blank_scripted g.row.B g.row.M) refl;
      tears = refl;
      log = λ senses told. cc;
      wear = refl;
      few = omega arith;
      energy = λ l told low is. same_Some told no_energy (sym is ∙ ap Some (energy-none c.args.lines l _ refl low));
    }))
    c.renew.ensures.ok
