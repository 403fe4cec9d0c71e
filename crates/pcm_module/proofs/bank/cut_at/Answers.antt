use Rattle.std.proofs.Common.{[], ◌∷◌, ◌++◌, refl, sym, ◌∙◌, arith}
use Rattle.row_rules.specs.declared.Asks.TheVariants.{Cuts}
use Rattle.bank_model.specs.Timing.{TimedEvent}
use Rattle.clock_laws.specs.Cutting.{cut}
use Rattle.module_laws.specs.Asking.{Asked}
use Rattle.bank_timing.proofs.{Sizes.timed_fits, Telling.{at-most, behind, extends-told}}
use Rattle.pcm_module.proofs.Arriving.{step_on}
use Rattle.pcm_module.proofs.bank.cut_at.Goals as goal

pub power_cut-requires : goal.power_cut-requires
power_cut-requires g c =
    let run = c.advance.ensures.extends c.requires.may.led.0 c.requires.may.led.1 in (
      timed_fits g.row.B g.row.M g.row.E c.requires.may.layout,
      record {
        running = c.advance.ensures.ran.drained ∙ c.requires.may.going;
        led = (run.0 ++ c.requires.may.led.0, run.1.leads);
        unset = c.advance.ensures.ran.unset;
      },
    )

pub returns-clause-at : goal.returns-clause-at
returns-clause-at g c = record {
  now = c.power_cut.ensures.ran.now ∙ c.advance.ensures.ran.now;
  going = c.power_cut.ensures.ran.drained ∙ c.advance.ensures.ran.drained ∙ c.requires.may.going;
  below = omega (arith, c.power_cut.ensures.ran.rows, c.advance.ensures.ran.rows);
  open_rows = c.power_cut.ensures.ran.unset;
}

pub returns-clause-step : goal.returns-clause-step
returns-clause-step g c row xs leads =
    let run = c.advance.ensures.extends xs leads in
    let before = g.A.CellArray.state c.args.array.now in
    let between = g.A.CellArray.state c.advance.new.array in
    let after = g.A.CellArray.state c.power_cut.new.array in
    let next = c.power_cut.ensures.extends (run.0 ++ xs) run.1.leads in
    let event : TimedEvent g.row.B g.row.M = cut (run.0 ++ xs) c.advance.new.self after in
    let a : Asked g.row.B = record { row = row; tick = c.args.tick; asks = Cuts } in (
      event ∷ run.0,
      step_on xs run.0 c.args.timed.now c.advance.new.self c.power_cut.new.self before between after (g.R.Outcomes.table c.args.results.now) (g.R.Outcomes.table c.advance.new.results) (g.R.Outcomes.table c.power_cut.new.results) leads run.2 run.1 (event ∷ []) a next
          (λ asked is. (sym c.advance.ensures.ran.now, refl, is)) (λ other off. refl),
    )

pub advance-requires : goal.advance-requires
advance-requires g c =
    let may = c.requires.may in
    (timed_fits g.row.B g.row.M g.row.E may.layout, (record { running = may.going; led = may.led; unset = may.open_rows }, (may.forward, may.within)))

pub returns-clause-goes_on : goal.returns-clause-goes_on
returns-clause-goes_on g c = g.met.R.Outcomes.follows _ _ _ c.advance.ensures.goes_on c.power_cut.ensures.goes_on

pub returns-clause-in_turn : goal.returns-clause-in_turn
returns-clause-in_turn g c =
    let run = c.advance.ensures.extends c.requires.may.led.0 c.requires.may.led.1 in
    let xs = run.0 ++ c.requires.may.led.0 in
    let clock = c.advance.new.self in
    let between = g.A.CellArray.state c.advance.new.array in
    let after = g.A.CellArray.state c.power_cut.new.array in
    let next = c.power_cut.ensures.extends xs run.1.leads in
    let event : TimedEvent g.row.B g.row.M = cut xs clock after in
    behind g.R.Outcomes.goes_on g.R.Outcomes.table c.args.tick clock.tick c.args.results.now c.advance.new.results c.power_cut.new.results (at-most c.args.tick clock.tick c.advance.ensures.ran.now) c.advance.ensures.in_turn
    (extends-told g.R.Outcomes.goes_on g.R.Outcomes.table xs (event ∷ []) clock c.power_cut.new.self between after c.advance.new.results c.power_cut.new.results clock.tick next (refl, tt) c.power_cut.ensures.goes_on)
