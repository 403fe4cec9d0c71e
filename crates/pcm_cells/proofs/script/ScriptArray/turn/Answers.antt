use Rattle.std.proofs.Common.{◌≡◌, ◌<◌, ◌∙◌, length, set, refl, sym, ap, subst, arith, List, Option, Some}
use Rattle.cell_rows.specs.{Energy.with_pulse, Rows.cell, declared.array.LineEnergy.LineEnergy}
use Rattle.line_pages.specs.Counting.{energy_at}
use Rattle.seeded_lines.specs.Follows.{Follows}
use Rattle.pcm_cells.{specs.Scripted.{ScriptedArray, Turns, scripted, scripted_cell, scripted_lines, scripted_state}, proofs.EnergyLemmas.energy-told}
use Rattle.pcm_cells.proofs.ScriptedLemmas.{line_turned}
use Rattle.pcm_cells.proofs.script.ScriptArray.turn.Goals as goal

pub unreachable-requires : goal.unreachable-requires
unreachable-requires g c = grind arith

pub index_mut-row-requires : goal.index_mut-row-requires
index_mut-row-requires g c = grind arith

pub turn-requires : goal.turn-requires
turn-requires g c = grind arith

pub returns-clause-tears : goal.returns-clause-tears
returns-clause-tears g c = grind arith

pub returns-clause-wear : goal.returns-clause-wear
returns-clause-wear g c = grind arith

pub returns-clause-turn : goal.returns-clause-turn
returns-clause-turn g c =
    let lines = c.in-Some.lines.items in
    let inside = c.self.inside in
    let old : ScriptedArray g.row.B g.row.M =
    record { lines = lines; script = inside.script.items; tears = inside.tears; wear = inside.wear; energies = inside.energies } in
    let was : old ≡ c.args.self.now =
    sym (ap (λ l. record { lines = scripted_lines l; script = inside.script.items; tears = inside.tears; wear = inside.wear; energies = inside.energies }) c.in-Some.is)
    ∙ c.self.view_is in
    let within : c.args.line < length lines = rw (ap (λ a. length a.lines) was) c.requires.exists in
    let follows : Follows (cell c.args.mask.now) (scripted inside.script.items c.args.line c.args.tearing (cell c.args.want.now))
    (scripted_cell c.index_mut-row.result.now) (scripted_cell c.turn.new.self) =
    subst (λ s. Follows (cell c.args.mask.now) (scripted s c.args.line c.args.tearing (cell c.args.want.now)) (scripted_cell c.index_mut-row.result.now) (scripted_cell c.turn.new.self))
    c.as_slice.ensures.value c.turn.ensures.cells in
    subst (λ a. Turns c.args.line c.args.tearing c.args.mask.now c.args.want.now a (record old { lines = set lines c.args.line c.turn.new.self; energies = c.drive.new.self })) was
    (line_turned c.args.line c.args.tearing c.args.mask.now c.args.want.now old c.index_mut-row.result.now c.turn.new.self
    c.drive.new.self within c.index_mut-row.ensures.value follows c.turn.ensures.pulses)

pub returns-clause-energy : goal.returns-clause-energy
returns-clause-energy g c =
    let now = c.args.self.now in
    let lines : length now.lines ≡ length c.self.inside.energies = ap (λ (a : ScriptedArray g.row.B g.row.M). length a.lines) (sym c.self.view_is) ∙ sym c.self.invariant.2 in
    let energies : c.self.inside.energies ≡ now.energies = ap (λ (a : ScriptedArray g.row.B g.row.M). a.energies) c.self.view_is in
    energy-told (scripted_state now) _ now.energies c.drive.new.self c.args.line _ (omega (arith, c.requires.exists, lines, ap length energies))
    (c.drive.ensures ∙ ap (λ (xs : List (Option LineEnergy)). set xs c.args.line (with_pulse c.args.mask.now c.args.want.now (Some (energy_at xs c.args.line)))) energies)
    (λ n. refl) (λ n. refl)
