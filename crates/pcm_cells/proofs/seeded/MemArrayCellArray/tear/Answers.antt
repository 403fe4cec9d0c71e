use Rattle.std.proofs.Common.{◌∙◌, ap, arith, refl, subst, sym, Option}
use Rattle.cell_rows.specs.{Device.{ChangesOnly, TornStep}, declared.array.Wear.Wear}
use Rattle.pcm_cells.{specs.Seeded.{bounds_of, life_state, seeded_line, seeded_state, SeededArray}, proofs.EnduranceLemmas.{bounded_keeps, masked_within}}
use Rattle.pcm_cells.proofs.SeededLemmas.{seeded_torn_step}
use Rattle.pcm_cells.proofs.seeded.MemArrayCellArray.tear.Goals as goal

pub returns-clause-step : goal.returns-clause-step
returns-clause-step g c =
    let wears = c.wear.ensures.wears in
    let bounds = bounds_of c.args.self.now.wear in
    let step = seeded_torn_step bounds c.args.mask.now c.args.want.now
    (seeded_line c.args.self.now c.args.line) (seeded_line c.wear.new.self c.args.line) c.wear.ensures.range.misses wears.cells
    (masked_within c.args.mask.now c.wear.ensures.end)
    (bounded_keeps bounds c.wear.new.self c.args.line c.args.mask.now c.wear.ensures.end (omega (arith, c.requires.exists, wears.lines)) c.wear.ensures.bounded)
    wears.pulses in
    let now = subst
    (λ (w : Option Wear). TornStep bounds c.args.mask.now (life_state bounds (seeded_line c.args.self.now c.args.line)) (life_state (bounds_of w) (seeded_line c.wear.new.self c.args.line)))
    (sym c.wear.ensures.wear) step in
    subst
    (λ (s : SeededArray g.row.B g.row.M). TornStep bounds c.args.mask.now (life_state bounds (seeded_line c.args.self.now c.args.line)) (life_state (bounds_of s.wear) (seeded_line s c.args.line)))
    (sym c.self.view_is) now

pub returns-clause-others : goal.returns-clause-others
returns-clause-others g c =
    subst (λ (s : SeededArray g.row.B g.row.M). ChangesOnly c.args.line (seeded_state c.args.self.now) (record (seeded_state s) { tears = c.saturating_add-self-inside.result })) (sym c.self.view_is)
    (record {
      others = λ n apart.
          ap (λ (w : Option Wear). life_state (bounds_of w) (seeded_line c.wear.new.self n)) c.wear.ensures.wear
          ∙ ap (life_state (bounds_of c.args.self.now.wear)) (c.wear.ensures.wears.others n apart);
      lines = c.wear.ensures.wears.lines;
      log = refl;
      wear = c.wear.ensures.wear;
      bounds = ap bounds_of c.wear.ensures.wear;
    })
