use Rattle.std.proofs.Common.{◌<◌, sym, subst, Option}
use Rattle.std.specs.Prelude.{IfSome}
use Rattle.cell_rows.specs.Device.{sense_of}
use Rattle.wear_totals.{specs.Totals.IsTotalled, specs.declared.totals.Totals.Totals, proofs.Keeping.sensed}
use Rattle.wear_totals.proofs.array.TotalledArrayCellArray.sense.Goals as goal

pub invariant_of-self-2 : goal.invariant_of-self-2
invariant_of-self-2 g c =
    let old = g.A.CellArray.state c.self.inside.inner in
    let new = g.A.CellArray.state c.sense-cells.new.self in
    let had = subst (λ (t : Option Totals). IfSome t (IsTotalled g.row.E old)) c.in-Some.is c.self.invariant in
    let low = subst (λ a. c.args.line < (g.A.CellArray.state a).lines) (sym c.self.view_is) c.requires.exists in
    subst (IsTotalled g.row.E new) (sym c.with_sense.ensures)
    (sensed g.row.E old new (sense_of c.args.line c.args.tick (old.line c.args.line)) c.in-Some.totals had low c.sense-cells.ensures.step)
