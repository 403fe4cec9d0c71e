use Rattle.std.proofs.Common.{◌≤◌, ◌<◌, sym, subst, Option}
use Rattle.std.specs.Prelude.{IfSome}
use Rattle.wear_totals.specs.{Totals.IsTotalled, declared.line.LineTotals.LineTotals, declared.totals.Totals.Totals}
use Rattle.wear_totals.proofs.Keeping.{few-pointers, has-pointers, kept, untouched}
use Rattle.wear_totals.proofs.array.TotalledArrayCellArray.tear.Goals as goal

pub renewed-requires-clause-has : goal.renewed-requires-clause-has
renewed-requires-clause-has g c =
    let old = g.A.CellArray.state c.self.inside.inner in
    let had = subst (λ (t : Option Totals). IfSome t (IsTotalled g.row.E old)) c.in-Some.is c.self.invariant in
    let low = subst (λ a. c.args.line < (g.A.CellArray.state a).lines) (sym c.self.view_is) c.requires.exists in
    subst (λ (l : LineTotals). l.pointers ≤ c.in-Some.totals.pointers) (sym c.look-before.ensures.is)
    (has-pointers g.row.E old c.in-Some.totals had c.has_check_cells-touched.result c.args.line low)

pub renewed-requires-clause-few : goal.renewed-requires-clause-few
renewed-requires-clause-few g c =
    let old = g.A.CellArray.state c.self.inside.inner in
    few-pointers g.row.E old c.in-Some.totals (subst (λ (t : Option Totals). IfSome t (IsTotalled g.row.E old)) c.in-Some.is c.self.invariant)

pub invariant_of-self-2 : goal.invariant_of-self-2
invariant_of-self-2 g c =
    let old = g.A.CellArray.state c.self.inside.inner in
    let new = g.A.CellArray.state c.tear-2.new.self in
    let had = subst (λ (t : Option Totals). IfSome t (IsTotalled g.row.E old)) c.in-Some.is c.self.invariant in
    let low = subst (λ a. c.args.line < (g.A.CellArray.state a).lines) (sym c.self.view_is) c.requires.exists in
    let made = c.tear-2.ensures in
    kept g.row.E old new c.args.line made.others low c.has_check_cells-touched.result c.args.mask.now c.args.want.now c.in-Some.totals c.renewed.result c.look-before.result c.look-torn.result
    (λ off. untouched had.layout c.args.mask.now (c.has_check_cells-touched.ensures off) (old.line c.args.line) (new.line c.args.line) made.step.unmasked)
    had made.step.pulses made.energy c.look-before.ensures.is c.look-before.ensures.fits c.look-torn.ensures.is c.renewed.ensures
