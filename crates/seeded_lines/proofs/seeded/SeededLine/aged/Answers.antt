use Rattle.std.proofs.Common.{refl, subst, sym}
use Rattle.seeded_lines.{specs.Drawn.{HaveSameLife, drawn_line}, specs.Seeded.{LifeLine, left_of}, specs.Young.grown_line, proofs.YoungLemmas.aged_alike}
use Rattle.seeded_lines.proofs.seeded.SeededLine.aged.Goals as goal

pub returns : goal.returns
returns g c =
    let i = c.line.inside in
    let drawn : LifeLine g.row.B g.row.M = record {
      line = record { held = i.moving.held; stuck = i.settled.stuck; misses = i.moving.misses; pulses = i.pulses };
      left = left_of i.moving.spent i.settled.left;
      limits = i.settled.limits;
      ends = i.settled.ends;
    } in
    subst (HaveSameLife (grown_line c.args.wear c.args.number c.args.young.now)) (sym c.level.ensures)
    (aged_alike c.args.wear c.args.number c.args.young.now drawn i.moving.spent i.settled.left c.take_from.new.left
    (subst (HaveSameLife (drawn_line g.row.B g.row.M c.args.wear c.args.number)) (sym c.line.view_is) c.drawn-line.ensures) refl c.take_from.ensures)
