use Rattle.atomic_sectors.{specs.Lines.stand, specs.Sectors.IsBeforeOrAfter, proofs.Making.at_end, proofs.Runs.stopped_by}
use Rattle.atomic_sectors.proofs.serving.write.Goals as goal

pub returns-in-Err-clause-serves : goal.returns-in-Err-clause-serves
returns-in-Err-clause-serves g c before have =
    let old = g.L.Lines.made c.args.lines.now in
    let new = g.L.Lines.made c.write.new.lines in
    let behind = at_end (IsBeforeOrAfter g.row.B c.args.sectors.layout c.args.sector c.args.from.now old) old new c.write.ensures.moments in
    stopped_by g.row.B c.args.sectors.layout (stand g.row.B old) (stand g.row.B new) before have (record { sector = c.args.sector; lines = c.args.from.now }) c.in-Err.why behind.either

pub returns-in-Err-clause-known : goal.returns-in-Err-clause-known
returns-in-Err-clause-known g c =
    let old = g.L.Lines.made c.args.lines.now in
    (at_end (IsBeforeOrAfter g.row.B c.args.sectors.layout c.args.sector c.args.from.now old) old (g.L.Lines.made c.write.new.lines) c.write.ensures.moments).whole
