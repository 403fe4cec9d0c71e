use Rattle.std.proofs.Common.{arith}
use Rattle.atomic_sectors.specs.Lines.{stand}
use Rattle.disk_bytes.proofs.Reading.{rest_read}
use Rattle.disk_bytes.proofs.disk.Disk.read_rest.Goals as goal

pub returns-then-piece-self-clause-rest : goal.returns-then-piece-self-clause-rest
returns-then-piece-self-clause-rest g c =
    let p = c.args.piece in
    rest_read g.row.B c.args.self.now.layout (stand g.row.B (g.L.Lines.made c.args.lines.now)) c.read_sector.new.self.room.items p.sector p.begin p.size c.read_sector.result
    (omega (arith, c.requires.fits.words)) c.requires.fits.some c.read_sector.ensures.read
