use Rattle.std.proofs.Common.{◌≤◌, ap, sym, subst, arith}
use Rattle.atomic_sectors.proofs.{Fitting.block_fits, Reading.reads_sector}
use Rattle.atomic_sectors.proofs.sectors.Sectors.read.Goals as goal

pub overflow_mul-block : goal.overflow_mul-block
overflow_mul-block g c =
    let s = c.args.self.now in
    let exists = subst (λ b. b ≤ s.layout.sectors) (sym c.in_ok-block.ensures.block) (c.requires.mapped.exists c.args.sector c.requires.exists) in
    omega (arith, block_fits g.row.B s.layout _ c.requires.fits c.in_ok-block.block exists, c.requires.fits.few)

pub read_lines-requires : goal.read_lines-requires
read_lines-requires g c =
    let s = c.args.self.now in
    let exists = subst (λ b. b ≤ s.layout.sectors) (sym c.in_ok-block.ensures.block) (c.requires.mapped.exists c.args.sector c.requires.exists) in
    let within = block_fits g.row.B s.layout _ c.requires.fits c.in_ok-block.block exists in (
      omega (arith, c.requires.fits.short),
      (omega (arith, within, c.requires.whole, ap g.L.Lines.count c.find_block.ensures.kind), omega (arith, c.requires.fits.few, ap g.L.Lines.count c.find_block.ensures.kind)),
    )

pub returns-clause-read : goal.returns-clause-read
returns-clause-read g c =
    let s = c.args.self.now in
    reads_sector g.row.B s.layout (g.L.Lines.made c.args.lines.now) (g.L.Lines.made c.find_block.new.lines) c.args.sector c.in_ok-block.block c.read_lines.new.to c.read_lines.result
    c.in_ok-block.ensures.block c.find_block.ensures.made (omega (arith, c.requires.whole)) c.read_lines.ensures.stand
