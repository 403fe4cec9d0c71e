use Rattle.std.proofs.Common.{◌+◌, ◌*◌, List, ◌∷◌, sym, subst}
use Rattle.atomic_sectors.specs.{Lines.{Write, stand}, Moments.AtEachMoment, Sectors.{word_write, IsMapped, Have, IsBeforeOrAfter, sector_line, with_sector}}
use Rattle.atomic_sectors.proofs.{Filling.keeps_none, Making.{at_start, made_one, made_or_not}, Mapping.{have-written, mapped-written}, Writing.{before, behind, kept, filling}}
use Rattle.atomic_sectors.proofs.sectors.Sectors.write.Goals as goal

pub returns-in_err-block-clause-moments : goal.returns-in_err-block-clause-moments
returns-in_err-block-clause-moments g c =
    let s = c.args.self.now in
    let old = g.L.Lines.made c.args.lines.now in
    let P = IsBeforeOrAfter g.row.B s.layout c.args.sector c.args.from.now old in
    subst (λ (ws : List Write). AtEachMoment P old ws) (sym c.find_block.ensures.made)
    (at_start P old (before g.row.B s.layout _ c.requires.fits old s.free c.requires.mapped c.args.sector c.args.from.now old (keeps_none g.row.B (s.free * s.layout.block) s.layout.block old)))

pub returns-in_err-fill-clause-moments : goal.returns-in_err-fill-clause-moments
returns-in_err-fill-clause-moments g c =
    let s = c.args.self.now in
    let old = g.L.Lines.made c.args.lines.now in
    filling g.row.B s.layout _ c.requires.fits old s.free c.requires.mapped _ _ (g.L.Lines.made c.fill.new.lines) c.find_block.ensures.made c.requires.whole c.fill.ensures.moments
    c.args.sector c.args.from.now

pub returns-in_err-put_word-clause-moments : goal.returns-in_err-put_word-clause-moments
returns-in_err-put_word-clause-moments g c =
    let s = c.args.self.now in
    let old = g.L.Lines.made c.args.lines.now in
    let mid = g.L.Lines.made c.fill.new.lines in
    let P = IsBeforeOrAfter g.row.B s.layout c.args.sector c.args.from.now old in
    let k = kept g.row.B s.layout _ c.requires.fits old s.free c.requires.mapped _ _ mid c.find_block.ensures.made c.requires.whole c.fill.ensures.moments in
    let m = filling g.row.B s.layout _ c.requires.fits old s.free c.requires.mapped _ _ mid c.find_block.ensures.made c.requires.whole c.fill.ensures.moments c.args.sector c.args.from.now in
    let done = behind g.row.B s.layout _ c.requires.fits old s.free c.requires.mapped c.args.sector c.args.from.now mid c.requires.exists c.requires.whole k c.in_ok-fill.ensures.stand in
    made_or_not P old mid (g.L.Lines.made c.put_word.new.lines) (word_write g.row.B s.layout c.args.sector (s.free + 1)) m c.in_err-put_word.ensures.stopped done

pub returns-clause-written : goal.returns-clause-written
returns-clause-written g c =
    let s = c.args.self.now in
    let old = g.L.Lines.made c.args.lines.now in
    let mid = g.L.Lines.made c.fill.new.lines in
    let k = kept g.row.B s.layout _ c.requires.fits old s.free c.requires.mapped _ _ mid c.find_block.ensures.made c.requires.whole c.fill.ensures.moments in
    subst (λ (ws : List Write). Have g.row.B s.layout (stand g.row.B ws) (with_sector c.args.sector c.args.from.now (sector_line g.row.B s.layout (stand g.row.B old))))
    (sym c.in_ok-put_word.ensures.made)
    (have-written g.row.B s.layout _ c.requires.fits old s.free c.requires.mapped mid k c.args.sector c.requires.exists c.args.from.now c.requires.whole c.in_ok-fill.ensures.stand)

pub returns-clause-mapped : goal.returns-clause-mapped
returns-clause-mapped g c =
    let s = c.args.self.now in
    let old = g.L.Lines.made c.args.lines.now in
    let mid = g.L.Lines.made c.fill.new.lines in
    let k = kept g.row.B s.layout _ c.requires.fits old s.free c.requires.mapped _ _ mid c.find_block.ensures.made c.requires.whole c.fill.ensures.moments in
    subst (λ (ws : List Write). IsMapped g.row.B s.layout (stand g.row.B ws) c.in_ok-block.block) (sym c.in_ok-put_word.ensures.made)
    (subst (λ b. IsMapped g.row.B s.layout (stand g.row.B (word_write g.row.B s.layout c.args.sector (s.free + 1) ∷ mid)) b) (sym c.in_ok-block.ensures.block)
    (mapped-written g.row.B s.layout _ c.requires.fits old s.free c.requires.mapped mid k c.args.sector c.requires.exists))

pub returns-clause-moments : goal.returns-clause-moments
returns-clause-moments g c =
    let s = c.args.self.now in
    let old = g.L.Lines.made c.args.lines.now in
    let mid = g.L.Lines.made c.fill.new.lines in
    let P = IsBeforeOrAfter g.row.B s.layout c.args.sector c.args.from.now old in
    let k = kept g.row.B s.layout _ c.requires.fits old s.free c.requires.mapped _ _ mid c.find_block.ensures.made c.requires.whole c.fill.ensures.moments in
    let m = filling g.row.B s.layout _ c.requires.fits old s.free c.requires.mapped _ _ mid c.find_block.ensures.made c.requires.whole c.fill.ensures.moments c.args.sector c.args.from.now in
    let done = behind g.row.B s.layout _ c.requires.fits old s.free c.requires.mapped c.args.sector c.args.from.now mid c.requires.exists c.requires.whole k c.in_ok-fill.ensures.stand in
    subst (λ (ws : List Write). AtEachMoment P old ws) (sym c.in_ok-put_word.ensures.made) (made_one P old mid (word_write g.row.B s.layout c.args.sector (s.free + 1)) m done)
