use Rattle.std.proofs.Common.{◌+◌, ◌-◌, ◌<◌, List, ◌∷◌, length, refl, sym, subst, arith}
use Rattle.atomic_sectors.{specs.Lines.{Write, stand}, specs.Moments.AtEachMoment, specs.Sectors.IsBeforeOrAfter, proofs.Making.{at_start, at_end}}
use Rattle.disk_rules.specs.{Disk.{IsPart}, Standing.{HoldsDisk, sector_size}}
use Rattle.disk_bytes.{specs.Parts.{HasPart, part}, proofs.Parting.{part_next, piece_made, piece_moments}, proofs.Placing.{some, whole, inside}}
use Rattle.disk_bytes.proofs.{Reading.{lies_at, ends_there}, Sectoring.{carried, have_carried}}
use Rattle.disk_bytes.proofs.disk.Disk.write_piece.Goals as goal

pub returns-in_err-patch-clause-moments : goal.returns-in_err-patch-clause-moments
returns-in_err-patch-clause-moments g c before is_part held =
    let layout = c.args.self.now.layout in
    let old = g.L.Lines.made c.args.lines.now in
    let P = HasPart g.row.B layout c.args.at c.args.bytes.now before in
    subst (λ (ws : List Write). AtEachMoment P old ws) (sym c.patch.ensures.made) (at_start P old (c.args.done, is_part, held))

pub returns-in_err-write_sector-clause-moments : goal.returns-in_err-write_sector-clause-moments
returns-in_err-write_sector-clause-moments g c before is_part held =
    let n = g.row.B in
    let layout = c.args.self.now.layout in
    let p = c.first_piece-piece.result in
    let x = c.args.at + c.args.done in
    let old = g.L.Lines.made c.args.lines.now in
    let new = g.L.Lines.made c.write_sector.new.lines in
    let room = c.patch.new.self.room.items in
    let bytes_there : 0 < n = omega (arith, c.requires.fits.words) in
    let lines_there = c.requires.fits.some in
    let size_is = c.first_piece-piece.ensures.size in
    let lies = lies_at n layout bytes_there lines_there x p.sector p.begin c.first_piece-piece.ensures.sector c.first_piece-piece.ensures.begin in
    let ends = ends_there n layout bytes_there lines_there x p.begin p.size (length c.args.bytes.now - c.args.done) c.first_piece-piece.ensures.begin size_is in
    let next = subst (λ d. IsPart (sector_size n layout) (part c.args.at c.args.bytes.now (c.args.done + d))) (sym size_is)
    (part_next (sector_size n layout) c.args.at c.args.bytes.now c.args.done (some n layout bytes_there lines_there) (whole n layout bytes_there lines_there x) (inside n layout bytes_there lines_there x) c.requires.left) in
    let moments = carried n layout c.patch.new.self.layout p.sector room room old (g.L.Lines.made c.patch.new.lines) new c.patch.ensures.layout refl c.patch.ensures.made c.write_sector.ensures.moments in
    piece_moments n layout bytes_there lines_there old p c.args.at c.args.bytes.now c.args.done room before lies ends c.in_ok-patch.ensures.patched c.pieces_make_a_write.ensures held new is_part next moments

pub returns-clause-written : goal.returns-clause-written
returns-clause-written g c before held =
    let n = g.row.B in
    let layout = c.args.self.now.layout in
    let p = c.first_piece-piece.result in
    let x = c.args.at + c.args.done in
    let old = g.L.Lines.made c.args.lines.now in
    let mid = g.L.Lines.made c.patch.new.lines in
    let new = g.L.Lines.made c.write_sector.new.lines in
    let room = c.patch.new.self.room.items in
    let bytes_there : 0 < n = omega (arith, c.requires.fits.words) in
    let lines_there = c.requires.fits.some in
    let size_is = c.first_piece-piece.ensures.size in
    let lies = lies_at n layout bytes_there lines_there x p.sector p.begin c.first_piece-piece.ensures.sector c.first_piece-piece.ensures.begin in
    let ends = ends_there n layout bytes_there lines_there x p.begin p.size (length c.args.bytes.now - c.args.done) c.first_piece-piece.ensures.begin size_is in
    let moments = carried n layout c.patch.new.self.layout p.sector room room old mid new c.patch.ensures.layout refl c.patch.ensures.made c.write_sector.ensures.moments in
    let whole_now = (at_end (IsBeforeOrAfter n layout p.sector room old) old new moments).whole in
    let have = have_carried n layout c.patch.new.self.layout p.sector room room old mid new c.patch.ensures.layout refl c.patch.ensures.made c.in_ok-write_sector.ensures.written in
    subst (λ d. HoldsDisk n layout (stand n new) (part c.args.at c.args.bytes.now (c.args.done + d) ∷ before)) size_is
    (piece_made n layout bytes_there lines_there old p c.args.at c.args.bytes.now c.args.done room before lies ends c.in_ok-patch.ensures.patched c.pieces_make_a_write.ensures held (stand n new) whole_now have)

pub returns-clause-moments : goal.returns-clause-moments
returns-clause-moments g c before is_part held =
    let n = g.row.B in
    let layout = c.args.self.now.layout in
    let p = c.first_piece-piece.result in
    let x = c.args.at + c.args.done in
    let old = g.L.Lines.made c.args.lines.now in
    let new = g.L.Lines.made c.write_sector.new.lines in
    let room = c.patch.new.self.room.items in
    let bytes_there : 0 < n = omega (arith, c.requires.fits.words) in
    let lines_there = c.requires.fits.some in
    let size_is = c.first_piece-piece.ensures.size in
    let lies = lies_at n layout bytes_there lines_there x p.sector p.begin c.first_piece-piece.ensures.sector c.first_piece-piece.ensures.begin in
    let ends = ends_there n layout bytes_there lines_there x p.begin p.size (length c.args.bytes.now - c.args.done) c.first_piece-piece.ensures.begin size_is in
    let next = subst (λ d. IsPart (sector_size n layout) (part c.args.at c.args.bytes.now (c.args.done + d))) (sym size_is)
    (part_next (sector_size n layout) c.args.at c.args.bytes.now c.args.done (some n layout bytes_there lines_there) (whole n layout bytes_there lines_there x) (inside n layout bytes_there lines_there x) c.requires.left) in
    let moments = carried n layout c.patch.new.self.layout p.sector room room old (g.L.Lines.made c.patch.new.lines) new c.patch.ensures.layout refl c.patch.ensures.made c.write_sector.ensures.moments in
    piece_moments n layout bytes_there lines_there old p c.args.at c.args.bytes.now c.args.done room before lies ends c.in_ok-patch.ensures.patched c.pieces_make_a_write.ensures held new is_part next moments
