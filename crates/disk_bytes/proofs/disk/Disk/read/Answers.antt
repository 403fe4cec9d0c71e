use Rattle.std.proofs.Common.{ℕ, ◌+◌, ◌-◌, List, length, ◌∙◌, ap, subst, arith}
use Rattle.atomic_sectors.specs.Lines.{Write, stand}
use Rattle.disk_rules.specs.Standing.{byte_of}
use Rattle.disk_bytes.{specs.Parts.IsReady, proofs.Reading.{read_more, piece_read}}
use Rattle.disk_bytes.proofs.disk.Disk.read.Goals as goal

pub loop-done-preserved : goal.loop-done-preserved
loop-done-preserved g c =
    let n = g.row.B in
    let layout = c.args.self.now.layout in
    let its = c.loop-done.self.layout in
    let old = g.L.Lines.made c.args.lines.now in
    let mid = g.L.Lines.made c.loop-done.lines in
    let done = c.loop-done.done in
    let p = c.first_piece-piece.result in
    let now = c.loop-done.invariant in
    let f : ℕ → ℕ = λ i. byte_of n layout (stand n old) (c.args.at + i) in
    let room = c.read_sector.new.self.room.items in
    let piece = piece_read n layout its old mid room c.as_slice.result.now (c.args.at + done) p.sector p.begin p.size (length c.loop-done.to - done)
    now.layout (omega (arith, c.requires.fits.words)) c.requires.fits.some now.made c.as_slice.ensures.value
    c.first_piece-piece.ensures.sector c.first_piece-piece.ensures.begin c.first_piece-piece.ensures.size c.in_ok-read_sector.ensures.read in
    record {
      read = read_more c.loop-done.to c.fetch.new.to f done p.size now.read c.fetch.ensures.before
          (λ i within. c.fetch.ensures.fetched i within ∙ piece i within ∙ ap (byte_of n layout (stand n old)) (omega arith));
      within = omega (arith, c.first_piece-piece.ensures.size, now.within, now.length, c.loop-done-test.true);
      length = c.fetch.ensures.length ∙ now.length;
      ready = subst (λ (ws : List Write). IsReady n ws c.read_sector.new.self) now.made c.read_sector.ensures.ready;
      layout = c.read_sector.ensures.layout ∙ now.layout;
      made = c.read_sector.ensures.made ∙ now.made;
      stops = omega (arith, now.stops, c.read_sector.ensures.never_falls);
      kind = c.read_sector.ensures.kind ∙ now.kind;
    }
