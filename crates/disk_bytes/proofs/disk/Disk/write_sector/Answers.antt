use Rattle.std.proofs.Common.{◌≡◌, List, length, sym, ◌∙◌, ap, subst, arith}
use Rattle.atomic_sectors.specs.{Lines.{Write, stand}, Sectors.{Fits, IsMapped, IsBeforeOrAfter}}
use Rattle.atomic_sectors.{specs.declared.layout.Layout.Layout, proofs.Making.at_end}
use Rattle.disk_bytes.proofs.Sectoring.{stays, carried, have_carried}
use Rattle.disk_bytes.proofs.disk.Disk.write_sector.Goals as goal

pub returns-in_err-sectors-clause-moments : goal.returns-in_err-sectors-clause-moments
returns-in_err-sectors-clause-moments g c =
    let s = c.args.self.now in
    stays g.row.B s.layout s.known c.args.sector s.room.items (g.L.Lines.made c.args.lines.now) (g.L.Lines.made c.opened.new.lines) c.requires.ready.known c.opened.ensures.made

pub write-requires : goal.write-requires
write-requires g c =
    let s = c.args.self.now in
    let layout = c.in_ok-sectors.ensures.layout in
    let sectors : c.in_ok-sectors.sectors.layout.sectors ≡ s.layout.sectors = ap (λ (l : Layout). l.sectors) layout in
    let block : c.in_ok-sectors.sectors.layout.block ≡ s.layout.block = ap (λ (l : Layout). l.block) layout in
    let fits = subst (λ k. Fits g.row.B s.layout k) (sym (ap g.L.Lines.count c.opened.ensures.kind)) c.requires.fits in
    let mapped = subst (λ (ws : List Write). IsMapped g.row.B s.layout (stand g.row.B ws) c.in_ok-sectors.sectors.free) (sym c.opened.ensures.made) c.in_ok-sectors.ensures.mapped in (
      omega (arith, c.requires.fits.short),
      (
        subst (λ (l : Layout). Fits g.row.B l (g.L.Lines.count (g.L.Lines.kind c.opened.new.lines))) (sym layout) fits,
        (
          subst (λ (l : Layout). IsMapped g.row.B l (stand g.row.B (g.L.Lines.made c.opened.new.lines)) c.in_ok-sectors.sectors.free) (sym layout) mapped,
          (omega (arith, c.requires.exists, sectors), ap length c.as_slice.ensures.value ∙ c.requires.ready.room ∙ sym block),
        ),
      ),
    )

pub returns-in_err-write-clause-moments : goal.returns-in_err-write-clause-moments
returns-in_err-write-clause-moments g c =
    let s = c.args.self.now in
    carried g.row.B s.layout c.in_ok-sectors.sectors.layout c.args.sector s.room.items c.as_slice.result.now (g.L.Lines.made c.args.lines.now) (g.L.Lines.made c.opened.new.lines) (g.L.Lines.made c.write.new.lines)
    c.in_ok-sectors.ensures.layout c.as_slice.ensures.value c.opened.ensures.made c.write.ensures.moments

pub returns-in_err-write-clause-ready : goal.returns-in_err-write-clause-ready
returns-in_err-write-clause-ready g c =
    let s = c.args.self.now in
    let old = g.L.Lines.made c.args.lines.now in
    let new = g.L.Lines.made c.write.new.lines in
    let moments = carried g.row.B s.layout c.in_ok-sectors.sectors.layout c.args.sector s.room.items c.as_slice.result.now old (g.L.Lines.made c.opened.new.lines) new
    c.in_ok-sectors.ensures.layout c.as_slice.ensures.value c.opened.ensures.made c.write.ensures.moments in
    record { room = c.requires.ready.room; known = (at_end (IsBeforeOrAfter g.row.B s.layout c.args.sector s.room.items old) old new moments).whole }

pub returns-clause-written : goal.returns-clause-written
returns-clause-written g c =
    let s = c.args.self.now in
    have_carried g.row.B s.layout c.in_ok-sectors.sectors.layout c.args.sector s.room.items c.as_slice.result.now (g.L.Lines.made c.args.lines.now) (g.L.Lines.made c.opened.new.lines) (g.L.Lines.made c.write.new.lines)
    c.in_ok-sectors.ensures.layout c.as_slice.ensures.value c.opened.ensures.made c.in_ok-write.ensures.written

pub returns-clause-moments : goal.returns-clause-moments
returns-clause-moments g c =
    let s = c.args.self.now in
    carried g.row.B s.layout c.in_ok-sectors.sectors.layout c.args.sector s.room.items c.as_slice.result.now (g.L.Lines.made c.args.lines.now) (g.L.Lines.made c.opened.new.lines) (g.L.Lines.made c.write.new.lines)
    c.in_ok-sectors.ensures.layout c.as_slice.ensures.value c.opened.ensures.made c.write.ensures.moments

pub returns-clause-ready : goal.returns-clause-ready
returns-clause-ready g c =
    let s = c.args.self.now in
    let layout = c.in_ok-sectors.ensures.layout in
    record {
      room = c.requires.ready.room;
      known = (
        c.write.ensures.layout ∙ layout,
        subst (λ (l : Layout). IsMapped g.row.B l (stand g.row.B (g.L.Lines.made c.write.new.lines)) c.write.new.self.free) layout c.in_ok-write.ensures.mapped,
      );
    }
