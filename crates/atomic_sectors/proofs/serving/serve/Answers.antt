use Rattle.std.proofs.Common.{◌≡◌, ℕ, List, sym, ◌∙◌, ap, subst, arith}
use Rattle.atomic_sectors.specs.{Lines.{Write, stand}, Sectors.{Fits, IsMapped, Have}, Serving.{Made, content, ServesWrite, IsAsked}, declared.layout.Layout.Layout}
use Rattle.atomic_sectors.proofs.Runs.{not_opened, is_read, is_written}
use Rattle.atomic_sectors.proofs.serving.serve.Goals as goal

pub returns-in-Err-clause-serves : goal.returns-in-Err-clause-serves
returns-in-Err-clause-serves g c = not_opened g.row.B c.args.layout (g.L.Lines.made c.args.lines.now) (g.L.Lines.made c.opened.new.lines) c.opened.ensures.made c.args.request.now c.in-Err.why

pub read-requires : goal.read-requires
read-requires g c =
    let asked = subst (IsAsked g.row.B c.args.layout) c.in-Read.is c.requires.asked in
    let layout = c.in-Ok.ensures.layout in
    let fits = subst (λ k. Fits g.row.B c.args.layout k) (sym (ap g.L.Lines.count c.opened.ensures.kind)) c.requires.fits in
    let mapped = subst (λ (ws : List Write). IsMapped g.row.B c.args.layout (stand g.row.B ws) c.in-Ok.sectors.free) (sym c.opened.ensures.made) c.in-Ok.ensures.mapped in
    let sectors : c.in-Ok.sectors.layout.sectors ≡ c.args.layout.sectors = ap (λ (l : Layout). l.sectors) layout in (
      omega arith,
      (
        subst (λ (l : Layout). Fits g.row.B l (g.L.Lines.count (g.L.Lines.kind c.opened.new.lines))) (sym layout) fits,
        (
          subst (λ (l : Layout). IsMapped g.row.B l (stand g.row.B (g.L.Lines.made c.opened.new.lines)) c.in-Ok.sectors.free) (sym layout) mapped,
          omega (arith, asked, sectors),
        ),
      ),
    )

pub write-requires : goal.write-requires
write-requires g c =
    let asked = subst (IsAsked g.row.B c.args.layout) c.in-Write.is c.requires.asked in
    let layout = c.in-Ok.ensures.layout in
    let fits = subst (λ k. Fits g.row.B c.args.layout k) (sym (ap g.L.Lines.count c.opened.ensures.kind)) c.requires.fits in
    let mapped = subst (λ (ws : List Write). IsMapped g.row.B c.args.layout (stand g.row.B ws) c.in-Ok.sectors.free) (sym c.opened.ensures.made) c.in-Ok.ensures.mapped in
    let sectors : c.in-Ok.sectors.layout.sectors ≡ c.args.layout.sectors = ap (λ (l : Layout). l.sectors) layout in
    let block : c.in-Ok.sectors.layout.block ≡ c.args.layout.block = ap (λ (l : Layout). l.block) layout in (
      omega (arith, c.requires.fits.short),
      (
        omega arith,
        (
          subst (λ (l : Layout). Fits g.row.B l (g.L.Lines.count (g.L.Lines.kind c.opened.new.lines))) (sym layout) fits,
          (
            subst (λ (l : Layout). IsMapped g.row.B l (stand g.row.B (g.L.Lines.made c.opened.new.lines)) c.in-Ok.sectors.free) (sym layout) mapped,
            (omega (arith, asked.0, sectors), c.as_slice.ensures.len ∙ asked.1 ∙ sym block),
          ),
        ),
      ),
    )

pub returns-in-Read-clause-serves : goal.returns-in-Read-clause-serves
returns-in-Read-clause-serves g c =
    is_read g.row.B c.args.layout (g.L.Lines.made c.args.lines.now) (g.L.Lines.made c.opened.new.lines) c.opened.ensures.made c.in-Ok.sectors.layout c.in-Ok.ensures.layout
    c.args.request.now c.in-Read.sector c.read.result.0 (g.L.Lines.made c.read.new.lines) c.in-Read.is c.read.ensures.made c.read.ensures.serves

pub returns-in-Write-clause-serves : goal.returns-in-Write-clause-serves
returns-in-Write-clause-serves g c =
    is_written g.row.B c.args.layout (g.L.Lines.made c.args.lines.now) (g.L.Lines.made c.opened.new.lines) c.opened.ensures.made c.in-Ok.sectors.layout c.in-Ok.ensures.layout
    c.args.request.now c.in-Write.sector c.in-Write.from c.write.result.0 (g.L.Lines.made c.write.new.lines) c.in-Write.is
    (λ before have.
    subst (λ (ls : List (List ℕ)). (behind : List Made) × ServesWrite g.row.B (record { sector = c.in-Write.sector; lines = ls }) c.write.result.0 before behind
    × Have g.row.B c.in-Ok.sectors.layout (stand g.row.B (g.L.Lines.made c.write.new.lines)) (content g.row.B behind)) c.as_slice.ensures.value (c.write.ensures.serves before have))
