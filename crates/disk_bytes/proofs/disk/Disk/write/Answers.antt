use Rattle.std.proofs.Common.{◌≡◌, ◌+◌, ◌<◌, List, ◌∷◌, length, refl, sym, ◌∙◌, subst, arith, inl}
use Rattle.atomic_sectors.{specs.Lines.{stand}, specs.Moments.AtEachMoment, specs.declared.layout.Layout.Layout, proofs.Making.at_start}
use Rattle.disk_rules.specs.{Disk.{Written, IsPart}, Standing.{HoldsDisk, sector_size}}
use Rattle.disk_bytes.{specs.Parts.{HasPart, part, next_part}, proofs.Moving.both, proofs.Parting.{part_next, none_yet}, proofs.Placing.{some, whole, inside}}
use Rattle.disk_bytes.proofs.disk.Disk.write.Goals as goal

pub loop-done-init : goal.loop-done-init
loop-done-init g c =
    let n = g.row.B in
    let layout = c.args.self.now.layout in
    let old = g.L.Lines.made c.args.lines.now in
    let bytes = c.args.bytes.now in
    record {
      within = omega arith;
      is_part = inl refl;
      holds = λ before held. none_yet n layout (stand n old) c.args.at bytes before held;
      moments = λ before held. at_start (HasPart n layout c.args.at bytes before) old (0, inl refl, none_yet n layout (stand n old) c.args.at bytes before held);
      ready = c.requires.ready;
      layout = refl;
      stops = omega arith;
      kind = refl;
    }

pub returns-in_err-done-clause-moments : goal.returns-in_err-done-clause-moments
returns-in_err-done-clause-moments g c before held =
    let n = g.row.B in
    let layout = c.args.self.now.layout in
    let bytes = c.args.bytes.now in
    let old = g.L.Lines.made c.args.lines.now in
    let mid = g.L.Lines.made c.loop-done.lines in
    let new = g.L.Lines.made c.write_piece.new.lines in
    let now = c.loop-done.invariant in
    let piece = subst (λ (l : Layout). (ws : List Written) → IsPart (sector_size n l) (part c.args.at bytes c.loop-done.done)
    → HoldsDisk n l (stand n mid) (part c.args.at bytes c.loop-done.done ∷ ws) → AtEachMoment (HasPart n l c.args.at bytes ws) mid new) now.layout c.write_piece.ensures.moments in
    both (HasPart n layout c.args.at bytes before) old mid new (now.moments before held) (piece before now.is_part (now.holds before held))

pub loop-done-preserved : goal.loop-done-preserved
loop-done-preserved g c =
    let n = g.row.B in
    let layout = c.args.self.now.layout in
    let size = sector_size n layout in
    let at = c.args.at in
    let bytes = c.args.bytes.now in
    let old = g.L.Lines.made c.args.lines.now in
    let mid = g.L.Lines.made c.loop-done.lines in
    let new = g.L.Lines.made c.write_piece.new.lines in
    let done = c.loop-done.done in
    let now = c.loop-done.invariant in
    let bytes_there : 0 < n = omega (arith, c.requires.fits.words) in
    let lines_there = c.requires.fits.some in
    let left : done < length bytes = omega (arith, c.loop-done-test.true) in
    let next : c.in_ok-done.done ≡ next_part size at (length bytes) done =
    subst (λ (l : Layout). c.in_ok-done.done ≡ next_part (sector_size n l) at (length bytes) done) now.layout c.in_ok-done.ensures.next in
    let written = subst (λ (l : Layout). (ws : List Written) → HoldsDisk n l (stand n mid) (part at bytes done ∷ ws)
    → HoldsDisk n l (stand n new) (part at bytes (next_part (sector_size n l) at (length bytes) done) ∷ ws)) now.layout c.in_ok-done.ensures.written in
    let piece = subst (λ (l : Layout). (ws : List Written) → IsPart (sector_size n l) (part at bytes done)
    → HoldsDisk n l (stand n mid) (part at bytes done ∷ ws) → AtEachMoment (HasPart n l at bytes ws) mid new) now.layout c.write_piece.ensures.moments in
    record {
      within = omega (arith, next, left);
      is_part = subst (λ d. IsPart size (part at bytes d)) (sym next)
          (part_next size at bytes done (some n layout bytes_there lines_there) (whole n layout bytes_there lines_there (at + done)) (inside n layout bytes_there lines_there (at + done)) left);
      holds = λ before held. subst (λ d. HoldsDisk n layout (stand n new) (part at bytes d ∷ before)) (sym next) (written before (now.holds before held));
      moments = λ before held. both (HasPart n layout at bytes before) old mid new (now.moments before held) (piece before now.is_part (now.holds before held));
      ready = c.write_piece.ensures.ready;
      layout = c.write_piece.ensures.layout ∙ now.layout;
      stops = omega (arith, now.stops, c.write_piece.ensures.never_falls);
      kind = c.write_piece.ensures.kind ∙ now.kind;
    }

pub returns-clause-written : goal.returns-clause-written
returns-clause-written g c before held =
    let all : c.loop-done.done ≡ length c.args.bytes.now = omega (arith, c.loop-done.invariant.within, c.loop-done-test.false) in
    subst (λ d. HoldsDisk g.row.B c.args.self.now.layout (stand g.row.B (g.L.Lines.made c.loop-done.lines)) (part c.args.at c.args.bytes.now d ∷ before)) all (c.loop-done.invariant.holds before held)
