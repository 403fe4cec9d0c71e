use Rattle.std.proofs.Common.{◌≡◌, ℕ, ◌+◌, ◌<◌, List, ◌∷◌, length, get_or, [], refl, sym, ◌∙◌, subst, arith}
use Rattle.std.proofs.lemmas.List.{get_or_read}
use Rattle.atomic_sectors.{specs.Lines.{Write, stand, whole_write}, specs.Moments.AtEachMoment, specs.Sectors.KeepsOthers, proofs.Filling.{keeps_none, keeps_more, stand_more}}
use Rattle.atomic_sectors.proofs.Making.{at_start, at_end, made_one, made_or_not}
use Rattle.atomic_sectors.proofs.sectors.fill.Goals as goal

pub loop-i-init : goal.loop-i-init
loop-i-init g c = record {
  stands = λ j h. absurd (omega arith);
  moments =
      let old = g.L.Lines.made c.args.lines.now in
      at_start (KeepsOthers g.row.B c.args.first (length c.args.from.now) old) old (keeps_none g.row.B c.args.first (length c.args.from.now) old);
  stops = omega arith;
  kind = refl;
}

pub returns-in_err-put_all-clause-moments : goal.returns-in_err-put_all-clause-moments
returns-in_err-put_all-clause-moments g c =
    let old = g.L.Lines.made c.args.lines.now in
    let mid = g.L.Lines.made c.loop-i.lines in
    let P = KeepsOthers g.row.B c.args.first (length c.args.from.now) old in
    let w : Write = whole_write g.row.B (c.args.first + c.loop-i.i) c.of_line.result.now in
    made_or_not P old mid (g.L.Lines.made c.put_all.new.self) w c.loop-i.invariant.moments c.in_err-put_all.ensures.stopped
    (keeps_more g.row.B c.args.first (length c.args.from.now) old w mid (omega arith) (omega arith) (at_end P old mid c.loop-i.invariant.moments))

pub loop-i-preserved : goal.loop-i-preserved
loop-i-preserved g c =
    let old = g.L.Lines.made c.args.lines.now in
    let mid = g.L.Lines.made c.loop-i.lines in
    let P = KeepsOthers g.row.B c.args.first (length c.args.from.now) old in
    let w : Write = whole_write g.row.B (c.args.first + c.loop-i.i) c.of_line.result.now in
    let made : g.L.Lines.made c.put_all.new.self ≡ w ∷ mid = c.in_ok-put_all.ensures.made in
    let within : c.loop-i.i < length c.args.from.now = omega arith in
    let is : c.of_line.result.now ≡ get_or c.args.from.now c.loop-i.i [] = c.of_line.ensures.same ∙ get_or_read c.args.from.now c.loop-i.i c.index-from-i.result within c.index-from-i.is [] in
    record {
      stands = subst (λ (ws : List Write). (j : ℕ) → j < c.loop-i.i + 1 → stand g.row.B ws (c.args.first + j) ≡ get_or c.args.from.now j []) (sym made)
          (stand_more g.row.B c.args.first c.args.from.now c.loop-i.i w mid refl refl c.of_line.ensures.whole is c.loop-i.invariant.stands);
      moments = subst (λ (ws : List Write). AtEachMoment P old ws) (sym made)
          (made_one P old mid w c.loop-i.invariant.moments (keeps_more g.row.B c.args.first (length c.args.from.now) old w mid (omega arith) (omega arith) (at_end P old mid c.loop-i.invariant.moments)));
      stops = omega (arith, c.loop-i.invariant.stops, c.put_all.ensures.never_falls);
      kind = c.put_all.ensures.kind ∙ c.loop-i.invariant.kind;
    }
