use Rattle.std.proofs.Common.{◌∙◌, refl, sym, ap}
use Rattle.seeded_lines.{specs.Planes.digit, specs.declared.digits.Digits.Digits, specs.declared.seeded.SeededCell.SeededCell, proofs.DrawnLemmas.drawn_is}
use Rattle.seeded_lines.proofs.YoungLemmas.{begun_of}
use Rattle.seeded_lines.proofs.young.Young.begun.Goals as goal

pub returns : goal.returns
returns g c =
    let drawn = drawn_is g.row.B g.row.M c.args.wear c.args.line in
    begun_of c.args.wear c.args.line _ c.zero.ensures.bytes c.zero-2.ensures c.zero-3.ensures c.zero-4.ensures c.zero-5.ensures refl
    (λ n low.
    ap (λ (d : Digits g.row.B g.row.M). digit d n) c.limits.ensures
    ∙ sym (ap (λ (x : SeededCell). x.limit) (c.drawn-drawn.ensures.cells n)) ∙ ap (λ (x : SeededCell). x.limit) (drawn.cells n low))
