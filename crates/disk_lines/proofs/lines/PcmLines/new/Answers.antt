use Rattle.std.proofs.Common.{ℕ, [], ◌∙◌, refl, sym, subst, arith}
use Rattle.cell_rows.specs.Device.{IsFresh}
use Rattle.module_shape.specs.{Limits.IsShape, declared.raw.RawShape.RawShape}
use Rattle.disk_lines.proofs.lines.PcmLines.new.Goals as goal

pub invariant_of-result : goal.invariant_of-result
invariant_of-result g c =
    let made = c.in_ok-module.ensures.shape in
    let array = g.A.CellArray.state c.power_up.new.self in
    let Fresh : ℕ → Type 0 = λ lines. IsFresh lines c.args.wear array in
    let fresh = subst Fresh c.array_lines.ensures.number c.in_ok-power_up.ensures.ok in
    rw (c.new-watch.ensures.heard, c.new-3.ensures.newest) (record {
      layout = c.requires.layout;
      in_range = subst (λ (raw : RawShape). IsShape raw) (sym made.0) c.array_lines.ensures.in_range;
      shape = c.new-2.ensures.shape ∙ sym made.0;
      seed = c.new-2.ensures.seed ∙ sym made.1;
      has = record {
        history = λ bank. [];
        served = record { shape = refl; seeded = refl; going = made.4; bound = omega (arith, made.3); size = refl; replays = c.in_ok-module.ensures.begins array c.args.wear [] fresh };
        in_time = omega (arith, made.2);
      };
      stands = λ line exists. refl;
    })
