use Rattle.std.proofs.Common.{sym, subst, refl}
use Rattle.cell_rows.specs.Device.{IsWear}
use Rattle.module_shape.specs.Limits.{IsShape, large_limits, shape_fault}
use Rattle.pcm_c.{specs.Opening.raw_of, proofs.Opening.shape-asked}
use Rattle.pcm_c.proofs.options.choose.Goals as goal

pub returns-in-Ok-clause-right : goal.returns-in-Ok-clause-right
returns-in-Ok-clause-right c =
    let raw = raw_of c.args.options.now c.in-Some.policy c.in-Some-home.home in
    let asked = shape-asked c.in-Ok.shape raw (shape_fault large_limits raw) c.in-Ok.ensures.exact in
    record {
      right = record {
        policy = c.in-Some.policy;
        home = c.in-Some-home.home;
        is_policy = sym c.in-Some.ensures;
        is_home = sym c.in-Some-home.ensures;
        shape = subst IsShape asked c.in-Ok.ensures.in_range;
        wear = subst IsWear c.in_ok-wear.ensures.right.0 c.in_ok-wear.ensures.right.1;
        is_wide = c.in-Some-is_wide.is_wide;
        line = c.in-Some-is_wide.ensures.line;
      };
      shape = asked;
      wear = c.in_ok-wear.ensures.right.0;
      wide = refl;
    }
