use Rattle.std.proofs.Common.{◌*◌, ◌≤◌, arith}
use Rattle.module_shape.specs.Limits.{most_array_lines}
use Rattle.pcm_image.{specs.Giving.head_view, proofs.Heads.array_lines-few}
use Rattle.pcm_image.proofs.standing.array_lines.Goals as goal

pub overflow_mul-result : goal.overflow_mul-result
overflow_mul-result c =
    let few : c.args.head.banks * c.bank_lines.result ≤ most_array_lines = rw c.bank_lines.ensures (array_lines-few (head_view c.args.head) c.requires) in
    omega (arith, few)

pub returns-clause-few : goal.returns-clause-few
returns-clause-few c = rw c.bank_lines.ensures (array_lines-few (head_view c.args.head) c.requires)
