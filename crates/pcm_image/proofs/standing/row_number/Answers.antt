use Rattle.std.proofs.Common.{◌+◌, ◌*◌, ◌<◌, ◌≤◌, arith}
use Rattle.module_shape.specs.Limits.{most_array_lines}
use Rattle.pcm_image.{specs.Giving.head_view, specs.Saved.array_lines_in, proofs.Heads.{array_lines-few, row_below}}
use Rattle.pcm_image.proofs.standing.row_number.Goals as goal

pub overflow_mul-result : goal.overflow_mul-result
overflow_mul-result c =
    let below : c.args.bank * c.bank_lines.result + c.args.line < c.args.head.banks * c.bank_lines.result = rw c.bank_lines.ensures (row_below c.args.bank c.args.head.banks (array_lines_in (head_view c.args.head)) c.args.line c.requires.exists c.requires.within) in
    let few : c.args.head.banks * c.bank_lines.result ≤ most_array_lines = rw c.bank_lines.ensures (array_lines-few (head_view c.args.head) c.requires.head) in
    omega (arith, below, few)

pub overflow_add-result : goal.overflow_add-result
overflow_add-result c =
    let below : c.args.bank * c.bank_lines.result + c.args.line < c.args.head.banks * c.bank_lines.result = rw c.bank_lines.ensures (row_below c.args.bank c.args.head.banks (array_lines_in (head_view c.args.head)) c.args.line c.requires.exists c.requires.within) in
    let few : c.args.head.banks * c.bank_lines.result ≤ most_array_lines = rw c.bank_lines.ensures (array_lines-few (head_view c.args.head) c.requires.head) in
    omega (arith, below, few)

pub returns-clause-within : goal.returns-clause-within
returns-clause-within c = rw c.bank_lines.ensures (row_below c.args.bank c.args.head.banks (array_lines_in (head_view c.args.head)) c.args.line c.requires.exists c.requires.within)
