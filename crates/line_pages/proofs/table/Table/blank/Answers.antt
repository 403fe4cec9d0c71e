use Rattle.std.proofs.Common.{◌≡◌, replicate, arith, length, ap, ◌∙◌}
use Rattle.std.proofs.lemmas.List.{length-replicate}
use Rattle.line_pages.proofs.TableLemmas.{blocks-blank, numbers-blank}
use Rattle.line_pages.proofs.table.Table.blank.Goals as goal

pub returns : goal.returns
returns c =
    let blocks = c.in_ok-vec.field-0 in
    let zeros : blocks.items ≡ replicate c.div_ceil-blocks.result 0 = grind arith in
    numbers-blank blocks.items _ c.div_ceil-blocks.result c.args.lines zeros

pub invariant_of-result : goal.invariant_of-result
invariant_of-result c =
    let blocks = c.in_ok-vec.field-0 in
    let zeros : blocks.items ≡ replicate c.div_ceil-blocks.result 0 = grind arith in
    let size : length blocks.items ≡ c.div_ceil-blocks.result = ap length zeros ∙ length-replicate c.div_ceil-blocks.result 0 in
    record {
      each =
          blocks-blank blocks.items _ c.div_ceil-blocks.result _ zeros c.in_ok-with_capacity.ensures.items (omega (arith, c.div_ceil-blocks.ensures, c.ranges.lines))
          c.in_ok-with_capacity.ensures.capacity;
      covered = omega (arith, c.div_ceil-blocks.ensures, size);
      few = omega (arith, c.ranges.lines);
    }
