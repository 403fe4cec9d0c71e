use Rattle.feistel_map.proofs.Powers.{log2-between, bits_some, bits_few}
use Rattle.rotation_reports.proofs.line_rows.bits_of.Goals as goal
use Rattle.std.proofs.Common.{sym}

pub returns : goal.returns
returns c = record {
  bits = sym (log2-between _ c.args.lines c.ilog2.ensures.power_le c.ilog2.ensures.next_power_gt);
  some = bits_some _ c.args.lines c.requires.some c.ilog2.ensures.next_power_gt;
  few = bits_few _ c.args.lines c.requires.few c.ilog2.ensures.power_le;
}
