use Rattle.std.proofs.Common.{[], refl, replicate, true}
use Rattle.disk_lines.proofs.Reading.{refused-write}
use Rattle.disk_lines.proofs.masks.whole_op.Goals as goal

pub returns-clause-lawful : goal.returns-clause-lawful
returns-clause-lawful g c = λ lines there. (there, c.told-bytes)

pub returns-clause-writes : goal.returns-clause-writes
returns-clause-writes g c = record {
  no_cut = refl;
  lays = λ tick line outcome under fits. refl;
  refused = λ tick outcome others is not. refused-write tick c.args.place c.args.bytes.now (replicate g.row.B true) [] outcome is not;
}
