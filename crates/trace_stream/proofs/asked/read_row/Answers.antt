use Rattle.std.proofs.Common.{sym, arith}
use Rattle.trace_reader.proofs.Numbers.{number_within}
use Rattle.trace_stream.proofs.asked.read_row.Goals as goal

pub overflow_cast-result : goal.overflow_cast-result
overflow_cast-result c =
    let within = number_within 10 c.args.rows c.in_ok-row.row c.args.text.now (sym c.in_ok-row.ensures) in
    omega (arith, within, c.ranges.rows.fits)
