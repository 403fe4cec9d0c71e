use Rattle.std.proofs.Common.{rules, ◌<◌, length}
use Rattle.check_reader.proofs.Hexes.{if_none, none_of}
use Rattle.check_reader.proofs.digits.read_digits.Goals as goal

pub returns-in_err-bytes-clause-none : goal.returns-in_err-bytes-clause-none
returns-in_err-bytes-clause-none g c =
    let some : 0 < length c.args.digits.now = search rules in
    if_none c.from_residual.result (none_of g.row.B c.args.digits.now some c.in_err-bytes.ensures.none)
