use Rattle.std.proofs.Common.{◌≡◌, Some}
use Rattle.result_check.specs.Finding.{line_written}
use Rattle.result_check.proofs.ahead.Outlook.add.Goals as goal
use Rattle.trace_rows.specs.Rows.{asks_of}

pub returns-in-Some : goal.returns-in-Some
returns-in-Some g c = λ rows h.
    let is : line_written (asks_of c.args.event.now.op) ≡ Some c.in-Some.line = cc in
    c.add_write.ensures rows (asks_of c.args.event.now.op) is h
