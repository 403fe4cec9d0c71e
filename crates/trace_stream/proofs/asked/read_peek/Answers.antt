use Rattle.std.proofs.Common.{sym}
use Rattle.trace_stream.proofs.Peeking.{peek-by, same-line}
use Rattle.trace_stream.proofs.asked.read_peek.Goals as goal

pub unreachable-requires : goal.unreachable-requires
unreachable-requires c =
    let is = peek-by c.args.lines c.args.before c.args.row.now.fields _ _ _ _ _ c.field.ensures c.field-2.ensures c.field-3.ensures c.read_fields-read.ensures c.in-Ok.is in
    c.in_default.not-Read is.0 is.1

pub returns-in-Read : goal.returns-in-Read
returns-in-Read c =
    let is = peek-by c.args.lines c.args.before c.args.row.now.fields _ _ _ _ _ c.field.ensures c.field-2.ensures c.field-3.ensures c.read_fields-read.ensures c.in-Ok.is in
    same-line c.in-Ok.read.tick is.0 c.in-Read.line c.in-Ok.read.op _ is.1 c.in-Read.is is.2

pub returns-in-Err : goal.returns-in-Err
returns-in-Err c =
    sym (peek-by c.args.lines c.args.before c.args.row.now.fields _ _ _ _ _ c.field.ensures c.field-2.ensures c.field-3.ensures c.read_fields-read.ensures c.in-Err.is)
