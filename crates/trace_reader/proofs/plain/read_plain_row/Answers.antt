use Rattle.std.proofs.Common.{◌∙◌, sym}
use Rattle.trace_reader.proofs.PlainRows.{event_is}
use Rattle.trace_reader.proofs.plain.read_plain_row.Goals as goal

pub returns : goal.returns
returns g c = c.read_fields.ensures ∙ sym (event_is g.row.B c.args.lines c.args.before _ _ _ _)
