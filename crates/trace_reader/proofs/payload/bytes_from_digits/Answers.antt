use Rattle.std.proofs.Common.{sym, arith}
use Rattle.trace_reader.proofs.{Table.{bytes_of-odd, bytes_of-other}, payload.bytes_from_digits.Goals.{then-text-ne0-via-then-text-ne0, then-text-ne0-via-else-text-ne0+then-text}}
use Rattle.trace_reader.proofs.payload.bytes_from_digits.Goals as goal

pub returns-then-text-ne0 : goal.returns-then-text-ne0
returns-then-text-ne0 g c =
    elim c.then-text-ne0.branch [
      | then-text-ne0-via-then-text-ne0 w ↦ sym (bytes_of-odd g.row.B c.args.text.now (omega arith))
      | then-text-ne0-via-else-text-ne0+then-text w ↦ sym (bytes_of-other g.row.B c.args.text.now (omega arith))
    ]
