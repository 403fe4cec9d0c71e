use Rattle.std.proofs.Common.{rules, ◌≡◌, sym}
use Rattle.check_reader.proofs.Hexes.{if_none, Decodes, refuses, decodes, decoded}
use Rattle.check_reader.proofs.digits.read_bytes.Goals as goal

pub returns-in_err-ok-clause-none : goal.returns-in_err-ok-clause-none
returns-in_err-ok-clause-none g c =
    let decoding : Decodes c.args.digits.now g.row.B c.decode_to_slice.result c.decode_to_slice.new.out = search rules in
    if_none c.from_residual.result (refuses c.args.digits.now c.decode_to_slice.new.out g.row.B c.decode_to_slice.result decoding (sym c.in_err-ok.ensures.value))

pub returns-then-is_printed-clause-some : goal.returns-then-is_printed-clause-some
returns-then-is_printed-clause-some g c = ((search rules, λ i. rw c.as_slice.ensures at (c.is_printed.ensures.are i)), search rules)

pub returns-else-is_printed-clause-none : goal.returns-else-is_printed-clause-none
returns-else-is_printed-clause-none g c = λ bytes are is.
    let decoding : Decodes c.args.digits.now g.row.B c.decode_to_slice.result c.decode_to_slice.new.out = search rules in
    let good = decodes c.args.digits.now c.decode_to_slice.new.out g.row.B c.decode_to_slice.result decoding (sym c.in_ok-ok.ensures.value) in
    let same : c.decode_to_slice.new.out ≡ bytes = decoded g.row.B c.args.digits.now c.decode_to_slice.new.out bytes good are is in
    cc (c.is_printed.ensures.printed.1 (rw (c.as_slice.ensures, same) is), c.if-is_printed.false)
