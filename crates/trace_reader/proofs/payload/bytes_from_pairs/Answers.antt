use Rattle.std.proofs.Common.{◌≡◌, ◌∙◌, ◌+◌, ◌*◌, true, false, Some, None, sym, ap, arith}
use Rattle.std.{specs.List.list_any, specs.Prelude.option_map, proofs.Math.ListN.{get_or, length-set}}
use Rattle.trace_reader.{specs.Payload.pair_of, proofs.Pairs.{masked_of-length, masked_of-bad, masked_of-done, reads_pairs-more}}
use Rattle.trace_reader.proofs.payload.bytes_from_pairs.Goals as goal

pub returns-then-text-ne0 : goal.returns-then-text-ne0
returns-then-text-ne0 g c = sym (masked_of-length g.row.B c.args.text.now (omega arith))

pub returns-in_err-byte : goal.returns-in_err-byte
returns-in_err-byte g c =
    let bad : pair_of (get_or c.args.text.now (2 * c.pairs.i) 0) (get_or c.args.text.now (2 * c.pairs.i + 1) 0) ≡ None = sym c.read_pair.ensures ∙ sym c.in_err-byte.ensures.value in
    ap (option_map (λ m. record { bytes = m.bytes; given = m.given })) c.from_residual.ensures
    ∙ sym (masked_of-bad g.row.B c.args.text.now c.pairs.i c.pairs.bytes c.pairs.given (omega arith) bad c.pairs.invariant.2)

pub pairs-preserved : goal.pairs-preserved
pairs-preserved g c =
    let good : pair_of (get_or c.args.text.now (2 * c.pairs.i) 0) (get_or c.args.text.now (2 * c.pairs.i + 1) 0) ≡ Some c.in_ok-byte.byte = sym c.read_pair.ensures ∙ sym c.in_ok-byte.ensures.value in
    let more = reads_pairs-more c.args.text.now c.pairs.i c.pairs.bytes c.pairs.given c.in_ok-byte.byte (omega arith) (omega arith) (omega arith) good c.pairs.invariant.2 in
    (length-set c.pairs.bytes c.pairs.i c.unwrap_or.result ∙ c.pairs.invariant.0, length-set c.pairs.given c.pairs.i c.is_some.result ∙ c.pairs.invariant.1, rw (c.unwrap_or.ensures, c.is_some.ensures) more)

pub returns-then-gives_some : goal.returns-then-gives_some
returns-then-gives_some g c =
    let some : list_any (λ g. g) c.pairs.given ≡ true = sym c.gives_some.ensures ∙ c.if-gives_some.true in
    let end : c.pairs.i ≡ g.row.B = omega arith in
    let done = masked_of-done g.row.B c.args.text.now c.pairs.bytes c.pairs.given (omega arith) c.pairs.invariant.0 c.pairs.invariant.1 (rw end at c.pairs.invariant.2) in
    sym (rw some at done)

pub returns-else-gives_some : goal.returns-else-gives_some
returns-else-gives_some g c =
    let none : list_any (λ g. g) c.pairs.given ≡ false = sym c.gives_some.ensures ∙ c.if-gives_some.false in
    let end : c.pairs.i ≡ g.row.B = omega arith in
    let done = masked_of-done g.row.B c.args.text.now c.pairs.bytes c.pairs.given (omega arith) c.pairs.invariant.0 c.pairs.invariant.1 (rw end at c.pairs.invariant.2) in
    sym (rw none at done)
