use Rattle.std.proofs.Common.{arith, rules, length, refl}
use borrow.Author.Count.{below_more}
use Rattle.check_reader.{specs.Splitting.IsHeaderAt, proofs.Begins.{first_byte, header_first, no_header}}
use Rattle.check_reader.proofs.split.find_results.Goals.{else-byte-eq114-via-then-byte-eq114+else-is_header_at, else-byte-eq114-via-else-byte-eq114}
use Rattle.check_reader.proofs.split.find_results.Goals as goal

pub returns-then-is_header_at : goal.returns-then-is_header_at
returns-then-is_header_at c = header_first c.args.bytes.now c.starts.at (c.is_header_at.ensures.0 (search rules)) c.starts.invariant

pub starts-preserved : goal.starts-preserved
starts-preserved c =
    let here : ¬ IsHeaderAt c.args.bytes.now c.starts.at = elim c.else-byte-eq114.branch [
      | else-byte-eq114-via-then-byte-eq114+else-is_header_at w ↦ λ header. cc (w.is_header_at.ensures.1 header)
      | else-byte-eq114-via-else-byte-eq114 w ↦ λ header.
          let r = first_byte c.args.bytes.now c.starts.at c.starts-test.true header.header in
          search rules
    ] in
    below_more (λ k. ¬ IsHeaderAt c.args.bytes.now k) c.starts.at c.starts.invariant here

pub returns : goal.returns
returns c = no_header c.args.bytes.now (length c.args.bytes.now) refl (λ before below. c.starts.invariant before (omega arith))
