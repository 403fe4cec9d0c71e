use Rattle.std.proofs.Common.{◌≡◌, ◌*◌, ◌+◌, ◌∙◌, length, arith}
use Rattle.std.proofs.lemmas.Simd.{length-put_chunk}
use Rattle.trace_reader.proofs.{HexLanes.{no_digit, sixteen_more}, Table.{bytes_of-bad, bytes_of-read}}
use Rattle.trace_reader.proofs.payload.read_digits.Goals.{then-high-gt15-via-then-high-gt15, then-high-gt15-via-else-high-gt15+then-low-gt15}
use Rattle.trace_reader.proofs.payload.read_digits.Goals as goal

pub returns-then-not-are_digits-clause-bad : goal.returns-then-not-are_digits-clause-bad
returns-then-not-are_digits-clause-bad c = λ _.
    let lane = c.are_digits.ensures.not_all c.if-not-are_digits.true in
    bytes_of-bad (length c.args.bytes.now) c.args.text.now (2 * c.by_lanes.done + lane.0) c.requires (omega (arith, lane.1, c.by_lanes.invariant.same))
    (no_digit c.args.text.now c.by_lanes.bytes c.by_lanes.done c.values_at-values.result c.by_lanes.bytes c.by_lanes.invariant.reads c.values_at-values.ensures lane.0 lane.1 lane.2)

pub by_lanes-preserved : goal.by_lanes-preserved
by_lanes-preserved c =
    let put = length-put_chunk c.by_lanes.done c.by_lanes.bytes c.bytes_of_values.result in
    record {
      within = omega arith;
      same = put ∙ c.by_lanes.invariant.same;
      reads =
          sixteen_more c.args.text.now c.by_lanes.bytes c.by_lanes.done c.values_at-values.result c.bytes_of_values.result c.by_lanes.invariant.reads c.values_at-values.ensures
          c.bytes_of_values.ensures.length (omega arith) (c.are_digits.ensures.all c.if-not-are_digits.false) c.bytes_of_values.ensures.bytes;
    }

pub returns-then-high-gt15-clause-bad : goal.returns-then-high-gt15-clause-bad
returns-then-high-gt15-clause-bad c = λ _.
    elim c.then-high-gt15.branch [
      | then-high-gt15-via-then-high-gt15 w ↦
          bytes_of-bad (length c.args.bytes.now) c.args.text.now (2 * c.by_pairs.i) c.requires (omega arith) (omega (arith, c.value-high.ensures, w.if-high-gt15.true))
      | then-high-gt15-via-else-high-gt15+then-low-gt15 w ↦
          bytes_of-bad (length c.args.bytes.now) c.args.text.now (2 * c.by_pairs.i + 1) c.requires (omega arith) (omega (arith, c.value-low.ensures, w.if-low-gt15.true))
    ]

pub returns-clause-read : goal.returns-clause-read
returns-clause-read c = λ _.
    let end : c.by_pairs.i ≡ length c.args.bytes.now = omega arith in
    bytes_of-read (length c.args.bytes.now) c.args.text.now c.by_pairs.bytes c.requires (c.by_pairs.invariant.same ∙ c.by_lanes.invariant.same) (rw end at c.by_pairs.invariant.reads)
