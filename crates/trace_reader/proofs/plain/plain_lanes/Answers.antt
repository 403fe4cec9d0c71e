use Rattle.std.proofs.Common.{arith, refl}
use Rattle.std.proofs.lemmas.Simd.{length-chunk, zip2_splat}
use lib.Lanes.{chunk}
use Rattle.trace_reader.{specs.Plain.is_plain, proofs.Lanes.{few_in, passes_in}}
use Rattle.trace_reader.proofs.plain.plain_lanes.Goals as goal

pub returns-clause-few : goal.returns-clause-few
returns-clause-few c =
    let v = chunk c.args.at 16 c.args.bytes.now in
    let long = length-chunk c.args.at 16 c.args.bytes.now c.requires in
    few_in c.args.bytes.now c.args.at 16 _ _ c.requires (omega arith) c.first_set.ensures _
    (zip2_splat _ v 16 44 long)

pub returns-clause-plain : goal.returns-clause-plain
returns-clause-plain c =
    let v = chunk c.args.at 16 c.args.bytes.now in
    let long = length-chunk c.args.at 16 c.args.bytes.now c.requires in
    passes_in is_plain c.args.bytes.now c.args.at 16 _ _ c.requires (omega arith) c.type_inv.bytes c.first_set.ensures _
    (zip2_splat _ v 16 44 long) refl
