use Rattle.std.proofs.Common.{refl}
use Rattle.std.proofs.lemmas.Simd.{length-chunk, splat_is_map}
use lib.Lanes.{chunk}
use Rattle.trace_reader.proofs.{HexLanes.{chosen, itself, told}, Lanes.joined}
use Rattle.trace_reader.proofs.digits.values_at.Goals as goal

pub returns : goal.returns
returns c =
    let v = chunk c.args.at 32 c.args.text.now in
    let long = length-chunk c.args.at 32 c.args.text.now c.requires in
    let wraps = joined _ _ _ v (itself v) (splat_is_map v 32 _ long) in
    let digits = joined _ _ _ v (joined _ _ _ v (chosen _ _ _ v (joined _ _ _ v wraps (splat_is_map v 32 _ long)) (splat_is_map v 32 _ long) wraps) (splat_is_map v 32 _ long)) (splat_is_map v 32 _ long) in
    let from_a = joined _ _ _ v (joined _ _ _ v (itself v) (splat_is_map v 32 _ long)) (splat_is_map v 32 _ long) in
    let letters = joined _ _ _ v (chosen _ _ _ v (joined _ _ _ v from_a (splat_is_map v 32 _ long)) from_a (splat_is_map v 32 _ long)) (splat_is_map v 32 _ long) in
    told c.args.text.now c.args.at 32 _ _ c.requires c.type_inv.text
    (chosen _ _ _ v (joined _ _ _ v digits letters) digits letters) refl
