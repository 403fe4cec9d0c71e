use Rattle.std.proofs.Common.{cond, slice_index, refl, arith}
use Rattle.std.proofs.lemmas.Simd.{zip2_of_maps, zip2_splat, zip2_splat_left}
use lib.Dec.{ltb}
use Rattle.hex.specs.Hex.{lower_digits}
use Rattle.pcm_io.proofs.HexLanes.{one_of_two, same_lanes}
use Rattle.pcm_io.proofs.hexadecimal.digits_of_values.Goals as goal

pub returns : goal.returns
returns c =
    let v = c.args.values in
    let long = c.fits-values.0 in
    same_lanes _ (λ value. slice_index lower_digits value) 16 v
    (zip2_of_maps _ _ _ v (zip2_splat _ v 16 _ long) (one_of_two _ 39 0 16 v long (zip2_splat_left (λ a b. cond (ltb a b) 255 0) 9 16 v long)))
    (λ k low. c.requires k (omega (arith, long))) refl
