use Rattle.std.proofs.Common.{◌≡◌, ◌∙◌, ℕ, ◌++◌, map, refl, ap, ap₂, arith}
use Rattle.std.proofs.lemmas.Simd.{map-map, zip2_splat}
use lib.Lanes.{pick_l}
use Rattle.pcm_io.proofs.HexLanes.{high_digit, low_digit, positions, same_lanes, shuffled, small_lanes}
use Rattle.pcm_io.proofs.hexadecimal.digits_of.Goals as goal

pub digits_of_values-high-requires : goal.digits_of_values-high-requires
digits_of_values-high-requires c = λ k low.
    small_lanes _ 256 16 c.args.bytes.now (zip2_splat {Y = ℕ} _ c.args.bytes.now 16 4 c.told-bytes) c.fits-bytes refl k (omega (arith, c.told-bytes))

pub digits_of_values-low-requires : goal.digits_of_values-low-requires
digits_of_values-low-requires c = λ k low.
    small_lanes _ 256 16 c.args.bytes.now (zip2_splat {Y = ℕ} _ c.args.bytes.now 16 15 c.told-bytes) c.fits-bytes refl k (omega (arith, c.told-bytes))

pub returns : goal.returns
returns c =
    let bytes = c.args.bytes.now in
    let high : c.digits_of_values-high.result ≡ map high_digit bytes =
    same_lanes _ high_digit 256 bytes (c.digits_of_values-high.ensures ∙ ap (map _) (zip2_splat {Y = ℕ} _ bytes 16 4 c.told-bytes) ∙ map-map _ _ bytes) (λ k _. c.fits-bytes k) refl in
    let low : c.digits_of_values-low.result ≡ map low_digit bytes =
    same_lanes _ low_digit 256 bytes (c.digits_of_values-low.ensures ∙ ap (map _) (zip2_splat {Y = ℕ} _ bytes 16 15 c.told-bytes) ∙ map-map _ _ bytes) (λ k _. c.fits-bytes k) refl in
    ap₂ (λ h l. pick_l 0 (h ++ l) positions) high low ∙ shuffled bytes c.told-bytes
