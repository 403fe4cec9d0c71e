-- What contracts see of places.
use Rattle.std.specs.Prelude.{◌≡◌, ℕ}
use Rattle.feistel_map.specs.{Log2.log2, Network.{Network, network_of}}
use Rattle.module_shape.specs.{Limits.{IsShape, total_of}, declared.raw.RawShape.RawShape}

-- the sizes of a module, and the seed of its randomiser
pub record Placing : Type 0 where
  pub shape : RawShape
  pub seed : ℕ

-- the sizes are in range, and the randomiser is that of the seed
pub record IsPlacing (raw : RawShape) (seed : ℕ) (network : Network) : Type 0 where
  pub in_range : IsShape raw
  pub mixing : network ≡ network_of (log2 (total_of raw)) seed
