-- How many requests were stopped, as one more is.
use Rattle.std.proofs.Common.{◌≡◌, ℕ, ◌+◌, List, [], ◌∷◌, ◌++◌, arith}
use Rattle.atomic_sectors.specs.{Stops.{RoseBy, stops_of, stops_in}, declared.serving.SectorAnswer.SectorAnswer}

module _ {n : ℕ} where
  pub stops-more : (answers : List (SectorAnswer n)) (a : SectorAnswer n) → stops_in (answers ++ a ∷ []) ≡ stops_in answers + stops_of a
  stops-more [] a = omega arith
  stops-more (b ∷ answers) a = omega (arith, stops-more answers a)

-- one behind the other
pub rose-both : (one other was mid now : ℕ) → RoseBy one was mid → RoseBy other mid now → RoseBy (one + other) was now
rose-both one other was mid now first then = omega (arith, first, then)

-- none was stopped yet
pub rose-none : (was : ℕ) → RoseBy 0 was was
rose-none was = omega arith
