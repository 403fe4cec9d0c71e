-- What reads take from a source.
use Rattle.std.specs.{Io.KnownBytes.Consumes, Prelude.{◌≡◌, ℕ, List, length, Option}}
use Rattle.pcm_io.specs.Faults.{raised_by}

-- these bytes were taken: they came first of what was left, where that is told, and the count of taken bytes was raised by their number
pub record Takes (left_before left_now : Option (List ℕ)) (taken_before taken_now : ℕ) (bytes : List ℕ) : Type 0 where
  pub first : Consumes left_before left_now bytes
  pub counted : taken_now ≡ raised_by taken_before (length bytes)
