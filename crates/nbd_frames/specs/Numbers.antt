-- Numbers as NBD has them: of two, four and eight bytes, the highest byte first.
use Rattle.std.specs.{Int.{w16, w32, w64, from_be_bytes, to_be_bytes}, Prelude.{ℕ, List, take, drop}}

abbrev pub two : ℕ → List ℕ
two n = to_be_bytes w16 n

abbrev pub four : ℕ → List ℕ
four n = to_be_bytes w32 n

abbrev pub eight : ℕ → List ℕ
eight n = to_be_bytes w64 n

-- the number that so many bytes are, from a place on
abbrev pub two_at : List ℕ → ℕ → ℕ
two_at bytes at = from_be_bytes w16 (take 2 (drop at bytes))

abbrev pub four_at : List ℕ → ℕ → ℕ
four_at bytes at = from_be_bytes w32 (take 4 (drop at bytes))

abbrev pub eight_at : List ℕ → ℕ → ℕ
eight_at bytes at = from_be_bytes w64 (take 8 (drop at bytes))
