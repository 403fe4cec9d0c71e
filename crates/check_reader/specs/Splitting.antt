-- Where the results begin in a source that has a trace and its results.
use Rattle.std.specs.Prelude.{◌≡◌, ℕ, ◌-◌, ◌<◌, ◌≤◌, ◌⊎◌, List, [], ◌∷◌, ◌++◌, length, drop, codes, slice_index}

-- the header of results, as a line without its end
abbrev pub header_line : List ℕ
header_line = codes "row,op,line,outcome,tick,place,data"

-- a line begins at the first byte, and behind an LF or a CR
abbrev pub BeginsLine : List ℕ → ℕ → Type 0
BeginsLine bytes at = (at ≡ 0) ⊎ ((slice_index bytes (at - 1) ≡ 10) ⊎ (slice_index bytes (at - 1) ≡ 13))

-- a line ends before an LF, and at the end of the bytes
abbrev pub EndsLine : List ℕ → Type 0
EndsLine behind = (behind ≡ []) ⊎ ((rest : List ℕ) × (behind ≡ 10 ∷ rest))

-- the bytes begin with a line that is exactly the header
abbrev pub BeginsWithHeader : List ℕ → Type 0
BeginsWithHeader bytes = (behind : List ℕ) × (bytes ≡ header_line ++ behind) × EndsLine behind

-- a line that is exactly the header begins here
pub record IsHeaderAt (bytes : List ℕ) (at : ℕ) : Type 0 where
  pub within : at < length bytes
  pub begins : BeginsLine bytes at
  pub header : BeginsWithHeader (drop at bytes)

-- the first such line begins here, or there is none and this is the end of the bytes
pub record BeginResultsAt (bytes : List ℕ) (at : ℕ) : Type 0 where
  pub header : (at ≡ length bytes) ⊎ IsHeaderAt bytes at
  pub within : at ≤ length bytes
  pub first : (before : ℕ) → before < at → ¬ IsHeaderAt bytes before
