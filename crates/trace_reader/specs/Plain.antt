-- Rows of plain bytes.
use Rattle.std.specs.{Int.{w64, trailing_zeros}, Prelude.{◌≡◌, ℕ, ◌+◌, ◌==◌, ◌&&◌, ◌<◌, ◌≤◌, not, Bool, true, if◌then◌else◌, ◌-◌, List, [], ◌∷◌, length, take, drop, slice_index}}
use Rattle.trace_reader.specs.declared.plain.PlainRow.{PlainRow}

-- whether a byte is none that `csv` looks for: no quote, no comma, no end of a line
abbrev pub is_plain : ℕ → Bool
is_plain byte = not (byte == 34) && not (byte == 44) && not (byte == 13) && not (byte == 10)

-- the place of the lowest bit that is 1, or else this number
abbrev pub first_set : ℕ → ℕ → ℕ
first_set mask lanes = if mask == 0 then lanes else trailing_zeros w64 mask

-- plain bytes from one place on, up to the first byte that isn't, which is this one
pub record IsField (bytes : List ℕ) (from at end : ℕ) : Type 0 where
  pub order : from ≤ at
  pub within : at < length bytes
  pub ends : slice_index bytes at ≡ end
  pub plain : (k : ℕ) → from ≤ k → k < at → is_plain (slice_index bytes k) ≡ true

-- four fields one behind the other
pub record IsPlainRow (bytes : List ℕ) (from : ℕ) (row : PlainRow) : Type 0 where
  pub tick : IsField bytes from row.tick 44
  pub op : IsField bytes (row.tick + 1) row.op 44
  pub line : IsField bytes (row.op + 1) row.line 44
  pub payload : IsField bytes (row.line + 1) row.payload 10

-- the bytes from one place up to another
abbrev pub piece : List ℕ → ℕ → ℕ → List ℕ
piece bytes from at = take (at - from) (drop from bytes)

-- the fields of a plain row
abbrev pub fields_in : List ℕ → ℕ → PlainRow → List (List ℕ)
fields_in bytes from row =
    piece bytes from row.tick ∷ piece bytes (row.tick + 1) row.op ∷ piece bytes (row.op + 1) row.line ∷ piece bytes (row.line + 1) row.payload ∷ []
