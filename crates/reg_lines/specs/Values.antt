-- What a control line holds of an item: three numbers of four bytes each, the lowest byte first, and then zeros.
use Rattle.std.specs.{Int.{w32, to_le_bytes, from_le_bytes}, Prelude.{ℕ, ◌-◌, List, [], ◌∷◌, ◌++◌, replicate, take, drop}}

abbrev pub bytes_of : List ℕ → List ℕ
bytes_of [] = []
bytes_of (value ∷ values) = to_le_bytes w32 value ++ bytes_of values

-- the bytes of a line that holds these values
abbrev pub encoded : ℕ → List ℕ → List ℕ
encoded n values = bytes_of values ++ replicate (n - 12) 0

-- the number whose lowest byte stands here, and the three of a line
abbrev pub value_at : List ℕ → ℕ → ℕ
value_at bytes index = from_le_bytes w32 (take 4 (drop index bytes))

abbrev pub values_in : List ℕ → List ℕ
values_in bytes = value_at bytes 0 ∷ value_at bytes 4 ∷ value_at bytes 8 ∷ []
