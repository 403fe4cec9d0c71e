-- What a row of cells is, cell by cell.
use Rattle.std.specs.{Int.bit_at, Prelude.{ℕ, zero, suc, ◌+◌, ◌/◌, ◌%◌, Bool, true, false, not, cond, List, ◌++◌, nat_eq, replicate, slice_index}}
use Rattle.cell_rows.specs.declared.row.Cells.{Cells}

-- whether bit i of a number is 1
abbrev pub bit_in : ℕ → ℕ → Bool
bit_in number i = nat_eq (bit_at number i) 1

-- bit n of a list of bytes: bit `n % 8` of byte `n / 8`, the lowest bit being bit 0; past the end it is false
abbrev pub bit_of : List ℕ → ℕ → Bool
bit_of bytes n = nat_eq (bit_at (slice_index bytes (n / 8)) (n % 8)) 1

-- cell n of a row: the data cells first, and then the check cells; past the end it is false
unfoldable pub cell : {B M : ℕ} → Cells B M → ℕ → Bool
cell row n = bit_of (row.bits ++ row.meta) n

-- the row whose bytes are all 0
abbrev pub zero_row : (B M : ℕ) → Cells B M
zero_row B M = record { bits = replicate B 0; meta = replicate M 0 }

-- exactly one of the two
abbrev pub xor : Bool → Bool → Bool
xor true b = not b
xor false b = b

-- how many of the numbers below n have the property
unfoldable pub members : (ℕ → Bool) → ℕ → ℕ
members has zero = 0
members has (suc n) = members has n + cond (has n) 1 0
