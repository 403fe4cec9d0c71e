-- The sizes of a row.
use Rattle.std.specs.Prelude.{ℕ, ◌≡◌, ◌≤◌, ◌%◌}

-- the numbers of data bytes and of check bytes that a line may have
abbrev pub IsShape : ℕ → ℕ → Type 0
IsShape B M = (8 ≤ B) × (B ≤ 128) × (1 ≤ M) × (M ≤ 16)

-- rows of whole blocks of 64 cells, that is of eight bytes
abbrev pub IsWhole : ℕ → ℕ → Type 0
IsWhole B M = (B % 8 ≡ 0) × (M % 8 ≡ 0)
