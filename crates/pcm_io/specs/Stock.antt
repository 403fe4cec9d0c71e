-- Bytes in memory that are read from the front.
use Rattle.std.specs.Prelude.{ℕ, ◌+◌, min, List, ◌++◌, length, take, drop}

-- the bytes that are left, and how many were taken
pub record Stock : Type 0 where
  pub left : List ℕ
  pub taken : ℕ

-- nothing was taken yet
abbrev pub stock_of : List ℕ → Stock
stock_of bytes = record { left = bytes; taken = 0 }

-- how many bytes go into a buffer of this length: all that it holds, or all that are left
abbrev pub given_count : Stock → ℕ → ℕ
given_count s len = min len (length s.left)

-- the stock after a buffer of this length was filled
abbrev pub after_giving : Stock → ℕ → Stock
after_giving s len = record { left = drop (given_count s len) s.left; taken = s.taken + given_count s len }

-- the buffer after it was filled; what didn't get a byte stays
abbrev pub filled : Stock → List ℕ → List ℕ
filled s buffer = take (given_count s (length buffer)) s.left ++ drop (given_count s (length buffer)) buffer
