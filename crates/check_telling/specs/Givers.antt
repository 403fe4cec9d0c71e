-- Which rows gave the newest bytes of a line.
use Rattle.std.specs.{List.AllByRecursion, Prelude.{◌≡◌, ◌≢◌, ℕ, ◌+◌, ◌-◌, ◌≤◌, ◌⊎◌, true, false, if◌then◌else◌, List, [], ◌∷◌, length, replicate, reverse, Some, slice_get}}
use Rattle.masked_bytes.specs.Masked.{laid}
use Rattle.row_rules.specs.{Rows.{newest, accepted_of, asks_write, bytes_of, given_of}, declared.Row.Row}

-- the number of a row laid over those of others where the row is an accepted write of the line that gives the byte
abbrev pub mark_row : {n : ℕ} → ℕ → ℕ → Row n → List ℕ → List ℕ
mark_row {n} line number r under = if accepted_of line r then laid (replicate n number) (given_of r.asks) under else under

-- byte for byte the number of the newest accepted write of a line that gives the byte, or 0. The rows come the newest first, and number 1 is
-- the last of them
abbrev pub givers : {n : ℕ} → List (Row n) → ℕ → List ℕ
givers {n} [] line = replicate n 0
givers (r ∷ before) line = mark_row line (length before + 1) r (givers before line)

-- a row of these, the oldest first, is an accepted write of the line and gives this value to byte k; none behind it gives the byte
pub record Gives {n : ℕ} (rows : List (Row n)) (line k number value : ℕ) : Type 0 where
  pub row : Row n
  pub at : slice_get rows (number - 1) ≡ Some row
  pub accepts : accepted_of line row ≡ true
  pub gives : slice_get (given_of row.asks) k ≡ Some true
  pub value_is : slice_get (bytes_of row.asks) k ≡ Some value
  pub last : (i : ℕ) (q : Row n) → number ≤ i → slice_get rows i ≡ Some q → accepted_of line q ≡ true → slice_get (given_of q.asks) k ≡ Some false

-- no accepted write of the line gives byte k
abbrev pub NoneGives : {n : ℕ} → List (Row n) → ℕ → ℕ → Type 0
NoneGives {n} rows line k = (i : ℕ) (q : Row n) → slice_get rows i ≡ Some q → accepted_of line q ≡ true → slice_get (given_of q.asks) k ≡ Some false

-- a write has n bytes, and says of each whether it gives it
pub record IsSized {n : ℕ} (r : Row n) : Type 0 where
  pub bytes_len : asks_write r.asks ≡ true → length (bytes_of r.asks) ≡ n
  pub given_len : asks_write r.asks ≡ true → length (given_of r.asks) ≡ n

-- a byte of a line's newest comes from the row that is told; 0 stands for none, and the byte is 0 then. The rows come the newest first
abbrev pub GiverLaw : Type 0
GiverLaw =
    (n line k number value : ℕ) (before : List (Row n)) → AllByRecursion (λ r. IsSized r) before
    → slice_get (givers before line) k ≡ Some number → slice_get (newest before line) k ≡ Some value
    → ((number ≡ 0) × (value ≡ 0) × NoneGives (reverse before) line k) ⊎ ((number ≢ 0) × Gives (reverse before) line k number value)
