-- What the newest bytes of a line go by.
use Rattle.std.specs.Prelude.{◌≡◌, ℕ, not, List, filter, map}
use Rattle.masked_bytes.specs.Entries.{Layer}
use Rattle.row_rules.specs.{Rows.{accepted_of, bytes_of, given_of, is_cut, newest}, declared.Row.Row}

-- what a row gives of a line, if it is a write
abbrev pub given_in : {n : ℕ} → Row n → Layer
given_in r = record { bytes = bytes_of r.asks; given = given_of r.asks }

-- what the accepted writes of a line give, the newest first
abbrev pub writes_of : {n : ℕ} → ℕ → List (Row n) → List Layer
writes_of line rows = map given_in (filter (accepted_of line) rows)

-- tables of the same accepted writes of a line have the same newest bytes of it
abbrev pub WritesLaw : Type 0
WritesLaw = (n : ℕ) (rows other : List (Row n)) (line : ℕ) → writes_of line rows ≡ writes_of line other → newest rows line ≡ newest other line

-- these rows without the cuts
abbrev pub without_cuts : {n : ℕ} → List (Row n) → List (Row n)
without_cuts rows = filter (λ r. not (is_cut r)) rows

-- and so has a table without its cuts
abbrev pub CutsLaw : Type 0
CutsLaw = (n : ℕ) (rows other : List (Row n)) (line : ℕ) → without_cuts rows ≡ without_cuts other → newest rows line ≡ newest other line
