-- The rows of a finished table, what each asked for, and the newest accepted bytes of a line. No queue and no array is known here.
use Rattle.std.specs.Prelude.{ℕ, List, [], ◌∷◌, Bool, true, false, ◌&&◌, ◌==◌, if◌then◌else◌, replicate}
use Rattle.masked_bytes.specs.Masked.{laid}
use Rattle.row_rules.specs.{Answers.accepts, declared.Asks.Asks, declared.Asks.TheVariants.{Reads, Writes, Cuts}, declared.Row.Row}
use Rattle.result_rows.specs.declared.Op.{Op}
use Rattle.result_rows.specs.declared.Op.TheVariants as op

module _ {n : ℕ} where
  abbrev pub asks_read : Asks n → Bool
  asks_read (Reads line) = true
  asks_read (Writes line bytes given) = false
  asks_read Cuts = false

  abbrev pub asks_write : Asks n → Bool
  asks_write (Reads line) = false
  asks_write (Writes line bytes given) = true
  asks_write Cuts = false

  abbrev pub asks_cut : Asks n → Bool
  asks_cut (Reads line) = false
  asks_cut (Writes line bytes given) = false
  asks_cut Cuts = true

  -- a write of this line
  abbrev pub asks_write_of : ℕ → Asks n → Bool
  asks_write_of line (Reads at) = false
  asks_write_of line (Writes at bytes given) = at == line
  asks_write_of line Cuts = false

  -- the line of a read or a write
  abbrev pub line_of : Asks n → ℕ
  line_of (Reads line) = line
  line_of (Writes line bytes given) = line
  line_of Cuts = 0

  -- the bytes of a write
  abbrev pub bytes_of : Asks n → List ℕ
  bytes_of (Reads line) = []
  bytes_of (Writes line bytes given) = bytes
  bytes_of Cuts = []

  -- which bytes a write gives
  abbrev pub given_of : Asks n → List Bool
  given_of (Reads line) = []
  given_of (Writes line bytes given) = given
  given_of Cuts = []

  -- a write that was accepted
  abbrev pub accepted : Row n → Bool
  accepted r = asks_write r.asks && accepts r.outcome

  -- a write of this line that was accepted
  abbrev pub accepted_of : ℕ → Row n → Bool
  accepted_of line r = asks_write_of line r.asks && accepts r.outcome

  -- a write of this line
  abbrev pub write_of : ℕ → Row n → Bool
  write_of line r = asks_write_of line r.asks

  abbrev pub is_cut : Row n → Bool
  is_cut r = asks_cut r.asks

  -- the bytes of a row laid over those of a line, where the row is an accepted write of the line
  abbrev pub lay_row : ℕ → Row n → List ℕ → List ℕ
  lay_row line r under = if accepted_of line r then laid (bytes_of r.asks) (given_of r.asks) under else under

  -- byte for byte the newest accepted write of a line that gives the byte, or 0. The rows come the newest first
  abbrev pub newest : List (Row n) → ℕ → List ℕ
  newest [] line = replicate n 0
  newest (r ∷ before) line = lay_row line r (newest before line)

-- a test of a row between those before it, the newest first, and those after it, the oldest first
abbrev pub RowTest : ℕ → Type 0
RowTest n = List (Row n) → Row n → List (Row n) → Bool

-- each of these rows, the newest first, passes a test, where these rows stand after them
abbrev pub each_row : {n : ℕ} → RowTest n → List (Row n) → List (Row n) → Bool
each_row test [] after = true
each_row test (r ∷ before) after = test before r after && each_row test before (r ∷ after)

-- the operation that a row asks for
abbrev pub op_asked : {n : ℕ} → Asks n → Op
op_asked (Reads line) = op.Read
op_asked (Writes line bytes given) = op.Write
op_asked Cuts = op.Cut
