-- The headline: what the image of a right run says.
use Rattle.std.specs.Prelude.{ℕ, ◌<◌, ◌≡◌, Bool, List, slice_index_or, false}
use Rattle.cell_rows.specs.{Device.ArrayState, Rows.zero_row}
use Rattle.pcm_image.specs.{Saved.{IsSavedRow, Saved, IsSaved, IsSavedIn}, Standing.{no_bank, stands_for}}
use Rattle.row_rules.specs.{Rows.newest, declared.Row.Row}
use Rattle.ecp_line.specs.ArrayLines.{is_worn_at}
use Rattle.module_shape.specs.{Addresses.{module_of, bank_shape}, Limits.{IsSmall, large_limits, total_of}, declared.raw.RawShape.RawShape}
use Rattle.right_runs.specs.{Ends.BankEnd, Tables.table_in}
use Rattle.right_images.specs.{SavedBanks.{SavesEnd, SavesQueue, SavesMarkTo}, Saving.head_of}

-- each of so many rows of an array, the first, has the bytes of a line; and so has every row
abbrev pub AreRowsTo : {n m : ℕ} → ℕ → ArrayState n m → Type 0
AreRowsTo {n} {m} count array = (line : ℕ) → line < count → IsSavedRow n m (array.line line).held

-- and so has every row
abbrev pub AreRows : {n m : ℕ} → ArrayState n m → Type 0
AreRows array = AreRowsTo array.lines array

-- a saved module is that of this run: it says how the module is built, what its cells hold, by which registers and tables the banks
-- end and what their queues give, by the rows which banks are marked, and each line's newest bytes; what it says is in range, so
-- that it can be read from its bytes, where each row of the array is one: in the format of small modules where the sizes are those of one on
-- which a whole trace is replayed, and in that of large ones
pub record SavesRunTo {n m : ℕ} (off : Bool) (e : ℕ) (raw : RawShape) (seed : ℕ) (rows : List (Row n)) (array : ArrayState n m) (ends : ℕ → BankEnd) (s : Saved n m) : Type 0 where
  pub head : s.head ≡ head_of raw seed
  pub right : IsSmall raw → AreRows array → IsSaved s
  pub large : AreRows array → IsSavedIn large_limits s
  pub cells : (line : ℕ) → line < array.lines → slice_index_or s.cells line (zero_row n m) ≡ (array.line line).held
  pub banks : (bank : ℕ) → bank < raw.banks
      → SavesEnd s.head (bank_shape (module_of raw) bank) (is_worn_at e array) (table_in raw seed bank rows) (ends bank) (slice_index_or s.parts bank (no_bank n))
  pub queues : (bank : ℕ) → bank < raw.banks → SavesQueue raw.psi (table_in raw seed bank rows) (ends bank) (slice_index_or s.parts bank (no_bank n))
  pub marks : (bank : ℕ) → bank < raw.banks
      → SavesMarkTo off (bank_shape (module_of raw) bank) (is_worn_at e array) (table_in raw seed bank rows) (slice_index_or s.parts bank (no_bank n))
  pub stands : (line : ℕ) → line < total_of raw → stands_for e s line ≡ newest rows line

-- the same where the power isn't off
abbrev pub SavesRun : {n m : ℕ} → ℕ → RawShape → ℕ → List (Row n) → ArrayState n m → (ℕ → BankEnd) → Saved n m → Type 0
SavesRun e raw seed rows array ends s = SavesRunTo false e raw seed rows array ends s
