-- That a history leads to a bank over an array.
use Rattle.std.specs.Prelude.{◌≡◌, ℕ, ◌+◌, ◌*◌, ◌/◌, ◌<◌, ◌≤◌, List, length, map, IfSome, is_some, All}
use Rattle.masked_bytes.specs.{Entries.layer_of, Masked.laid}
use Rattle.cell_rows.specs.Device.{ArrayState}
use Rattle.start_gap.specs.Rotation.{StandsFor}
use Rattle.region_regs.specs.Region.{RegionState}
use Rattle.bank_shape.specs.{Shape.slots_of, declared.waiting.Waiting.Waiting}
use Rattle.line_writer.specs.{Orderly.IsLive, Writing.{steps_left, most_steps}}
use Rattle.power_recovery.specs.Kept.{KeptState, IsKept, region_at, stands_at}
use Rattle.bank_model.specs.{Answers.MayAll, Events.{BankEvent, newest, RowsBelow}}
use Rattle.bank_model.specs.History.{Awaited, queue, waits, in_progress, iterated, stores, stored_in, moved_in, retired, has_exhausted, first_or}
use Rattle.bank_invariant.specs.{State.BankState, Tied.IsTied}
use Rattle.ecp_line.specs.ArrayLines.{decoded}

-- a region's registers and counter after so many moves and stores
pub record IsRegionAfter (moves stores psi : ℕ) (state : RegionState) : Type 0 where
  pub registers : StandsFor state.rotation moves
  pub counter : state.counter + psi * moves ≡ stores

-- the bytes that stand for a line: those of its entries, over what its array line is read as
abbrev pub stands_for : {n m : ℕ} → ℕ → KeptState n → ArrayState n m → ℕ → List ℕ
stands_for e kept array line =
    laid (layer_of kept.entries line).bytes (layer_of kept.entries line).given (decoded e array (stands_at kept line))

-- what a bank keeps of a read that waits
abbrev pub waiting_of : {n : ℕ} → Awaited → Waiting n
waiting_of w = record { row = w.row; line = w.line; kept = w.kept; given = w.given }

-- the history leads to this bank over this array
pub record Holds {n m e : ℕ} (h : List (BankEvent n)) (bank : BankState n m e) (array : ArrayState n m) : Type 0 where
  -- each event of the history met its condition
  pub past : MayAll bank.kept.shape (most_steps e) h
  -- for every line, the bytes that stand for it are the newest that were accepted
  pub newest : (line : ℕ) → line < bank.kept.shape.regions * bank.kept.shape.lines → stands_for e bank.kept array line ≡ newest h line
  -- the waiting reads are those of the history, and each is owed the bytes that were newest as it came
  pub waiting : bank.waiting ≡ map waiting_of (waits bank.kept.shape h)
  pub few_waiting : length bank.waiting ≤ bank.kept.shape.reads
  pub served : All (λ w. laid w.kept w.given (decoded e array (stands_at bank.kept w.line)) ≡ w.newest) (waits bank.kept.shape h)
  -- a line write is in progress where the history says so, with enough steps left
  pub running : is_some bank.running ≡ in_progress h
  pub steps : IfSome bank.running (λ op. iterated h + steps_left op.writer ≤ most_steps e)
  -- and while no cell of its line is stuck, each iteration of it was a round of the programming in progress
  pub rounds : IfSome bank.running (λ op. IsLive (array.line op.target) → iterated h ≤ op.writer.prog.rounds)
  -- the array is as the bank needs it
  pub tied : IsTied bank array
  -- the registers, the queue, the remap table and the mark are those of the history
  pub regions : (region : ℕ) → region < bank.kept.shape.regions
      → IsRegionAfter (moved_in bank.kept.shape.lines h region) (stored_in bank.kept.shape.lines h region) bank.kept.shape.psi (region_at bank.kept region)
  pub due_last : (region : ℕ) → region < bank.kept.shape.regions → (region_at bank.kept region).counter ≡ bank.kept.shape.psi
      → first_or 0 (stores h) / bank.kept.shape.lines ≡ region
  pub entries : bank.kept.entries ≡ queue bank.kept.shape h
  pub table : bank.kept.table ≡ record { slots = slots_of bank.kept.shape; spares = bank.kept.shape.spares; replaced = retired h }
  pub exhausted : bank.kept.exhausted ≡ has_exhausted h
  -- the rows of its writes and reads rise, and are below the bound
  pub rows : RowsBelow h bank.rows_below
  -- what is true of every bundle
  pub kept : IsKept bank.kept
