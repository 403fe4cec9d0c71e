-- What contracts see of a printer of rows.
use Rattle.std.specs.Prelude.{◌≡◌, ℕ, ◌≤◌, ◌||◌, Bool, true, false, List, [], ◌++◌, Option, replicate}
use Rattle.pcm_io.specs.{Faults.Rose, Giving.AppendsPrefix, Reserved.Reserved}
use Rattle.result_rows.specs.{declared.Outcome.Outcome, declared.Outcome.TheVariants.Unset}
use Rattle.text_printer.specs.declared.room.TheConstants.{TEXT_ROOM}
use Rattle.run_text.specs.{Counting.counts_of, Gathering.Printed, declared.counts.OutcomeCounts.OutcomeCounts}
use Rattle.row_printer.specs.{Snapshots.{IsShown, snapshots_header, snapshots_text}, Telling.{told_head, told_text, outcomes_in, became, recorded, some_told, TellsOnce}}
use Rattle.row_printer.specs.{declared.snapshot.Snapshot.Snapshot, declared.told.Shown.Shown, declared.told.Shown.TheVariants.{Nothing, Rows, Snapshots}, declared.told.Told.Told}

-- its sink, the text that is still to be written, what it was told and the snapshots, in order, how many rows came, what is printed,
-- whether a write failed, and whether an outcome was told since it was to listen for one
pub record Printing (n : ℕ) (S : Type 0) : Type 0 where
  pub sink : S
  pub text : Reserved
  pub told : List (Told n)
  pub snapshots : List Snapshot
  pub rows : ℕ
  pub prints : Shown
  pub broken : Bool
  pub heard : Bool

-- the table that outcomes make of so many rows
abbrev pub table_of : {n : ℕ} → ℕ → List (Told n) → List (Outcome n)
table_of rows told = recorded (outcomes_in told) (replicate rows Unset)

-- the table that the outcomes make which it was told
abbrev pub table_told : {n : ℕ} {S : Type 0} → Printing n S → List (Outcome n)
table_told printer = table_of printer.rows printer.told

-- the whole text of a stream that told this, with these snapshots: a header, the module's shape where that is told, and each line; or a header and
-- each snapshot; or nothing
abbrev pub stream_text : {n : ℕ} → Shown → List (Told n) → List Snapshot → List ℕ
stream_text Nothing told snapshots = []
stream_text {n} (Rows shape) told snapshots = told_head n shape ++ told_text told
stream_text (Snapshots every) told snapshots = snapshots_header ++ snapshots_text snapshots

-- the whole text of what a printer was told
abbrev pub text_told : {n : ℕ} {S : Type 0} → Printing n S → List ℕ
text_told printer = stream_text printer.prints printer.told printer.snapshots

-- this is printed, behind what was written before; once a write failed first bytes of it were written, and the count of faults rose
pub record Prints (before : Option (List ℕ)) (first : ℕ) (written : Option (List ℕ)) (faults : ℕ) (text : Reserved) (whole : List ℕ) (broken : Bool) : Type 0 where
  pub printed : broken ≡ false → Printed before written text whole
  pub part : broken ≡ true → AppendsPrefix before written whole
  pub fault : broken ≡ true → Rose first faults
  pub never_falls : first ≤ faults

module _ {n : ℕ} {S : Type 0} (written : S → Option (List ℕ)) (faults : S → ℕ) where
  -- a printer has printed what it was told, behind what its sink had received before, when so many of its calls had failed
  abbrev pub IsPrinting : Option (List ℕ) → ℕ → Printing n S → Type 0
  IsPrinting before first p = Prints before first (written p.sink) (faults p.sink) p.text (text_told p) p.broken

  -- one became the other by outcomes that it was told
  pub record PrintsOn (old new : Printing n S) : Type 0 where
    pub added : List (ℕ × Outcome n)
    pub told : new.told ≡ old.told ++ became added
    pub snapshots : new.snapshots ≡ old.snapshots
    pub rows : new.rows ≡ old.rows
    pub prints : new.prints ≡ old.prints
    pub heard : new.heard ≡ (old.heard || some_told added)
    pub printing : (before : Option (List ℕ)) (first : ℕ) → IsPrinting before first old → IsPrinting before first new

-- each row was told once, and the outcomes are counted
pub record IsTold {n : ℕ} (prints : Shown) (text : Reserved) (told : List (Told n)) (rows : ℕ) (counts : OutcomeCounts) : Type 0 where
  pub few : n ≤ 128
  pub shown : IsShown prints
  pub limit : text.limit ≡ TEXT_ROOM
  pub once : TellsOnce rows (outcomes_in told)
  pub counted : counts ≡ counts_of (table_of rows told)
