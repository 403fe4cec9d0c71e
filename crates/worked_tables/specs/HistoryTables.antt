-- The tables that the worked histories leave, the oldest row first. The lines are those of the bank.
use Rattle.std.specs.Prelude.{ℕ, Bool, false, List, [], ◌∷◌, reverse}
use Rattle.cell_rows.specs.declared.row.Cells.{Cells}
use Rattle.result_rows.specs.declared.Outcome.TheVariants as out
use Rattle.row_rules.specs.declared.Row.{Row}
use Rattle.worked_tables.specs.{HistoryExamples.small, TableExamples.{W, M, R, C, whole, laid_over}}
use Rattle.bank_model.specs.Timing.{TimedEvent}
use Rattle.bank_laws.specs.Outcomes.{table_of}

-- the table that a history of the small bank leaves
abbrev pub table : List (TimedEvent 2 1) → List (Row 2)
table xs = reverse (table_of small xs)

abbrev pub paused_rows : List (Row 2)
paused_rows = W 0 3 0xff (out.Stored 30 3) ∷ R 7 1 (out.Read 20 1 (whole 0)) ∷ []

abbrev pub not_paused_rows : List (Row 2)
not_paused_rows = W 0 3 0xff (out.Stored 25 3) ∷ R 7 1 (out.Read 30 1 (whole 0)) ∷ []

abbrev pub cancelled_rows : List (Row 2)
cancelled_rows = W 0 3 0xff (out.Stored 27 3) ∷ R 7 1 (out.Read 12 1 (whole 0)) ∷ []

abbrev pub two_entries_rows : List (Row 2)
two_entries_rows =
    W 0 3 0x11 (out.Stored 15 3) ∷ W 6 3 0x22 (out.Merged 10) ∷ C 10 ∷ W 10 3 0x33 (out.Stored 30 3)
    ∷ R 10 3 (out.Forwarded 10 (whole 0x33)) ∷ []

abbrev pub dropped_begin_rows : List (Row 2)
dropped_begin_rows = W 0 3 0x11 (out.Stored 15 3) ∷ M 100 3 0xee (out.Stored 122 3) ∷ R 102 3 (out.Read 107 3 laid_over) ∷ []

-- the bytes of cells of which no entry is active
abbrev pub plain_bytes : Cells 2 1 → List ℕ
plain_bytes cells = cells.bits

-- no line is worn
abbrev pub none_worn : ℕ → Bool
none_worn line = false

-- line 1 was read from array line 2, where it doesn't stand
abbrev pub read_elsewhere : List (Row 2)
read_elsewhere = R 7 1 (out.Read 20 2 (whole 0)) ∷ []

-- a write waits for ever in a bank that isn't worn out
abbrev pub left_undone : List (Row 2)
left_undone = W 0 3 0xff (out.Queued 0) ∷ []
