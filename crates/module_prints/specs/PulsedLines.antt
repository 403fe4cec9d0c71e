-- The reports that have a row for each array line, but for the lines that were never pulsed.
use Rattle.std.specs.Prelude.{◌≡◌, ℕ, zero, suc, ◌+◌, List, [], ◌∷◌, ◌++◌, length, Option}
use Rattle.cell_rows.specs.Device.{ArrayState}
use Rattle.pcm_io.specs.Reserved.{Reserved}
use Rattle.run_text.specs.{Gathering.Printed, WearText.{wear_header_text, wear_row_text}}
use Rattle.lines_report.specs.{LinesText.{lines_header_text, lines_row_text}, declared.row.LineCells.LineCells}
use Rattle.bank_shape.specs.declared.Role.{Role}
use Rattle.right_runs.specs.Ends.{BankEnd}
use Rattle.pcm_module.specs.State.{AreEndsOf, ModuleState}
use Rattle.module_prints.specs.{WearReports.{HaveRoles, IsWearRow}, declared.pulsed.Report.Report, declared.pulsed.Report.TheVariants.{Wear, Lines}}

-- the first line of a report
abbrev pub header_of : Report → List ℕ
header_of Wear = wear_header_text
header_of Lines = lines_header_text

-- the row of an array line: its number, its bank, its pulses and its role, and in the report on lines what its cells say
abbrev pub row_of : Report → (ℕ → LineCells) → ℕ → ℕ × ℕ × Role → List ℕ
row_of Wear cells line row = wear_row_text line row.0 row.1 row.2
row_of Lines cells line row = lines_row_text line row.0 row.1 row.2 (cells line)

-- a text, but nothing of a line with 0 pulses
abbrev pub where_pulsed : ℕ → List ℕ → List ℕ
where_pulsed zero text = []
where_pulsed (suc pulses) text = text

module _ (report : Report) (cells : ℕ → LineCells) where
  -- the rows of these banks, pulses and roles, from an array line on, without those of lines with 0 pulses
  abbrev pub pulsed_rows : ℕ → List (ℕ × ℕ × Role) → List ℕ
  pulsed_rows line [] = []
  pulsed_rows line (row ∷ rest) = where_pulsed row.1 (row_of report cells line row) ++ pulsed_rows (line + 1) rest

  -- the whole report, without the rows of lines with 0 pulses
  abbrev pub pulsed_text : List (ℕ × ℕ × Role) → List ℕ
  pulsed_text rows = header_of report ++ pulsed_rows 0 rows

  -- behind the rows of all array lines below, that of an array line is printed, or nothing where it has 0 pulses
  abbrev pub PrintsNext : {n m e : ℕ} → ModuleState n m e → ArrayState n m → ℕ → (old new : Reserved) → (was now : Option (List ℕ)) → Type 0
  PrintsNext pcm array line old new was now =
      (ends : ℕ → BankEnd) → AreEndsOf pcm ends → HaveRoles pcm.shape pcm.seed ends
      → (row : ℕ × ℕ × Role) × IsWearRow pcm.shape pcm.seed ends array line row
      × ((before : Option (List ℕ)) (rows : List (ℕ × ℕ × Role)) → length rows ≡ line
      → Printed before was old (pulsed_text rows) → Printed before now new (pulsed_text (rows ++ row ∷ [])))
