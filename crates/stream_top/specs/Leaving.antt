-- What a stream leaves that was served to its end, and what is written of it.
use Rattle.std.specs.Prelude.{◌≡◌, ℕ, ◌^◌, ◌<◌, Bool, true, false, if◌then◌else◌, List, [], Option}
use Rattle.cell_rows.specs.Device.{ArrayState}
use Rattle.row_rules.specs.declared.Row.{Row}
use Rattle.run_text.specs.{Pulses.pulses_in_all, SummaryText.summary_text, WearText.wear_text, declared.counts.OutcomeCounts.OutcomeCounts}
use Rattle.bank_shape.specs.declared.Role.{Role}
use Rattle.energy_report.specs.EnergyText.{energy_report}
use Rattle.lines_report.specs.{LinesText.lines_text, declared.row.LineCells.LineCells}
use Rattle.module_shape.specs.{Addresses.{array_lines_of, module_of}, Limits.{IsShape, is_small}, declared.raw.RawShape.RawShape}
use Rattle.right_runs.specs.{Ends.BankEnd, Runs.RunsRightTo}
use Rattle.pcm_image.specs.{Saved.Saved, Spelling.image_bytes}
use Rattle.large_image.specs.Spelling.{large_bytes}
use Rattle.image_laws.specs.SavedRuns.{IsLeftTo}
use Rattle.right_images.specs.{SavesRun.SavesRunTo, Saving.saved_of}
use Rattle.image_text.specs.Sensing.{SensesRows}
use Rattle.pcm_module.specs.{Roles.spares_used, State.ModuleState}
use Rattle.module_prints.specs.{Images.{WritesRows, kept_in}, PulsedLines.pulsed_text, StandingMap.standing_map, WearReports.{HaveRoles, IsWearReport}}
use Rattle.module_prints.specs.declared.pulsed.Report.TheVariants as of
use Rattle.large_prints.specs.Rows.{WritesLargeRows}
use Rattle.row_printer.specs.{Printing.table_of, declared.told.Told.Told}
use Rattle.trace_stream.specs.{Asked.events_in, declared.asked.Asked.Asked}
use Rattle.row_stream.specs.Ending.{HasEnded, rows_of}
use Rattle.stream_words.specs.{declared.job.Skip.Skip, declared.job.StreamPrint.StreamPrint}
use Rattle.stream_words.specs.declared.job.StreamPrint.TheVariants.{Rows, Summary, Wear, Lines, Map, Energy, Image, Snapshots}
use Rattle.stream_words.specs.declared.job.Skip.TheVariants as skip

-- rows left a module over an array, of whose lines the first, so many, were sensed since, each once and in their order, at tick 0: by the ends of its
-- banks they are right over the array as it is now, and the module is saved as what these rows left, with each line's newest bytes
pub record Leaves {n m : ℕ} (off : Bool) (e : ℕ) (raw : RawShape) (seed : ℕ) (rows : List (Row n)) (ends : ℕ → BankEnd) (sensed : ℕ) (before array : ArrayState n m) (saved : Saved n m) : Type 0 where
  pub since : SensesRows sensed before array
  pub right : RunsRightTo e raw seed off rows array ends
  pub left : IsLeftTo off e raw seed rows array saved
  pub saves : SavesRunTo off e raw seed rows array ends saved

-- how many lines of an array that has so many are sensed for what is written in the end: each for an image, and none for anything else
abbrev pub senses_for : StreamPrint → ℕ → ℕ
senses_for (Rows tell) lines = 0
senses_for Summary lines = 0
senses_for (Wear skip) lines = 0
senses_for (Lines skip) lines = 0
senses_for Map lines = 0
senses_for Energy lines = 0
senses_for Image lines = lines
senses_for (Snapshots every) lines = 0

-- the wear report, and the report on lines, without the rows of the array lines that are left out
abbrev pub wear_but : Skip → (ℕ → LineCells) → List (ℕ × ℕ × Role) → List ℕ
wear_but skip.Nothing cells report = wear_text report
wear_but skip.Unpulsed cells report = pulsed_text of.Wear cells report

abbrev pub lines_but : Skip → (ℕ → LineCells) → List (ℕ × ℕ × Role) → List ℕ
lines_but skip.Nothing cells report = lines_text cells report
lines_but skip.Unpulsed cells report = pulsed_text of.Lines cells report

-- the bytes of a saved module of these sizes: a small one's are spelled otherwise than a large one's
abbrev pub spelled : {n m : ℕ} → RawShape → Saved n m → List ℕ
spelled raw saved = if is_small raw then image_bytes saved else large_bytes saved

-- of these first bytes were written, no more than to the end of some of the array's first rows, each of which has the bytes of a line
abbrev pub WritesRowsBy : {n m : ℕ} → Bool → ArrayState n m → Saved n m → Option (List ℕ) → Option (List ℕ) → Type 0
WritesRowsBy true array saved was now = WritesRows array saved was now
WritesRowsBy false array saved was now = WritesLargeRows array saved was now

abbrev pub WritesRowsOf : {n m : ℕ} → RawShape → ArrayState n m → Saved n m → Option (List ℕ) → Option (List ℕ) → Type 0
WritesRowsOf raw array saved was now = WritesRowsBy (is_small raw) array saved was now

-- what is written in the end of so many rows, of which so many had each outcome: by the ends of the banks, the array, what the
-- cells of its lines say, and the module that is saved
abbrev pub IsClosing : {n m : ℕ} → RawShape → ℕ → ℕ → OutcomeCounts → (ℕ → BankEnd) → ArrayState n m → (ℕ → LineCells) → Saved n m → StreamPrint → List ℕ → Type 0
IsClosing raw seed rows counts ends array cells saved (Rows tell) text = text ≡ []
IsClosing raw seed rows counts ends array cells saved Summary text = text ≡ summary_text rows counts (spares_used raw ends) (pulses_in_all array)
IsClosing raw seed rows counts ends array cells saved (Wear skip) text =
    (report : List (ℕ × ℕ × Role)) × IsWearReport raw seed ends array report × (text ≡ wear_but skip cells report)
IsClosing raw seed rows counts ends array cells saved (Lines skip) text =
    (report : List (ℕ × ℕ × Role)) × IsWearReport raw seed ends array report × (text ≡ lines_but skip cells report)
IsClosing raw seed rows counts ends array cells saved Map text = text ≡ standing_map raw seed ends
IsClosing raw seed rows counts ends array cells saved Energy text =
    text ≡ energy_report array.energy raw.banks (array_lines_of (module_of raw))
IsClosing raw seed rows counts ends array cells saved Image text = text ≡ spelled raw saved
IsClosing raw seed rows counts ends array cells saved (Snapshots every) text = text ≡ []

-- a stream that has ended leaves all that, whether or not the power stays off, and each array line has one role
abbrev pub LeavesLaw : Type 0
LeavesLaw =
    (n m e : ℕ) (raw : RawShape) (seed : ℕ) (off : Bool) (asked : List (Asked n)) (module_ : ModuleState n m e) (before array : ArrayState n m) (places : ℕ) (told : List (Told n)) (sensed : ℕ)
    → IsShape raw → seed < 2 ^ 64 → SensesRows sensed before array → (ended : HasEnded raw seed off asked module_ before places told)
    → Leaves off e raw seed (rows_of (events_in asked) (table_of places told)) ended.ends sensed before array (saved_of raw seed (kept_in module_) before)
    × HaveRoles raw seed ended.ends
