-- The text that a run writes.
use Rattle.std.specs.Prelude.{◌≡◌, ℕ, List, length}
use Rattle.cell_rows.specs.Device.{ArrayState}
use Rattle.trace_reader.specs.declared.event.Event.{Event}
use Rattle.result_rows.specs.declared.Outcome.{Outcome}
use Rattle.run_text.specs.{Counting.counts_of, Pulses.pulses_in_all, ResultText.results_text, SummaryText.summary_text, WearText.wear_text}
use Rattle.bank_shape.specs.declared.Role.{Role}
use Rattle.module_shape.specs.{Limits.IsSmall, declared.raw.RawShape.RawShape}
use Rattle.right_runs.specs.Ends.{BankEnd}
use Rattle.pcm_image.specs.{Saved.Saved, Spelling.image_bytes}
use Rattle.image_laws.specs.SavedRuns.{IsLeft}
use Rattle.right_images.specs.SavesRun.{SavesRun}
use Rattle.pcm_module.specs.Roles.{spares_used}
use Rattle.module_prints.specs.WearReports.{IsWearReport}
use Rattle.pcm_top.specs.Rows.{rows_of}
use Rattle.command_line.specs.{declared.job.Print.Print, declared.job.Print.TheVariants.{Results, Summary, Wear, Image}}

module _ {n m : ℕ} (raw : RawShape) (seed : ℕ) where
  -- what is written of these events and their outcomes, of these ends, and of the array, whose lines have e
  -- error-correcting pointers: the results, the summary, the wear report, or the image of what the run left
  abbrev pub IsRunText : ℕ → List (Event n) → List (Outcome n) → (ℕ → BankEnd) → ArrayState n m
      → Print → List ℕ → Type 0
  IsRunText e events outcomes ends array Results text = text ≡ results_text events outcomes
  IsRunText e events outcomes ends array Summary text =
      text ≡ summary_text (length events) (counts_of outcomes) (spares_used raw ends) (pulses_in_all array)
  IsRunText e events outcomes ends array Wear text =
      (rows : List (ℕ × ℕ × Role)) × IsWearReport raw seed ends array rows × (text ≡ wear_text rows)
  IsRunText e events outcomes ends array Image text =
      (s : Saved n m) × IsLeft e raw seed (rows_of events outcomes) array s
      × SavesRun e raw seed (rows_of events outcomes) array ends s × IsSmall raw × (text ≡ image_bytes s)
