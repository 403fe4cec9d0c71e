-- What is shown of the image of a run.
use Rattle.std.specs.Prelude.{◌≡◌, ◌⊎◌, ℕ, List, ◌++◌, Some, Ok}
use Rattle.cell_rows.specs.Device.{ArrayState}
use Rattle.row_rules.specs.{Rows.newest, declared.Row.Row}
use Rattle.rotation_reports.specs.Rows.{rows_from}
use Rattle.module_shape.specs.{Limits.total_of, declared.raw.RawShape.RawShape}
use Rattle.command_line.specs.{declared.job.Job.TheVariants.Show, declared.job.Print.TheVariants.Image, declared.job.RunJob.RunJob}
use Rattle.program_calls.specs.Calls.{Gets, GetsPart, SinkChange, SourceChange}
use Rattle.pcm_top.specs.{Calls.Deed, Rows.rows_of, Running.{Does, DoesPart, HasCause, RunIsWritten}, Showing.{shown_header, shown_row}, Statuses.IsStatusFor}
use Rattle.pcm_top.specs.{declared.fault.Fault.Fault, declared.fault.Fault.TheVariants.{NoMemory, Read}, declared.run.Done.Done, declared.run.Done.TheVariants.Whole}

-- a header, and a row for each line of a module of these sizes with its newest bytes, by the rows of a run
abbrev pub newest_text : {n : ℕ} → RawShape → List (Row n) → List ℕ
newest_text raw rows = shown_header ++ rows_from (shown_row (newest rows)) 0 (total_of raw)

-- what a call of `show` makes of these bytes is this text: that is what it writes, or tries to; where it isn't
-- done the source failed or memory ran out; and where nothing fails and memory suffices its status is 0
pub record ShowsAs (bytes text : List ℕ) : Type 0 where
  pub done : (deed : Deed) (done : Done)
      → deed.source.left_before ≡ Some bytes → Does deed (Ok Show) done
      → Gets deed.out text × (done ≡ Whole)
  pub part : (deed : Deed)
      → deed.source.left_before ≡ Some bytes → DoesPart deed (Ok Show) → GetsPart deed.out text
  pub cause : (s : SourceChange) (fault : Fault)
      → s.left_before ≡ Some bytes → HasCause fault (Ok Show) s → (fault ≡ Read) ⊎ (fault ≡ NoMemory)
  pub status : (status : ℕ) → IsStatusFor (Ok Show) bytes status → status ≡ 0

-- what `show` makes of the bytes that a run over lines of n bytes wrote as its image is that
abbrev pub IsShown : (n m e : ℕ) → Type 0
IsShown n m e =
    (job : RunJob) (s : SourceChange) (array : ArrayState n m) (out : SinkChange) (done : Done)
    → (written : RunIsWritten n m e job s array out done) → job.print ≡ Image
    → ShowsAs written.text (newest_text job.shape (rows_of written.run.events written.run.outcomes))

-- at both sizes of lines
abbrev pub ShownLaw : Type 0
ShownLaw = IsShown 64 8 6 × IsShown 128 16 8
