-- What a job does, and why a call does none of it.
use Rattle.std.specs.Prelude.{◌≡◌, ◌⊎◌, ℕ, ◌<◌, ◌≤◌, Bool, true, false, if◌then◌else◌, List, length, Some, Result, Ok, Err}
use Rattle.cell_rows.specs.Device.{ArrayState}
use Rattle.trace_reader.specs.declared.event.Event.{Event}
use Rattle.result_rows.specs.declared.Outcome.{Outcome}
use Rattle.run_text.specs.Shortfall.{any_short}
use Rattle.rotation_reports.specs.{MapText.map_text, MovesText.moves_text}
use Rattle.end_laws.specs.EndLaws.{IsEndOf}
use Rattle.right_runs.specs.{Ends.BankEnd, Runs.RunsRight}
use Rattle.right_images.specs.SavesRun.{AreRowsTo}
use Rattle.image_laws.specs.SavedRuns.{IsLeft}
use Rattle.pcm_image.specs.Saved.{Saved}
use Rattle.command_line.specs.{declared.job.Job.Job, declared.job.Job.TheVariants.{Run, Gen, Map, Moves, Show, Check}, declared.job.LineSize.LineSize}
use Rattle.command_line.specs.{declared.job.LineSize.TheVariants.{Bytes64, Bytes128}, declared.job.Print.TheVariants.Image, declared.job.Refusal.Refusal}
use Rattle.command_line.specs.declared.job.RunJob.{RunJob}
use Rattle.command_line.specs.declared.job.Refusal.TheVariants as refusal
use Rattle.pcm_top.specs.{Calls.Deed, Checking.{IsCheckFault, TellsVerdict, TellsVerdictInPart, pointers_in, room_line}, FaultLines.{fault_line, status_of}, Images.senses_for}
use Rattle.pcm_top.specs.{Inputs.{ComeFrom, IsFaultOf, is_source}, Jobs.{bytes_in, gen_text, map_options}, Reading.trace_room, Rows.rows_of, RunText.IsRunText}
use Rattle.pcm_top.specs.{Showing.{IsShowFault, ShowsImage, ShowsImageInPart}, declared.fault.Fault.Fault, declared.fault.Fault.TheVariants.{Usage, NoMemory}}
use Rattle.pcm_top.specs.{declared.run.Done.Done, declared.run.Done.TheVariants.{Whole, Short}}
use Rattle.program_calls.specs.Calls.{Gets, GetsPart, SinkChange, SourceChange}
use Rattle.module_prints.specs.Images.{WritesRows}

-- how a run was done, by the outcomes of its rows, and the status for that
abbrev pub done_by : {n : ℕ} → List (Outcome n) → Done
done_by outcomes = if any_short outcomes then Short else Whole

abbrev pub status_done : Done → ℕ
status_done Whole = 0
status_done Short = 1

-- lines of n bytes with m check bytes and e error-correcting pointers
module _ (n m e : ℕ) (job : RunJob) (s : SourceChange) (array : ArrayState n m) where
  -- a run: its events came from its input, each row has an outcome, and what a completed run leaves is right;
  -- a completed read has its line's newest bytes, and each line's newest bytes are those of the array with
  -- those of its bank's queue laid over them. The array was powered up with the job's wear
  pub record Runs : Type 0 where
    pub events : List (Event n)
    pub come : ComeFrom n job job.input s events
    pub outcomes : List (Outcome n)
    pub one_each : length outcomes ≡ length events
    pub ends : ℕ → BankEnd
    pub right : RunsRight e job.shape job.seed (rows_of events outcomes) array ends
    pub wear : array.wear ≡ Some job.wear

  -- this is its text
  abbrev pub IsTextOf : Runs → List ℕ → Type 0
  IsTextOf run text = IsRunText job.shape job.seed e run.events run.outcomes run.ends array job.print text

  -- what it left of its array: histories of its banks lead there, of which its ends are, and for its text the
  -- first lines were sensed since, each once, in order and at tick 0. Each of them has the bytes of a line
  pub record HasLeft (run : Runs) : Type 0 where
    pub saved : Saved n m
    pub left : IsLeft e job.shape job.seed (rows_of run.events run.outcomes) array saved
    pub are : (bank : ℕ) → bank < job.shape.banks → IsEndOf (left.banks bank).bank.kept (run.ends bank)
    pub rows : AreRowsTo left.sensed array

  -- it was made, and exactly its text was written, for which each line was sensed where it is an image, and
  -- else none
  pub record RunIsWritten (out : SinkChange) (done : Done) : Type 0 where
    pub run : Runs
    pub text : List ℕ
    pub is_text : IsTextOf run text
    pub written : Gets out text
    pub ending : done ≡ done_by run.outcomes
    pub left : HasLeft run
    pub sensed : left.left.sensed ≡ senses_for job.print array.lines

  -- it was made, and first bytes of its text were written, for which no more lines were sensed; of an image they
  -- are of rows that have the bytes of a line
  pub record RunIsWrittenInPart (out : SinkChange) : Type 0 where
    pub run : Runs
    pub text : List ℕ
    pub is_text : IsTextOf run text
    pub written : GetsPart out text
    pub left : HasLeft run
    pub sensed : left.left.sensed ≤ senses_for job.print array.lines
    pub rows : job.print ≡ Image → WritesRows array left.saved out.written_before out.written_now

-- whether the words ask for what is read: a trace that is run, an image that is shown, or a trace and its
-- results; and for a run over lines of this size
abbrev pub reads_source : Result Job Refusal → Bool
reads_source (Err e) = false
reads_source (Ok (Run job)) = is_source job.input
reads_source (Ok (Gen job)) = false
reads_source (Ok (Map job)) = false
reads_source (Ok (Moves job)) = false
reads_source (Ok Show) = true
reads_source (Ok (Check job)) = true

abbrev pub is_size : LineSize → LineSize → Bool
is_size Bytes64 Bytes64 = true
is_size Bytes64 Bytes128 = false
is_size Bytes128 Bytes64 = false
is_size Bytes128 Bytes128 = true

-- whether they ask for a run over lines of this size
abbrev pub runs_on : LineSize → Result Job Refusal → Bool
runs_on size (Err e) = false
runs_on size (Ok (Run job)) = is_size size job.line
runs_on size (Ok (Gen job)) = false
runs_on size (Ok (Map job)) = false
runs_on size (Ok (Moves job)) = false
runs_on size (Ok Show) = false
runs_on size (Ok (Check job)) = false

-- how many bytes may be read for it; an image of whichever size may have as many as a trace over lines of 64
-- bytes
abbrev pub room_of : Result Job Refusal → ℕ
room_of (Err e) = 0
room_of (Ok (Run job)) = trace_room (bytes_in job.line)
room_of (Ok (Gen job)) = 0
room_of (Ok (Map job)) = 0
room_of (Ok (Moves job)) = 0
room_of (Ok Show) = trace_room 64
room_of (Ok (Check job)) = trace_room room_line

-- by what became of the source, the arrays and the output
module _ (deed : Deed) where
  -- a run is made on the array of its lines, and its text is written
  abbrev pub WritesRun : RunJob → Done → LineSize → Type 0
  WritesRun job done Bytes64 = RunIsWritten 64 8 6 job deed.source deed.array deed.out done
  WritesRun job done Bytes128 = RunIsWritten 128 16 8 job deed.source deed.wide deed.out done

  -- what a job does: a run is made and its text is written; a generated trace or a report is written; an
  -- image is read and shown; results are checked
  abbrev pub Does : Result Job Refusal → Done → Type 0
  Does (Err e) done = ⊥
  Does (Ok (Run job)) done = WritesRun job done job.line
  Does (Ok (Gen job)) done = Gets deed.out (gen_text job) × (done ≡ Whole)
  Does (Ok (Map job)) done = Gets deed.out (map_text (map_options job)) × (done ≡ Whole)
  Does (Ok (Moves job)) done = Gets deed.out (moves_text job.lines job.from) × (done ≡ Whole)
  Does (Ok Show) done = ShowsImage deed.source deed.out × (done ≡ Whole)
  Does (Ok (Check job)) done =
      TellsVerdict (bytes_in job.line) (pointers_in job.line) job deed.source deed.out done

  -- the same, where only first bytes could be written
  abbrev pub WritesRunInPart : RunJob → LineSize → Type 0
  WritesRunInPart job Bytes64 = RunIsWrittenInPart 64 8 6 job deed.source deed.array deed.out
  WritesRunInPart job Bytes128 = RunIsWrittenInPart 128 16 8 job deed.source deed.wide deed.out

  abbrev pub DoesPart : Result Job Refusal → Type 0
  DoesPart (Err e) = ⊥
  DoesPart (Ok (Run job)) = WritesRunInPart job job.line
  DoesPart (Ok (Gen job)) = GetsPart deed.out (gen_text job)
  DoesPart (Ok (Map job)) = GetsPart deed.out (map_text (map_options job))
  DoesPart (Ok (Moves job)) = GetsPart deed.out (moves_text job.lines job.from)
  DoesPart (Ok Show) = ShowsImageInPart deed.source deed.out
  DoesPart (Ok (Check job)) =
      TellsVerdictInPart (bytes_in job.line) (pointers_in job.line) job deed.source deed.out

-- why words give no job: they ask for none, or memory ran out
abbrev pub IsRefused : Result Job Refusal → Fault → Type 0
IsRefused asked fault = (fault ≡ NoMemory) ⊎ ((fault ≡ Usage) × (asked ≡ Err refusal.Usage))

-- why a call doesn't do its work: the words ask for no job, a run has no events, there is no image to show,
-- results can't be checked, or there is no memory
abbrev pub HasCause : Fault → Result Job Refusal → SourceChange → Type 0
HasCause fault (Err e) s = (fault ≡ Usage) ⊎ (fault ≡ NoMemory)
HasCause fault (Ok (Run job)) s = IsFaultOf (bytes_in job.line) job job.input fault s
HasCause fault (Ok (Gen job)) s = fault ≡ NoMemory
HasCause fault (Ok (Map job)) s = fault ≡ NoMemory
HasCause fault (Ok (Moves job)) s = fault ≡ NoMemory
HasCause fault (Ok Show) s = IsShowFault fault s
HasCause fault (Ok (Check job)) s = IsCheckFault (bytes_in job.line) job fault s

-- a call that doesn't do its work says why, by its status and by a line
pub record Tells (asked : Result Job Refusal) (s : SourceChange) (err : SinkChange) (status : ℕ)
    : Type 0 where
  pub fault : Fault
  pub cause : HasCause fault asked s
  pub answered : status ≡ status_of fault
  pub line : Gets err (fault_line fault)

-- it has a reason to say so, and only first bytes of the line could be written
pub record TellsPart (asked : Result Job Refusal) (s : SourceChange) (err : SinkChange) : Type 0 where
  pub fault : Fault
  pub cause : HasCause fault asked s
  pub part : GetsPart err (fault_line fault)
