-- The status of a call in which memory suffices and nothing fails.
use Rattle.std.specs.Prelude.{◌≡◌, ◌⊎◌, ℕ, ◌<◌, ◌≤◌, List, length, Result, Ok, Err}
use Rattle.trace_reader.specs.{Trace.trace_of, declared.event.Event.Event, declared.fault.ParseFault.ParseFault}
use Rattle.trace_reader.specs.declared.fault.ParseFault.TheVariants as parsing
use Rattle.module_shape.specs.Limits.{total_of}
use Rattle.command_line.specs.{declared.job.CheckJob.CheckJob, declared.job.Input.Input, declared.job.Input.TheVariants.{Source, Drawn}, declared.job.Job.Job}
use Rattle.command_line.specs.{declared.job.Job.TheVariants.{Run, Gen, Map, Moves, Show, Check}, declared.job.Refusal.Refusal, declared.job.RunJob.RunJob}
use Rattle.check_verdict.specs.declared.Verdict.{Verdict}
use Rattle.check_text.specs.{Checked.{HasVerdict, IsTextFault}, declared.fault.TextFault.TextFault}
use Rattle.check_text.specs.declared.fault.TextFault.TheVariants as text
use Rattle.pcm_top.specs.{Checking.{done_on, pointers_in, room_line}, FaultLines.status_of, Jobs.bytes_in, Reading.trace_room, Running.status_done, Showing.shown_of}
use Rattle.pcm_top.specs.{declared.fault.Fault.TheVariants.{Usage, Trace, Image, TooLong, NoMemory, Results}, declared.run.Done.TheVariants.{Whole, Short}}
use Rattle.pcm_image.specs.declared.ImageFault.{ImageFault}

-- that of a run: its rows say which of the two it is
abbrev pub IsRunStatus : ℕ → Type 0
IsRunStatus status = (status ≡ status_done Whole) ⊎ (status ≡ status_done Short)

-- by bytes that are too many for the room, or of which something decides
abbrev pub IsStatusIn : ℕ → List ℕ → ℕ → Type 0 → Type 0
IsStatusIn room bytes status decided =
    ((room < length bytes) × (status ≡ status_of TooLong)) ⊎ ((length bytes ≤ room) × decided)

-- by the events of a trace, or its fault
abbrev pub IsTraceStatus : {n : ℕ} → Result (List (Event n)) ParseFault → ℕ → Type 0
IsTraceStatus (Ok events) status = IsRunStatus status
IsTraceStatus (Err (parsing.Trace f)) status = status ≡ status_of (Trace f)
IsTraceStatus (Err parsing.TooMany) status = status ≡ status_of TooLong
IsTraceStatus (Err parsing.NoMemory) status = status ≡ status_of NoMemory

-- by the bytes of a source, which are too many or a trace
abbrev pub IsSourceStatus : (n lines : ℕ) → List ℕ → ℕ → Type 0
IsSourceStatus n lines bytes status =
    IsStatusIn (trace_room n) bytes status (IsTraceStatus (trace_of n lines bytes) status)

abbrev pub IsInputStatus : RunJob → List ℕ → ℕ → Input → Type 0
IsInputStatus job bytes status Source = IsSourceStatus (bytes_in job.line) (total_of job.shape) bytes status
IsInputStatus job bytes status (Drawn mix) = IsRunStatus status

-- by the text of an image, or the first of its fields that fails
abbrev pub IsImageStatus : Result (List ℕ) ImageFault → ℕ → Type 0
IsImageStatus (Ok text) status = status ≡ status_done Whole
IsImageStatus (Err f) status = status ≡ status_of (Image f)

-- by the bytes of a source, which are too many or an image
abbrev pub IsShowStatus : List ℕ → ℕ → Type 0
IsShowStatus bytes status = IsStatusIn (trace_room 64) bytes status (IsImageStatus (shown_of bytes) status)

-- that of a text without a verdict
abbrev pub status_without : TextFault → ℕ
status_without (text.Trace f) = status_of (Trace f)
status_without (text.Results row) = status_of (Results row)
status_without text.TooMany = status_of TooLong
status_without text.NoMemory = status_of NoMemory

-- that of a check: by its verdict, or by why there is none
abbrev pub IsTextStatus : (n e : ℕ) → CheckJob → List ℕ → ℕ → Type 0
IsTextStatus n e job bytes status =
    ((verdict : Verdict) × HasVerdict n e job.shape job.seed bytes verdict
    × (status ≡ status_done (done_on verdict)))
    ⊎ ((one : TextFault) × IsTextFault n job.shape bytes one × (status ≡ status_without one))

abbrev pub IsCheckStatus : (n e : ℕ) → CheckJob → List ℕ → ℕ → Type 0
IsCheckStatus n e job bytes status =
    IsStatusIn (trace_room room_line) bytes status (IsTextStatus n e job bytes status)

-- the status for a job, where the source gives these bytes
abbrev pub IsStatusFor : Result Job Refusal → List ℕ → ℕ → Type 0
IsStatusFor (Err e) bytes status = status ≡ status_of Usage
IsStatusFor (Ok (Run job)) bytes status = IsInputStatus job bytes status job.input
IsStatusFor (Ok (Gen job)) bytes status = status ≡ status_done Whole
IsStatusFor (Ok (Map job)) bytes status = status ≡ status_done Whole
IsStatusFor (Ok (Moves job)) bytes status = status ≡ status_done Whole
IsStatusFor (Ok Show) bytes status = IsShowStatus bytes status
IsStatusFor (Ok (Check job)) bytes status =
    IsCheckStatus (bytes_in job.line) (pointers_in job.line) job bytes status
