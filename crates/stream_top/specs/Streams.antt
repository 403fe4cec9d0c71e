-- What a stream does. What was asked stands with the newest row first.
use Rattle.std.specs.Prelude.{◌≡◌, ◌≢◌, ◌⊎◌, ◌&&◌, ℕ, ◌≤◌, Bool, true, false, if◌then◌else◌, List, ◌++◌, length, reverse, Option, Some, None, Result, Err, IfOk, IfErr}
use Rattle.cell_rows.specs.Device.{ArrayState}
use Rattle.result_rows.specs.declared.Outcome.{Outcome}
use Rattle.row_rules.specs.declared.Row.{Row}
use Rattle.bank_model.specs.Timing.{TimedEvent}
use Rattle.command_line.specs.{declared.job.Input.Input, declared.job.Input.TheVariants.{Source, Drawn}}
use Rattle.module_shape.specs.{Limits.total_of, declared.raw.RawShape.RawShape}
use Rattle.pcm_image.specs.Saved.{Saved}
use Rattle.pcm_module.specs.State.{ModuleState}
use Rattle.module_prints.specs.WearReports.{cells_at}
use Rattle.program_calls.specs.Calls.{Gets, GetsPart, IsUntouched, Lent, SinkChange, SinkFails}
use Rattle.run_text.specs.{Counting.counts_of, Shortfall.any_short}
use Rattle.row_printer.specs.{Printing.{stream_text, table_of}, Telling.{outcomes_in, TellsOnce}, declared.snapshot.Snapshot.Snapshot, declared.told.Shown.Shown}
use Rattle.row_printer.specs.{declared.told.Told.Told, declared.told.ToldRest.ToldRest, declared.told.ToldShape.ToldShape}
use Rattle.row_printer.specs.declared.told.Shown.TheVariants as shown
use Rattle.stream_words.specs.{Jobs.IsStreamJob, declared.job.End.End, declared.job.End.TheVariants.{Drain, Off}, declared.job.StreamJob.StreamJob}
use Rattle.stream_words.specs.{declared.job.StreamPrint.StreamPrint, declared.job.StreamPrint.TheVariants.{Rows, Summary, Wear, Lines, Map, Energy, Image, Snapshots}}
use Rattle.stream_words.specs.{declared.job.Tell.Tell, declared.job.Tell.TheVariants.{Nothing, Shape, Module}, declared.job.StreamUntil.StreamUntil}
use Rattle.stream_words.specs.declared.job.StreamUntil.TheVariants as up_to
use Rattle.drawn_parts.specs.Parts.{drawn_for}
use Rattle.trace_gen.specs.Generated.{generated}
use Rattle.trace_stream.specs.{Asked.events_in, Laws.all_events, declared.asked.Asked.Asked}
use Rattle.trace_stream.specs.declared.fault.StreamFault.TheVariants as from
use Rattle.row_stream.specs.{Asking.{BeginsWith, stays_off, with_cut}, Ending.{EndsShowing, HasEnded, SnapsAll, rows_of, told_along, without_cut}, Laws.TellsEach}
use Rattle.row_stream.specs.{Refusing.{EndsBehind, MayGoOn, WentOn, tells_refusal}, Serving.{HasServed, IsToldOf, SnapsAlong, Telling, TellsAlong}, Sourcing.{HasStopped, IsRead, IsReadTo}}
use Rattle.row_stream.specs.{declared.stop.Stop.Stop, declared.stop.Stop.TheVariants.{Input as No, Late, Endless, Output}}
use Rattle.stream_top.specs.{Calls.LentSource, Leaving.{IsClosing, Leaves, WritesRowsOf, senses_for}, declared.done.StreamDone.StreamDone, declared.done.StreamDone.TheVariants.{Whole, Short}}
use Rattle.stream_top.specs.{declared.fault.StreamRunFault.StreamRunFault, declared.fault.StreamRunFault.TheVariants.{Usage, Trace, Read, Write, TooLong, NoMemory}}

-- whether the power is to stay off behind the last row
abbrev pub is_off : End → Bool
is_off Drain = false
is_off Off = true

-- whether the rows come from the program's source
abbrev pub is_source : Input → Bool
is_source Source = true
is_source (Drawn mix) = false

-- whether a stream is to stop at a refusal
abbrev pub stops_at_refusal : StreamUntil → Bool
stops_at_refusal up_to.End = false
stops_at_refusal up_to.Refused = true

-- what the words of a module say besides its shape
abbrev pub rest_told : RawShape → ℕ → ToldRest
rest_told raw seed = record {
  seed = seed;
  psi = raw.psi;
  read_ticks = raw.read_ticks;
  iter_ticks = raw.iter_ticks;
  policy = raw.policy;
  home = raw.home;
}

-- the shape of a module of these sizes, with this besides
abbrev pub shape_with : RawShape → Option ToldRest → ToldShape
shape_with raw rest =
    record { banks = raw.banks; regions = raw.regions; lines = raw.lines; spares = raw.spares; writes = raw.writes; reads = raw.reads; rest = rest }

-- what is told of a module of these sizes and this seed
abbrev pub shape_told : RawShape → ℕ → Tell → Option ToldShape
shape_told raw seed Nothing = None
shape_told raw seed Shape = Some (shape_with raw None)
shape_told raw seed Module = Some (shape_with raw (Some (rest_told raw seed)))

-- what is printed as rows are served, on a module of these sizes and this seed
abbrev pub shown_by : RawShape → ℕ → StreamPrint → Shown
shown_by raw seed (Rows tell) = shown.Rows (shape_told raw seed tell)
shown_by raw seed Summary = shown.Nothing
shown_by raw seed (Wear skip) = shown.Nothing
shown_by raw seed (Lines skip) = shown.Nothing
shown_by raw seed Map = shown.Nothing
shown_by raw seed Energy = shown.Nothing
shown_by raw seed Image = shown.Nothing
shown_by raw seed (Snapshots every) = shown.Snapshots every

-- the fault of the program that a stop of a stream is
abbrev pub stop_fault : Stop → StreamRunFault
stop_fault (No (from.Trace f)) = Trace f
stop_fault (No from.TooMany) = TooLong
stop_fault (No from.Read) = Read
stop_fault (No from.Endless) = TooLong
stop_fault (No from.NoMemory) = NoMemory
stop_fault (Late f) = Trace f
stop_fault Endless = TooLong
stop_fault Output = Write

-- how a stream was done: wholly where it stopped at a refusal, as it was to; else by the outcomes of its rows; and the status for that
abbrev pub done_by : {n : ℕ} → Bool → List (Outcome n) → StreamDone
done_by stopped outcomes = if stopped then Whole else (if any_short outcomes then Short else Whole)

abbrev pub status_done : StreamDone → ℕ
status_done Whole = 0
status_done Short = 1

-- lines of n bytes with m check bytes and e error-correcting pointers
module _ {S : Type 0} (n m e : ℕ) (job : StreamJob) (source : LentSource S) where
  -- the rows asked this, and this was told as they were served: the source was read to its end and its bytes are such a stream; or the seed draws
  -- them, and nothing is read. Where the stream is to stop at a refusal, they are those up to the first row that was refused, if there is one
  abbrev pub ComeFrom : Input → (asked : List (Asked n)) → Telling n m e job.shape job.seed asked → Type 0
  ComeFrom Source asked telling =
      EndsBehind (stops_at_refusal job.until) asked telling
      (IsRead (total_of job.shape) source.left source.taken source.faults source.before source.now asked)
      (IsReadTo (total_of job.shape) source.left source.taken source.faults source.before source.now asked)
  ComeFrom (Drawn mix) asked telling =
      (source.now ≡ source.before)
      × EndsBehind (stops_at_refusal job.until) asked telling (reverse asked ≡ all_events (drawn_for job.shape job.seed job.banks (generated n job.seed (total_of job.shape) mix)))
      (BeginsWith asked (all_events (drawn_for job.shape job.seed job.banks (generated n job.seed (total_of job.shape) mix))))

  -- whether it stopped there
  abbrev pub has_stopped : (asked : List (Asked n)) → Telling n m e job.shape job.seed asked → Bool
  has_stopped asked telling = stops_at_refusal job.until && tells_refusal asked telling

  -- and where a fault ends it, it didn't: nothing was refused; but the last row may have been where the output failed
  abbrev pub GoesAsFarAs : StreamRunFault → (asked : List (Asked n)) → Telling n m e job.shape job.seed asked → Type 0
  GoesAsFarAs Usage asked telling = MayGoOn (stops_at_refusal job.until) asked telling
  GoesAsFarAs (Trace f) asked telling = MayGoOn (stops_at_refusal job.until) asked telling
  GoesAsFarAs Read asked telling = MayGoOn (stops_at_refusal job.until) asked telling
  GoesAsFarAs Write asked telling = WentOn (stops_at_refusal job.until) asked telling
  GoesAsFarAs TooLong asked telling = MayGoOn (stops_at_refusal job.until) asked telling
  GoesAsFarAs NoMemory asked telling = MayGoOn (stops_at_refusal job.until) asked telling

  -- the first rows asked this, and no more were served, for this cause
  abbrev pub Stops : Stop → List (Asked n) → Type 0
  Stops stop asked = HasStopped (total_of job.shape) source.left source.taken source.faults source.before source.now asked stop

  -- why a stream that is read isn't served to its end
  abbrev pub HasCause : StreamRunFault → List (Asked n) → Type 0
  HasCause Usage asked = ⊥
  HasCause (Trace f) asked = Stops (No (from.Trace f)) asked ⊎ Stops (Late f) asked
  HasCause Read asked = Stops (No from.Read) asked
  HasCause Write asked = Stops Output asked
  HasCause TooLong asked = Stops (No from.TooMany) asked ⊎ Stops (No from.Endless) asked ⊎ Stops Endless asked
  HasCause NoMemory asked = Stops (No from.NoMemory) asked

  -- why one isn't, wherever its rows come from: of those that are drawn only the output may fail
  abbrev pub StopsBy : Input → StreamRunFault → List (Asked n) → Type 0
  StopsBy Source fault asked = HasCause fault asked
  StopsBy (Drawn mix) fault asked =
      (fault ≡ Write) × (source.now ≡ source.before) × BeginsWith asked (all_events (drawn_for job.shape job.seed job.banks (generated n job.seed (total_of job.shape) mix)))

  -- what was told as the rows were served, without the cut behind which the power stays off
  abbrev pub told_of_rows : (asked : List (Asked n)) {module_ : ModuleState n m e} {array : ArrayState n m} {places : ℕ} {told : List (Told n)}
      → HasEnded job.shape job.seed (stays_off (is_off job.end) asked) (with_cut (is_off job.end) asked) module_ array places told
      → Telling n m e job.shape job.seed asked
  told_of_rows asked ended = without_cut (is_off job.end) asked (told_along ended)

  -- all rows were served, or those up to the first refusal, and the stream ended behind them
  abbrev pub HasPlayed : List (Asked n) → ModuleState n m e → ArrayState n m → ℕ → List (Told n) → Shown → List Snapshot → Type 0
  HasPlayed asked module_ array places told shows snapshots =
      (all : EndsShowing job.shape job.seed (stays_off (is_off job.end) asked) (with_cut (is_off job.end) asked) module_ array places told shows snapshots)
      × ComeFrom job.input asked (told_of_rows asked all.0)

  -- the table of rows that asked this and were told this, with the cut behind which the power stays off: the newest row first
  abbrev pub rows_told : List (Asked n) → ℕ → List (Told n) → List (Row n)
  rows_told asked places told = rows_of (events_in (with_cut (is_off job.end) asked)) (table_of places told)

  -- a stream was served to its end, or up to the first refusal where it is to stop there, and this was told: row by row what became known, in the end the rest, once of each row; and snapshots
  -- were taken, each of what its row left, and one of what stands in the end. By what was told the rows are right
  -- over the array as it was left, and as it is now; the array was powered up with the job's wear, and only lines sensed for an image since
  pub record IsServed (array : ArrayState n m) (told : List (Told n)) : Type 0 where
    pub lawful : IsStreamJob job
    pub asked : List (Asked n)
    pub places : ℕ
    pub module_ : ModuleState n m e
    pub before : ArrayState n m
    pub ended : HasEnded job.shape job.seed (stays_off (is_off job.end) asked) (with_cut (is_off job.end) asked) module_ before places told
    pub come : ComeFrom job.input asked (told_of_rows asked ended)
    pub snapshots : List Snapshot
    pub snaps : SnapsAll (shown_by job.shape job.seed job.print) ended snapshots
    pub once : TellsOnce places (outcomes_in told)
    pub each : TellsEach places told
    pub sensed : ℕ
    pub saved : Saved n m
    pub leaves : Leaves (stays_off (is_off job.end) asked) e job.shape job.seed (rows_told asked places told) ended.ends sensed before array saved
    pub untouched : job.print ≢ Image → array ≡ before
    pub wear : array.wear ≡ Some job.wear

  -- what is written of it in the end, behind what was printed as it became known; the array tells these changes of its cells
  abbrev pub Closes : (array : ArrayState n m) (changes : ℕ → Option (ℕ → ℕ)) (told : List (Told n)) → IsServed array told → List ℕ → Type 0
  Closes array changes told served text =
      IsClosing job.shape job.seed served.places (counts_of (table_of served.places told)) served.ended.ends array (cells_at e array changes) served.saved job.print text

  -- only its first rows were, which asked this, and this was told: row by row what became known, once of a row; and
  -- these snapshots were taken, each of what its row left. The array, which was powered up with the job's wear, is as the last of these rows left it, and
  -- that row's lines, and a snapshot behind it, are of this very array
  pub record IsServedInPart (array : ArrayState n m) (asked : List (Asked n)) (told : List (Told n)) : Type 0 where
    pub lawful : IsStreamJob job
    pub history : ℕ → List (TimedEvent n m)
    pub along : TellsAlong e job.shape job.seed asked history told
    pub module_ : ModuleState n m e
    pub left : HasServed job.shape job.seed (events_in asked) history module_ array (table_of (length (events_in asked)) told)
    pub now : IsToldOf e job.shape job.seed module_ array asked history told along
    pub wear : array.wear ≡ Some job.wear
    pub snapshots : List Snapshot
    pub snaps : SnapsAlong e job.shape job.seed (shown_by job.shape job.seed job.print) asked history told along snapshots
    pub once : TellsOnce (length (events_in asked)) (outcomes_in told)

  -- what was told of them, with its histories
  abbrev pub told_in_part : {array : ArrayState n m} {asked : List (Asked n)} {told : List (Told n)} → IsServedInPart array asked told
      → Telling n m e job.shape job.seed asked
  told_in_part {told = told} served = record { history = served.history; told = told; along = served.along }

  module _ (out : SinkChange) where
    -- it was served to its end, and exactly what was told was written, and then the text of the end, for which each line was sensed where it is an
    -- image, and else none; whether a row fell short says how it was done
    pub record Streams (array : ArrayState n m) (changes : ℕ → Option (ℕ → ℕ)) (done : StreamDone) : Type 0 where
      pub told : List (Told n)
      pub served : IsServed array told
      pub text : List ℕ
      pub closes : Closes array changes told served text
      pub written : Gets out (stream_text (shown_by job.shape job.seed job.print) told served.snapshots ++ text)
      pub sensed : served.sensed ≡ senses_for job.print array.lines
      pub ending : done ≡ done_by (has_stopped served.asked (told_of_rows served.asked served.ended)) (table_of served.places told)

    -- it stopped at this fault; exactly what was known by then was written
    pub record StreamsUpTo (array : ArrayState n m) (fault : StreamRunFault) : Type 0 where
      pub asked : List (Asked n)
      pub told : List (Told n)
      pub served : IsServedInPart array asked told
      pub cause : StopsBy job.input fault asked
      pub far : GoesAsFarAs fault asked (told_in_part served)
      pub written : Gets out (stream_text (shown_by job.shape job.seed job.print) told served.snapshots)

    -- it was served to its end, and first bytes of all that were written, for which no more lines were sensed; of an image they are of rows that have the
    -- bytes of a line
    pub record StreamsInPart (array : ArrayState n m) (changes : ℕ → Option (ℕ → ℕ)) : Type 0 where
      pub told : List (Told n)
      pub served : IsServed array told
      pub text : List ℕ
      pub closes : Closes array changes told served text
      pub part : GetsPart out (stream_text (shown_by job.shape job.seed job.print) told served.snapshots ++ text)
      pub sensed : served.sensed ≤ senses_for job.print array.lines
      pub rows : job.print ≡ Image → WritesRowsOf job.shape array served.saved out.written_before out.written_now

    -- its first rows were served, and first bytes of what was told of them were written
    pub record BeginsInPart (array : ArrayState n m) : Type 0 where
      pub asked : List (Asked n)
      pub told : List (Told n)
      pub served : IsServedInPart array asked told
      pub cause : StopsBy job.input Write asked
      pub far : GoesAsFarAs Write asked (told_in_part served)
      pub part : GetsPart out (stream_text (shown_by job.shape job.seed job.print) told served.snapshots)

    -- the output failed, behind the last row or before
    pub record BreaksOff (array : ArrayState n m) (changes : ℕ → Option (ℕ → ℕ)) : Type 0 where
      pub served : StreamsInPart array changes ⊎ BeginsInPart array
      pub fails : SinkFails out

  -- how a stream ends: it is served to its end; or the output fails; or it stops at a fault that has its cause; or there is no memory to begin with,
  -- and nothing is read or written
  pub record Ends {K : Type 0} (out : Lent K SinkChange) (array : ArrayState n m) (changes : ℕ → Option (ℕ → ℕ)) (result : Result StreamDone StreamRunFault) : Type 0 where
    pub done : IfOk result (Streams out.seen array changes)
    pub write : result ≡ Err Write → BreaksOff out.seen array changes
    pub cause : IfErr result (λ fault. fault ≢ Write
        → StreamsUpTo out.seen array fault ⊎ ((fault ≡ NoMemory) × (source.now ≡ source.before) × IsUntouched out))
    pub unread : is_source job.input ≡ false → source.now ≡ source.before
