-- What a stream promises, said of its rows, its lines, and what it left. What was asked stands with the newest row first.
use Rattle.std.specs.Prelude.{◌≡◌, ◌≢◌, ◌⊎◌, ◌&&◌, true, IsTrue, ℕ, ◌*◌, ◌≤◌, List, ◌∷◌, [], ◌++◌, length, reverse, Option, Some, Result, Ok, Err}
use Rattle.cell_rows.specs.Device.{ArrayState}
use Rattle.result_rows.specs.declared.Outcome.{Outcome}
use Rattle.row_rules.specs.{Rows.each_row, declared.Row.Row}
use Rattle.answered_laws.specs.Answered.{is_served_so_far}
use Rattle.command_line.specs.{declared.job.Input.Input, declared.job.Input.TheVariants.{Source, Drawn}, declared.job.LineSize.LineSize}
use Rattle.command_line.specs.{declared.job.LineSize.TheVariants.{Bytes64, Bytes128}, declared.job.Refusal.Refusal}
use Rattle.module_shape.specs.{Addresses.{array_lines_of, module_of}, Limits.total_of}
use Rattle.right_runs.specs.{Ends.BankEnd, Runs.{EndsTo, RunsRightTo}}
use Rattle.pcm_image.specs.Saved.{Saved}
use Rattle.right_images.specs.SavesRun.{SavesRunTo}
use Rattle.image_text.specs.Sensing.{SensesRows}
use Rattle.bank_timing.specs.Extending.{outcome_in}
use Rattle.pcm_module.specs.Roles.{spares_used}
use Rattle.module_prints.specs.WearReports.{cells_at}
use Rattle.program_calls.specs.Calls.{Gets, GetsPart, IsTried, IsUntouched, Lent, SinkChange, SinkFails}
use Rattle.run_text.specs.{Counting.counts_of, Pulses.pulses_in_all, SummaryText.summary_text}
use Rattle.row_printer.specs.{Printing.{stream_text, table_of}, Snapshots.{AddsDue, takes_snapshots}, Telling.{became, outcomes_in, TellsOnce}, declared.snapshot.Snapshot.Snapshot}
use Rattle.row_printer.specs.declared.told.Told.{Told}
use Rattle.stream_words.specs.{declared.job.StreamJob.StreamJob, declared.job.StreamPrint.TheVariants.Image}
use Rattle.drawn_parts.specs.Parts.{drawn_for}
use Rattle.trace_gen.specs.Generated.{generated}
use Rattle.trace_stream.specs.{Asked.events_in, Laws.all_events, declared.asked.Asked.Asked}
use Rattle.row_stream.specs.{Asking.{BeginsWith, stays_off, tick_reached, with_cut}, Laws.TellsEach, Looking.wear_of, Serving.ComeByBanks, Sourcing.{IsRead, IsReadTo}}
use Rattle.stream_top.specs.{Calls.LentSource, FaultLines.{fault_line, status_of}, Leaving.{IsClosing, WritesRowsOf, senses_for}}
use Rattle.stream_top.specs.{Promises.{Call, IsAsleep, IsUnread, OthersUntouched}, Streams.{StopsBy, done_by, is_off, rows_told, shown_by, status_done, stops_at_refusal}}
use Rattle.stream_top.specs.{declared.done.StreamDone.StreamDone, declared.done.StreamDone.TheVariants.Short, declared.fault.StreamRunFault.StreamRunFault, declared.fault.StreamRunFault.TheVariants.{Usage, Write, NoMemory}}
use Rattle.moment_laws.specs.Moments.{rows_now}
use Rattle.settle_laws.specs.Settles.{SettlesForGood, SettlesSoFar}
use Rattle.snapshot_laws.specs.Rising.{NeverFall}
use Rattle.stream_promise.specs.Rows.{AreInTurnByRows, AreMarksTrueByRows, CountsRows, EndWhere, LooksAt, RowsTold, ShowsAt, SnapsByRows, TellsByRows, WithoutRefusal}
use Rattle.stream_promise.specs.Rows.{WithoutRefusalBefore, before_cut, is_refusal_told}

-- lines of n bytes with m check bytes and e error-correcting pointers
module _ {S : Type 0} (n m e : ℕ) (job : StreamJob) (source : LentSource S) where
  -- the rows asked this, of which this was told as they were served: the source was read to its end and its bytes are such a stream; or the seed draws them,
  -- and nothing is read. Where the stream is to stop at a refusal, they are those up to the row by which the first was told
  abbrev pub ComeByRows : Input → (asked : List (Asked n)) → RowsTold job.shape job.seed asked → Type 0
  ComeByRows Source asked it =
      EndWhere job.shape job.seed (stops_at_refusal job.until) asked it
      (IsRead (total_of job.shape) source.left source.taken source.faults source.before source.now asked)
      (IsReadTo (total_of job.shape) source.left source.taken source.faults source.before source.now asked)
  ComeByRows (Drawn mix) asked it =
      (source.now ≡ source.before)
      × EndWhere job.shape job.seed (stops_at_refusal job.until) asked it (reverse asked ≡ all_events (drawn_for job.shape job.seed job.banks (generated n job.seed (total_of job.shape) mix)))
      (BeginsWith asked (all_events (drawn_for job.shape job.seed job.banks (generated n job.seed (total_of job.shape) mix))))

  -- and where a fault ends a stream that is to stop at a refusal, none was told; but the last row may have been where the output failed
  abbrev pub GoesOnTo : StreamRunFault → (asked : List (Asked n)) → RowsTold job.shape job.seed asked → Type 0
  GoesOnTo Write asked it = WithoutRefusalBefore job.shape job.seed (stops_at_refusal job.until) asked it
  GoesOnTo _ asked it = WithoutRefusal job.shape job.seed (stops_at_refusal job.until) asked it

  -- the last of all snapshots says what stands in the end
  pub record EndsRows (places tick : ℕ) (told : List (Told n)) (ends : ℕ → BankEnd) (array : ArrayState n m) (snapshot : Snapshot) : Type 0 where
    pub counts : CountsRows places tick told snapshot
    pub retired : snapshot.retired ≡ spares_used job.shape ends
    pub wear : snapshot.wear ≡ wear_of e array

  -- a stream was served to its end, or up to a refusal where it is to stop there, and this was told. Row by row what became known, behind each what was decided as it came, up to each settle all
  -- that had come by its tick, and in the end the rest, bank by bank: of each row once. By that the rows, with the cut behind which the power stays off, are right
  -- over the array as it is now, and were powered up with the job's wear; only for an image lines were sensed since, and it says what these rows left. No count
  -- of a snapshot falls to a later one
  pub record IsServedByRows (array : ArrayState n m) (told : List (Told n)) : Type 0 where
    pub asked : List (Asked n)
    pub along : RowsTold job.shape job.seed (with_cut (is_off job.end) asked)
    pub come : ComeByRows job.input asked (before_cut job.shape job.seed (is_off job.end) asked along)
    pub rest : List (ℕ × Outcome n)
    pub all : told ≡ along.told ++ became rest
    pub order : ComeByBanks job.shape job.seed true (events_in (with_cut (is_off job.end) asked)) job.shape.banks rest
    pub places : ℕ
    pub counted : places ≡ length (events_in (with_cut (is_off job.end) asked))
    pub once : TellsOnce places (outcomes_in told)
    pub each : TellsEach places told
    pub in_time : SettlesForGood (with_cut (is_off job.end) asked) places told
    pub in_turn : AreInTurnByRows job.shape job.seed (with_cut (is_off job.end) asked) along.told along.rows (outcome_in (table_of places told))
    pub marks : AreMarksTrueByRows job.shape job.seed (with_cut (is_off job.end) asked) (outcome_in (table_of places told)) (with_cut (is_off job.end) asked) along.told along.rows
    pub ends : ℕ → BankEnd
    pub before : ArrayState n m
    pub sensed : ℕ
    pub saved : Saved n m
    pub since : SensesRows sensed before array
    pub right : RunsRightTo e job.shape job.seed (stays_off (is_off job.end) asked) (rows_told n m e job source asked places told) array ends
    pub saves : SavesRunTo (stays_off (is_off job.end) asked) e job.shape job.seed (rows_told n m e job source asked places told) array ends saved
    pub snapshots : List Snapshot
    pub snaps :
        (first : List Snapshot) × SnapsByRows job.shape job.seed (shown_by job.shape job.seed job.print) (with_cut (is_off job.end) asked) along.told along.rows first
        × AddsDue (takes_snapshots (shown_by job.shape job.seed job.print)) (EndsRows places (tick_reached (with_cut (is_off job.end) asked)) told ends before) first snapshots
    pub rise : NeverFall snapshots
    pub untouched : job.print ≢ Image → array ≡ before
    pub wear : array.wear ≡ Some job.wear

  -- what is written of it in the end, behind what was printed as it became known; the array tells these changes of its cells
  abbrev pub ClosesRows : (array : ArrayState n m) (changes : ℕ → Option (ℕ → ℕ)) (told : List (Told n)) → IsServedByRows array told → List ℕ → Type 0
  ClosesRows array changes told served text =
      IsClosing job.shape job.seed served.places (counts_of (table_of served.places told)) served.ends array (cells_at e array changes) served.saved job.print text

  -- the table of rows that asked this, by what was told so far: a write without an outcome counts as queued
  abbrev pub rows_so_far : List (Asked n) → List (Told n) → List (Row n)
  rows_so_far asked told = rows_now (events_in asked) (table_of (length (events_in asked)) told)

  -- only its first rows were, which asked this, and this was told: each row that has an outcome by then is served, and nothing is lost. By these rows the queue of each bank is what
  -- its queued writes give, and by one table of lines and the moves of its regions each line's newest bytes are those of the array as it is, with those of the queue laid over them
  pub record IsServedInPartByRows (array : ArrayState n m) (asked : List (Asked n)) (told : List (Told n)) : Type 0 where
    pub rows : TellsByRows job.shape job.seed asked told
    pub once : TellsOnce (length (events_in asked)) (outcomes_in told)
    pub in_time : SettlesSoFar asked told
    pub in_turn : AreInTurnByRows job.shape job.seed asked told rows (outcome_in (table_of (length (events_in asked)) told))
    pub marks : AreMarksTrueByRows job.shape job.seed asked (outcome_in (table_of (length (events_in asked)) told)) asked told rows
    pub looks : LooksAt e array asked told
    pub snapshots : List Snapshot
    pub snaps : SnapsByRows job.shape job.seed (shown_by job.shape job.seed job.print) asked told rows snapshots
    pub shows : ShowsAt e array (shown_by job.shape job.seed job.print) asked snapshots
    pub rise : NeverFall snapshots
    pub served : IsTrue (each_row is_served_so_far (rows_so_far asked told) [])
    pub size : array.lines ≡ job.shape.banks * array_lines_of (module_of job.shape)
    pub ends : ℕ → BankEnd
    pub end : EndsTo e job.shape job.seed true (rows_so_far asked told) array ends
    pub wear : array.wear ≡ Some job.wear

  -- what was told of them
  abbrev pub told_by_rows : {array : ArrayState n m} {asked : List (Asked n)} {told : List (Told n)} → IsServedInPartByRows array asked told → RowsTold job.shape job.seed asked
  told_by_rows {told = told} served = record { told = told; rows = served.rows }

  module _ (out : SinkChange) where
    -- it was served to its end, and exactly what was told was written, and then the text of the end, for which each line was sensed where it is an
    -- image, and else none; whether a row fell short says how it was done
    pub record StreamsByRows (array : ArrayState n m) (changes : ℕ → Option (ℕ → ℕ)) (done : StreamDone) : Type 0 where
      pub told : List (Told n)
      pub served : IsServedByRows array told
      pub text : List ℕ
      pub closes : ClosesRows array changes told served text
      pub written : Gets out (stream_text (shown_by job.shape job.seed job.print) told served.snapshots ++ text)
      pub sensed : served.sensed ≡ senses_for job.print array.lines
      pub ending :
          done ≡ done_by (stops_at_refusal job.until && is_refusal_told job.shape job.seed served.asked (before_cut job.shape job.seed (is_off job.end) served.asked served.along)) (table_of served.places told)

    -- it stopped at this fault; exactly what was known by then was written
    pub record StopsByRows (array : ArrayState n m) (fault : StreamRunFault) : Type 0 where
      pub asked : List (Asked n)
      pub told : List (Told n)
      pub served : IsServedInPartByRows array asked told
      pub cause : StopsBy n m e job source job.input fault asked
      pub far : GoesOnTo fault asked (told_by_rows served)
      pub written : Gets out (stream_text (shown_by job.shape job.seed job.print) told served.snapshots)

    -- it was served to its end, and first bytes of all that were written, for which no more lines were sensed; of an image they are of rows that have the
    -- bytes of a line
    pub record EndsInPartByRows (array : ArrayState n m) (changes : ℕ → Option (ℕ → ℕ)) : Type 0 where
      pub told : List (Told n)
      pub served : IsServedByRows array told
      pub text : List ℕ
      pub closes : ClosesRows array changes told served text
      pub part : GetsPart out (stream_text (shown_by job.shape job.seed job.print) told served.snapshots ++ text)
      pub sensed : served.sensed ≤ senses_for job.print array.lines
      pub rows : job.print ≡ Image → WritesRowsOf job.shape array served.saved out.written_before out.written_now

    -- its first rows were served, and first bytes of what was told of them were written
    pub record BeginsInPartByRows (array : ArrayState n m) : Type 0 where
      pub asked : List (Asked n)
      pub told : List (Told n)
      pub served : IsServedInPartByRows array asked told
      pub cause : StopsBy n m e job source job.input Write asked
      pub far : GoesOnTo Write asked (told_by_rows served)
      pub part : GetsPart out (stream_text (shown_by job.shape job.seed job.print) told served.snapshots)

    -- the output failed, behind the last row or before
    pub record BreaksByRows (array : ArrayState n m) (changes : ℕ → Option (ℕ → ℕ)) : Type 0 where
      pub served : EndsInPartByRows array changes ⊎ BeginsInPartByRows array
      pub fails : SinkFails out

-- a call of the program
module _ {A V S K : Type 0} (call : Call A V S K) where
  -- what a job does, on the array of its lines
  abbrev pub DoesOnRows : StreamJob → StreamDone → LineSize → Type 0
  DoesOnRows job done Bytes64 = StreamsByRows 64 8 6 job call.source call.out.seen call.array.seen.0 call.array.seen.1 done
  DoesOnRows job done Bytes128 = StreamsByRows 128 16 8 job call.source call.out.seen call.wide.seen.0 call.wide.seen.1 done

  abbrev pub DoesByRows : Result StreamJob Refusal → StreamDone → Type 0
  DoesByRows (Err e) done = ⊥
  DoesByRows (Ok job) done = DoesOnRows job done job.line

  -- how far it came before the output failed
  abbrev pub BreaksOnRows : StreamJob → LineSize → Type 0
  BreaksOnRows job Bytes64 = BreaksByRows 64 8 6 job call.source call.out.seen call.array.seen.0 call.array.seen.1
  BreaksOnRows job Bytes128 = BreaksByRows 128 16 8 job call.source call.out.seen call.wide.seen.0 call.wide.seen.1

  abbrev pub BreakByRows : Result StreamJob Refusal → Type 0
  BreakByRows (Err e) = ⊥
  BreakByRows (Ok job) = BreaksOnRows job job.line

  -- how far it came, and why no further: up to a row, or there was no memory to begin with
  abbrev pub StopsOnRows : StreamJob → StreamRunFault → LineSize → Type 0
  StopsOnRows job fault Bytes64 = StopsByRows 64 8 6 job call.source call.out.seen call.array.seen.0 fault
  StopsOnRows job fault Bytes128 = StopsByRows 128 16 8 job call.source call.out.seen call.wide.seen.0 fault

  abbrev pub StopByRows : Result StreamJob Refusal → StreamRunFault → Type 0
  StopByRows (Err e) fault = ((fault ≡ Usage) ⊎ (fault ≡ NoMemory)) × IsAsleep call
  StopByRows (Ok job) fault = StopsOnRows job fault job.line ⊎ ((fault ≡ NoMemory) × IsAsleep call)

  -- what holds of every call
  module _ {F : Type 0} (err : Lent F SinkChange) (status : ℕ) where
    pub record PromisesByRows : Type 0 where
      -- The status is 0 or 1: the stream was served to its end, and exactly what was told was written; the status is 1 exactly where some row
      -- fell short, but not where it stopped at a refused row, as it was to.
      pub done : status ≤ status_done Short → (done : StreamDone) × DoesByRows call.asked done × (status ≡ status_done done)
      pub silent : status ≤ status_done Short → IsUntouched err
      -- It is another, but for 5: the stream stopped at a fault that has its cause, exactly what was known by then was written, and the fault is told.
      pub told : status_of Usage ≤ status → status ≢ status_of Write
          → (fault : StreamRunFault) × StopByRows call.asked fault × (status ≡ status_of fault) × Gets err.seen (fault_line fault)
      -- It is 5: the output failed, first bytes of what was told were written, and the fault's line was tried; or a fault couldn't be told whole.
      pub broken : status ≡ status_of Write
          → (BreakByRows call.asked × IsTried err.seen (fault_line Write)) ⊎ ((fault : StreamRunFault) × StopByRows call.asked fault × GetsPart err.seen (fault_line fault) × SinkFails err.seen)
      -- A source is left alone where the rows are drawn, and so is the array of the other size of line.
      pub unread : IsUnread call call.asked
      pub others : OthersUntouched call call.asked

-- a stream of snapshots that was served to its end: the numbers of the last one are those of the summary of what it left
abbrev pub LastSnapshotLaw : Type 0 → Type 0
LastSnapshotLaw S =
    (n m e : ℕ) (job : StreamJob) (source : LentSource S) (array : ArrayState n m) (told : List (Told n)) (served : IsServedByRows n m e job source array told)
    → takes_snapshots (shown_by job.shape job.seed job.print) ≡ true
    → (first : List Snapshot) × (last : Snapshot) × (served.snapshots ≡ first ++ last ∷ [])
    × (summary_text last.rows last.counts last.retired last.wear.pulses
    ≡ summary_text served.places (counts_of (table_of served.places told)) (spares_used job.shape served.ends) (pulses_in_all served.before))
