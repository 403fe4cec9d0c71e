-- What a stream promises along the histories of its banks it promises by its rows.
use Rattle.std.proofs.Common.{◌≡◌, ◌&&◌, inl, inr, ℕ, ◌*◌, Bool, true, List, Option, Result, Ok, Err, length, refl, ap, subst, ◌∙◌}
use Rattle.std.specs.Prelude.{reverse}
use Rattle.cell_rows.specs.Device.{ArrayState}
use Rattle.command_line.specs.{declared.job.Input.Input, declared.job.Input.TheVariants.{Source, Drawn}, declared.job.LineSize.LineSize}
use Rattle.command_line.specs.{declared.job.LineSize.TheVariants.{Bytes64, Bytes128}, declared.job.Refusal.Refusal}
use Rattle.row_rules.specs.declared.Row.{Row}
use Rattle.module_shape.specs.{Addresses.{array_lines_of, module_of}, Limits.{IsShape, total_of}, declared.raw.RawShape.RawShape}
use Rattle.right_runs.specs.Runs.{EndsTo}
use Rattle.run_laws.specs.FinishedLaws.{ends_of}
use Rattle.drawn_parts.specs.Parts.{drawn_for}
use Rattle.trace_gen.specs.Generated.{generated}
use Rattle.program_calls.specs.Calls.{Lent, SinkChange}
use Rattle.row_printer.specs.{Printing.table_of, Snapshots.{AddsDue, takes_snapshots}, declared.snapshot.Snapshot.Snapshot, declared.told.Told.Told}
use Rattle.run_text.specs.{Counting.counts_of, Pulses.pulses_in_all, SummaryText.summary_text}
use Rattle.stream_words.specs.declared.job.StreamJob.{StreamJob}
use Rattle.trace_stream.specs.{Asked.events_in, Laws.all_events, declared.asked.Asked.Asked}
use Rattle.row_stream.specs.{Asking.{BeginsWith, stays_off, tick_reached, with_cut}, Ending.{told_along, without_cut}, Looking.IsSnapshot, Serving.Telling}
use Rattle.row_stream.specs.Sourcing.{IsRead, IsReadTo}
use Rattle.stream_top.specs.{Calls.LentSource, Promises.{Breaks, BreaksOn, Call, Does, DoesOn, KeepsPromises, Stops as StopsCall, StopsOn}}
use Rattle.stream_top.specs.Streams.{BeginsInPart, BreaksOff, ComeFrom, GoesAsFarAs, IsServed, IsServedInPart, Streams, StreamsInPart, StreamsUpTo, done_by, is_off, shown_by}
use Rattle.stream_top.specs.{Streams.{stops_at_refusal, told_in_part}, Waiting.{IsJobText, WaitsAt, WaitsFor, WaitsOn}, declared.done.StreamDone.StreamDone, declared.fault.StreamRunFault.StreamRunFault}
use Rattle.stream_top.{specs.declared.fault.StreamRunFault.TheVariants.{Usage, Trace, Read, Write, TooLong, NoMemory}, proofs.Waiting.tells-so}
use Rattle.moment_laws.specs.Moments.{MomentLaw}
use Rattle.settle_laws.specs.{Marks.{EndedMarkLaw, MarkLaw}, Streams.{BegunStreamLaw, WholeStreamLaw}, Turns.{EndedTurnLaw, TurnLaw}}
use Rattle.snapshot_laws.specs.Rising.{EndedLaw, SoFarLaw}
use Rattle.stream_promise.specs.Promise.{BeginsInPartByRows, BreakByRows, BreaksByRows, BreaksOnRows, ComeByRows, DoesByRows, DoesOnRows, EndsInPartByRows, EndsRows, GoesOnTo}
use Rattle.stream_promise.specs.Promise.{IsServedByRows, IsServedInPartByRows, LastSnapshotLaw, PromisesByRows, StopByRows, StopsByRows, StopsOnRows, StreamsByRows, rows_so_far}
use Rattle.stream_promise.specs.Rows.{IsTextByRows, is_refusal_told}
use Rattle.stream_promise.proofs.Rows.{adds, by-rows, counts-rows, cut-same, end-where, in-turn-by-rows, looks-at, marks-by-rows, rows-of, shows-at, snaps-by-rows, without-refusal}
use Rattle.stream_promise.proofs.{Rows.without-refusal-before, Spares.used-alike}
use Rattle.bank_timing.specs.Extending.{outcome_in}
use Rattle.pcm_module.specs.{Roles.spares_used, State.bank_at}

-- the laws of streams by which it does
pub record StreamLaws (S : Type 0) : Type 0 where
  pub moment : MomentLaw
  pub whole : WholeStreamLaw S
  pub begun : BegunStreamLaw S
  pub ended_turns : EndedTurnLaw
  pub turns : TurnLaw
  pub ended_marks : EndedMarkLaw
  pub marks : MarkLaw
  pub ended_rises : EndedLaw
  pub so_far_rises : SoFarLaw

module _ {S : Type 0} (laws : StreamLaws S) (n m e : ℕ) (job : StreamJob) (source : LentSource S) where
  module _ (shape : IsShape job.shape) where
    come : (input : Input) (asked : List (Asked n)) (telling : Telling n m e job.shape job.seed asked) → ComeFrom n m e job source input asked telling
        → ComeByRows n m e job source input asked (rows-of e job.shape job.seed laws.moment shape asked telling)
    come Source asked telling is =
        end-where e job.shape job.seed laws.moment shape (stops_at_refusal job.until) asked telling
        (IsRead (total_of job.shape) source.left source.taken source.faults source.before source.now asked)
        (IsReadTo (total_of job.shape) source.left source.taken source.faults source.before source.now asked) is
    come (Drawn mix) asked telling is = (
      is.0,
      end-where e job.shape job.seed laws.moment shape (stops_at_refusal job.until) asked telling (reverse asked ≡ all_events (drawn_for job.shape job.seed job.banks (generated n job.seed (total_of job.shape) mix)))
          (BeginsWith asked (all_events (drawn_for job.shape job.seed job.banks (generated n job.seed (total_of job.shape) mix)))) is.1,
    )

    goes-on : (fault : StreamRunFault) (asked : List (Asked n)) (telling : Telling n m e job.shape job.seed asked) → GoesAsFarAs n m e job source fault asked telling
        → GoesOnTo n m e job source fault asked (rows-of e job.shape job.seed laws.moment shape asked telling)
    goes-on Usage asked telling is = without-refusal e job.shape job.seed laws.moment shape (stops_at_refusal job.until) asked telling is
    goes-on (Trace f) asked telling is = without-refusal e job.shape job.seed laws.moment shape (stops_at_refusal job.until) asked telling is
    goes-on Read asked telling is = without-refusal e job.shape job.seed laws.moment shape (stops_at_refusal job.until) asked telling is
    goes-on Write asked telling is = without-refusal-before e job.shape job.seed laws.moment shape (stops_at_refusal job.until) asked telling is
    goes-on TooLong asked telling is = without-refusal e job.shape job.seed laws.moment shape (stops_at_refusal job.until) asked telling is
    goes-on NoMemory asked telling is = without-refusal e job.shape job.seed laws.moment shape (stops_at_refusal job.until) asked telling is

  module _ (array : ArrayState n m) where
    -- ---- to the end
    abbrev served-by-rows : (told : List (Told n)) → IsServed n m e job source array told → IsServedByRows n m e job source array told
    served-by-rows told served =
        let asked = with_cut (is_off job.end) served.asked in
        let telling : Telling n m e job.shape job.seed asked = told_along served.ended in
        let tick : ℕ = tick_reached asked in
        record {
          asked = served.asked;
          along = rows-of e job.shape job.seed laws.moment served.lawful.shape asked telling;
          come =
              subst (λ it. ComeByRows n m e job source job.input served.asked it) (cut-same e job.shape job.seed laws.moment served.lawful.shape (is_off job.end) served.asked telling)
              (come served.lawful.shape job.input served.asked (without_cut (is_off job.end) served.asked telling) served.come);
          rest = served.ended.rest;
          all = served.ended.all;
          order = served.ended.order;
          places = served.places;
          counted = served.ended.counted;
          once = served.once;
          each = served.each;
          in_time = laws.whole n m e job source array told served;
          in_turn =
              in-turn-by-rows e job.shape job.seed laws.moment served.lawful.shape asked served.ended.history served.ended.said served.ended.along (outcome_in (table_of served.places told))
              (laws.ended_turns n m e job.shape job.seed (stays_off (is_off job.end) served.asked) asked served.module_ served.before served.places told served.lawful.shape served.ended);
          marks =
              marks-by-rows e job.shape job.seed laws.moment served.lawful.shape asked (outcome_in (table_of served.places told)) asked served.ended.history served.ended.said served.ended.along
              (laws.ended_marks n m e job.shape job.seed (stays_off (is_off job.end) served.asked) asked served.module_ served.before served.places told served.lawful.shape served.ended);
          ends = served.ended.ends;
          before = served.before;
          sensed = served.sensed;
          saved = served.saved;
          since = served.leaves.since;
          right = served.leaves.right;
          saves = served.leaves.saves;
          snapshots = served.snapshots;
          snaps = (
            served.snaps.0,
            snaps-by-rows e job.shape job.seed laws.moment served.lawful.shape (shown_by job.shape job.seed job.print) asked served.ended.history served.ended.said served.ended.along served.snaps.0 served.snaps.1,
            adds (takes_snapshots (shown_by job.shape job.seed job.print)) (IsSnapshot served.places tick told served.module_ served.before)
                (EndsRows n m e job source served.places tick told served.ended.ends served.before) served.snaps.0 served.snapshots
                (λ one is. record {
                  counts = counts-rows served.places tick told served.module_ served.before one is;
                  retired =
                      is.retired.2
                      ∙ ap (λ (raw : RawShape). spares_used raw is.retired.0) served.ended.shape
                      ∙ used-alike job.shape served.module_ is.retired.0 served.ended.ends served.ended.shape (λ bank below. served.ended.finished.1.shapes bank below) is.retired.1 served.ended.are;
                  wear = is.wear;
                }) served.snaps.2,
          );
          rise =
              laws.ended_rises n m e job.shape job.seed (stays_off (is_off job.end) served.asked) asked served.module_ served.before served.places told (shown_by job.shape job.seed job.print) served.snapshots
              served.once (served.ended, served.snaps);
          untouched = served.untouched;
          wear = served.wear;
        }

    -- ---- up to a row
    abbrev part-by-rows : (asked : List (Asked n)) (told : List (Told n)) → IsServedInPart n m e job source array asked told → IsServedInPartByRows n m e job source array asked told
    part-by-rows asked told served =
        let kept =
        laws.moment n m e job.shape job.seed (events_in asked) served.history served.module_ array (table_of (length (events_in asked)) told) served.lawful.shape served.left in
        let rows : List (Row n) = rows_so_far n m e job source asked told in
        record {
          rows = by-rows e job.shape job.seed laws.moment served.lawful.shape asked served.history told served.along;
          once = served.once;
          in_time = laws.begun n m e job source array asked told served;
          in_turn =
              in-turn-by-rows e job.shape job.seed laws.moment served.lawful.shape asked served.history told served.along (outcome_in (table_of (length (events_in asked)) told))
              (laws.turns n m e job.shape job.seed asked served.history served.module_ array told served.lawful.shape served.along served.left);
          marks =
              marks-by-rows e job.shape job.seed laws.moment served.lawful.shape asked (outcome_in (table_of (length (events_in asked)) told)) asked served.history told served.along
              (laws.marks n m e job.shape job.seed asked served.history served.module_ array told served.lawful.shape served.along served.left);
          looks = looks-at e job.shape job.seed laws.moment served.lawful.shape served.module_ array asked served.history told served.along served.now;
          snapshots = served.snapshots;
          snaps = snaps-by-rows e job.shape job.seed laws.moment served.lawful.shape (shown_by job.shape job.seed job.print) asked served.history told served.along served.snapshots served.snaps;
          shows =
              shows-at e job.shape job.seed laws.moment served.lawful.shape served.module_ array (shown_by job.shape job.seed job.print) asked served.history told served.along served.snapshots served.snaps served.now;
          rise =
              laws.so_far_rises n m e job.shape job.seed (length (events_in asked)) (shown_by job.shape job.seed job.print) asked served.history told served.along served.snapshots served.once served.snaps;
          served = kept.reads;
          size = subst (λ (raw : RawShape). array.lines ≡ raw.banks * array_lines_of (module_of raw)) served.left.shape served.left.replays.size;
          ends = ends_of served.history (bank_at served.module_);
          end =
              subst (λ (raw : RawShape). EndsTo e raw job.seed true rows array (ends_of served.history (bank_at served.module_))) served.left.shape
              (subst (λ (seed : ℕ). EndsTo e served.module_.shape seed true rows array (ends_of served.history (bank_at served.module_))) served.left.seeded kept.ends);
          wear = served.wear;
        }

    module _ (out : SinkChange) where
      streams : (changes : ℕ → Option (ℕ → ℕ)) (done : StreamDone) → Streams n m e job source out array changes done → StreamsByRows n m e job source out array changes done
      streams changes done is =
          let asked : List (Asked n) = is.served.asked in
          let telling = told_along is.served.ended in
          record {
            told = is.told;
            served = served-by-rows is.told is.served;
            text = is.text;
            closes = is.closes;
            written = is.written;
            sensed = is.sensed;
            ending =
                is.ending
                ∙ ap (λ it. done_by (stops_at_refusal job.until && is_refusal_told job.shape job.seed asked it) (table_of is.served.places is.told))
                (cut-same e job.shape job.seed laws.moment is.served.lawful.shape (is_off job.end) asked telling);
          }

      stops : (fault : StreamRunFault) → StreamsUpTo n m e job source out array fault → StopsByRows n m e job source out array fault
      stops fault is = record {
        asked = is.asked;
        told = is.told;
        served = part-by-rows is.asked is.told is.served;
        cause = is.cause;
        far = goes-on is.served.lawful.shape fault is.asked (told_in_part n m e job source is.served) is.far;
        written = is.written;
      }

      in-part : (changes : ℕ → Option (ℕ → ℕ)) → StreamsInPart n m e job source out array changes → EndsInPartByRows n m e job source out array changes
      in-part changes is = record {
        told = is.told;
        served = served-by-rows is.told is.served;
        text = is.text;
        closes = is.closes;
        part = is.part;
        sensed = is.sensed;
        rows = is.rows;
      }

      begins : BeginsInPart n m e job source out array → BeginsInPartByRows n m e job source out array
      begins is = record {
        asked = is.asked;
        told = is.told;
        served = part-by-rows is.asked is.told is.served;
        cause = is.cause;
        far = goes-on is.served.lawful.shape Write is.asked (told_in_part n m e job source is.served) is.far;
        part = is.part;
      }

      breaks : (changes : ℕ → Option (ℕ → ℕ)) → BreaksOff n m e job source out array changes → BreaksByRows n m e job source out array changes
      breaks changes is = record {
        served = elim is.served [
          | inl ends ↦ inl (in-part changes ends)
          | inr some ↦ inr (begins some)
        ];
        fails = is.fails;
      }

-- ---- a call

module _ {A V S K : Type 0} (laws : StreamLaws S) (call : Call A V S K) where
  does : (asked : Result StreamJob Refusal) (done : StreamDone) → Does call asked done → DoesByRows call asked done
  does (Err e) done is = absurd is
  does (Ok job) done is = on job.line is
    where
      on : (line : LineSize) → DoesOn call job done line → DoesOnRows call job done line
      on Bytes64 is = streams laws 64 8 6 job call.source call.array.seen.0 call.out.seen call.array.seen.1 done is
      on Bytes128 is = streams laws 128 16 8 job call.source call.wide.seen.0 call.out.seen call.wide.seen.1 done is

  breaks-off : (asked : Result StreamJob Refusal) → Breaks call asked → BreakByRows call asked
  breaks-off (Err e) is = absurd is
  breaks-off (Ok job) is = on job.line is
    where
      on : (line : LineSize) → BreaksOn call job line → BreaksOnRows call job line
      on Bytes64 is = breaks laws 64 8 6 job call.source call.array.seen.0 call.out.seen call.array.seen.1 is
      on Bytes128 is = breaks laws 128 16 8 job call.source call.wide.seen.0 call.out.seen call.wide.seen.1 is

  stops-at : (asked : Result StreamJob Refusal) (fault : StreamRunFault) → StopsCall call asked fault → StopByRows call asked fault
  stops-at (Err e) fault is = is
  stops-at (Ok job) fault (inl is) = inl (on job.line is)
    where
      on : (line : LineSize) → StopsOn call job fault line → StopsOnRows call job fault line
      on Bytes64 is = stops laws 64 8 6 job call.source call.array.seen.0 call.out.seen fault is
      on Bytes128 is = stops laws 128 16 8 job call.source call.wide.seen.0 call.out.seen fault is
  stops-at (Ok job) fault (inr none) = inr none

  pub promises : {F : Type 0} (err : Lent F SinkChange) (status : ℕ) → KeepsPromises call err status → PromisesByRows call err status
  promises err status keeps = record {
    done = λ low. let it = keeps.done low in (it.0, does call.asked it.0 it.1, it.2);
    silent = keeps.silent;
    told = λ two other. let it = keeps.told two other in (it.0, stops-at call.asked it.0 it.1, it.2, it.3);
    broken = λ five. elim (keeps.broken five) [
      | inl it ↦ inl (breaks-off call.asked it.0, it.1)
      | inr it ↦ inr (it.0, stops-at call.asked it.0 it.1, it.2, it.3)
    ];
    unread = keeps.unread;
    others = keeps.others;
  }

-- ---- what was told before the source was asked

module _ {S K : Type 0} (moment : MomentLaw) (source : LentSource S) (received : K → Option (List ℕ)) (before : Option (List ℕ)) where
  waits-on : (n m e : ℕ) (job : StreamJob) → WaitsOn IsJobText source received before n m e job → WaitsOn IsTextByRows source received before n m e job
  waits-on n m e job waits = (
    waits.0,
    tells-so (total_of job.shape) source.left source.taken source.faults source.before received before (IsJobText n m e job) (IsTextByRows n m e job) (λ asked text is.
        let it = is.1 in
        let telling = it.telling in (
          rows-of e job.shape job.seed moment is.0.shape asked telling,
          it.snapshots,
          snaps-by-rows e job.shape job.seed moment is.0.shape (shown_by job.shape job.seed job.print) asked telling.history telling.told telling.along it.snapshots it.snaps,
          it.is,
        )) waits.0 source.now waits.1,
  )

  waits-at : (job : StreamJob) (size : LineSize) → WaitsAt IsJobText source received before job size → WaitsAt IsTextByRows source received before job size
  waits-at job Bytes64 waits = waits-on 64 8 6 job waits
  waits-at job Bytes128 waits = waits-on 128 16 8 job waits

  pub waits-by-rows : (asked : Result StreamJob Refusal) → WaitsFor IsJobText source received before asked → WaitsFor IsTextByRows source received before asked
  waits-by-rows (Err e) waits = waits
  waits-by-rows (Ok job) waits = waits-at job job.line waits

-- ---- the last snapshot

pub last-snapshot : {S : Type 0} → LastSnapshotLaw S
last-snapshot {S} n m e job source array told served takes = (served.snaps.0, last.0, last.2, numbers last.0 last.1)
  where
    Last : Snapshot → Type 0
    Last one = EndsRows n m e job source served.places (tick_reached (with_cut (is_off job.end) served.asked)) told served.ends served.before one

    last : AddsDue true Last served.snaps.0 served.snapshots
    last = subst (λ (due : Bool). AddsDue due Last served.snaps.0 served.snapshots) takes served.snaps.2

    numbers : (one : Snapshot) → Last one
        → summary_text one.rows one.counts one.retired one.wear.pulses
        ≡ summary_text served.places (counts_of (table_of served.places told)) (spares_used job.shape served.ends) (pulses_in_all served.before)
    numbers one is = rw (is.counts.rows, is.counts.counts, is.retired, is.wear) refl
