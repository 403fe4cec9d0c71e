-- What a stream that ended is, and what its call promises.
use Rattle.std.proofs.Common.{◌≡◌, ◌≢◌, ◌⊎◌, inl, inr, ℕ, ◌*◌, ◌^◌, ◌<◌, ◌≤◌, ◌++◌, Bool, true, false, List, [], Option, Some, refl, sym, ap, ◌∙◌, subst, arith}
use Rattle.std.specs.{Io.KnownBytes.Appends, Prelude.{Result, Ok, Err}}
use Rattle.pcm_io.{specs.Giving.AppendsPrefix, proofs.ByteLemmas.{Appends-Appends, Appends-AppendsPrefix, AppendsPrefix-longer}}
use Rattle.energy_report.specs.EnergyText.{energy_report}
use Rattle.lines_report.specs.declared.row.LineCells.{LineCells}
use Rattle.module_shape.specs.{Addresses.{array_lines_of, module_of}, Limits.{IsShape, is_small}, declared.raw.RawShape.RawShape}
use Rattle.right_runs.specs.Ends.{BankEnd}
use Rattle.run_text.specs.{Counting.counts_of, Pulses.pulses_in_all, SummaryText.summary_text, declared.counts.OutcomeCounts.OutcomeCounts}
use Rattle.cell_rows.specs.Device.{ArrayState}
use Rattle.pcm_image.specs.{Saved.Saved, Spelling.image_bytes}
use Rattle.right_images.specs.Saving.{first_rows, saved_of}
use Rattle.image_text.{specs.Sensing.SensesRows, proofs.Sensing.senses-none}
use Rattle.pcm_module.specs.{Roles.spares_used, State.ModuleState}
use Rattle.large_prints.specs.Rows.{large_to}
use Rattle.module_prints.{specs.Images.kept_in, specs.StandingMap.standing_map, specs.WearReports.{HaveRoles, IsWearReport, cells_at}, proofs.Wearing.{worn-goes_on, worn-none}}
use Rattle.program_calls.specs.Calls.{IsTried, IsUntouched, Lent, SinkChange, SinkFails}
use Rattle.row_printer.specs.{Printing.{stream_text, table_of}, Telling.{outcomes_in, TellsOnce}, declared.snapshot.Snapshot.Snapshot, declared.told.Shown.Shown}
use Rattle.row_printer.specs.declared.told.Told.{Told}
use Rattle.row_stream.specs.{Asking.{stays_off, with_cut}, Ending.SnapsAll, Laws.EachToldLaw, Serving.{HasServed, IsServing, SnapsAlong, told_so_far}}
use Rattle.stream_words.specs.{Jobs.IsStreamJob, declared.job.StreamJob.StreamJob, declared.job.StreamPrint.StreamPrint}
use Rattle.stream_words.specs.declared.job.StreamPrint.TheVariants.{Rows, Summary, Wear, Lines, Map, Energy, Image, Snapshots}
use Rattle.trace_stream.specs.{Asked.events_in, declared.asked.Asked.Asked}
use Rattle.stream_top.specs.{Calls.LentSource, FaultLines.{fault_line, status_of}}
use Rattle.stream_top.specs.Leaving.{IsClosing, Leaves, LeavesLaw, WritesRowsBy, WritesRowsOf, lines_but, senses_for, spelled, wear_but}
use Rattle.stream_top.specs.Promises.{Breaks, Call, EndsCall, IsAsleep, IsRefused, IsStatusOf, IsUnread, KeepsPromises, OthersOn, OthersUntouched, Stops}
use Rattle.stream_top.specs.Streams.{BreaksOff, Closes, GoesAsFarAs, HasPlayed, IsServed, IsServedInPart, StopsBy, Streams, StreamsUpTo, done_by, has_stopped, is_off, rows_told}
use Rattle.stream_top.specs.{Streams.{shown_by, status_done, told_of_rows}, declared.done.StreamDone.StreamDone, declared.done.StreamDone.TheVariants.{Whole, Short}, declared.fault.StreamRunFault.StreamRunFault}
use Rattle.stream_top.{specs.declared.fault.StreamRunFault.TheVariants.{Usage, Trace, Read, Write, TooLong, NoMemory}, proofs.EndText.PrintsOf}
use Rattle.command_line.specs.{declared.job.LineSize.LineSize, declared.job.LineSize.TheVariants.{Bytes64, Bytes128}, declared.job.Refusal.Refusal}

-- ---- what is written in the end

module _ {n m : ℕ} (raw : RawShape) (seed rows places : ℕ) (counts all : OutcomeCounts) (ends : ℕ → BankEnd) (before array : ArrayState n m) (cells cells_now : ℕ → LineCells) (saved : Saved n m) where
  -- it is what is written of the array as it is now
  closing-now : (print : StreamPrint) (text : List ℕ) → rows ≡ places → counts ≡ all → (print ≢ Image → array ≡ before) → (print ≢ Image → cells_now ≡ cells)
      → IsClosing raw seed rows counts ends before cells saved print text → IsClosing raw seed places all ends array cells_now saved print text
  closing-now (Rows tell) text same counted still told is = is
  closing-now Summary text same counted still told is =
      let stood : array ≡ before = still (λ p. cc p) in
      rw (← same, ← counted, stood) is
  closing-now (Wear skip) text same counted still told is =
      let stood : array ≡ before = still (λ p. cc p) in
      let alike : cells_now ≡ cells = told (λ p. cc p) in
      (is.0, subst (λ (a : ArrayState n m). IsWearReport raw seed ends a is.0) (sym stood) is.1, is.2 ∙ ap (λ (w : ℕ → LineCells). wear_but skip w is.0) (sym alike))
  closing-now (Lines skip) text same counted still told is =
      let stood : array ≡ before = still (λ p. cc p) in
      let alike : cells_now ≡ cells = told (λ p. cc p) in
      (is.0, subst (λ (a : ArrayState n m). IsWearReport raw seed ends a is.0) (sym stood) is.1, is.2 ∙ ap (λ (w : ℕ → LineCells). lines_but skip w is.0) (sym alike))
  closing-now Map text same counted still told is = is
  closing-now Energy text same counted still told is =
      let stood : array ≡ before = still (λ p. cc p) in
      is ∙ ap (λ (a : ArrayState n m). energy_report a.energy raw.banks (array_lines_of (module_of raw))) (sym stood)
  closing-now Image text same counted still told is = is
  closing-now (Snapshots every) text same counted still told is = is

-- there is such a text, whatever is asked for
some-closing : {n m : ℕ} (raw : RawShape) (seed rows : ℕ) (counts : OutcomeCounts) (ends : ℕ → BankEnd) (array : ArrayState n m) (cells : ℕ → LineCells) (saved : Saved n m) (print : StreamPrint)
    → IsShape raw → HaveRoles raw seed ends → array.lines ≡ raw.banks * array_lines_of (module_of raw) → (text : List ℕ) × IsClosing raw seed rows counts ends array cells saved print text
some-closing raw seed rows counts ends array cells saved (Rows tell) is roles size = ([], refl)
some-closing raw seed rows counts ends array cells saved Summary is roles size = (summary_text rows counts (spares_used raw ends) (pulses_in_all array), refl)
some-closing raw seed rows counts ends array cells saved (Wear skip) is roles size =
    let report = worn-goes_on raw seed ends array is roles 0 [] size (omega arith) (worn-none raw seed ends array) in
    (wear_but skip cells ([] ++ report.0), ([] ++ report.0, report.1, refl))
some-closing raw seed rows counts ends array cells saved (Lines skip) is roles size =
    let report = worn-goes_on raw seed ends array is roles 0 [] size (omega arith) (worn-none raw seed ends array) in
    (lines_but skip cells ([] ++ report.0), ([] ++ report.0, report.1, refl))
some-closing raw seed rows counts ends array cells saved Map is roles size = (standing_map raw seed ends, refl)
some-closing raw seed rows counts ends array cells saved Energy is roles size = (energy_report array.energy raw.banks (array_lines_of (module_of raw)), refl)
some-closing raw seed rows counts ends array cells saved Image is roles size = (spelled raw saved, refl)
some-closing raw seed rows counts ends array cells saved (Snapshots every) is roles size = ([], refl)

-- before an image nothing is printed
nothing-before : {n : ℕ} (raw : RawShape) (seed : ℕ) (print : StreamPrint) (told : List (Told n)) (snaps : List Snapshot) → print ≡ Image → stream_text (shown_by raw seed print) told snaps ≡ []
nothing-before raw seed (Rows tell) told snaps is = absurd (cc is)
nothing-before raw seed Summary told snaps is = absurd (cc is)
nothing-before raw seed (Wear skip) told snaps is = absurd (cc is)
nothing-before raw seed (Lines skip) told snaps is = absurd (cc is)
nothing-before raw seed Map told snaps is = absurd (cc is)
nothing-before raw seed Energy told snaps is = absurd (cc is)
nothing-before raw seed Image told snaps is = refl
nothing-before raw seed (Snapshots every) told snaps is = absurd (cc is)

-- first bytes of an image are so where nothing was written before them
rows-behind : {n m : ℕ} (small : Bool) (array : ArrayState n m) (saved : Saved n m) (before mid now : Option (List ℕ)) → Appends before mid [] → WritesRowsBy small array saved mid now → WritesRowsBy small array saved before now
rows-behind true array saved before mid now none had = record {
  count = had.count;
  rows = had.rows;
  part = Appends-AppendsPrefix before mid now [] (image_bytes (first_rows had.count saved)) none had.part;
}
rows-behind false array saved before mid now none had = record {
  count = had.count;
  rows = had.rows;
  part = Appends-AppendsPrefix before mid now [] (large_to had.count saved) none had.part;
}

-- and so is nothing
no-rows : {n m : ℕ} (small : Bool) (array : ArrayState n m) (saved : Saved n m) (before now : Option (List ℕ)) → AppendsPrefix before now [] → WritesRowsBy small array saved before now
no-rows true array saved before now part = record {
  count = 0;
  rows = λ line below. absurd (omega (arith, below));
  part = AppendsPrefix-longer before now [] (image_bytes (first_rows 0 saved)) part;
}
no-rows false array saved before now part = record {
  count = 0;
  rows = λ line below. absurd (omega (arith, below));
  part = AppendsPrefix-longer before now [] (large_to 0 saved) part;
}

module _ {S : Type 0} (n m e : ℕ) (job : StreamJob) (source : LentSource S) (module_ : ModuleState n m e) (before : ArrayState n m) (places : ℕ) (told : List (Told n)) (prints : Shown) (snaps : List Snapshot) (alike : prints ≡ shown_by job.shape job.seed job.print)
    (once : TellsOnce places (outcomes_in told)) (lawful : IsStreamJob job) where
  part-of : before.wear ≡ Some job.wear → (asked : List (Asked n)) → IsServing job.shape job.seed asked module_ before places told prints snaps → IsServedInPart n m e job source before asked told
  part-of wear asked serving = record {
    lawful = lawful;
    history = serving.history;
    along = serving.along;
    module_ = module_;
    left = subst (λ (k : ℕ). HasServed job.shape job.seed (events_in asked) serving.history module_ before (table_of k told)) serving.counted serving.served;
    now = serving.now;
    wear = wear;
    snapshots = snaps;
    snaps = subst (λ (p : Shown). SnapsAlong e job.shape job.seed p asked serving.history told serving.along snaps) alike serving.snaps;
    once = subst (λ (k : ℕ). TellsOnce k (outcomes_in told)) serving.counted once;
  }

  -- a stream that stopped at a fault
  pub stream-stops : before.wear ≡ Some job.wear → (out : SinkChange) (fault : StreamRunFault) (asked : List (Asked n)) (had : IsServing job.shape job.seed asked module_ before places told prints snaps) → StopsBy n m e job source job.input fault asked
      → GoesAsFarAs n m e job source fault asked (told_so_far had) → Appends out.written_before out.written_now (stream_text prints told snaps) → StreamsUpTo n m e job source out before fault
  unfolding part-of
  stream-stops wear out fault asked serving stops far gets = record {
    asked = asked;
    told = told;
    served = part-of wear asked serving;
    cause = stops;
    far = far;
    written = subst (λ (p : Shown). Appends out.written_before out.written_now (stream_text p told snaps)) alike gets;
  }

  module _ (array : ArrayState n m) (changes changes_now : ℕ → Option (ℕ → ℕ)) (stand : job.print ≢ Image → changes_now ≡ changes) (each : EachToldLaw) (law : LeavesLaw) (shape : IsShape job.shape) (low : job.seed < 2 ^ 64) (wear : array.wear ≡ Some job.wear)
      (still : job.print ≢ Image → array ≡ before) (sensed : ℕ) (since : SensesRows sensed before array) (asked : List (Asked n)) (played : HasPlayed n m e job source asked module_ before places told prints snaps) where
    abbrev kept : Leaves (stays_off (is_off job.end) asked) e job.shape job.seed (rows_told n m e job source asked places told) played.0.0.ends sensed before array (saved_of job.shape job.seed (kept_in module_) before)
        × HaveRoles job.shape job.seed played.0.0.ends
    kept = law n m e job.shape job.seed (stays_off (is_off job.end) asked) (with_cut (is_off job.end) asked) module_ before array places told sensed shape low since played.0.0

    served-of : IsServed n m e job source array told
    served-of = record {
      lawful = lawful;
      asked = asked;
      places = places;
      module_ = module_;
      before = before;
      ended = played.0.0;
      come = played.1;
      snapshots = snaps;
      snaps = subst (λ (p : Shown). SnapsAll p played.0.0 snaps) alike played.0.1;
      once = once;
      each = each n m e job.shape job.seed (stays_off (is_off job.end) asked) (with_cut (is_off job.end) asked) module_ before places told once played.0.0;
      sensed = sensed;
      saved = saved_of job.shape job.seed (kept_in module_) before;
      leaves = kept.0;
      untouched = still;
      wear = wear;
    }

    -- the text of the end, as it was printed of the module and the array before, is what closes the stream
    closes-of : (rows : ℕ) (counts : OutcomeCounts) → rows ≡ places → counts ≡ counts_of (table_of places told) → (P : List ℕ → Type 0) → PrintsOf module_ before (cells_at e before changes) rows counts job.print P
        → (whole : List ℕ) × Closes n m e job source array changes_now told served-of whole × P whole
    unfolding served-of
    closes-of rows counts same counted P prints =
        let ends = played.0.0.ends in
        let For : RawShape → ℕ → Type 0 = λ raw seed. HaveRoles raw seed ends
        → (whole : List ℕ) × IsClosing raw seed rows counts ends before (cells_at e before changes) (saved_of raw seed (kept_in module_) before) job.print whole × P whole in
        let shaped : For job.shape module_.seed = subst (λ (raw : RawShape). For raw module_.seed) played.0.0.shape (prints ends played.0.0.are) in
        let own : For job.shape job.seed = subst (λ (seed : ℕ). For job.shape seed) played.0.0.seeded shaped in
        let got = own kept.1 in
        let alike : job.print ≢ Image → cells_at e array changes_now ≡ cells_at e before changes = λ other. ap (λ (a : ArrayState n m). cells_at e a changes_now) (still other) ∙ ap (cells_at e before) (stand other) in
        (got.0, closing-now job.shape job.seed rows places counts (counts_of (table_of places told)) ends before array (cells_at e before changes) (cells_at e array changes_now) (saved_of job.shape job.seed (kept_in module_) before) job.print got.0 same counted still alike got.1, got.2)

    -- it was served to its end, and its whole text was written
    pub stream-whole : (out : SinkChange) (mid : Option (List ℕ)) → Appends out.written_before mid (stream_text prints told snaps)
        → (rows : ℕ) (counts : OutcomeCounts) → rows ≡ places → counts ≡ counts_of (table_of places told) → PrintsOf module_ before (cells_at e before changes) rows counts job.print (λ whole. Appends mid out.written_now whole)
        → sensed ≡ senses_for job.print before.lines → (done : StreamDone) → done ≡ done_by (has_stopped n m e job source asked (told_of_rows n m e job source asked played.0.0)) (table_of places told) → Streams n m e job source out array changes_now done
    unfolding served-of
    stream-whole out mid gets rows counts same counted writes all done is =
        let text = closes-of rows counts same counted (λ whole. Appends mid out.written_now whole) writes in
        let first : Appends out.written_before mid (stream_text (shown_by job.shape job.seed job.print) told snaps) = subst (λ (p : Shown). Appends out.written_before mid (stream_text p told snaps)) alike gets in
        record {
          told = told;
          served = served-of;
          text = text.0;
          closes = text.1;
          written = Appends-Appends out.written_before mid out.written_now (stream_text (shown_by job.shape job.seed job.print) told snaps) text.0 first text.2;
          sensed = all ∙ ap (senses_for job.print) (sym since.since.lines);
          ending = is;
        }

    -- so it was, and the output failed within the text of the end
    pub stream-part : (out : SinkChange) (mid : Option (List ℕ)) → Appends out.written_before mid (stream_text prints told snaps)
        → (rows : ℕ) (counts : OutcomeCounts) → rows ≡ places → counts ≡ counts_of (table_of places told) → PrintsOf module_ before (cells_at e before changes) rows counts job.print (λ whole. AppendsPrefix mid out.written_now whole)
        → sensed ≤ senses_for job.print before.lines
        → (job.print ≡ Image → WritesRowsOf module_.shape array (saved_of module_.shape module_.seed (kept_in module_) before) mid out.written_now)
        → SinkFails out → BreaksOff n m e job source out array changes_now
    unfolding served-of
    stream-part out mid gets rows counts same counted writes some image fails =
        let text = closes-of rows counts same counted (λ whole. AppendsPrefix mid out.written_now whole) writes in
        let first : Appends out.written_before mid (stream_text (shown_by job.shape job.seed job.print) told snaps) = subst (λ (p : Shown). Appends out.written_before mid (stream_text p told snaps)) alike gets in
        record {
          served = inl (record {
            told = told;
            served = served-of;
            text = text.0;
            closes = text.1;
            part = Appends-AppendsPrefix out.written_before mid out.written_now (stream_text (shown_by job.shape job.seed job.print) told snaps) text.0 first text.2;
            sensed = subst (λ (lines : ℕ). sensed ≤ senses_for job.print lines) (sym since.since.lines) some;
            rows =
                λ is.
                let had = image is in
                let none : Appends out.written_before mid [] = subst (Appends out.written_before mid) (nothing-before job.shape job.seed job.print told snaps is) first in
                let Of : RawShape → ℕ → Type 0 = λ raw seed. WritesRowsOf raw array (saved_of raw seed (kept_in module_) before) out.written_before out.written_now in
                let own : Of module_.shape module_.seed = rows-behind (is_small module_.shape) array (saved_of module_.shape module_.seed (kept_in module_) before) out.written_before mid out.written_now none had in
                subst (λ (seed : ℕ). Of job.shape seed) played.0.0.seeded (subst (λ (raw : RawShape). Of raw module_.seed) played.0.0.shape own);
          });
          fails = fails;
        }

    -- or before it, where first bytes of what was told were written
    pub stream-unclosed : (out : SinkChange) → AppendsPrefix out.written_before out.written_now (stream_text prints told snaps)
        → sensed ≡ 0 → SinkFails out → BreaksOff n m e job source out array changes_now
    unfolding served-of
    stream-unclosed out gets none fails =
        let text = some-closing job.shape job.seed places (counts_of (table_of places told)) played.0.0.ends array (cells_at e array changes_now) (saved_of job.shape job.seed (kept_in module_) before) job.print shape kept.1 kept.0.right.size in
        let first : AppendsPrefix out.written_before out.written_now (stream_text (shown_by job.shape job.seed job.print) told snaps) = subst (λ (p : Shown). AppendsPrefix out.written_before out.written_now (stream_text p told snaps)) alike gets in
        let saved = saved_of job.shape job.seed (kept_in module_) before in
        record {
          served = inl (record {
            told = told;
            served = served-of;
            text = text.0;
            closes = text.1;
            part = AppendsPrefix-longer out.written_before out.written_now (stream_text (shown_by job.shape job.seed job.print) told snaps) text.0 first;
            sensed = rw none (omega arith);
            rows = λ is. no-rows (is_small job.shape) array saved out.written_before out.written_now (subst (AppendsPrefix out.written_before out.written_now) (nothing-before job.shape job.seed job.print told snaps is) first);
          });
          fails = fails;
        }

  -- the output failed before the last row was served, or behind it, before the text of the end
  pub stream-breaks : (changes : ℕ → Option (ℕ → ℕ)) → EachToldLaw → LeavesLaw → IsShape job.shape → job.seed < 2 ^ 64 → before.wear ≡ Some job.wear → (out : SinkChange)
      → (asked : List (Asked n))
      × (HasPlayed n m e job source asked module_ before places told prints snaps
      ⊎ ((had : IsServing job.shape job.seed asked module_ before places told prints snaps) × StopsBy n m e job source job.input Write asked × GoesAsFarAs n m e job source Write asked (told_so_far had)))
      → AppendsPrefix out.written_before out.written_now (stream_text prints told snaps) × SinkFails out → BreaksOff n m e job source out before changes
  unfolding part-of
  stream-breaks changes each law shape low wear out (asked, inl played) part =
      stream-unclosed before changes changes (λ other. refl) each law shape low wear (λ other. refl) 0 (senses-none before) asked played out part.0 refl part.1
  stream-breaks changes each law shape low wear out (asked, inr some) part = record {
    served = inr (record {
      asked = asked;
      told = told;
      served = part-of wear asked some.0;
      cause = some.1;
      far = some.2;
      part = subst (λ (p : Shown). AppendsPrefix out.written_before out.written_now (stream_text p told snaps)) alike part.0;
    });
    fails = part.1;
  }

is_write : (fault : StreamRunFault) → (fault ≡ Write) ⊎ (fault ≢ Write)
is_write Usage = inr (λ is. cc is)
is_write (Trace f) = inr (λ is. cc is)
is_write Read = inr (λ is. cc is)
is_write Write = inl refl
is_write TooLong = inr (λ is. cc is)
is_write NoMemory = inr (λ is. cc is)

done-low : (done : StreamDone) → status_done done ≤ 1
done-low Whole = omega arith
done-low Short = omega arith

-- a stream that ended otherwise than by a fault of writing
pub calm-fault : (result : Result StreamDone StreamRunFault) (fault : StreamRunFault) → result ≡ Err fault → fault ≢ Write → result ≢ Err Write
calm-fault result fault is other failed =
    let both : Err fault ≡ Err Write = sym is ∙ failed in
    let same : fault ≡ Write = cc in
    other same

pub calm-done : (result : Result StreamDone StreamRunFault) (done : StreamDone) → result ≡ Ok done → result ≢ Err Write
calm-done result done is failed =
    let both : Ok done ≡ Err Write = sym is ∙ failed in
    cc both

pub never-failed : (done : StreamDone) (P : Type 0) → Ok done ≡ Err Write → P
never-failed done P is = absurd (cc is)

-- what a call promises, by how it ended and what was said of that
pub keeps : {A V S K F : Type 0} (call : Call A V S K) (err : Lent F SinkChange) (status : ℕ) (result : Result StreamDone StreamRunFault) → EndsCall call result → IsStatusOf result err status → KeepsPromises call err status
keeps call err status (Ok done) ends said =
    let low : status ≤ 1 = omega (arith, said.done.0, done-low done) in
    record {
      done = λ is. (done, ends.done, said.done.0);
      silent = λ is. said.done.1;
      told = λ two other. absurd (omega (arith, low, two));
      broken = λ five. absurd (omega (arith, low, five));
      unread = ends.unread;
      others = ends.others;
    }
keeps call err status (Err fault) ends said =
    let least = said.fault.least in
    record {
      done = λ low. absurd (omega (arith, least, low));
      silent = λ low. absurd (omega (arith, least, low));
      told = λ two other.
          let t = said.fault.told other in
          (fault, ends.cause (λ is. other (t.0 ∙ ap status_of is)), t.0, t.1);
      broken = λ five. elim (is_write fault) [
        | inl is ↦ inl (ends.write (ap Err is), subst (λ (f : StreamRunFault). IsTried err.seen (fault_line f)) is said.fault.tried)
        | inr other ↦ inr (fault, ends.cause other, said.fault.part, said.fault.broken five other)
      ];
      unread = ends.unread;
      others = ends.others;
    }

-- words that gave no job leave all as it was
pub refused : {A V S K : Type 0} (call : Call A V S K) (asked : Result StreamJob Refusal) (fault : StreamRunFault) → IsRefused asked fault → IsAsleep call → Stops call asked fault
refused call (Err e) fault (inl none) asleep = (inr none, asleep)
refused call (Err e) fault (inr usage) asleep = (inl usage.0, asleep)
refused call (Ok job) fault (inl none) asleep = inr (none, asleep)
refused call (Ok job) fault (inr usage) asleep = absurd (cc usage.1)

refused-unwritten : (asked : Result StreamJob Refusal) (fault : StreamRunFault) → IsRefused asked fault → fault ≢ Write
refused-unwritten asked fault (inl none) is = let clash : NoMemory ≡ Write = sym none ∙ is in cc clash
refused-unwritten asked fault (inr usage) is = let clash : Usage ≡ Write = sym usage.0 ∙ is in cc clash

pub refused-unread : {A V S K : Type 0} (call : Call A V S K) (asked : Result StreamJob Refusal) → call.source.now ≡ call.source.before → IsUnread call asked
refused-unread call (Err e) same = same
refused-unread call (Ok job) same = λ drawn. same

pub refused-others : {A V S K : Type 0} (call : Call A V S K) (asked : Result StreamJob Refusal) → IsUntouched call.array → IsUntouched call.wide → OthersUntouched call asked
refused-others call (Err e) narrow wide = (narrow, wide)
refused-others call (Ok job) narrow wide = on job.line
  where
    on : (line : LineSize) → OthersOn call line
    on Bytes64 = wide
    on Bytes128 = narrow

pub refused-breaks : {A V S K : Type 0} (call : Call A V S K) (asked : Result StreamJob Refusal) (fault : StreamRunFault) → IsRefused asked fault → (result : Result StreamDone StreamRunFault) → result ≡ Err fault → result ≡ Err Write → Breaks call asked
refused-breaks call asked fault refusal result is failed = absurd (calm-fault result fault is (refused-unwritten asked fault refusal) failed)
