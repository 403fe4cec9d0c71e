-- What a run leaves of whichever trace.
use Rattle.std.proofs.Common.{◌≡◌, ℕ, ◌<◌, Bool, false, List, [], ◌∷◌, length, get_or, map, refl, sym, subst, arith}
use Rattle.std.{specs.List.list_any, specs.Prelude.All, proofs.lemmas.List.Elements.{All-nil, All-cons, All-from_get_or}, proofs.lemmas.List.Folds.list_any_none}
use Rattle.std.proofs.lemmas.Option.{slice_get-get_or}
use Rattle.masked_bytes.proofs.Truth.{neither_first, neither_second}
use Rattle.trace_reader.{specs.Events.AreEventsFor, specs.declared.event.Event.Event, specs.declared.event.EventOp.TheVariants.Cut, proofs.Lawful.trace_of-lawful}
use Rattle.trace_gen.specs.Laws.{GeneratedLaw}
use Rattle.result_rows.specs.{declared.Outcome.Outcome, declared.Outcome.TheVariants.Unset}
use Rattle.run_text.specs.Shortfall.{any_short, is_short}
use Rattle.row_rules.specs.declared.Row.{Row}
use Rattle.module_shape.specs.Limits.{IsShape, IsSmall, total_of}
use Rattle.run_laws.specs.RowsOfRuns.{NoneLostLaw, NoneShortLaw, RoomIsTakenLaw}
use Rattle.command_line.specs.{Jobs.IsInput, declared.job.Input.Input, declared.job.Input.TheVariants.{Source, Drawn}, declared.job.RunJob.RunJob}
use Rattle.program_calls.specs.Calls.{SourceChange}
use Rattle.pcm_top.{specs.Inputs.ComeFrom, specs.Rows.rows_of, specs.Running.done_by, specs.declared.run.Done.TheVariants.Whole, proofs.Printable.{lines-exist, row-of-event}}
use Rattle.program_laws.specs.Laws.{CompletenessLaw}
use Rattle.judged_runs.proofs.JudgedRuns.{some-lines}

all-fail : {n : ℕ} (test : Outcome n → Bool) (rows : List (Row n)) → list_any test (map (λ r. r.outcome) rows) ≡ false → All (λ r. test r.outcome ≡ false) rows
all-fail test [] h = All-nil (λ r. test r.outcome ≡ false)
all-fail test (r ∷ rows) h =
    All-cons (λ r. test r.outcome ≡ false) r rows (neither_first (test r.outcome) _ h) (all-fail test rows (neither_second (test r.outcome) _ h))

-- where no row of a table falls short, no outcome does
none-short : {n : ℕ} (events : List (Event n)) (outcomes : List (Outcome n)) → length outcomes ≡ length events
    → any_short (map (λ r. r.outcome) (rows_of events outcomes)) ≡ false → any_short outcomes ≡ false
none-short {n} events outcomes size none =
    let all = all-fail is_short (rows_of events outcomes) none in
    let nothing : Event n = record { tick = 0; op = Cut } in
    list_any_none is_short outcomes
    (All-from_get_or (λ o. is_short o ≡ false) outcomes Unset
    (λ i within.
    let there : i < length events = omega (arith, size) in
    row-of-event (λ r. is_short r.outcome ≡ false) events outcomes i (get_or events i nothing) (get_or outcomes i Unset)
    (slice_get-get_or events i nothing there) (slice_get-get_or outcomes i Unset within) all))

whole-by : {n : ℕ} (outcomes : List (Outcome n)) → any_short outcomes ≡ false → done_by outcomes ≡ Whole
whole-by outcomes none = rw none refl

-- the events of a run are lawful
lawful-input : (n : ℕ) (job : RunJob) (input : Input) (s : SourceChange) (events : List (Event n)) → GeneratedLaw → IsShape job.shape → IsSmall job.shape → IsInput input
    → ComeFrom n job input s events → AreEventsFor (total_of job.shape) 0 events
lawful-input n job Source s events generates shape small is come =
    (trace_of-lawful n (total_of job.shape) come.bytes events (some-lines job.shape shape) come.trace).0
lawful-input n job (Drawn mix) s events generates shape small is come =
    let From : List (Event n) → Type 0 = λ es. AreEventsFor (total_of job.shape) 0 es in
    subst From (sym come.1) ((generates n job.seed (total_of job.shape) _ (some-lines job.shape shape) small.few_in_all is).lawful)

pub completeness : GeneratedLaw → NoneLostLaw → RoomIsTakenLaw → NoneShortLaw → CompletenessLaw
completeness generates lost room short n m e job s array run is =
    let rows = rows_of run.events run.outcomes in
    let lawful = lawful-input n job job.input s run.events generates is.shape is.small is.input run.come in
    let exist = lines-exist job.shape run.events run.outcomes lawful in
    record {
      none_lost = λ cuts. lost n m e job.shape job.seed rows array run.ends is.shape exist cuts run.right;
      room_taken = room n m e job.shape job.seed rows array run.ends is.shape exist run.right;
      whole = λ cuts finds. whole-by run.outcomes (none-short run.events run.outcomes run.one_each (short n m e job.shape job.seed rows array run.ends is.shape exist cuts run.right finds));
    }
