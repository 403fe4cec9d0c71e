-- What a run printed, checked behind its trace, is ok.
use Rattle.std.proofs.Common.{◌≡◌, ℕ, ◌+◌, ◌-◌, ◌*◌, ◌≤◌, inl, inr, List, [], ◌∷◌, ◌++◌, length, Some, refl, sym, ap, ◌∙◌, subst, arith, append_assoc, append-nil, length-append}
use Rattle.std.{specs.List.join_with_byte, specs.Prelude.{◌⊎◌, codes, slice_index, Ok}, proofs.lemmas.List.{append_cancel_left, get_or_at}}
use Rattle.cell_rows.specs.Device.{ArrayState}
use Rattle.trace_reader.{specs.Trace.{most_rows, trace_of}, specs.declared.event.Event.Event, proofs.Lawful.trace_of-lawful}
use Rattle.trace_gen.specs.{EventText.{event_fields, event_row, event_rows, trace_text}, Generated.{IsMix, generated}, Laws.{GeneratedSizeLaw, GeneratedTextLaw}}
use Rattle.trace_gen.specs.declared.mix.Mix.{Mix}
use Rattle.result_rows.specs.declared.Outcome.{Outcome}
use Rattle.check_verdict.specs.{declared.Verdict.Verdict, declared.Verdict.TheVariants.Yes}
use Rattle.module_shape.specs.Limits.{total_of}
use Rattle.run_text.specs.ResultText.{results_text}
use Rattle.check_text.specs.{Checked.{HasVerdict, IsTextFault}, SplitLaw.EndsItsLine, VerdictText.verdict_text, declared.fault.TextFault.TextFault}
use Rattle.check_text.specs.declared.fault.TextFault.TheVariants as text
use Rattle.judged_runs.{specs.JudgedRuns.{IsJudgedOk, IsRunOf, JudgedRunsLaw, ShortLaw}, proofs.JudgedRuns.some-lines}
use Rattle.command_line.specs.{Jobs.{IsInput, IsRun}, declared.job.Input.Input, declared.job.Input.TheVariants.{Source, Drawn}, declared.job.LineSize.LineSize}
use Rattle.command_line.specs.{declared.job.LineSize.TheVariants.{Bytes64, Bytes128}, declared.job.Print.Print, declared.job.Print.TheVariants.Results, declared.job.RunJob.RunJob}
use Rattle.program_laws.specs.CheckedRuns.{CheckedLaw, IsTraceOf, SaysOk, check_with}
use Rattle.program_calls.specs.Calls.{Gets, GetsPart, SourceChange}
use Rattle.pcm_top.specs.{Calls.Deed, Checking.{IsCheckFault, TellsVerdict, TellsVerdictInPart, done_on, pointers_in, room_line}, Inputs.ComeFrom, Jobs.bytes_in}
use Rattle.pcm_top.specs.{Reading.trace_room, RunText.IsRunText, Running.{RunIsWritten, WritesRun, status_done}, Statuses.{IsCheckStatus, status_without}}
use Rattle.pcm_top.{specs.declared.fault.Fault.Fault, specs.declared.run.Done.Done, specs.declared.run.Done.TheVariants.Whole, proofs.Deciding.{more-go, reads-told}}
use Rattle.pcm_top.specs.declared.fault.Fault.TheVariants as fault

-- ---- the trace of a run

-- a text that ends with an LF ends its line
ends-line : (front : List ℕ) → EndsItsLine (front ++ 10 ∷ [])
ends-line front =
    let size : length (front ++ 10 ∷ []) - 1 ≡ length front = omega (arith, length-append front (10 ∷ [])) in
    inr (inl (ap (slice_index (front ++ 10 ∷ [])) size ∙ get_or_at front 10 [] 0 (length front) refl))

rows-end : {n : ℕ} (front : List ℕ) (events : List (Event n)) → EndsItsLine ((front ++ 10 ∷ []) ++ event_rows events)
unfolding event_rows
rows-end front [] = subst EndsItsLine (sym (append-nil (front ++ 10 ∷ []))) (ends-line front)
rows-end front (event ∷ events) =
    let row : List ℕ = (front ++ 10 ∷ []) ++ join_with_byte 44 (event_fields event) in
    subst EndsItsLine
    (ap (λ (text : List ℕ). text ++ event_rows events) (append_assoc (front ++ 10 ∷ []) (join_with_byte 44 (event_fields event)) (10 ∷ []))
    ∙ append_assoc (front ++ 10 ∷ []) (event_row event) (event_rows events))
    (rows-end row events)

-- a generated trace does
text-ends : {n : ℕ} (events : List (Event n)) → EndsItsLine (trace_text events)
text-ends events = rows-end (codes "tick,op,arg,data") events

-- the trace of events of a run over lines of n bytes
record IsTrace (n : ℕ) (job : RunJob) (events : List (Event n)) (trace : List ℕ) : Type 0 where
  reads : trace_of n (total_of job.shape) trace ≡ Ok events
  ended : EndsItsLine trace
  short : length trace ≤ trace_room n

module _ (texts : GeneratedTextLaw) (sizes : GeneratedSizeLaw) (job : RunJob) (run : IsRun job) where
  drawn-trace : (size : LineSize) → size ≡ job.line → (mix : Mix) → IsMix mix → (events : List (Event (bytes_in size))) (trace : List ℕ)
      → length (trace_text (generated (bytes_in size) job.seed (total_of job.shape) mix)) ≤ trace_room (bytes_in size)
      → events ≡ generated (bytes_in size) job.seed (total_of job.shape) mix → trace ≡ trace_text (generated (bytes_in job.line) job.seed (total_of job.shape) mix)
      → IsTrace (bytes_in size) job events trace
  drawn-trace size of mix mixed events trace fits drawn is =
      let own : trace ≡ trace_text (generated (bytes_in size) job.seed (total_of job.shape) mix) =
      is ∙ ap (λ (line : LineSize). trace_text (generated (bytes_in line) job.seed (total_of job.shape) mix)) (sym of) in
      record {
        reads =
            ap (trace_of (bytes_in size) (total_of job.shape)) own ∙ texts (bytes_in size) job.seed (total_of job.shape) mix (some-lines job.shape run.shape) run.small.few_in_all mixed
            ∙ ap (λ (events : List (Event (bytes_in size))). Ok events) (sym drawn);
        ended = subst EndsItsLine (sym own) (text-ends (generated (bytes_in size) job.seed (total_of job.shape) mix));
        short = omega (arith, ap length own, fits);
      }

  fits-64 : (mix : Mix) → IsMix mix → length (trace_text (generated 64 job.seed (total_of job.shape) mix)) ≤ trace_room 64
  fits-64 mix mixed =
      let size = sizes 64 job.seed (total_of job.shape) mix (some-lines job.shape run.shape) run.small.few_in_all mixed in
      let few = mixed.few_rows in
      omega arith

  fits-128 : (mix : Mix) → IsMix mix → length (trace_text (generated 128 job.seed (total_of job.shape) mix)) ≤ trace_room 128
  fits-128 mix mixed =
      let size = sizes 128 job.seed (total_of job.shape) mix (some-lines job.shape run.shape) run.small.few_in_all mixed in
      let few = mixed.few_rows in
      omega arith

  is-trace : (size : LineSize) → size ≡ job.line → (input : Input) → IsInput input → (s : SourceChange) (events : List (Event (bytes_in size))) (trace : List ℕ)
      → ComeFrom (bytes_in size) job input s events → IsTraceOf job input s trace → IsTrace (bytes_in size) job events trace
  is-trace size of Source has s events trace come is =
      let same = reads-told (bytes_in size) s trace come.bytes is.0 come.whole in
      record {
        reads = ap (trace_of (bytes_in size) (total_of job.shape)) (sym same) ∙ come.trace;
        ended = is.1;
        short = omega (arith, ap length same, come.whole.within);
      }
  is-trace Bytes64 of (Drawn mix) mixed s events trace come is = drawn-trace Bytes64 of mix mixed events trace (fits-64 mix mixed) come.1 is
  is-trace Bytes128 of (Drawn mix) mixed s events trace come is = drawn-trace Bytes128 of mix mixed events trace (fits-128 mix mixed) come.1 is

-- ---- the check

-- a text that is judged ok, of which a check may read every byte
record IsOkText (n e : ℕ) (job : RunJob) (bytes : List ℕ) : Type 0 where
  judged : IsJudgedOk n e job.shape job.seed bytes
  fits : length bytes ≤ trace_room room_line

-- a check of such a text says ok
says-ok : (job : RunJob) (bytes : List ℕ) → IsOkText (bytes_in job.line) (pointers_in job.line) job bytes → SaysOk (check_with job) bytes
says-ok job bytes ok = record { done = did; part = did_part; cause = caused; status = status_is }
  where
    -- the verdict on what was read
    verdict-is : (s : SourceChange) (verdict : Verdict) (found : List ℕ) → found ≡ bytes → HasVerdict (bytes_in job.line) (pointers_in job.line) job.shape job.seed found verdict → verdict ≡ Yes
    verdict-is s verdict found same has = ok.judged.only verdict (subst (λ (text : List ℕ). HasVerdict (bytes_in job.line) (pointers_in job.line) job.shape job.seed text verdict) same has)

    did : (deed : Deed) (done : Done) → deed.source.left_before ≡ Some bytes
        → TellsVerdict (bytes_in job.line) (pointers_in job.line) (check_with job) deed.source deed.out done → Gets deed.out (codes "ok\n") × (done ≡ Whole)
    did deed done told tells =
        let yes = verdict-is deed.source tells.verdict tells.reads.bytes (reads-told room_line deed.source bytes tells.reads.bytes told tells.reads.whole) tells.reads.has in
        (subst (λ (verdict : Verdict). Gets deed.out (verdict_text verdict)) yes tells.written, tells.ending ∙ ap done_on yes)

    did_part : (deed : Deed) → deed.source.left_before ≡ Some bytes
        → TellsVerdictInPart (bytes_in job.line) (pointers_in job.line) (check_with job) deed.source deed.out → GetsPart deed.out (codes "ok\n")
    did_part deed told tells =
        let yes = verdict-is deed.source tells.verdict tells.reads.bytes (reads-told room_line deed.source bytes tells.reads.bytes told tells.reads.whole) tells.reads.has in
        subst (λ (verdict : Verdict). GetsPart deed.out (verdict_text verdict)) yes tells.written

    -- no fault of the text
    none : (found : List ℕ) (one : TextFault) → found ≡ bytes → IsTextFault (bytes_in job.line) job.shape found one → one ≡ text.NoMemory
    none found one same has = ok.judged.faultless one (subst (λ (bytes : List ℕ). IsTextFault (bytes_in job.line) job.shape bytes one) same has)

    caused : (s : SourceChange) (one : Fault) → s.left_before ≡ Some bytes → IsCheckFault (bytes_in job.line) (check_with job) one s → (one ≡ fault.Read) ⊎ (one ≡ fault.NoMemory)
    caused s fault.Read told cause = inl refl
    caused s fault.NoMemory told cause = inr refl
    caused s fault.Usage told cause = absurd cause
    caused s fault.Write told cause = absurd cause
    caused s (fault.Image f) told cause = absurd cause
    caused s (fault.Trace f) told cause = cc (none cause.0 (text.Trace f) (reads-told room_line s bytes cause.0 told cause.1) cause.2)
    caused s (fault.Results row) told cause = cc (none cause.0 (text.Results row) (reads-told room_line s bytes cause.0 told cause.1) cause.2)
    caused s fault.TooLong told (inl more) =
        let size = more-go s.left_before s.left_now bytes more.1.0 told more.1.1.first in
        absurd (omega (arith, size, more.1.2, ok.fits))
    caused s fault.TooLong told (inr many) = cc (none many.0 text.TooMany (reads-told room_line s bytes many.0 told many.1) many.2)

    status_is : (status : ℕ) → IsCheckStatus (bytes_in job.line) (pointers_in job.line) (check_with job) bytes status → (status ≡ 0) ⊎ (status ≡ 7)
    status_is status (inl over) = absurd (omega (arith, over.0, ok.fits))
    status_is status (inr within) =
        elim (within.1) [
          | inl has ↦ inl (has.2 ∙ ap (λ (verdict : Verdict). status_done (done_on verdict)) (ok.judged.only has.0 has.1))
          | inr has ↦ inr (has.2 ∙ ap status_without (ok.judged.faultless has.0 has.1))
        ]

module _ (texts : GeneratedTextLaw) (sizes : GeneratedSizeLaw) (judges : JudgedRunsLaw) (short : ShortLaw) (job : RunJob) (run : IsRun job) (prints : job.print ≡ Results)
    (deed : Deed) (trace told results : List ℕ) (is : IsTraceOf job job.input deed.source trace)
    (before : deed.out.written_before ≡ Some told) (now : deed.out.written_now ≡ Some (told ++ results)) where
  -- what a run over lines of n bytes wrote
  ok-text : (n m e : ℕ) (array : ArrayState n m) (done : Done) (made : RunIsWritten n m e job deed.source array deed.out done) → 1 ≤ n → e ≤ 8
      → IsTrace n job made.run.events trace
      → ((rows : ℕ) → rows ≤ most_rows → trace_room n + (36 + rows * (64 + 2 * n)) ≤ trace_room room_line) → IsOkText n e job (trace ++ results)
  ok-text n m e array done made some few whole room =
      let events : List (Event n) = made.run.events in
      let outcomes : List (Outcome n) = made.run.outcomes in
      let one : IsRunOf e job.shape job.seed trace events outcomes array made.run.ends = record {
        shape = run.shape;
        small = run.small;
        few = few;
        reads = whole.reads;
        one_each = made.run.one_each;
        right = made.run.right;
      } in
      let Of : Print → Type 0 = λ p. IsRunText job.shape job.seed e events outcomes made.run.ends array p made.text in
      let printed : made.text ≡ results_text events outcomes = subst Of prints made.is_text in
      let same : results ≡ results_text events outcomes = append_cancel_left told results made.text (rw (before, now) at made.written) ∙ printed in
      let few_rows = (trace_of-lawful n (total_of job.shape) trace events (some-lines job.shape run.shape) whole.reads).1 in
      let size = short n m e job.shape job.seed trace events outcomes array made.run.ends one in
      record {
        judged = subst (λ (results : List ℕ). IsJudgedOk n e job.shape job.seed (trace ++ results)) (sym same) (judges n m e job.shape job.seed trace events outcomes array made.run.ends some one whole.ended);
        fits = omega (arith, length-append trace results, ap length same, size, whole.short, room (length events) few_rows);
      }

  ok-written : (size : LineSize) → size ≡ job.line → (done : Done) → WritesRun deed job done size
      → IsOkText (bytes_in size) (pointers_in size) job (trace ++ results)
  ok-written Bytes64 of done made =
      ok-text 64 8 6 deed.array done made (omega arith) (omega arith) (is-trace texts sizes job run Bytes64 of job.input run.input deed.source made.run.events trace made.run.come is) (λ rows few. omega (arith, few))
  ok-written Bytes128 of done made =
      ok-text 128 16 8 deed.wide done made (omega arith) (omega arith) (is-trace texts sizes job run Bytes128 of job.input run.input deed.source made.run.events trace made.run.come is) (λ rows few. omega (arith, few))

pub checked-law : GeneratedTextLaw → GeneratedSizeLaw → JudgedRunsLaw → ShortLaw → CheckedLaw
checked-law texts sizes judges short job deed trace told results done run prints is before now does =
    says-ok job (trace ++ results) (ok-written texts sizes judges short job run prints deed trace told results is before now job.line refl done does)
