-- How words and bytes decide the status of a call.
use Rattle.std.proofs.Common.{◌≡◌, ℕ, ◌⊎◌, inl, inr, Bool, List, true, false, Option, Some, None, refl, sym, ap, ◌∙◌, subst}
use Rattle.std.specs.Prelude.{Result, Ok, Err}
use Rattle.command_line.specs.declared.job.Refusal.{Refusal}
use Rattle.explain_words.specs.declared.job.ExplainJob.{ExplainJob}
use Rattle.row_rules.specs.declared.Row.{Row}
use Rattle.check_verdict.specs.{declared.Verdict.Verdict, declared.Verdict.TheVariants.{Yes, No}}
use Rattle.program_calls.specs.Calls.{SinkChange, SourceChange}
use Rattle.pcm_top.specs.{Checking.{done_on, pointers_in, room_line}, Jobs.bytes_in, Running.{reads_source, status_done}, Statuses.{IsCheckStatus, IsStatusFor}}
use Rattle.pcm_top.{specs.declared.run.Done.Done, specs.declared.run.Done.TheVariants.{Whole, Short}, proofs.Deciding.{by-text, reads-told}}
use Rattle.right_runs.specs.Banks.{banks_of}
use Rattle.trace_rows.specs.Rows.{rows_with}
use Rattle.verdict_telling.specs.Earned.{unearned}
use Rattle.explain_top.specs.{Calls.{as_check, is_strict}, Explained.{by_row, found_in, judged}, Explaining.Does}

abbrev pub HasStatus : Result ExplainJob Refusal → List ℕ → ℕ → Type 0
HasStatus asked bytes status =
    IsStatusFor (as_check asked) bytes status ⊎ ((is_strict asked ≡ true) × (status ≡ status_done Short) × IsStatusFor (as_check asked) bytes (status_done Whole))

-- a verdict that comes from check's has check's status, but where more is asked of worn rows
judged-status : {n : ℕ} (job : ExplainJob) (banks : List ℕ) (rows : List (Row n)) (bytes : List ℕ) (verdict : Verdict) (status : ℕ) → status ≡ status_done (done_on verdict)
    → (checked : Verdict) → verdict ≡ judged job.strict banks rows checked
    → IsStatusFor (as_check (Ok job)) bytes (status_done (done_on checked)) → HasStatus (Ok job) bytes status
judged-status job banks rows bytes verdict status told checked is has = by checked is has
  where
    For : ℕ → Type 0
    For n = IsStatusFor (as_check (Ok job)) bytes n

    same : (checked : Verdict) → verdict ≡ checked → For (status_done (done_on checked)) → HasStatus (Ok job) bytes status
    same checked is has = inl (subst For (sym (told ∙ ap (λ v. status_done (done_on v)) is)) has)

    more : (found : Option ℕ) → job.strict ≡ true → verdict ≡ by_row found → For (status_done Whole) → HasStatus (Ok job) bytes status
    more None asked is has = same Yes is has
    more (Some row) asked is has = inr (asked, told ∙ ap (λ v. status_done (done_on v)) is, has)

    when : (strict : Bool) → job.strict ≡ strict → verdict ≡ by_row (found_in strict banks rows) → For (status_done Whole) → HasStatus (Ok job) bytes status
    when false asked is has = same Yes is has
    when true asked is has = more (unearned banks rows) asked is has

    by : (checked : Verdict) → verdict ≡ judged job.strict banks rows checked → For (status_done (done_on checked)) → HasStatus (Ok job) bytes status
    by (No row rule) is has = same (No row rule) is has
    by Yes is has = when job.strict refl is has

-- what was done has such a status
pub done-decided : (asked : Result ExplainJob Refusal) (s : SourceChange) (out : SinkChange) (bytes : List ℕ) (done : Done) (status : ℕ)
    → status ≡ status_done done → (reads_source (as_check asked) ≡ true → s.left_before ≡ Some bytes) → Does s out asked done
    → HasStatus asked bytes status ⊎ (status ≡ 7)
done-decided (Err e) s out bytes done status is told does = absurd does
done-decided (Ok job) s out bytes done status is told does =
    let check = job.check in
    let reads = does.reads in
    let of_check : IsCheckStatus (bytes_in check.line) (pointers_in check.line) check bytes (status_done (done_on reads.has.checked))
    = by-text (bytes_in check.line) (pointers_in check.line) check bytes reads.bytes (status_done (done_on reads.has.checked))
    (reads-told room_line s bytes reads.bytes (told refl) reads.whole) reads.whole.within
    (inl (reads.has.checked, reads.has.has, refl)) in
    inl (judged-status {n = bytes_in check.line} job (banks_of check.shape check.seed) (rows_with reads.has.has.events reads.has.has.outcomes) bytes does.verdict status (is ∙ ap status_done does.ending) reads.has.checked reads.has.judged_is of_check)

-- so has a fault that is a check's
pub fault-decided : (asked : Result ExplainJob Refusal) (bytes : List ℕ) (status : ℕ) → IsStatusFor (as_check asked) bytes status ⊎ (status ≡ 7)
    → HasStatus asked bytes status ⊎ (status ≡ 7)
fault-decided asked bytes status (inl has) = inl (inl has)
fault-decided asked bytes status (inr memory) = inr memory
