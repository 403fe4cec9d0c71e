-- How words and bytes decide the status of a call.
use Rattle.std.proofs.Common.{◌≡◌, ◌≢◌, ℕ, ◌+◌, ◌-◌, ◌^◌, ◌<◌, ◌≤◌, ◌⊎◌, inl, inr, List, [], ◌++◌, length, true, Option, Some, None, refl, sym, ap, ◌∙◌, subst, arith}
use Rattle.std.{specs.Io.KnownBytes.{Consumes, IsAtEnd}, specs.Prelude.{Result, Ok, Err}, proofs.lemmas.List.{append-nil, length-append}}
use Rattle.pcm_io.specs.Faults.{Rose}
use Rattle.trace_reader.specs.{Trace.trace_of, declared.event.Event.Event, declared.fault.ParseFault.ParseFault}
use Rattle.trace_reader.specs.declared.fault.ParseFault.TheVariants as parsing
use Rattle.module_shape.specs.Limits.{total_of}
use Rattle.pcm_image.specs.declared.ImageFault.{ImageFault}
use Rattle.command_line.specs.{declared.job.CheckJob.CheckJob, declared.job.Input.Input, declared.job.Input.TheVariants.{Source, Drawn}, declared.job.Job.Job}
use Rattle.command_line.specs.{declared.job.Job.TheVariants.{Run, Gen, Map, Moves, Show, Check}, declared.job.LineSize.LineSize}
use Rattle.command_line.specs.{declared.job.LineSize.TheVariants.{Bytes64, Bytes128}, declared.job.Refusal.Refusal, declared.job.RunJob.RunJob}
use Rattle.pcm_top.specs.{Calls.Deed, Checking.{IsCheckFault, TellsVerdict, pointers_in, room_line}, FaultLines.status_of, Inputs.{ComeFrom, IsFaultOf, is_source}, Jobs.bytes_in}
use Rattle.pcm_top.specs.{Reading.{IsReadFault, ReadsWhole, TakesSome, trace_room}, Running.{Does, HasCause, WritesRun, reads_source, status_done}, Showing.{IsShowFault, shown_of}}
use Rattle.pcm_top.specs.Statuses.{IsImageStatus, IsInputStatus, IsRunStatus, IsShowStatus, IsSourceStatus, IsStatusFor, IsTraceStatus, IsCheckStatus, IsTextStatus}
use Rattle.pcm_top.specs.{declared.fault.Fault.Fault, declared.fault.Fault.TheVariants.{Usage, Trace, Image, Read, Write, TooLong, NoMemory, Results}, declared.run.Done.Done}
use Rattle.pcm_top.specs.declared.run.Done.TheVariants.{Whole, Short}
use Rattle.program_calls.specs.Calls.{SinkChange, SourceChange}
use Rattle.check_text.specs.declared.fault.TextFault.TheVariants as text

-- a source that tells its bytes and was read to its end gave just them
whole-go : (before now : Option (List ℕ)) (bytes found : List ℕ) → before ≡ Some bytes → Consumes before now found → IsAtEnd now → found ≡ bytes
whole-go None now bytes found is took ended = cc is
whole-go (Some xs) None bytes found is took ended = absurd took
whole-go (Some xs) (Some ys) bytes found is took ended =
    let same : xs ≡ bytes = cc in
    let e : xs ≡ found ++ [] = rw ended at took in
    sym (append-nil found) ∙ sym e ∙ same

pub reads-told : (n : ℕ) (s : SourceChange) (bytes found : List ℕ) → s.left_before ≡ Some bytes → ReadsWhole n s found → found ≡ bytes
reads-told n s bytes found is whole = whole-go s.left_before s.left_now bytes found is whole.takes.first whole.ended

-- it has at least the bytes that were taken
pub more-go : (before now : Option (List ℕ)) (bytes found : List ℕ) → before ≡ Some bytes → Consumes before now found → length found ≤ length bytes
more-go None now bytes found is took = cc is
more-go (Some xs) None bytes found is took = absurd took
more-go (Some xs) (Some ys) bytes found is took =
    let same : xs ≡ bytes = cc in
    let size = length-append found ys in
    rw (← same, took) (omega arith)

-- the status of bytes that are a trace's, or not
by-trace : (n lines : ℕ) (bytes found : List ℕ) (status : ℕ) (trace : Result (List (Event n)) ParseFault)
    → found ≡ bytes → length found ≤ trace_room n → trace_of n lines found ≡ trace → IsTraceStatus trace status → IsSourceStatus n lines bytes status
by-trace n lines bytes found status trace same within is has =
    let Of : Result (List (Event n)) ParseFault → Type 0 = λ t. IsTraceStatus t status in
    let With : List ℕ → Type 0 = λ bs. IsSourceStatus n lines bs status in
    subst With same (inr (within, subst Of (sym is) has))

-- the status of bytes that are an image's, or not
by-image : (bytes found : List ℕ) (status : ℕ) (shown : Result (List ℕ) ImageFault)
    → found ≡ bytes → length found ≤ trace_room 64 → shown_of found ≡ shown → IsImageStatus shown status → IsShowStatus bytes status
by-image bytes found status shown same within is has =
    let Of : Result (List ℕ) ImageFault → Type 0 = λ t. IsImageStatus t status in
    let With : List ℕ → Type 0 = λ bs. IsShowStatus bs status in
    subst With same (inr (within, subst Of (sym is) has))

fault-status : (n lines : ℕ) (fault : Fault) (s : SourceChange) (bytes : List ℕ) → s.left_before ≡ Some bytes → ¬ Rose s.faults_before s.faults_now → IsReadFault n lines fault s
    → IsSourceStatus n lines bytes (status_of fault) ⊎ (status_of fault ≡ 7)
fault-status n lines Usage s bytes is calm cause = absurd cause
fault-status n lines Write s bytes is calm cause = absurd cause
fault-status n lines (Image f) s bytes is calm cause = absurd cause
fault-status n lines (Results row) s bytes is calm cause = absurd cause
fault-status n lines Read s bytes is calm cause = absurd (calm cause.0)
fault-status n lines NoMemory s bytes is calm cause = inr refl
fault-status n lines (Trace f) s bytes is calm cause =
    inl (by-trace n lines bytes cause.0 3 (Err (parsing.Trace f)) (reads-told n s bytes cause.0 is cause.1) cause.1.within cause.2 refl)
fault-status n lines TooLong s bytes is calm (inl more) =
    let size = more-go s.left_before s.left_now bytes more.1.0 is more.1.1.first in
    let over = more.1.2 in
    inl (inl (omega arith, refl))
fault-status n lines TooLong s bytes is calm (inr many) =
    inl (by-trace n lines bytes many.0 6 (Err parsing.TooMany) (reads-told n s bytes many.0 is many.1) many.1.within many.2 refl)

-- why nothing is shown
show-fault-status : (fault : Fault) (s : SourceChange) (bytes : List ℕ) → s.left_before ≡ Some bytes → ¬ Rose s.faults_before s.faults_now → IsShowFault fault s
    → IsShowStatus bytes (status_of fault) ⊎ (status_of fault ≡ 7)
show-fault-status Usage s bytes is calm cause = absurd cause
show-fault-status Write s bytes is calm cause = absurd cause
show-fault-status (Trace f) s bytes is calm cause = absurd cause
show-fault-status (Results row) s bytes is calm cause = absurd cause
show-fault-status Read s bytes is calm cause = absurd (calm cause.0)
show-fault-status NoMemory s bytes is calm cause = inr refl
show-fault-status (Image f) s bytes is calm cause =
    inl (by-image bytes cause.0 3 (Err f) (reads-told 64 s bytes cause.0 is cause.1) cause.1.within cause.2 refl)
show-fault-status TooLong s bytes is calm more =
    let size = more-go s.left_before s.left_now bytes more.1.0 is more.1.1.first in
    let over = more.1.2 in
    inl (inl (omega arith, refl))

-- why a run has no events, by where they come from
input-fault-status : (job : RunJob) (input : Input) (fault : Fault) (s : SourceChange) (bytes : List ℕ) → (is_source input ≡ true → s.left_before ≡ Some bytes) → ¬ Rose s.faults_before s.faults_now
    → IsFaultOf (bytes_in job.line) job input fault s → IsInputStatus job bytes (status_of fault) input ⊎ (status_of fault ≡ 7)
input-fault-status job Source fault s bytes told calm cause = fault-status (bytes_in job.line) (total_of job.shape) fault s bytes (told refl) calm cause
input-fault-status job (Drawn mix) fault s bytes told calm cause = inr (ap status_of cause)

-- the status of a check, by its bytes
pub by-text : (n e : ℕ) (job : CheckJob) (bytes found : List ℕ) (status : ℕ) → found ≡ bytes → length found ≤ trace_room room_line → IsTextStatus n e job found status → IsCheckStatus n e job bytes status
by-text n e job bytes found status same within has =
    let With : List ℕ → Type 0 = λ bs. IsCheckStatus n e job bs status in
    subst With same (inr (within, has))

check-fault-status : (n e : ℕ) (job : CheckJob) (fault : Fault) (s : SourceChange) (bytes : List ℕ) → s.left_before ≡ Some bytes → ¬ Rose s.faults_before s.faults_now → IsCheckFault n job fault s
    → IsCheckStatus n e job bytes (status_of fault) ⊎ (status_of fault ≡ 7)
check-fault-status n e job Usage s bytes is calm cause = absurd cause
check-fault-status n e job Write s bytes is calm cause = absurd cause
check-fault-status n e job (Image f) s bytes is calm cause = absurd cause
check-fault-status n e job Read s bytes is calm cause = absurd (calm cause.0)
check-fault-status n e job NoMemory s bytes is calm cause = inr refl
check-fault-status n e job (Trace f) s bytes is calm cause =
    inl (by-text n e job bytes cause.0 3 (reads-told room_line s bytes cause.0 is cause.1) cause.1.within (inr (text.Trace f, cause.2, refl)))
check-fault-status n e job (Results row) s bytes is calm cause =
    inl (by-text n e job bytes cause.0 3 (reads-told room_line s bytes cause.0 is cause.1) cause.1.within (inr (text.Results row, cause.2, refl)))
check-fault-status n e job TooLong s bytes is calm (inl more) =
    let size = more-go s.left_before s.left_now bytes more.1.0 is more.1.1.first in
    let over = more.1.2 in
    inl (inl (omega arith, refl))
check-fault-status n e job TooLong s bytes is calm (inr many) =
    inl (by-text n e job bytes many.0 6 (reads-told room_line s bytes many.0 is many.1) many.1.within (inr (text.TooMany, many.2, refl)))

told-verdict-status : (n e : ℕ) (job : CheckJob) (s : SourceChange) (out : SinkChange) (bytes : List ℕ) (done : Done) → s.left_before ≡ Some bytes
    → TellsVerdict n e job s out done → IsCheckStatus n e job bytes (status_done done)
told-verdict-status n e job s out bytes done is tells =
    let reads = tells.reads in
    by-text n e job bytes reads.bytes (status_done done) (reads-told room_line s bytes reads.bytes is reads.whole) reads.whole.within
    (inl (tells.verdict, reads.has, ap status_done tells.ending))

tells-status : (asked : Result Job Refusal) (s : SourceChange) (bytes : List ℕ) (fault : Fault) → (reads_source asked ≡ true → s.left_before ≡ Some bytes) → ¬ Rose s.faults_before s.faults_now → HasCause fault asked s
    → IsStatusFor asked bytes (status_of fault) ⊎ (status_of fault ≡ 7)
tells-status (Err e) s bytes fault told calm (inl usage) = inl (ap status_of usage)
tells-status (Err e) s bytes fault told calm (inr memory) = inr (ap status_of memory)
tells-status (Ok (Run job)) s bytes fault told calm cause = input-fault-status job job.input fault s bytes told calm cause
tells-status (Ok (Gen job)) s bytes fault told calm cause = inr (ap status_of cause)
tells-status (Ok (Map job)) s bytes fault told calm cause = inr (ap status_of cause)
tells-status (Ok (Moves job)) s bytes fault told calm cause = inr (ap status_of cause)
tells-status (Ok Show) s bytes fault told calm cause = show-fault-status fault s bytes (told refl) calm cause
tells-status (Ok (Check job)) s bytes fault told calm cause = check-fault-status (bytes_in job.line) (pointers_in job.line) job fault s bytes (told refl) calm cause

run-status : (done : Done) → IsRunStatus (status_done done)
run-status Whole = inl refl
run-status Short = inr refl

-- where the events of a run come from decides that it is made
come-status : (n : ℕ) (job : RunJob) (input : Input) (s : SourceChange) (events : List (Event n)) (bytes : List ℕ) (done : Done) → n ≡ bytes_in job.line → (is_source input ≡ true → s.left_before ≡ Some bytes)
    → ComeFrom n job input s events → IsInputStatus job bytes (status_done done) input
come-status n job Source s events bytes done size told come =
    let With : ℕ → Type 0 = λ b. IsSourceStatus b (total_of job.shape) bytes (status_done done) in
    subst With size
    (by-trace n (total_of job.shape) bytes come.bytes (status_done done) (Ok events) (reads-told n s bytes come.bytes (told refl) come.whole) come.whole.within come.trace (run-status done))
come-status n job (Drawn mix) s events bytes done size told come = run-status done

written-status : (job : RunJob) (size : LineSize) (deed : Deed) (bytes : List ℕ) (done : Done)
    → size ≡ job.line → (is_source job.input ≡ true → deed.source.left_before ≡ Some bytes) → WritesRun deed job done size → IsInputStatus job bytes (status_done done) job.input
written-status job Bytes64 deed bytes done of told run = come-status 64 job job.input deed.source run.run.events bytes done (ap bytes_in of) told run.run.come
written-status job Bytes128 deed bytes done of told run = come-status 128 job job.input deed.source run.run.events bytes done (ap bytes_in of) told run.run.come

-- the status of a job that was done
does-status : (asked : Result Job Refusal) (deed : Deed) (bytes : List ℕ) (done : Done)
    → (reads_source asked ≡ true → deed.source.left_before ≡ Some bytes) → Does deed asked done → IsStatusFor asked bytes (status_done done)
does-status (Err e) deed bytes done told does = absurd does
does-status (Ok (Run job)) deed bytes done told does = written-status job job.line deed bytes done refl told does
does-status (Ok (Gen job)) deed bytes done told does = ap status_done does.1
does-status (Ok (Map job)) deed bytes done told does = ap status_done does.1
does-status (Ok (Moves job)) deed bytes done told does = ap status_done does.1
does-status (Ok Show) deed bytes done told does =
    let Has : ℕ → Type 0 = λ n. IsShowStatus bytes n in
    let read = does.0.1 in
    subst Has (sym (ap status_done does.1))
    (by-image bytes read.bytes 0 (Ok does.0.0) (reads-told 64 deed.source bytes read.bytes (told refl) read.whole) read.whole.within read.shown refl)
does-status (Ok (Check job)) deed bytes done told does = told-verdict-status (bytes_in job.line) (pointers_in job.line) job deed.source deed.out bytes done (told refl) does

pub done-decided : (asked : Result Job Refusal) (deed : Deed) (bytes : List ℕ) (done : Done) (status : ℕ)
    → status ≡ status_done done → (reads_source asked ≡ true → deed.source.left_before ≡ Some bytes) → Does deed asked done
    → IsStatusFor asked bytes status ⊎ (status ≡ 7)
done-decided asked deed bytes done status is told does =
    let For : ℕ → Type 0 = λ n. IsStatusFor asked bytes n in
    inl (subst For (sym is) (does-status asked deed bytes done told does))

pub told-decided : (asked : Result Job Refusal) (s : SourceChange) (bytes : List ℕ) (fault : Fault) (status : ℕ)
    → (reads_source asked ≡ true → s.left_before ≡ Some bytes) → ¬ Rose s.faults_before s.faults_now
    → HasCause fault asked s → status ≡ status_of fault → IsStatusFor asked bytes status ⊎ (status ≡ 7)
told-decided asked s bytes fault status told calm cause answered =
    let For : ℕ → Type 0 = λ n. IsStatusFor asked bytes n ⊎ (n ≡ 7) in
    subst For (sym answered) (tells-status asked s bytes fault told calm cause)

-- what was done has status 0 or 1
pub done-low : (done : Done) → status_done done ≤ 1
done-low Whole = omega arith
done-low Short = omega arith

-- a fault is of writing, or not
pub is_write : (fault : Fault) → (fault ≡ Write) ⊎ (fault ≢ Write)
is_write Write = inl refl
is_write Usage = inr (λ e. cc e)
is_write (Trace f) = inr (λ e. cc e)
is_write (Image f) = inr (λ e. cc e)
is_write (Results row) = inr (λ e. cc e)
is_write Read = inr (λ e. cc e)
is_write TooLong = inr (λ e. cc e)
is_write NoMemory = inr (λ e. cc e)

-- the count of taken bytes rises by no more than was taken
within-count : (n : ℕ) (s : SourceChange) → TakesSome n s → s.taken_before + trace_room n < 2 ^ 64 - 1 → s.taken_before + trace_room n < s.taken_now → ⊥
within-count n s some low over =
    let counted = some.1.counted in
    let within = some.2 in
    omega arith

-- memory may run out behind the events
pub memory-after : (n : ℕ) (job : RunJob) (input : Input) (s : SourceChange) (events : List (Event n)) → ComeFrom n job input s events → s.faults_now ≡ s.faults_before
    → IsFaultOf n job input NoMemory s
memory-after n job Source s events come calm = (calm, (come.bytes, come.whole.takes, come.whole.within))
memory-after n job (Drawn mix) s events come calm = refl

-- a source that was read to its end within its room, and one of which nothing was taken
pub come-within : (n : ℕ) (job : RunJob) (input : Input) (s : SourceChange) (events : List (Event n)) → ComeFrom n job input s events → s.taken_before + trace_room n < 2 ^ 64 - 1 → s.taken_before + trace_room n < s.taken_now → ⊥
come-within n job Source s events come low over = within-count n s (come.bytes, come.whole.takes, come.whole.within) low over
come-within n job (Drawn mix) s events come low over =
    let same = come.0.taken in
    omega arith
