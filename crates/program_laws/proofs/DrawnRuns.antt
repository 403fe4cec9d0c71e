-- That a run of drawn events is a run of their text.
use Rattle.std.proofs.Common.{◌≡◌, ℕ, ◌≤◌, List, length, refl, sym, subst, arith}
use Rattle.std.specs.Io.KnownBytes.{IsAtEnd}
use Rattle.judged_runs.proofs.JudgedRuns.{some-lines}
use Rattle.cell_rows.specs.Device.{ArrayState}
use Rattle.trace_reader.specs.declared.event.Event.{Event}
use Rattle.trace_gen.specs.{EventText.trace_text, Generated.{IsMix, generated}, Laws.{GeneratedSizeLaw, GeneratedTextLaw}, declared.mix.Mix.Mix}
use Rattle.module_shape.specs.Limits.{total_of}
use Rattle.command_line.specs.{Jobs.{IsInput, IsRun}, declared.job.Input.Input, declared.job.Input.TheVariants.Drawn, declared.job.LineSize.LineSize}
use Rattle.command_line.specs.{declared.job.LineSize.TheVariants.{Bytes64, Bytes128}, declared.job.RunJob.RunJob}
use Rattle.pcm_top.specs.{Calls.Deed, Inputs.ComeFrom, Jobs.bytes_in, Reading.{ReadsTrace, TakesBytes, trace_room}}
use Rattle.pcm_top.specs.{Running.{RunIsWritten, RunIsWrittenInPart, Runs, WritesRun, WritesRunInPart}, declared.run.Done.Done}
use Rattle.program_calls.specs.Calls.{SinkChange, SourceChange}
use Rattle.program_laws.specs.Laws.{DrawnLaw, run_of_source}

-- the mix of a run that draws its events is in range
input-mix : (input : Input) (mix : Mix) → input ≡ Drawn mix → IsInput input → IsMix mix
input-mix input mix is has = subst IsInput is has

module _ (texts : GeneratedTextLaw) (sizes : GeneratedSizeLaw) (job : RunJob) (mix : Mix) (run : IsRun job) (draws : job.input ≡ Drawn mix) (read : SourceChange) (ended : IsAtEnd read.left_now) where
  -- the text of the drawn events over lines of n bytes
  abbrev text_of : ℕ → List ℕ
  text_of n = trace_text (generated n job.seed (total_of job.shape) mix)

  mixed : IsMix mix
  mixed = input-mix job.input mix draws run.input

  -- it fits where lines are long enough
  reads : (n : ℕ) (drawn : SourceChange) (events : List (Event n)) → TakesBytes read (text_of n) → length (text_of n) ≤ trace_room n
      → ComeFrom n job job.input drawn events → ReadsTrace n (total_of job.shape) read events
  reads n drawn events takes fits come =
      let From : Input → Type 0 = λ input. ComeFrom n job input drawn events in
      let is = (subst From draws come).1 in
      record {
        bytes = text_of n;
        whole = record { takes = takes; ended = ended; within = fits };
        trace = rw is (texts n job.seed (total_of job.shape) mix (some-lines job.shape run.shape) run.small.few_in_all mixed);
      }

  short-64 : length (text_of 64) ≤ trace_room 64
  short-64 =
      let size = sizes 64 job.seed (total_of job.shape) mix (some-lines job.shape run.shape) run.small.few_in_all mixed in
      let few = mixed.few_rows in
      omega arith

  short-128 : length (text_of 128) ≤ trace_room 128
  short-128 =
      let size = sizes 128 job.seed (total_of job.shape) mix (some-lines job.shape run.shape) run.small.few_in_all mixed in
      let few = mixed.few_rows in
      omega arith

  -- the same run of a trace that is read
  same-run : (n m e : ℕ) (drawn : SourceChange) (array : ArrayState n m) → TakesBytes read (text_of n) → length (text_of n) ≤ trace_room n
      → Runs n m e job drawn array → Runs n m e (run_of_source job) read array
  same-run n m e drawn array takes fits made = record {
    events = made.events;
    come = reads n drawn made.events takes fits made.come;
    outcomes = made.outcomes;
    one_each = made.one_each;
    ends = made.ends;
    right = made.right;
    wear = made.wear;
  }

  same-written : (n m e : ℕ) (drawn : SourceChange) (array : ArrayState n m) (out : SinkChange) (done : Done) → TakesBytes read (text_of n) → length (text_of n) ≤ trace_room n
      → RunIsWritten n m e job drawn array out done → RunIsWritten n m e (run_of_source job) read array out done
  unfolding same-run
  same-written n m e drawn array out done takes fits is = record {
    run = same-run n m e drawn array takes fits is.run;
    text = is.text;
    is_text = is.is_text;
    written = is.written;
    ending = is.ending;
    left = record { saved = is.left.saved; left = is.left.left; are = is.left.are; rows = is.left.rows };
    sensed = is.sensed;
  }

  same-part : (n m e : ℕ) (drawn : SourceChange) (array : ArrayState n m) (out : SinkChange) → TakesBytes read (text_of n) → length (text_of n) ≤ trace_room n
      → RunIsWrittenInPart n m e job drawn array out → RunIsWrittenInPart n m e (run_of_source job) read array out
  unfolding same-run
  same-part n m e drawn array out takes fits is = record {
    run = same-run n m e drawn array takes fits is.run;
    text = is.text;
    is_text = is.is_text;
    written = is.written;
    left = record { saved = is.left.saved; left = is.left.left; are = is.left.are; rows = is.left.rows };
    sensed = is.sensed;
    rows = is.rows;
  }

  -- at either size of lines
  takes-of : (size : LineSize) → size ≡ job.line → TakesBytes read (text_of (bytes_in job.line)) → TakesBytes read (text_of (bytes_in size))
  takes-of size of takes =
      let Of : LineSize → Type 0 = λ l. TakesBytes read (text_of (bytes_in l)) in
      subst Of (sym of) takes

  pub whole-run : (size : LineSize) (deed : Deed) (done : Done)
      → size ≡ job.line → TakesBytes read (text_of (bytes_in job.line))
      → WritesRun deed job done size → WritesRun (record deed { source = read }) (run_of_source job) done size
  whole-run Bytes64 deed done of takes is = same-written 64 8 6 deed.source deed.array deed.out done (takes-of Bytes64 of takes) short-64 is
  whole-run Bytes128 deed done of takes is = same-written 128 16 8 deed.source deed.wide deed.out done (takes-of Bytes128 of takes) short-128 is

  pub part-run : (size : LineSize) (deed : Deed)
      → size ≡ job.line → TakesBytes read (text_of (bytes_in job.line))
      → WritesRunInPart deed job size → WritesRunInPart (record deed { source = read }) (run_of_source job) size
  part-run Bytes64 deed of takes is = same-part 64 8 6 deed.source deed.array deed.out (takes-of Bytes64 of takes) short-64 is
  part-run Bytes128 deed of takes is = same-part 128 16 8 deed.source deed.wide deed.out (takes-of Bytes128 of takes) short-128 is

pub drawn-law : GeneratedTextLaw → GeneratedSizeLaw → DrawnLaw
drawn-law texts sizes job mix deed read run draws takes ended = (
  (λ done is. whole-run texts sizes job mix run draws read ended job.line deed done refl takes is),
  (λ is. part-run texts sizes job mix run draws read ended job.line deed refl takes is),
)
