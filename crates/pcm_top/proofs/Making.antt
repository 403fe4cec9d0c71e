-- What a run that was made is, and that what is written of it is its text.
use Rattle.std.proofs.Common.{◌≡◌, ℕ, ◌≤◌, List, length, Some, sym, subst}
use Rattle.cell_rows.specs.Device.{ArrayState}
use Rattle.trace_reader.specs.{Events.AreEventsFor, declared.event.Event.Event}
use Rattle.result_rows.specs.declared.Outcome.{Outcome}
use Rattle.module_shape.specs.{Limits.{IsShape, IsSmall, total_of}, declared.raw.RawShape.RawShape}
use Rattle.right_runs.specs.{Ends.BankEnd, Runs.RunsRight}
use Rattle.pcm_image.specs.Saved.{Saved}
use Rattle.pcm_module.specs.State.{AreEndsOf, ModuleState}
use Rattle.command_line.specs.{declared.job.Print.TheVariants.Image, declared.job.RunJob.RunJob}
use Rattle.program_calls.specs.Calls.{Gets, GetsPart, SinkChange, SourceChange}
use Rattle.module_prints.specs.{Images.WritesRows, WearReports.HaveRoles}
use Rattle.pcm_top.specs.{Images.senses_for, Inputs.ComeFrom, Laws.{CanBePrinted, PrintableLaw}, Ready.IsReady, Rows.rows_of, RunText.IsRunText}
use Rattle.pcm_top.{specs.Running.{RunIsWritten, RunIsWrittenInPart, Runs, done_by}, specs.declared.run.Done.Done, proofs.Saving.LeavesWith}

-- a module that is ready is so by its own sizes and seed
pub ready-itself : {n m e : ℕ} (raw : RawShape) (seed rows count : ℕ) (module_ : ModuleState n m e) (array : ArrayState n m) (results : List (Outcome n))
    → rows ≡ count → IsReady raw seed rows module_ array results → IsReady module_.shape module_.seed count module_ array results
ready-itself raw seed rows count module_ array results same ready =
    let counted = subst (λ c. IsReady raw seed c module_ array results) same ready in
    let seeded = subst (λ s. IsReady raw s count module_ array results) (sym ready.seeded) counted in
    subst (λ r. IsReady r module_.seed count module_ array results) (sym ready.shape) seeded

-- nor does it matter how its rows are counted
pub ready-for : {n m e : ℕ} (raw : RawShape) (seed rows count : ℕ) (module_ : ModuleState n m e) (array : ArrayState n m) (results : List (Outcome n))
    → rows ≡ count → IsReady raw seed rows module_ array results → IsReady raw seed count module_ array results
ready-for raw seed rows count module_ array results same ready = subst (λ c. IsReady raw seed c module_ array results) same ready

module _ {n m e : ℕ} (job : RunJob) (array : ArrayState n m) (events : List (Event n)) (outcomes : List (Outcome n)) (pcm : ModuleState n m e)
    (shape : pcm.shape ≡ job.shape) (seeded : pcm.seed ≡ job.seed) (size : length outcomes ≡ length events)
    (left : (ends : ℕ → BankEnd) × AreEndsOf pcm ends × RunsRight e pcm.shape pcm.seed (rows_of events outcomes) array ends) where
  -- it can be printed
  pub can-print : PrintableLaw → IsShape job.shape → IsSmall job.shape → AreEventsFor (total_of job.shape) 0 events → CanBePrinted pcm.shape pcm.seed events outcomes left.0
  can-print law in_range small lawful =
      let For : RawShape → Type 0 = λ raw. AreEventsFor (total_of raw) 0 events in
      law n m e pcm.shape pcm.seed events outcomes array left.0 (subst IsShape (sym shape) in_range) (subst IsSmall (sym shape) small) (subst For (sym shape) lawful) size left.2

  -- it is one of the job's
  of-job : RunsRight e job.shape job.seed (rows_of events outcomes) array left.0
  of-job =
      let Shaped : RawShape → Type 0 = λ raw. RunsRight e raw pcm.seed (rows_of events outcomes) array left.0 in
      let Seeded : ℕ → Type 0 = λ seed. RunsRight e job.shape seed (rows_of events outcomes) array left.0 in
      subst Seeded seeded (subst Shaped shape left.2)

  module _ (s : SourceChange) (come : ComeFrom n job job.input s events) (wear : array.wear ≡ Some job.wear) where
    abbrev made : Runs n m e job s array
    made = record { events = events; come = come; outcomes = outcomes; one_each = size; ends = left.0; right = of-job; wear = wear }

    text-of-job : (whole : List ℕ) → IsRunText pcm.shape pcm.seed e events outcomes left.0 array job.print whole → IsRunText job.shape job.seed e events outcomes left.0 array job.print whole
    text-of-job whole is =
        let Shaped : RawShape → Type 0 = λ raw. IsRunText raw pcm.seed e events outcomes left.0 array job.print whole in
        let Seeded : ℕ → Type 0 = λ seed. IsRunText job.shape seed e events outcomes left.0 array job.print whole in
        subst Seeded seeded (subst Shaped shape is)

    left-of-job : (Of : Saved n m → ℕ → Type 0) → LeavesWith e pcm.shape pcm.seed (rows_of events outcomes) array left.0 Of
        → LeavesWith e job.shape job.seed (rows_of events outcomes) array left.0 Of
    left-of-job Of is =
        let Shaped : RawShape → Type 0 = λ raw. LeavesWith e raw pcm.seed (rows_of events outcomes) array left.0 Of in
        let Seeded : ℕ → Type 0 = λ seed. LeavesWith e job.shape seed (rows_of events outcomes) array left.0 Of in
        subst Seeded seeded (subst Shaped shape is)

    -- its lines were sensed for a text that was written, or for a part of it
    abbrev pub Whole : Saved n m → ℕ → Type 0
    Whole saved count = count ≡ senses_for job.print array.lines

    abbrev pub InPart : SinkChange → Saved n m → ℕ → Type 0
    InPart out saved count = (count ≤ senses_for job.print array.lines) × (job.print ≡ Image → WritesRows array saved out.written_before out.written_now)

    pub run-written : (out : SinkChange) (done : Done) → done ≡ done_by outcomes → LeavesWith e pcm.shape pcm.seed (rows_of events outcomes) array left.0 Whole → HaveRoles pcm.shape pcm.seed left.0
        → ((ends : ℕ → BankEnd) → AreEndsOf pcm ends → RunsRight e pcm.shape pcm.seed (rows_of events outcomes) array ends → HaveRoles pcm.shape pcm.seed ends
        → (whole : List ℕ) × IsRunText pcm.shape pcm.seed e events outcomes ends array job.print whole × Gets out whole)
        → RunIsWritten n m e job s array out done
    run-written out done is leaves roles writes =
        let text = writes left.0 left.1 left.2 roles in
        let had = left-of-job Whole leaves in
        record { run = made; text = text.0; is_text = text-of-job text.0 text.1; written = text.2; ending = is; left = record { saved = had.0; left = had.1; are = had.2; rows = had.3 }; sensed = had.4 }

    pub run-part : (out : SinkChange) → LeavesWith e pcm.shape pcm.seed (rows_of events outcomes) array left.0 (InPart out) → HaveRoles pcm.shape pcm.seed left.0
        → ((ends : ℕ → BankEnd) → AreEndsOf pcm ends → RunsRight e pcm.shape pcm.seed (rows_of events outcomes) array ends → HaveRoles pcm.shape pcm.seed ends
        → (whole : List ℕ) × IsRunText pcm.shape pcm.seed e events outcomes ends array job.print whole × GetsPart out whole)
        → RunIsWrittenInPart n m e job s array out
    run-part out leaves roles writes =
        let text = writes left.0 left.1 left.2 roles in
        let had = left-of-job (InPart out) leaves in
        record { run = made; text = text.0; is_text = text-of-job text.0 text.1; written = text.2; left = record { saved = had.0; left = had.1; are = had.2; rows = had.3 }; sensed = had.4.0; rows = had.4.1 }
