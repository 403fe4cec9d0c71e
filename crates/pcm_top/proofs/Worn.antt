-- The wear report of a run that was made.
use Rattle.std.proofs.Common.{◌≡◌, ℕ, List, refl, sym, subst}
use Rattle.cell_rows.specs.Device.{ArrayState}
use Rattle.trace_reader.specs.declared.event.Event.{Event}
use Rattle.result_rows.specs.declared.Outcome.{Outcome}
use Rattle.run_text.specs.WearText.{wear_text}
use Rattle.bank_shape.specs.declared.Role.{Role}
use Rattle.right_runs.specs.Ends.{BankEnd}
use Rattle.pcm_module.specs.State.{AreEndsOf, ModuleState}
use Rattle.module_prints.specs.WearReports.{HaveRoles, IsWearReport}
use Rattle.command_line.specs.{declared.job.Print.Print, declared.job.Print.TheVariants.Wear}
use Rattle.pcm_top.specs.RunText.{IsRunText}

-- so the text of a run that prints a wear report is written
pub wear-text : {n m e : ℕ} (entries : ℕ) (pcm : ModuleState n m e) (array : ArrayState n m) (events : List (Event n)) (outcomes : List (Outcome n)) (print : Print) (P : List ℕ → Type 0)
    → print ≡ Wear
    → ((ends : ℕ → BankEnd) → AreEndsOf pcm ends → HaveRoles pcm.shape pcm.seed ends → (rows : List (ℕ × ℕ × Role)) × IsWearReport pcm.shape pcm.seed ends array rows × P (wear_text rows))
    → (ends : ℕ → BankEnd) → AreEndsOf pcm ends → HaveRoles pcm.shape pcm.seed ends → (whole : List ℕ) × IsRunText pcm.shape pcm.seed entries events outcomes ends array print whole × P whole
wear-text entries pcm array events outcomes print P is writes ends are roles =
    let report = writes ends are roles in
    let Of : Print → Type 0 = λ p. IsRunText pcm.shape pcm.seed entries events outcomes ends array p (wear_text report.0) in
    (wear_text report.0, subst Of (sym is) ((report.0, report.1, refl)), report.2)
