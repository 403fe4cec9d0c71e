-- What is written in the end of a stream, by what is asked for.
use Rattle.std.proofs.Common.{◌≡◌, ℕ, List, [], refl, sym, ap, ◌∙◌, subst}
use Rattle.std.specs.Prelude.{Result, Ok, Err, OnErr, OnOk}
use Rattle.pcm_io.specs.Reserved.{Reserved, appended, reserved}
use Rattle.cell_rows.specs.Device.{ArrayState}
use Rattle.bank_shape.specs.declared.Role.{Role}
use Rattle.energy_report.specs.EnergyText.{energy_report}
use Rattle.lines_report.specs.declared.row.LineCells.{LineCells}
use Rattle.module_shape.specs.Addresses.{array_lines_of, module_of}
use Rattle.right_runs.specs.Ends.{BankEnd}
use Rattle.pcm_image.specs.Saved.{Saved}
use Rattle.right_images.specs.Saving.{saved_of}
use Rattle.image_text.{specs.Sensing.SensesRows, proofs.Sensing.senses-none}
use Rattle.run_text.specs.{Pulses.pulses_in_all, SummaryText.summary_text, declared.counts.OutcomeCounts.OutcomeCounts}
use Rattle.pcm_module.specs.{Roles.spares_used, State.{AreEndsOf, ModuleState}}
use Rattle.module_prints.specs.{Images.kept_in, StandingMap.standing_map, WearReports.{HaveRoles, IsWearReport}}
use Rattle.stream_words.specs.{declared.job.Skip.Skip, declared.job.StreamPrint.StreamPrint}
use Rattle.stream_words.specs.{declared.job.StreamPrint.TheVariants.{Rows, Summary, Wear, Lines, Map, Energy, Image, Snapshots}, declared.job.Tell.Tell}
use Rattle.stream_top.specs.Leaving.{IsClosing, lines_but, senses_for, spelled, wear_but}

module _ {n m e : ℕ} (module_ : ModuleState n m e) (array : ArrayState n m) (cells : ℕ → LineCells) (rows : ℕ) (counts : OutcomeCounts) (print : StreamPrint) (P : List ℕ → Type 0) where
  -- what is written is the text of the end, by whatever ends the module's banks have
  abbrev pub PrintsOf : Type 0
  PrintsOf =
      (ends : ℕ → BankEnd) → AreEndsOf module_ ends → HaveRoles module_.shape module_.seed ends
      → (whole : List ℕ) × IsClosing module_.shape module_.seed rows counts ends array cells (saved_of module_.shape module_.seed (kept_in module_) array) print whole × P whole

  abbrev Closes : (ℕ → BankEnd) → List ℕ → StreamPrint → Type 0
  Closes ends whole other = IsClosing module_.shape module_.seed rows counts ends array cells (saved_of module_.shape module_.seed (kept_in module_) array) other whole

  pub nothing-closes : (tell : Tell) → print ≡ Rows tell → P [] → PrintsOf
  nothing-closes tell is written = λ ends are roles. ([], subst (Closes ends []) (sym is) refl, written)

  pub snapshots-close : (every : ℕ) → print ≡ Snapshots every → P [] → PrintsOf
  snapshots-close every is written = λ ends are roles. ([], subst (Closes ends []) (sym is) refl, written)

  pub summary-closes : print ≡ Summary → (retired pulses : ℕ) (bytes : List ℕ) → bytes ≡ summary_text rows counts retired pulses → pulses ≡ pulses_in_all array
      → ((ends : ℕ → BankEnd) → AreEndsOf module_ ends → retired ≡ spares_used module_.shape ends) → P bytes → PrintsOf
  summary-closes is retired pulses bytes text summed used written = λ ends are roles.
      let own : bytes ≡ summary_text rows counts (spares_used module_.shape ends) (pulses_in_all array) =
      text ∙ ap (λ (k : ℕ). summary_text rows counts k pulses) (used ends are) ∙ ap (λ (k : ℕ). summary_text rows counts (spares_used module_.shape ends) k) summed in
      (bytes, subst (Closes ends bytes) (sym is) own, written)

  pub wear-closes : (skip : Skip) → print ≡ Wear skip
      → ((ends : ℕ → BankEnd) → AreEndsOf module_ ends → HaveRoles module_.shape module_.seed ends
      → (report : List (ℕ × ℕ × Role)) × IsWearReport module_.shape module_.seed ends array report × P (wear_but skip cells report)) → PrintsOf
  wear-closes skip is writes = λ ends are roles.
      let report = writes ends are roles in
      (wear_but skip cells report.0, subst (Closes ends (wear_but skip cells report.0)) (sym is) ((report.0, report.1, refl)), report.2)

  pub lines-closes : (skip : Skip) → print ≡ Lines skip
      → ((ends : ℕ → BankEnd) → AreEndsOf module_ ends → HaveRoles module_.shape module_.seed ends
      → (report : List (ℕ × ℕ × Role)) × IsWearReport module_.shape module_.seed ends array report × P (lines_but skip cells report)) → PrintsOf
  lines-closes skip is writes = λ ends are roles.
      let report = writes ends are roles in
      (lines_but skip cells report.0, subst (Closes ends (lines_but skip cells report.0)) (sym is) ((report.0, report.1, refl)), report.2)

  pub map-closes : print ≡ Map → ((ends : ℕ → BankEnd) → AreEndsOf module_ ends → P (standing_map module_.shape module_.seed ends)) → PrintsOf
  map-closes is written = λ ends are roles.
      let text : List ℕ = standing_map module_.shape module_.seed ends in
      (text, subst (Closes ends text) (sym is) refl, written ends are)

  pub energy-closes : print ≡ Energy → P (energy_report array.energy module_.shape.banks (array_lines_of (module_of module_.shape))) → PrintsOf
  energy-closes is written = λ ends are roles.
      let text : List ℕ = energy_report array.energy module_.shape.banks (array_lines_of (module_of module_.shape)) in
      (text, subst (Closes ends text) (sym is) refl, written)

  pub image-closes : print ≡ Image → (seed : ℕ) → seed ≡ module_.seed → P (spelled module_.shape (saved_of module_.shape seed (kept_in module_) array)) → PrintsOf
  image-closes is seed same written = λ ends are roles.
      let saved : Saved n m = saved_of module_.shape module_.seed (kept_in module_) array in
      (spelled module_.shape saved, subst (Closes ends (spelled module_.shape saved)) (sym is) refl, subst (λ (k : ℕ). P (spelled module_.shape (saved_of module_.shape k (kept_in module_) array))) same written)

-- a summary that an empty text got
pub summary-bytes : (old new : Reserved) (limit : ℕ) (text : List ℕ) → old ≡ reserved limit → new ≡ appended old text → new.bytes ≡ text
summary-bytes old new limit text empty is = ap (λ (t : Reserved). t.bytes) is ∙ ap (λ (t : Reserved). (appended t text).bytes) empty

-- of an array nothing was sensed for a text that needs no sense
pub senses-nothing : {n m : ℕ} {T E : Type 0} (r : Result T E) (print : StreamPrint) (array : ArrayState n m) → senses_for print array.lines ≡ 0 → OnOk r (SensesRows (senses_for print array.lines) array array)
senses-nothing (Ok x) print array none = subst (λ (count : ℕ). SensesRows count array array) (sym none) (senses-none array)
senses-nothing (Err e) print array none = tt

-- and of a text that isn't an image nothing is said of rows
pub no-image : {T E : Type 0} (r : Result T E) (print : StreamPrint) (P : Type 0) → (print ≡ Image → ⊥) → OnErr r (print ≡ Image → P)
no-image (Ok x) print P other = tt
no-image (Err e) print P other = λ is. absurd (other is)
