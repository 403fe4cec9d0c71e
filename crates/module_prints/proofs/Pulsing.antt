-- How a report without the lines that were never pulsed comes about, line by line.
use Rattle.std.proofs.Common.{◌≡◌, ℕ, zero, suc, ◌+◌, ◌*◌, ◌<◌, ◌≤◌, List, [], ◌∷◌, ◌++◌, length, Option, refl, sym, ap, ◌∙◌, subst, arith, add-zero, append_assoc}
use Rattle.std.proofs.lemmas.List.{append-nil}
use Rattle.cell_rows.specs.Device.{ArrayState}
use Rattle.pcm_io.{specs.Giving.AppendsPrefix, specs.Reserved.{Reserved, appended}, proofs.ByteLemmas.AppendsPrefix-longer}
use Rattle.lines_report.specs.declared.row.LineCells.{LineCells}
use Rattle.bank_shape.specs.declared.Role.{Role}
use Rattle.module_shape.specs.{Addresses.{module_of, array_lines_of, bank_shape}, Limits.IsShape}
use Rattle.right_runs.specs.{Banks.line_named, Ends.BankEnd, Roles.IsRole}
use Rattle.run_text.{specs.Gathering.Printed, proofs.Gathered.printed-more}
use Rattle.pcm_module.specs.State.{AreEndsOf, ModuleState}
use Rattle.module_prints.specs.{PulsedLines.{PrintsNext, header_of, pulsed_rows, pulsed_text, row_of, where_pulsed}, WearReports.{HaveRoles, IsWearReport, bank_with}}
use Rattle.module_prints.{specs.declared.pulsed.Report.Report, proofs.Wearing.{HasWorn, a-row, worn-all, worn-goes_on, worn-more, worn-none}}

module _ (report : Report) (cells : ℕ → LineCells) where
  -- ---- the text

  rows-append : (line : ℕ) (first second : List (ℕ × ℕ × Role)) → pulsed_rows report cells line (first ++ second) ≡ pulsed_rows report cells line first ++ pulsed_rows report cells (line + length first) second
  rows-append line [] second = rw (add-zero line) refl
  rows-append line (r ∷ rest) second =
      let number : (line + 1) + length rest ≡ line + suc (length rest) = omega arith in
      let later : pulsed_rows report cells (line + 1) (rest ++ second) ≡ pulsed_rows report cells (line + 1) rest ++ pulsed_rows report cells (line + suc (length rest)) second =
      rw number at (rows-append (line + 1) rest second) in
      rw later (sym (append_assoc (where_pulsed r.1 (row_of report cells line r)) (pulsed_rows report cells (line + 1) rest) (pulsed_rows report cells (line + suc (length rest)) second)))

  text-append : (first second : List (ℕ × ℕ × Role)) → pulsed_text report cells (first ++ second) ≡ pulsed_text report cells first ++ pulsed_rows report cells (length first) second
  text-append first second =
      let zero_more : 0 + length first ≡ length first = omega arith in
      let rows : pulsed_rows report cells 0 (first ++ second) ≡ pulsed_rows report cells 0 first ++ pulsed_rows report cells (length first) second = rw zero_more at (rows-append 0 first second) in
      ap (λ (xs : List ℕ). header_of report ++ xs) rows ∙ sym (append_assoc (header_of report) (pulsed_rows report cells 0 first) (pulsed_rows report cells (length first) second))

  -- one line more
  text-more : (rows : List (ℕ × ℕ × Role)) (line : ℕ) (row : ℕ × ℕ × Role) → length rows ≡ line
      → pulsed_text report cells rows ++ where_pulsed row.1 (row_of report cells line row) ≡ pulsed_text report cells (rows ++ row ∷ [])
  text-more rows line row count =
      ap (λ (n : ℕ). pulsed_text report cells rows ++ where_pulsed row.1 (row_of report cells n row)) (sym count)
      ∙ ap (λ (xs : List ℕ). pulsed_text report cells rows ++ xs) (sym (append-nil (where_pulsed row.1 (row_of report cells (length rows) row))))
      ∙ sym (text-append rows (row ∷ []))

  -- first bytes of the rows so far are first bytes of the report, whatever rows come behind them
  pub pulsed-part : (a b : Option (List ℕ)) (rows later : List (ℕ × ℕ × Role)) → AppendsPrefix a b (pulsed_text report cells rows) → AppendsPrefix a b (pulsed_text report cells (rows ++ later))
  pulsed-part a b rows later part =
      subst (λ (xs : List ℕ). AppendsPrefix a b xs) (sym (text-append rows later)) (AppendsPrefix-longer a b (pulsed_text report cells rows) (pulsed_rows report cells (length rows) later) part)

  -- a row that is left out, and one that isn't
  nothing-of : (pulses : ℕ) (row : List ℕ) → pulses ≡ 0 → where_pulsed pulses row ≡ []
  nothing-of pulses row none = rw none refl

  all-of : (pulses : ℕ) (row : List ℕ) → 1 ≤ pulses → where_pulsed pulses row ≡ row
  all-of zero row some = absurd (omega (arith, some))
  all-of (suc pulses) row some = refl

  skipped : (a b : Option (List ℕ)) (text : Reserved) (rows : List (ℕ × ℕ × Role)) (line : ℕ) (row : ℕ × ℕ × Role) → row.1 ≡ 0 → length rows ≡ line
      → Printed a b text (pulsed_text report cells rows) → Printed a b text (pulsed_text report cells (rows ++ row ∷ []))
  skipped a b text rows line row none count h =
      let same : pulsed_text report cells rows ≡ pulsed_text report cells (rows ++ row ∷ []) =
      sym (append-nil (pulsed_text report cells rows)) ∙ ap (λ (xs : List ℕ). pulsed_text report cells rows ++ xs) (sym (nothing-of row.1 (row_of report cells line row) none))
      ∙ text-more rows line row count in
      subst (λ (xs : List ℕ). Printed a b text xs) same h

  pushed : (a b : Option (List ℕ)) (old new : Reserved) (rows : List (ℕ × ℕ × Role)) (line : ℕ) (row : ℕ × ℕ × Role) → 1 ≤ row.1 → new ≡ appended old (row_of report cells line row)
      → length rows ≡ line → Printed a b old (pulsed_text report cells rows) → Printed a b new (pulsed_text report cells (rows ++ row ∷ []))
  pushed a b old new rows line row some is count h =
      let same : pulsed_text report cells rows ++ row_of report cells line row ≡ pulsed_text report cells (rows ++ row ∷ []) =
      ap (λ (xs : List ℕ). pulsed_text report cells rows ++ xs) (sym (all-of row.1 (row_of report cells line row) some)) ∙ text-more rows line row count in
      subst (λ (t : Reserved). Printed a b t (pulsed_text report cells (rows ++ row ∷ []))) (sym is)
      (subst (λ (xs : List ℕ). Printed a b (appended old (row_of report cells line row)) xs) same
      (printed-more a b old (pulsed_text report cells rows) (row_of report cells line row) h))

  module _ {n m e : ℕ} (pcm : ModuleState n m e) (array : ArrayState n m) where
    -- ---- a line

    abbrev InAll : Type 0
    InAll = array.lines ≡ pcm.shape.banks * array_lines_of (module_of pcm.shape)

    -- one that was never pulsed
    pub next-none : IsShape pcm.shape → InAll → (line : ℕ) → line < array.lines → (array.line line).pulses ≡ 0 → (text : Reserved) (was : Option (List ℕ))
        → PrintsNext report cells pcm array line text text was was
    next-none shape size line exists none text was ends are roles =
        let row = a-row pcm.shape pcm.seed ends array shape roles line (omega (arith, size, exists)) in
        (row.0, row.1, λ before rows count h. skipped before was text rows line row.0 (row.1.pulses ∙ none) count h)

    -- one that was
    pub next-some : (line bank pulses : ℕ) (role : Role) → bank ≡ bank_with pcm.shape line → pulses ≡ (array.line line).pulses → 1 ≤ pulses
        → ((ends : ℕ → BankEnd) → AreEndsOf pcm ends → IsRole (bank_shape (module_of pcm.shape) (bank_with pcm.shape line)) (line_named pcm.shape pcm.seed (bank_with pcm.shape line)) (ends (bank_with pcm.shape line)) line role)
        → (old mid new : Reserved) (was now : Option (List ℕ)) → ((before : Option (List ℕ)) (whole : List ℕ) → Printed before was old whole → Printed before now mid whole)
        → new ≡ appended mid (row_of report cells line (bank, pulses, role)) → PrintsNext report cells pcm array line old new was now
    next-some line bank pulses role of counted some has old mid new was now stays is ends are roles = (
      (bank, pulses, role),
      record { bank = of; pulses = counted; role = has ends are },
      λ before rows count h. pushed before now mid new rows line (bank, pulses, role) some is count (stays before (pulsed_text report cells rows) h),
    )

    -- ---- all lines

    -- the rows of the first i array lines are printed
    abbrev pub IsPulsed : ℕ → Reserved → (before now : Option (List ℕ)) → Type 0
    IsPulsed i text before now =
        (ends : ℕ → BankEnd) → AreEndsOf pcm ends → HaveRoles pcm.shape pcm.seed ends
        → (rows : List (ℕ × ℕ × Role)) × HasWorn pcm.shape pcm.seed ends array i rows × Printed before now text (pulsed_text report cells rows)

    pub pulsed-none : (text : Reserved) (before : Option (List ℕ)) → Printed before before text (header_of report) → IsPulsed 0 text before before
    pulsed-none text before header ends are roles =
        ([], worn-none pcm.shape pcm.seed ends array, subst (λ (xs : List ℕ). Printed before before text xs) (sym (append-nil (header_of report))) header)

    pub pulsed-more : (i : ℕ) (old new : Reserved) (before was now : Option (List ℕ)) → IsPulsed i old before was → PrintsNext report cells pcm array i old new was now
        → IsPulsed (i + 1) new before now
    pulsed-more i old new before was now had next ends are roles =
        let rows = had ends are roles in
        let row = next ends are roles in
        (rows.0 ++ row.0 ∷ [], worn-more pcm.shape pcm.seed ends array i rows.0 row.0 rows.1 row.1, row.2 before rows.0 rows.1.size rows.2)

    -- at a fault first bytes of a whole report were written
    pub pulsed-broken : (i : ℕ) (text : Reserved) (before was now : Option (List ℕ)) → IsShape pcm.shape → InAll → i ≤ array.lines → IsPulsed i text before was
        → ((before : Option (List ℕ)) (rows later : List (ℕ × ℕ × Role)) → Printed before was text (pulsed_text report cells rows) → AppendsPrefix before now (pulsed_text report cells (rows ++ later)))
        → (ends : ℕ → BankEnd) → AreEndsOf pcm ends → HaveRoles pcm.shape pcm.seed ends
        → (whole : List (ℕ × ℕ × Role)) × IsWearReport pcm.shape pcm.seed ends array whole × AppendsPrefix before now (pulsed_text report cells whole)
    pulsed-broken i text before was now shape size within had part ends are roles =
        let rows = had ends are roles in
        let rest = worn-goes_on pcm.shape pcm.seed ends array shape roles i rows.0 size within rows.1 in
        (rows.0 ++ rest.0, rest.1, part before rows.0 rest.0 rows.2)

    -- at the end the whole report is written, or first bytes of it
    pub pulsed-whole : (i : ℕ) (text : Reserved) (before was : Option (List ℕ)) (Writes : List ℕ → Type 0) → i ≡ array.lines → IsPulsed i text before was
        → ((whole : List ℕ) → Printed before was text whole → Writes whole)
        → (ends : ℕ → BankEnd) → AreEndsOf pcm ends → HaveRoles pcm.shape pcm.seed ends
        → (whole : List (ℕ × ℕ × Role)) × IsWearReport pcm.shape pcm.seed ends array whole × Writes (pulsed_text report cells whole)
    pulsed-whole i text before was Writes all had writes ends are roles =
        let rows = had ends are roles in
        (rows.0, worn-all pcm.shape pcm.seed ends array i rows.0 all rows.1, writes (pulsed_text report cells rows.0) rows.2)
