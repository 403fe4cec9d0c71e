-- How a map comes about, row by row.
use Rattle.std.proofs.Common.{◌≡◌, ℕ, zero, suc, ◌+◌, ◌≤◌, inl, inr, List, [], ◌++◌, Option, refl, sym, ap, ◌∙◌, subst, arith, append_assoc, zero-add, add-one}
use Rattle.std.{specs.Io.KnownBytes.Appends, proofs.lemmas.Bool.cases_eq, proofs.lemmas.List.append-nil}
use Rattle.pcm_io.{specs.Giving.AppendsPrefix, specs.Reserved.{Reserved, appended, reserved}, proofs.ByteLemmas.AppendsPrefix-longer}
use Rattle.rotation_reports.specs.{MapText.map_header, Rows.rows_from}
use Rattle.module_shape.specs.Limits.{total_of}
use Rattle.right_runs.specs.Ends.{BankEnd}
use Rattle.run_text.{specs.Gathering.Printed, proofs.Gathered.{printed-first, printed-more}}
use Rattle.pcm_module.specs.State.{AreEndsOf, ModuleState}
use Rattle.module_prints.specs.StandingMap.{standing_line, standing_map}

module _ (row : ℕ → List ℕ) where
  -- the header and the first i rows
  abbrev first : ℕ → List ℕ
  first i = map_header ++ rows_from row 0 i

  next : (i : ℕ) → first i ++ row i ≡ first (i + 1)
  next i =
      let same : row i ≡ row (0 + i) = ap row (sym (zero-add i)) in
      let more : first i ++ row i ≡ first (suc i) = append_assoc map_header (rows_from row 0 i) (row i) ∙ ap (λ (xs : List ℕ). map_header ++ (rows_from row 0 i ++ xs)) same in
      more ∙ ap first (sym (add-one i))

  -- the rows behind the first i
  rest : (i count : ℕ) → i ≤ count → (later : List ℕ) × (rows_from row 0 i ++ later ≡ rows_from row 0 count)
  rest i zero within =
      let none : i ≡ 0 = omega arith in
      ([], rw none refl)
  rest i (suc count) within =
      elim (cases_eq i (suc count)) [
        | inl same ↦ ([], rw same (append-nil (rows_from row 0 (suc count))))
        | inr other ↦
            let r = rest i count (omega arith) in
            (r.0 ++ row (0 + count), sym (append_assoc (rows_from row 0 i) r.0 (row (0 + count))) ∙ ap (λ (xs : List ℕ). xs ++ row (0 + count)) r.1)
      ]

  some-rows : (a b : Option (List ℕ)) (i count : ℕ) → i ≤ count → AppendsPrefix a b (first i) → AppendsPrefix a b (first count)
  some-rows a b i count within part =
      let r = rest i count within in
      subst (λ (xs : List ℕ). AppendsPrefix a b xs) (append_assoc map_header (rows_from row 0 i) r.0 ∙ ap (λ (xs : List ℕ). map_header ++ xs) r.1) (AppendsPrefix-longer a b (first i) r.0 part)

module _ {n m e : ℕ} (pcm : ModuleState n m e) where
  -- the rows of the first i lines are printed, by whatever ends the module's banks have
  abbrev pub IsMapped : ℕ → Reserved → (before now : Option (List ℕ)) → Type 0
  IsMapped i text before now =
      (ends : ℕ → BankEnd) → AreEndsOf pcm ends → Printed before now text (map_header ++ rows_from (standing_line pcm.shape pcm.seed ends) 0 i)

  pub mapped-none : (text : Reserved) (before : Option (List ℕ)) → text ≡ appended (reserved 65536) map_header → IsMapped 0 text before before
  mapped-none text before is ends are =
      subst (λ (xs : List ℕ). Printed before before text xs) (sym (append-nil map_header))
      (subst (λ (t : Reserved). Printed before before t map_header) (sym is) (printed-first before map_header))

  pub mapped-more : (i : ℕ) (old mid new : Reserved) (before was now : Option (List ℕ)) (text : List ℕ) → IsMapped i old before was
      → ((before : Option (List ℕ)) (whole : List ℕ) → Printed before was old whole → Printed before now mid whole)
      → new ≡ appended mid text → ((ends : ℕ → BankEnd) → AreEndsOf pcm ends → text ≡ standing_line pcm.shape pcm.seed ends i) → IsMapped (i + 1) new before now
  mapped-more i old mid new before was now text had stays is says ends are =
      let row = standing_line pcm.shape pcm.seed ends in
      let own : new ≡ appended mid (row i) = is ∙ ap (appended mid) (says ends are) in
      subst (λ (t : Reserved). Printed before now t (first row (i + 1))) (sym own)
      (subst (λ (xs : List ℕ). Printed before now (appended mid (row i)) xs) (next row i)
      (printed-more before now mid (first row i) (row i) (stays before (first row i) (had ends are))))

  -- at a fault first bytes of the whole map were written
  pub mapped-part : (i : ℕ) (text : Reserved) (before was now : Option (List ℕ)) → i ≤ total_of pcm.shape → IsMapped i text before was
      → ((before : Option (List ℕ)) (whole : List ℕ) → Printed before was text whole → AppendsPrefix before now whole)
      → (ends : ℕ → BankEnd) → AreEndsOf pcm ends → AppendsPrefix before now (standing_map pcm.shape pcm.seed ends)
  mapped-part i text before was now within had part ends are =
      let row = standing_line pcm.shape pcm.seed ends in
      some-rows row before now i (total_of pcm.shape) within (part before (first row i) (had ends are))

  -- at the end the whole map is
  pub mapped-whole : (i : ℕ) (text : Reserved) (before was now : Option (List ℕ)) → i ≡ total_of pcm.shape → IsMapped i text before was
      → ((before : Option (List ℕ)) (whole : List ℕ) → Printed before was text whole → Appends before now whole)
      → (ends : ℕ → BankEnd) → AreEndsOf pcm ends → Appends before now (standing_map pcm.shape pcm.seed ends)
  mapped-whole i text before was now all had writes ends are =
      let row = standing_line pcm.shape pcm.seed ends in
      subst (λ (k : ℕ). Appends before now (first row k)) all (writes before (first row i) (had ends are))
