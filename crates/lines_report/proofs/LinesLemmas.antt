-- How the report on array lines comes about, row by row.
use Rattle.std.proofs.Common.{◌≡◌, ℕ, suc, ◌+◌, List, [], ◌∷◌, ◌++◌, length, Option, refl, sym, ap, subst, ◌∙◌, arith, add-zero, append_assoc}
use Rattle.std.{specs.List.join_with_byte, specs.Prelude.codes, proofs.lemmas.List.append-nil}
use Rattle.pcm_io.{specs.Giving.AppendsPrefix, specs.Reserved.{Reserved, appended}, proofs.ByteLemmas.AppendsPrefix-longer}
use Rattle.bank_shape.specs.declared.Role.{Role}
use Rattle.run_text.{specs.Gathering.Printed, proofs.Gathered.printed-more}
use Rattle.lines_report.specs.{LinesText.{lines_header_text, lines_row_text, lines_rows_text, lines_text}, declared.row.LineCells.LineCells}

-- eight fields of which the sixth and the seventh were pushed as one, with commas between and LF at the end
pub pieces-lines : (t : Reserved) (a b c d p s k e : List ℕ) →
    appended (appended (appended (appended (appended (appended (appended (appended (appended (appended t (a ++ codes ",")) (b ++ codes ",")) (c ++ codes ",")) d) (codes ","))
    (p ++ codes ",")) (s ++ codes "," ++ k)) (codes ",")) e) (codes "\n")
    ≡ appended t (join_with_byte 44 (a ∷ b ∷ c ∷ d ∷ p ∷ s ∷ k ∷ e ∷ []) ++ codes "\n")
pieces-lines t a b c d p s k e = simp append_assoc

module _ (cells : ℕ → LineCells) where
  -- the rows of two lists
  rows-append : (array_line : ℕ) (first second : List (ℕ × ℕ × Role))
      → lines_rows_text cells array_line (first ++ second) ≡ lines_rows_text cells array_line first ++ lines_rows_text cells (array_line + length first) second
  rows-append array_line [] second = rw (add-zero array_line) refl
  rows-append array_line (r ∷ rest) second =
      let number : (array_line + 1) + length rest ≡ array_line + suc (length rest) = omega arith in
      let later : lines_rows_text cells (array_line + 1) (rest ++ second) ≡ lines_rows_text cells (array_line + 1) rest ++ lines_rows_text cells (array_line + suc (length rest)) second =
      rw number at (rows-append (array_line + 1) rest second) in
      rw later (sym (append_assoc (lines_row_text array_line r.0 r.1 r.2 (cells array_line)) (lines_rows_text cells (array_line + 1) rest) (lines_rows_text cells (array_line + suc (length rest)) second)))

  text-append : (first second : List (ℕ × ℕ × Role)) → lines_text cells (first ++ second) ≡ lines_text cells first ++ lines_rows_text cells (length first) second
  text-append first second =
      let zero_more : 0 + length first ≡ length first = omega arith in
      let rows : lines_rows_text cells 0 (first ++ second) ≡ lines_rows_text cells 0 first ++ lines_rows_text cells (length first) second = rw zero_more at (rows-append 0 first second) in
      ap (λ (xs : List ℕ). lines_header_text ++ xs) rows ∙ sym (append_assoc lines_header_text (lines_rows_text cells 0 first) (lines_rows_text cells (length first) second))

  -- one row more
  text-more : (rows : List (ℕ × ℕ × Role)) (array_line bank pulses : ℕ) (role : Role) (mine : LineCells) → length rows ≡ array_line → cells array_line ≡ mine
      → lines_text cells rows ++ lines_row_text array_line bank pulses role mine ≡ lines_text cells (rows ++ (bank, pulses, role) ∷ [])
  text-more rows array_line bank pulses role mine count is =
      ap (λ w. lines_text cells rows ++ lines_row_text array_line bank pulses role w) (sym is)
      ∙ ap (λ n. lines_text cells rows ++ lines_row_text n bank pulses role (cells n)) (sym count)
      ∙ ap (λ (xs : List ℕ). lines_text cells rows ++ xs) (sym (append-nil (lines_row_text (length rows) bank pulses role (cells (length rows)))))
      ∙ sym (text-append rows ((bank, pulses, role) ∷ []))

  pub printed-row : (a b : Option (List ℕ)) (old new : Reserved) (rows : List (ℕ × ℕ × Role)) (array_line bank pulses : ℕ) (role : Role) (mine : LineCells)
      → new ≡ appended old (lines_row_text array_line bank pulses role mine) → length rows ≡ array_line → cells array_line ≡ mine → Printed a b old (lines_text cells rows)
      → Printed a b new (lines_text cells (rows ++ (bank, pulses, role) ∷ []))
  printed-row a b old new rows array_line bank pulses role mine is count told h =
      subst (λ (t : Reserved). Printed a b t (lines_text cells (rows ++ (bank, pulses, role) ∷ []))) (sym is)
      (subst (λ (xs : List ℕ). Printed a b (appended old (lines_row_text array_line bank pulses role mine)) xs) (text-more rows array_line bank pulses role mine count told)
      (printed-more a b old (lines_text cells rows) (lines_row_text array_line bank pulses role mine) h))

  -- first bytes of the rows so far are first bytes of the report, whatever rows come behind them
  pub text-part : (a b : Option (List ℕ)) (rows later : List (ℕ × ℕ × Role)) → AppendsPrefix a b (lines_text cells rows) → AppendsPrefix a b (lines_text cells (rows ++ later))
  text-part a b rows later part =
      subst (λ (xs : List ℕ). AppendsPrefix a b xs) (sym (text-append rows later)) (AppendsPrefix-longer a b (lines_text cells rows) (lines_rows_text cells (length rows) later) part)
