-- What one row more makes of a printer.
use Rattle.std.proofs.Common.{◌≡◌, ℕ, ◌+◌, ◌-◌, ◌<◌, ◌≤◌, List, [], ◌∷◌, ◌++◌, length, replicate, refl, sym, ap, ◌∙◌, arith}
use Rattle.std.proofs.lemmas.List.{length-replicate, replicate-append-replicate, set-append_left}
use Rattle.result_rows.{specs.Table.with_outcome, specs.declared.Outcome.Outcome, specs.declared.Outcome.TheVariants.Unset, proofs.TableLemmas.length-with_outcome}
use Rattle.run_text.specs.{Counting.counts_of, declared.counts.OutcomeCounts.OutcomeCounts}
use Rattle.row_printer.{specs.Printing.table_of, specs.Telling.{outcomes_in, recorded, TellsOnce}, specs.declared.told.Told.Told, proofs.Counted.counts-open}

module _ {n : ℕ} where
  -- what was told once of some rows was told once of one more
  pub once-wider : (most : ℕ) (told : List (ℕ × Outcome n)) → TellsOnce most told → TellsOnce (most + 1) told
  once-wider most [] once = once
  once-wider most (one ∷ told) once =
      let within : one.0 ≤ most = once.1 in
      (once.0, omega (arith, within), once.2, once.3, once-wider most told once.4)

  -- outcomes of the rows before leave one more that is open as it is
  recorded-open : (most : ℕ) (told : List (ℕ × Outcome n)) (table : List (Outcome n)) → TellsOnce most told → length table ≡ most
      → recorded told (table ++ Unset ∷ []) ≡ recorded told table ++ Unset ∷ []
  recorded-open most [] table once size = refl
  recorded-open most (one ∷ told) table once size =
      let above : 1 ≤ one.0 = once.0 in
      let within : one.0 ≤ most = once.1 in
      let inside : one.0 - 1 < length table = omega (arith, above, within, size) in
      ap (λ (xs : List (Outcome n)). recorded told xs) (set-append_left table (Unset ∷ []) (one.0 - 1) one.1 inside)
      ∙ recorded-open most told (with_outcome table one.0 one.1) once.4 (length-with_outcome table one.0 one.1 ∙ size)

  -- the table has one row more, which is open
  pub table-longer : (rows : ℕ) (told : List (Told n)) → TellsOnce rows (outcomes_in told) → table_of (rows + 1) told ≡ table_of rows told ++ Unset ∷ []
  table-longer rows told once =
      let none : Outcome n = Unset in
      let one_more : replicate (rows + 1) none ≡ replicate rows none ++ none ∷ [] = sym (replicate-append-replicate rows 1 none) in
      ap (λ (xs : List (Outcome n)). recorded (outcomes_in told) xs) one_more
      ∙ recorded-open rows (outcomes_in told) (replicate rows Unset) once (length-replicate rows Unset)

  -- and isn't counted
  pub counted-longer : (rows : ℕ) (told : List (Told n)) (counts : OutcomeCounts) → TellsOnce rows (outcomes_in told) → counts ≡ counts_of (table_of rows told)
      → counts ≡ counts_of (table_of (rows + 1) told)
  counted-longer rows told counts once is =
      is ∙ sym (counts-open (table_of rows told)) ∙ ap (λ (xs : List (Outcome n)). counts_of xs) (sym (table-longer rows told once))
