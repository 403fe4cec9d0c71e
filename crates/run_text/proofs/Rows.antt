-- How the rows of the results are printed, one after the other.
use Rattle.std.proofs.Common.{◌≡◌, ℕ, suc, ◌+◌, ◌≤◌, List, [], ◌∷◌, ◌++◌, length, drop, true, Option, Some, refl, sym, ap, ◌∙◌, arith, append_assoc}
use Rattle.std.{specs.Prelude.slice_get, proofs.Math.Seq.drop-cons, proofs.lemmas.List.{append-nil, drop_all}, proofs.lemmas.Option.{get_or_from_slice_get, slice_get_within}}
use Rattle.trace_reader.specs.declared.event.Event.{Event}
use Rattle.result_rows.specs.{RowText.{header_text, row_text}, declared.Outcome.Outcome}
use Rattle.text_printer.{specs.Printing.Prints, specs.declared.printer.Printer.Printer, proofs.Printed.{prints-none, prints-same, prints-stopped, prints-then}}
use Rattle.run_text.specs.ResultText.{asked, named_line, results_text, rows_text}

module _ {n : ℕ} (events : List (Event n)) (outcomes : List (Outcome n)) where
  pub rows-whole : header_text ++ rows_text 1 events outcomes ≡ results_text events outcomes
  unfolding results_text
  rows-whole = refl

  -- the rows from this one on
  abbrev pub rows_from : ℕ → List ℕ
  rows_from i = rows_text (i + 1) (drop i events) (drop i outcomes)

  row-next : (i : ℕ) (event : Event n) (outcome : Outcome n) → slice_get events i ≡ Some event → slice_get outcomes i ≡ Some outcome
      → row_text (i + 1) (asked event.op) (named_line event.op) outcome ++ rows_from (i + 1) ≡ rows_from i
  unfolding rows_text
  row-next i event outcome e o = rw (drop-next events i event e, drop-next outcomes i outcome o) refl
    where
      drop-next : {A : Type 0} (xs : List A) (i : ℕ) (x : A) → slice_get xs i ≡ Some x → drop i xs ≡ x ∷ drop (i + 1) xs
      drop-next xs i x at =
          let within = slice_get_within xs i x at in
          let one : i + 1 ≡ suc i = omega arith in
          rw one (drop-cons xs i x within ∙ ap (λ y. y ∷ drop (suc i) xs) (get_or_from_slice_get xs i x x at))

  module _ {K : Type 0} (written : K → Option (List ℕ)) (faults : K → ℕ) where
    -- the first i rows are printed, and the rows behind them are left
    pub record HasRows (i : ℕ) (old new : Printer K) : Type 0 where
      pub so_far : List ℕ
      pub prints : Prints written faults old new so_far
      pub is : so_far ++ rows_from i ≡ rows_text 1 events outcomes

    pub rows-none : (a : Printer K) → HasRows 0 a a
    rows-none a = record { so_far = []; prints = prints-none written faults a; is = refl }

    -- one row more
    pub rows-more : (i : ℕ) (a b c : Printer K) (event : Event n) (outcome : Outcome n) → slice_get events i ≡ Some event → slice_get outcomes i ≡ Some outcome → HasRows i a b
        → Prints written faults b c (row_text (i + 1) (asked event.op) (named_line event.op) outcome) → HasRows (i + 1) a c
    rows-more i a b c event outcome e o h row = record {
      so_far = h.so_far ++ row_text (i + 1) (asked event.op) (named_line event.op) outcome;
      prints = prints-then written faults a b c h.so_far _ h.prints row;
      is = append_assoc h.so_far _ (rows_from (i + 1)) ∙ ap (λ (xs : List ℕ). h.so_far ++ xs) (row-next i event outcome e o) ∙ h.is;
    }

    -- all of them are, behind the last one or a fault
    pub rows-all : (i : ℕ) (a b : Printer K) → length events ≤ i → HasRows i a b → Prints written faults a b (rows_text 1 events outcomes)
    unfolding rows_text
    rows-all i a b all h =
        prints-same written faults a b h.so_far (rows_text 1 events outcomes)
        (sym (append-nil h.so_far) ∙ sym (ap (λ (es : List (Event n)). h.so_far ++ rows_text (i + 1) es (drop i outcomes)) (drop_all i events all)) ∙ h.is) h.prints

    pub rows-stopped : (i : ℕ) (a b : Printer K) → b.failed ≡ true → HasRows i a b → Prints written faults a b (rows_text 1 events outcomes)
    rows-stopped i a b failed h = prints-same written faults a b _ (rows_text 1 events outcomes) h.is (prints-stopped written faults a b h.so_far (rows_from i) failed h.prints)
