-- The text of a run's results by the rows that are read.
use Rattle.std.proofs.Common.{◌≡◌, ℕ, ◌+◌, List, [], ◌∷◌, ◌++◌, refl, ap}
use Rattle.trace_reader.specs.declared.event.Event.{Event}
use Rattle.result_rows.specs.{RowText.{header_text, row_text}, declared.Outcome.Outcome}
use Rattle.result_rows.specs.RowText as rows
use Rattle.check_reader.specs.ResultRows.{rows_of}
use Rattle.run_text.specs.ResultText.{asked, named_line, rows_text, results_text}
use Rattle.check_text.specs.{Checked.asks_in, PrintedLaw.PrintedLaw}

same_rows : {n : ℕ} (row : ℕ) (events : List (Event n)) (outcomes : List (Outcome n)) → rows_text row events outcomes ≡ rows.rows_text row (rows_of (asks_in events) outcomes)
unfolding rows_text rows_of
same_rows row [] outcomes = refl
same_rows row (event ∷ events) [] = refl
same_rows row (event ∷ events) (outcome ∷ outcomes) =
    ap (λ (rest : List ℕ). row_text row (asked event.op) (named_line event.op) outcome ++ rest) (same_rows (row + 1) events outcomes)

pub printed_law : PrintedLaw
unfolding results_text
printed_law n events outcomes each = record {
  each = each;
  text = ap (λ (rest : List ℕ). header_text ++ rest) (same_rows 1 events outcomes);
}
