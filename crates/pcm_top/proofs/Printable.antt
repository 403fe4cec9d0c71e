-- That each row of a right run can be printed.
use Rattle.std.proofs.Common.{◌≡◌, ℕ, ◌≤◌, List, length, Some, ap, ◌∙◌, subst, arith, reverse}
use Rattle.std.{specs.Prelude.{slice_get, All}, proofs.lemmas.List.reverse-reverse, proofs.lemmas.List.Elements.All-get_or}
use Rattle.std.proofs.lemmas.Option.{get_or_from_slice_get, slice_get_within}
use Rattle.check_laws.proofs.Soon.{All-reverse}
use Rattle.check_text.proofs.Asked.{own-op}
use Rattle.trace_rows.{specs.Rows.{row_of, rows_with}, proofs.Lines.{lines-exist as rows-exist, row-at}}
use Rattle.cell_rows.specs.Device.{ArrayState}
use Rattle.trace_reader.{specs.Events.{AreEventsFor, IsOpFor}, specs.declared.event.Event.Event, specs.declared.event.EventOp.EventOp, proofs.Lawful.AreEventsFor-at}
use Rattle.trace_reader.specs.declared.event.EventOp.TheVariants as op
use Rattle.result_rows.specs.{Outcomes.op_of, declared.Outcome.Outcome}
use Rattle.row_rules.specs.{Lines.IsOfLines, Rows.op_asked, declared.Row.Row}
use Rattle.module_shape.specs.{Limits.{IsSmall, total_of}, declared.raw.RawShape.RawShape}
use Rattle.right_runs.specs.{Ends.BankEnd, Runs.RunsRight}
use Rattle.run_laws.specs.RowsOfRuns.{LinesExist, OwnOutcomesLaw}
use Rattle.run_text.specs.ResultText.{ArePrintable, named_line}
use Rattle.pcm_top.specs.Rows.{rows_of}

module _ {n : ℕ} where
  -- what every row of a run's table is, the row of each event is
  pub row-of-event : (P : Row n → Type 0) (events : List (Event n)) (outcomes : List (Outcome n)) (i : ℕ) (event : Event n) (outcome : Outcome n)
      → slice_get events i ≡ Some event → slice_get outcomes i ≡ Some outcome → All P (rows_of events outcomes) → P (row_of event outcome)
  row-of-event P events outcomes i event outcome at is all =
      let rows : List (Row n) = rows_with events outcomes in
      let each : All P rows = subst (All P) (reverse-reverse rows) (All-reverse P (reverse rows) all) in
      let row : Row n = row_of event outcome in
      let here : slice_get rows i ≡ Some row = row-at events outcomes i event outcome at is in
      subst P (get_or_from_slice_get rows i row row here) (All-get_or P rows i row (slice_get_within rows i row here) each)

  pub lines-exist : (raw : RawShape) (events : List (Event n)) (outcomes : List (Outcome n)) → AreEventsFor (total_of raw) 0 events
      → LinesExist raw (rows_of events outcomes)
  lines-exist raw events outcomes lawful =
      All-reverse (λ (r : Row n). IsOfLines (total_of raw) r.asks) (rows_with events outcomes) (rows-exist (total_of raw) 0 events outcomes lawful)

  small-line : (lines : ℕ) (o : EventOp n) → lines ≤ 65536 → IsOpFor lines o → named_line o ≤ 65535
  small-line lines (op.Read line) few h = omega arith
  small-line lines (op.Write line bytes) few h = omega (arith, h.0)
  small-line lines (op.Mask line bytes given) few h = omega (arith, h.0)
  small-line lines op.Cut few h = omega arith

  -- each row of a right run has an outcome with which it can be printed
  pub are-printable : {m : ℕ} (e : ℕ) (raw : RawShape) (seed : ℕ) (events : List (Event n)) (outcomes : List (Outcome n)) (array : ArrayState n m) (ends : ℕ → BankEnd)
      → OwnOutcomesLaw → IsSmall raw → AreEventsFor (total_of raw) 0 events → length outcomes ≡ length events
      → RunsRight e raw seed (rows_of events outcomes) array ends → ArePrintable events outcomes
  are-printable {m} e raw seed events outcomes array ends own small lawful size right = record {
    one_each = size;
    each = λ i event outcome at is.
        let rows = rows_of events outcomes in
        let mine = row-of-event (λ r. op_of r.outcome ≡ Some (op_asked r.asks)) events outcomes i event outcome at is (own n m e raw seed rows array ends right) in
        record {
          belongs = mine ∙ ap Some (own-op event.op);
          line = small-line (total_of raw) event.op small.few_in_all ((AreEventsFor-at (total_of raw) 0 events i event lawful at).0);
        };
  }
