-- Which row is that of an event, and the lines that the rows of a trace ask for.
use Rattle.std.proofs.Common.{◌≡◌, ℕ, zero, suc, List, [], ◌∷◌, Some, refl}
use Rattle.std.{specs.Prelude.{slice_get, All}, proofs.lemmas.List.Elements.{All-nil, All-cons}}
use Rattle.trace_reader.specs.{Events.{AreEventsFor, IsOpFor}, declared.event.Event.Event, declared.event.EventOp.EventOp}
use Rattle.trace_reader.specs.declared.event.EventOp.TheVariants.{Read, Write, Mask, Cut}
use Rattle.result_rows.specs.declared.Outcome.{Outcome}
use Rattle.row_rules.specs.{Lines.IsOfLines, declared.Row.Row}
use Rattle.trace_rows.specs.Rows.{asks_of, row_of, rows_with}

module _ {n : ℕ} where
  -- the row of an event
  pub row-at : (events : List (Event n)) (outcomes : List (Outcome n)) (i : ℕ) (event : Event n) (outcome : Outcome n)
      → slice_get events i ≡ Some event → slice_get outcomes i ≡ Some outcome → slice_get (rows_with events outcomes) i ≡ Some (row_of event outcome)
  row-at [] outcomes i event outcome at is = absurd (cc at)
  row-at (first ∷ events) [] i event outcome at is = absurd (cc is)
  row-at (first ∷ events) (own ∷ outcomes) zero event outcome at is =
      let same : first ≡ event = cc in
      let alike : own ≡ outcome = cc in
      rw (same, alike) refl
  row-at (first ∷ events) (own ∷ outcomes) (suc i) event outcome at is = row-at events outcomes i event outcome at is

  -- a lawful operation asks for a line that exists
  pub of-lines : (lines : ℕ) (op : EventOp n) → IsOpFor lines op → IsOfLines lines (asks_of op)
  of-lines lines (Read line) h = h
  of-lines lines (Write line bytes) h = h.0
  of-lines lines (Mask line bytes given) h = h.0
  of-lines lines Cut h = tt

  -- and so does each row of a lawful trace
  pub lines-exist : (lines before : ℕ) (events : List (Event n)) (outcomes : List (Outcome n)) → AreEventsFor lines before events
      → All (λ r. IsOfLines lines r.asks) (rows_with events outcomes)
  unfolding AreEventsFor
  lines-exist lines before [] outcomes h = All-nil (λ (r : Row n). IsOfLines lines r.asks)
  lines-exist lines before (event ∷ events) [] h = All-nil (λ (r : Row n). IsOfLines lines r.asks)
  lines-exist lines before (event ∷ events) (outcome ∷ outcomes) h =
      All-cons (λ (r : Row n). IsOfLines lines r.asks) (row_of event outcome) (rows_with events outcomes)
      (of-lines lines event.op h.0.op) (lines-exist lines event.tick events outcomes h.1)
