-- What the lines of a stream have to do with the results of a run of the same events with the same outcomes.
use Rattle.std.specs.{List.join_with_byte, Prelude.{◌≡◌, ℕ, ◌+◌, ◌≤◌, nat_lt, true, if◌then◌else◌, List, [], ◌∷◌, ◌++◌, length, map, take, drop, codes}}
use Rattle.trace_reader.specs.declared.event.Event.{Event}
use Rattle.result_rows.specs.{RowText.{row_fields, row_text}, declared.Op.Op, declared.Outcome.Outcome}
use Rattle.run_text.specs.ResultText.{asked, named_line, rows_text}
use Rattle.row_printer.specs.{Printing.table_of, Telling.{became, outcomes_in, tells, told_row, told_text, TellsOnce}, declared.told.Told.Told}

-- a line of these fields, and all lines of such
abbrev pub line_text : List (List ℕ) → List ℕ
line_text fields = join_with_byte 44 fields ++ codes "\n"

abbrev pub lines_text : List (List (List ℕ)) → List ℕ
lines_text [] = []
lines_text (fields ∷ rest) = line_text fields ++ lines_text rest

-- a row of results without its second field, the operation, and its third, the line
abbrev pub without_op_and_line : List (List ℕ) → List (List ℕ)
without_op_and_line fields = take 1 fields ++ drop 3 fields

module _ {n : ℕ} where
  -- the fields of the results, numbered from this row on
  abbrev pub result_fields : ℕ → List (Event n) → List (Outcome n) → List (List (List ℕ))
  result_fields row [] outcomes = []
  result_fields row (event ∷ events) [] = []
  result_fields row (event ∷ events) (outcome ∷ outcomes) =
      row_fields row (asked event.op) (named_line event.op) outcome ∷ result_fields (row + 1) events outcomes

  -- outcomes sorted by the numbers of their rows: one more stands before the first with a greater number
  abbrev pub put_in : ℕ × Outcome n → List (ℕ × Outcome n) → List (ℕ × Outcome n)
  put_in one [] = one ∷ []
  put_in one (next ∷ rest) = if nat_lt one.0 next.0 then one ∷ next ∷ rest else next ∷ put_in one rest

  abbrev pub in_order : List (ℕ × Outcome n) → List (ℕ × Outcome n)
  in_order [] = []
  in_order (one ∷ rest) = put_in one (in_order rest)

-- the line that tells an outcome is its row's line of the results without operation and line
abbrev pub LineLaw : Type 0
LineLaw = (n row line : ℕ) (op : Op) (outcome : Outcome n) → (row_text row op line outcome ≡ line_text (row_fields row op line outcome))
    × (told_row row outcome ≡ line_text (without_op_and_line (row_fields row op line outcome)))

-- the rows of a run's results are the lines of these fields
abbrev pub ResultLaw : Type 0
ResultLaw = (n row : ℕ) (events : List (Event n)) (outcomes : List (Outcome n)) → rows_text row events outcomes ≡ lines_text (result_fields row events outcomes)

-- where a stream told the outcome of each event once, its lines, sorted by the rows' numbers, are those of the results without operation and line
abbrev pub SortedLaw : Type 0
SortedLaw = (n : ℕ) (events : List (Event n)) (told : List (Told n)) → TellsOnce (length events) (outcomes_in told)
    → ((row : ℕ) → 1 ≤ row → row ≤ length events → tells (outcomes_in told) row ≡ true)
    → told_text (became (in_order (outcomes_in told))) ≡ lines_text (map without_op_and_line (result_fields 1 events (table_of (length events) told)))
