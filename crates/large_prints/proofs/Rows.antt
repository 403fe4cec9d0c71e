-- The array lines of a large module, as they are printed one after the other.
use Rattle.std.proofs.Common.{◌≡◌, ℕ, ◌+◌, ◌<◌, ◌≤◌, inl, inr, arith, true, false, cond, List, Option, drop, ◌∷◌, [], ◌++◌, length, sym, ap, ◌∙◌, append_assoc}
use Rattle.std.proofs.{lemmas.Bool.{cases_lt, le-leb, lt-leb, true≢false}, lemmas.List.{append-nil, take-append-drop}}
use Rattle.std.proofs.lemmas.List.FromFn.{length-map-range_with_len, map-range_with_len_more, take-map-range_with_len}
use Rattle.cell_rows.specs.{Device.{ArrayState, LineState}, declared.row.Cells.Cells}
use Rattle.pcm_image.specs.Spelling.{cells_bytes, u32}
use Rattle.large_image.specs.Spelling.{are_zero, end_mark, row_bytes, rows_bytes}
use Rattle.right_images.specs.Saving.{saved_cells}
use Rattle.image_text.specs.Sensing.{SensesRows}
use Rattle.large_prints.specs.Rows.{mark_behind, PrintsLargeRows}
use Rattle.text_printer.{specs.Printing.Prints, specs.declared.printer.Printer.Printer, proofs.Printed.{prints-same, prints-then}}

-- some lines, and those behind them
rows-append : {n m : ℕ} (line : ℕ) (xs ys : List (Cells n m)) → rows_bytes line (xs ++ ys) ≡ rows_bytes line xs ++ rows_bytes (line + length xs) ys
rows-append line [] ys = let same : line ≡ line + 0 = omega arith in ap (λ k. rows_bytes k ys) same
rows-append line (x ∷ xs) ys =
    let same : line + 1 + length xs ≡ line + length (x ∷ xs) = omega arith in
    ap (λ t. row_bytes line x ++ t) (rows-append (line + 1) xs ys ∙ ap (λ k. rows_bytes (line + 1) xs ++ rows_bytes k ys) same)
    ∙ sym (append_assoc (row_bytes line x) (rows_bytes (line + 1) xs) (rows_bytes (line + length (x ∷ xs)) ys))

-- the first lines of an array, and the one behind them
rows-more : {n m : ℕ} (array : ArrayState n m) (count : ℕ) (row : Cells n m) → row ≡ (array.line count).held
    → rows_bytes 0 (saved_cells array count) ++ row_bytes count row ≡ rows_bytes 0 (saved_cells array (count + 1))
rows-more {n} {m} array count row is =
    let cells = saved_cells array count in
    let held = (array.line count).held in
    let size : count ≡ 0 + length cells = omega (arith, length-map-range_with_len (λ line. (array.line line).held) 0 count) in
    ap (λ r. rows_bytes 0 cells ++ row_bytes count r) is
    ∙ ap (λ t. rows_bytes 0 cells ++ t) (sym (append-nil (row_bytes count held)))
    ∙ ap (λ k. rows_bytes 0 cells ++ rows_bytes k (held ∷ [])) size
    ∙ sym (rows-append 0 cells (held ∷ []))
    ∙ ap (rows_bytes 0) (sym (map-range_with_len_more (λ line. (array.line line).held) 0 count count (omega arith)))

-- so where that one was sensed behind them
pub rows-sensed : {n m : ℕ} (first old : ArrayState n m) (count : ℕ) (row : Cells n m) → row ≡ (old.line count).held → SensesRows count first old
    → rows_bytes 0 (saved_cells first count) ++ row_bytes count row ≡ rows_bytes 0 (saved_cells first (count + 1))
rows-sensed {n} {m} first old count row is senses = rows-more first count row (is ∙ ap (λ (line : LineState n m). line.held) (senses.since.line count))

-- the bytes of the first lines are first bytes of those of all
rows-rest : {n m : ℕ} (array : ArrayState n m) (count : ℕ) → count ≤ array.lines
    → (rest : List ℕ) × (rows_bytes 0 (saved_cells array count) ++ rest ≡ rows_bytes 0 (saved_cells array array.lines))
rows-rest {n} {m} array count exist =
    let cells = saved_cells array array.lines in
    let first = saved_cells array count in
    let behind = drop count cells in
    let whole : first ++ behind ≡ cells =
    ap (λ t. t ++ behind) (sym (take-map-range_with_len (λ line. (array.line line).held) 0 array.lines count exist)) ∙ take-append-drop count cells in
    (rows_bytes (0 + length first) behind, sym (rows-append 0 first behind) ∙ ap (rows_bytes 0) whole)

-- behind all lines stands the end mark
pub mark-behind-all : (lines : ℕ) → u32 end_mark ≡ mark_behind lines lines
mark-behind-all lines = ap (λ b. cond b (u32 end_mark) []) (sym (le-leb lines lines (omega arith)))

-- a line no cell of which is 1 is left out, and any other stands there
pub row-zero : {n m : ℕ} (line : ℕ) (row : Cells n m) → are_zero (cells_bytes row) ≡ true → [] ≡ row_bytes line row
row-zero line row is = ap (λ b. cond b [] (u32 line ++ cells_bytes row)) (sym is)

pub row-some : {n m : ℕ} (line : ℕ) (row : Cells n m) → are_zero (cells_bytes row) ≡ false → u32 line ++ cells_bytes row ≡ row_bytes line row
row-some line row is = ap (λ b. cond b [] (u32 line ++ cells_bytes row)) (sym is)

-- what is printed of the first lines is first bytes of what is printed of all lines and the end mark
pub lines-rest : {n m : ℕ} (array : ArrayState n m) (count : ℕ) → count ≤ array.lines
    → (rest : List ℕ) × ((rows_bytes 0 (saved_cells array count) ++ mark_behind array.lines count) ++ rest ≡ rows_bytes 0 (saved_cells array array.lines) ++ u32 end_mark)
lines-rest array count exist =
    let bytes = rows_bytes 0 (saved_cells array count) in
    let all = rows_bytes 0 (saved_cells array array.lines) in
    elim (cases_lt count array.lines) as (λ _. (rest : List ℕ) × ((bytes ++ mark_behind array.lines count) ++ rest ≡ all ++ u32 end_mark)) [
      | inl fewer ↦
          let none : bytes ++ mark_behind array.lines count ≡ bytes = ap (λ b. bytes ++ cond b (u32 end_mark) []) (lt-leb array.lines count fewer) ∙ append-nil bytes in
          let rest = rows-rest array count exist in
          (rest.0 ++ u32 end_mark, ap (λ t. t ++ (rest.0 ++ u32 end_mark)) none ∙ sym (append_assoc bytes rest.0 (u32 end_mark)) ∙ ap (λ t. t ++ u32 end_mark) rest.1)
      | inr more ↦
          let whole : count ≡ array.lines = omega (arith, more, exist) in (
            [],
            append-nil (bytes ++ mark_behind array.lines count)
                ∙ ap (λ k. rows_bytes 0 (saved_cells array k) ++ mark_behind array.lines k) whole ∙ ap (λ t. all ++ t) (sym (mark-behind-all array.lines)),
          )
    ]

-- what is printed of the first lines, and behind it nothing, or the end mark where these are all
module _ {K : Type 0} (written : K → Option (List ℕ)) (faults : K → ℕ) {n m : ℕ} (before after : ArrayState n m) (count : ℕ) (old now : Printer K) (senses : SensesRows count before after)
    (had : Prints written faults old now (rows_bytes 0 (saved_cells before count))) where
  -- a fault before the last line
  pub lines-some : count < before.lines → now.failed ≡ true → PrintsLargeRows written faults before after old now
  lines-some fewer failed = record {
    count = count;
    exist = omega (arith, fewer);
    senses = senses;
    prints = prints-same written faults old now _ _
        (sym (append-nil (rows_bytes 0 (saved_cells before count))) ∙ ap (λ b. rows_bytes 0 (saved_cells before count) ++ cond b (u32 end_mark) []) (sym (lt-leb before.lines count fewer))) had;
    all = λ none. absurd (true≢false (sym failed ∙ none));
  }

  -- and all of them
  pub lines-all : (new : Printer K) → count ≡ before.lines → Prints written faults now new (u32 end_mark) → PrintsLargeRows written faults before after old new
  lines-all new all mark = record {
    count = count;
    exist = omega (arith, all);
    senses = senses;
    prints = prints-then written faults old now new _ _ had (prints-same written faults now new _ _ (mark-behind-all before.lines ∙ ap (λ k. mark_behind before.lines k) (sym all)) mark);
    all = λ none. all;
  }
