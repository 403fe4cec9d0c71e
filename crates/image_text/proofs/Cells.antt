-- The cells of array lines as they are sensed one after the other.
use Rattle.std.proofs.Common.{◌≡◌, ℕ, ◌+◌, ◌∷◌, [], ◌++◌, sym, ap, ◌∙◌, arith}
use Rattle.std.{specs.List.flat_map, proofs.lemmas.Grind.flat_map-append, proofs.lemmas.List.append-nil, proofs.lemmas.List.FromFn.map-range_with_len_more}
use Rattle.cell_rows.specs.{Device.{ArrayState, LineState}, declared.row.Cells.Cells}
use Rattle.pcm_image.specs.Spelling.{cells_bytes}
use Rattle.right_images.specs.Saving.{saved_cells}
use Rattle.image_text.specs.Sensing.{SensesRows}

-- the cells of the first lines, and those of the one that was sensed behind them
pub cells-sensed : {n m : ℕ} (first old : ArrayState n m) (count : ℕ) (row : Cells n m) → row ≡ (old.line count).held → SensesRows count first old
    → flat_map cells_bytes (saved_cells first count) ++ cells_bytes row ≡ flat_map cells_bytes (saved_cells first (count + 1))
cells-sensed {n} {m} first old count row is senses =
    let cells = saved_cells first count in
    let held = (first.line count).held in
    ap (λ r. flat_map cells_bytes cells ++ cells_bytes r) (is ∙ ap (λ (line : LineState n m). line.held) (senses.since.line count))
    ∙ ap (λ t. flat_map cells_bytes cells ++ t) (sym (append-nil (cells_bytes held)))
    ∙ sym (flat_map-append cells_bytes cells (held ∷ []))
    ∙ ap (flat_map cells_bytes) (sym (map-range_with_len_more (λ line. (first.line line).held) 0 count count (omega arith)))
