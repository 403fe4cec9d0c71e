-- The pieces of an image are the image.
use Rattle.std.proofs.Common.{◌≡◌, ℕ, ◌≤◌, List, [], ◌++◌, Option, take, drop, sym, ap, subst, ◌∙◌, append_assoc, arith}
use Rattle.std.{specs.List.flat_map, proofs.lemmas.Grind.flat_map-append, proofs.lemmas.List.take-append-drop, proofs.lemmas.List.FromFn.take-map-range_with_len}
use Rattle.cell_rows.specs.Device.{ArrayState}
use Rattle.power_recovery.specs.Kept.{KeptState}
use Rattle.module_shape.specs.declared.raw.RawShape.{RawShape}
use Rattle.pcm_image.specs.{Saved.Saved, Spelling.{bank_bytes, cells_bytes, head_bytes, image_bytes}}
use Rattle.right_images.specs.Saving.{first_rows, head_of, saved_banks, saved_cells, saved_of}
use Rattle.image_text.proofs.Whole.{head-pieces, rows-pieces}
use Rattle.text_printer.{specs.Printing.{Holds, Prints}, specs.declared.printer.Printer.Printer, proofs.Printed.prints-then}

-- the rest of the cells behind those of the first lines
abbrev pub rest_of : {n m : ℕ} → ArrayState n m → ℕ → List ℕ
rest_of array count = flat_map cells_bytes (drop count (saved_cells array array.lines))

cells-rest : {n m : ℕ} (array : ArrayState n m) (count : ℕ) → count ≤ array.lines
    → flat_map cells_bytes (saved_cells array count) ++ rest_of array count ≡ flat_map cells_bytes (saved_cells array array.lines)
cells-rest array count exist =
    ap (λ cells. flat_map cells_bytes cells ++ rest_of array count) (sym (take-map-range_with_len (λ line. (array.line line).held) 0 array.lines count exist))
    ∙ sym (flat_map-append cells_bytes (take count (saved_cells array array.lines)) (drop count (saved_cells array array.lines)))
    ∙ ap (flat_map cells_bytes) (take-append-drop count (saved_cells array array.lines))

module _ (n : ℕ) {m : ℕ} (given raw : RawShape) (seed : ℕ) (keeps : ℕ → KeptState n) (array : ArrayState n m) (same : given ≡ raw) where
  abbrev saved : Saved n m
  saved = saved_of raw seed keeps array

  abbrev head : List ℕ
  head = head_bytes n (head_of given seed)

  abbrev banks : List ℕ
  banks = flat_map bank_bytes (saved_banks keeps raw.banks)

  -- an image with its first lines alone is first bytes of the whole
  pub image-rest : (count : ℕ) → count ≤ array.lines → image_bytes (first_rows count saved) ++ rest_of array count ≡ image_bytes saved
  image-rest count exist =
      let cells = flat_map cells_bytes (saved_cells array count) in
      ap (λ x. x ++ rest_of array count) (sym (rows-pieces n count given raw seed keeps array exist same))
      ∙ append_assoc head (banks ++ cells) (rest_of array count)
      ∙ ap (λ x. head ++ x) (append_assoc banks cells (rest_of array count) ∙ ap (λ x. banks ++ x) (cells-rest array count exist))
      ∙ head-pieces n given raw seed keeps array same

  -- one with all lines is the whole
  pub image-all : (count : ℕ) → count ≡ array.lines → image_bytes (first_rows count saved) ≡ image_bytes saved
  image-all count all = rw all (sym (rows-pieces n array.lines given raw seed keeps array (omega arith) same) ∙ head-pieces n given raw seed keeps array same)

  -- what is printed once its pieces are
  pub image-printed : {K : Type 0} (written : K → Option (List ℕ)) (faults : K → ℕ) (a b c d : Printer K) (was : Option (List ℕ)) (since count : ℕ) → count ≤ array.lines
      → Holds written faults was since a [] → Prints written faults a b head → Prints written faults b c banks → Prints written faults c d (flat_map cells_bytes (saved_cells array count))
      → Holds written faults was since d (image_bytes (first_rows count saved))
  image-printed written faults a b c d was since count exist had first second third =
      subst (λ x. Holds written faults was since d x) (rows-pieces n count given raw seed keeps array exist same)
      ((prints-then written faults a b d head _ first (prints-then written faults b c d banks _ second third)).more was since [] had)
