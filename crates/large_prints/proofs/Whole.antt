-- The pieces of the image of a large module are the image.
use Rattle.std.proofs.Common.{◌≡◌, ℕ, ◌≤◌, Bool, List, [], ◌++◌, Option, length, sym, ap, subst, ◌∙◌, append_assoc, arith}
use Rattle.std.{specs.List.flat_map, specs.Prelude.{if◌then◌else◌, map}, proofs.lemmas.List.length-map}
use Rattle.std.proofs.lemmas.List.FromFn.{length-map-range_with_len, take-map-range_with_len}
use Rattle.cell_rows.specs.Device.{ArrayState}
use Rattle.spare_pool.specs.Table.{Table}
use Rattle.power_recovery.specs.Kept.{KeptState}
use Rattle.module_shape.specs.declared.raw.RawShape.{RawShape}
use Rattle.pcm_image.specs.Spelling.{entry_bytes, u8, u16, u32}
use Rattle.large_image.specs.Spelling.{bank_bytes, end_mark, head_bytes, large_bytes, large_front, region_bytes, rows_bytes}
use Rattle.right_images.specs.Saving.{first_rows, head_of, saved_bank, saved_banks, saved_cells, saved_entry, saved_of, saved_region}
use Rattle.large_prints.{specs.Rows.{large_to, mark_behind}, proofs.Rows.{lines-rest, mark-behind-all}}
use Rattle.text_printer.{specs.Printing.{Holds, Prints}, specs.declared.printer.Printer.Printer, proofs.Printed.prints-then}

-- the pieces of a bank
pub whole-bank : {n : ℕ} (kept : KeptState n) (table : Table) (exhausted : Bool) (mark used count : ℕ) → table ≡ kept.table → exhausted ≡ kept.exhausted → mark ≡ (if exhausted then 1 else 0) → used ≡ length table.replaced
    → count ≡ length kept.entries
    → (u8 mark ++ u16 used) ++ (flat_map u32 table.replaced ++ (flat_map region_bytes (map saved_region kept.regions) ++ (u16 count ++ flat_map entry_bytes (map saved_entry kept.entries))))
    ≡ bank_bytes (saved_bank kept)
whole-bank kept table exhausted mark used count same worn p q r =
    let rest = flat_map u32 table.replaced ++ (flat_map region_bytes (map saved_region kept.regions) ++ (u16 count ++ flat_map entry_bytes (map saved_entry kept.entries))) in
    let size : count ≡ length (map saved_entry kept.entries) = r ∙ sym (length-map kept.entries saved_entry) in
    append_assoc (u8 mark) (u16 used) rest
    ∙ ap (λ k. u8 k ++ (u16 used ++ rest)) (p ∙ ap (λ b. if b then 1 else 0) worn)
    ∙ ap (λ k. u8 (if kept.exhausted then 1 else 0) ++ (u16 k ++ rest)) q
    ∙ ap (λ t. u8 (if kept.exhausted then 1 else 0) ++ (u16 (length t.replaced) ++ (flat_map u32 t.replaced ++ (flat_map region_bytes (map saved_region kept.regions) ++ (u16 count ++ flat_map entry_bytes (map saved_entry kept.entries)))))) same
    ∙ ap (λ k. u8 (if kept.exhausted then 1 else 0) ++ (u16 (length kept.table.replaced) ++ (flat_map u32 kept.table.replaced ++ (flat_map region_bytes (map saved_region kept.regions) ++ (u16 k ++ flat_map entry_bytes (map saved_entry kept.entries)))))) size

-- the mark behind the lines is one behind all
mark-last : (head banks rows mark : List ℕ) → head ++ (banks ++ (rows ++ mark)) ≡ (head ++ (banks ++ rows)) ++ mark
mark-last head banks rows mark = ap (λ t. head ++ t) (sym (append_assoc banks rows mark)) ∙ sym (append_assoc head (banks ++ rows) mark)

module _ (n : ℕ) {m : ℕ} (given raw : RawShape) (seed : ℕ) (keeps : ℕ → KeptState n) (array : ArrayState n m) where
  abbrev banks : List ℕ
  banks = flat_map bank_bytes (saved_banks keeps raw.banks)

  abbrev front : RawShape → ℕ → List ℕ
  front sizes count = head_bytes n (head_of sizes seed) ++ (banks ++ rows_bytes 0 (saved_cells array count))

  -- those of an image with its first lines alone
  front-is : (count : ℕ) → count ≤ array.lines → front raw count ≡ large_front (first_rows count (saved_of raw seed keeps array))
  unfolding large_front
  front-is count exist =
      ap (λ cells. head_bytes n (head_of raw seed) ++ (banks ++ rows_bytes 0 cells)) (sym (take-map-range_with_len (λ line. (array.line line).held) 0 array.lines count exist))

  pub to-pieces : (count : ℕ) → count ≤ array.lines → given ≡ raw
      → head_bytes n (head_of given seed) ++ (banks ++ (rows_bytes 0 (saved_cells array count) ++ mark_behind array.lines count))
      ≡ large_to count (saved_of raw seed keeps array)
  to-pieces count exist same =
      let size : array.lines ≡ length (saved_cells array array.lines) = sym (length-map-range_with_len (λ line. (array.line line).held) 0 array.lines) in
      mark-last (head_bytes n (head_of given seed)) banks (rows_bytes 0 (saved_cells array count)) (mark_behind array.lines count)
      ∙ ap (λ r. front r count ++ mark_behind array.lines count) same
      ∙ ap (λ t. t ++ mark_behind array.lines count) (front-is count exist)
      ∙ ap (λ k. large_front (first_rows count (saved_of raw seed keeps array)) ++ mark_behind k count) size

  -- and those of a whole image
  pub head-pieces : given ≡ raw
      → head_bytes n (head_of given seed) ++ (banks ++ (rows_bytes 0 (saved_cells array array.lines) ++ u32 end_mark))
      ≡ large_bytes (saved_of raw seed keeps array)
  unfolding large_bytes large_front
  head-pieces same =
      mark-last (head_bytes n (head_of given seed)) banks (rows_bytes 0 (saved_cells array array.lines)) (u32 end_mark)
      ∙ ap (λ r. front r array.lines ++ u32 end_mark) same

  -- an image to the end of all its lines is whole
  pub image-all : (count : ℕ) → count ≡ array.lines → given ≡ raw → large_to count (saved_of raw seed keeps array) ≡ large_bytes (saved_of raw seed keeps array)
  image-all count all same =
      let pieces = head_bytes n (head_of given seed) in
      rw all (sym (to-pieces array.lines (omega arith) same)
      ∙ ap (λ t. pieces ++ (banks ++ (rows_bytes 0 (saved_cells array array.lines) ++ t))) (sym (mark-behind-all array.lines)) ∙ head-pieces same)

  -- and one to the end of some of them is first bytes of it
  pub image-rest : (count : ℕ) → count ≤ array.lines → given ≡ raw
      → (rest : List ℕ) × (large_to count (saved_of raw seed keeps array) ++ rest ≡ large_bytes (saved_of raw seed keeps array))
  image-rest count exist same =
      let head = head_bytes n (head_of given seed) in
      let lines = rows_bytes 0 (saved_cells array count) ++ mark_behind array.lines count in
      let rest = lines-rest array count exist in (
        rest.0,
        ap (λ x. x ++ rest.0) (sym (to-pieces count exist same)) ∙ append_assoc head (banks ++ lines) rest.0
            ∙ ap (λ x. head ++ x) (append_assoc banks lines rest.0 ∙ ap (λ x. banks ++ x) rest.1) ∙ head-pieces same,
      )

  -- what is printed once its pieces are
  pub image-printed : {K : Type 0} (written : K → Option (List ℕ)) (faults : K → ℕ) (a b c d : Printer K) (was : Option (List ℕ)) (since count : ℕ) → count ≤ array.lines → given ≡ raw
      → Holds written faults was since a [] → Prints written faults a b (head_bytes n (head_of given seed)) → Prints written faults b c banks
      → Prints written faults c d (rows_bytes 0 (saved_cells array count) ++ mark_behind array.lines count)
      → Holds written faults was since d (large_to count (saved_of raw seed keeps array))
  image-printed written faults a b c d was since count exist same had first second third =
      subst (λ x. Holds written faults was since d x) (to-pieces count exist same)
      ((prints-then written faults a b d _ _ first (prints-then written faults b c d _ _ second third)).more was since [] had)
