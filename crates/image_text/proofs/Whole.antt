-- The pieces of an image are the image.
use Rattle.std.proofs.Common.{◌≡◌, ℕ, ◌≤◌, Bool, ◌++◌, length, sym, ap, ◌∙◌, append_assoc}
use Rattle.std.{specs.List.flat_map, specs.Prelude.{if◌then◌else◌, map}, proofs.lemmas.List.length-map, proofs.lemmas.List.FromFn.take-map-range_with_len}
use Rattle.cell_rows.specs.Device.{ArrayState}
use Rattle.spare_pool.specs.Table.{Table}
use Rattle.power_recovery.specs.Kept.{KeptState}
use Rattle.module_shape.specs.declared.raw.RawShape.{RawShape}
use Rattle.pcm_image.specs.Spelling.{bank_bytes, cells_bytes, entry_bytes, head_bytes, image_bytes, region_bytes, u8, u16, u32}
use Rattle.right_images.specs.Saving.{first_rows, head_of, saved_bank, saved_banks, saved_cells, saved_entry, saved_of, saved_region}

-- the pieces of a bank
pub whole-bank : {n : ℕ} (kept : KeptState n) (table : Table) (exhausted : Bool) (mark used count : ℕ) → table ≡ kept.table → exhausted ≡ kept.exhausted → mark ≡ (if exhausted then 1 else 0) → used ≡ length table.replaced → count ≡ length kept.entries
    → (u8 mark ++ u16 used) ++ (flat_map u32 table.replaced ++ (flat_map region_bytes (map saved_region kept.regions) ++ (u16 count ++ flat_map entry_bytes (map saved_entry kept.entries))))
    ≡ bank_bytes (saved_bank kept)
whole-bank kept table exhausted mark used count same worn p q r =
    let rest = flat_map u32 table.replaced ++ (flat_map region_bytes (map saved_region kept.regions) ++ (u16 count ++ flat_map entry_bytes (map saved_entry kept.entries))) in
    let size : count ≡ length (map saved_entry kept.entries) = r ∙ sym (length-map kept.entries saved_entry) in
    append_assoc (u8 mark) (u16 used) rest
    ∙ ap (λ k. u8 k ++ (u16 used ++ rest)) (p ∙ ap (λ b. if b then 1 else 0) worn)
    ∙ ap (λ k. u8 (if kept.exhausted then 1 else 0) ++ (u16 k ++ rest)) q
    ∙ ap (λ t. u8 (if kept.exhausted then 1 else 0) ++ (u16 (length t.replaced) ++ (flat_map u32 t.replaced ++ (flat_map region_bytes (map saved_region kept.regions) ++ (u16 count ++ flat_map entry_bytes (map saved_entry kept.entries)))))) same
    ∙ ap (λ k. u8 (if kept.exhausted then 1 else 0) ++ (u16 (length kept.table.replaced) ++ (flat_map u32 kept.table.replaced ++ (flat_map region_bytes (map saved_region kept.regions) ++ (u16 k ++ flat_map entry_bytes (map saved_entry kept.entries)))))) size

pub head-pieces : (n : ℕ) {m : ℕ} (given raw : RawShape) (seed : ℕ) (keeps : ℕ → KeptState n) (array : ArrayState n m) → given ≡ raw
    → head_bytes n (head_of given seed) ++ (flat_map bank_bytes (saved_banks keeps raw.banks) ++ flat_map cells_bytes (saved_cells array array.lines))
    ≡ image_bytes (saved_of raw seed keeps array)
unfolding image_bytes
head-pieces n given raw seed keeps array same =
    ap (λ r. head_bytes n (head_of r seed) ++ (flat_map bank_bytes (saved_banks keeps raw.banks) ++ flat_map cells_bytes (saved_cells array array.lines))) same

-- so are those of an image with the cells of its first lines alone
pub rows-pieces : (n : ℕ) {m : ℕ} (count : ℕ) (given raw : RawShape) (seed : ℕ) (keeps : ℕ → KeptState n) (array : ArrayState n m) → count ≤ array.lines → given ≡ raw
    → head_bytes n (head_of given seed) ++ (flat_map bank_bytes (saved_banks keeps raw.banks) ++ flat_map cells_bytes (saved_cells array count))
    ≡ image_bytes (first_rows count (saved_of raw seed keeps array))
unfolding image_bytes
rows-pieces n count given raw seed keeps array exist same =
    ap (λ r. head_bytes n (head_of r seed) ++ (flat_map bank_bytes (saved_banks keeps raw.banks) ++ flat_map cells_bytes (saved_cells array count))) same
    ∙ ap (λ cells. head_bytes n (head_of raw seed) ++ (flat_map bank_bytes (saved_banks keeps raw.banks) ++ flat_map cells_bytes cells))
    (sym (take-map-range_with_len (λ line. (array.line line).held) 0 array.lines count exist))
