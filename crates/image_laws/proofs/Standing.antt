-- Each line's newest bytes, by what is saved.
use Rattle.std.proofs.Common.{◌≡◌, ℕ, ◌+◌, ◌*◌, ◌/◌, ◌%◌, ◌<◌, ◌==◌, List, [], ◌∷◌, get_or, refl, sym, ap, ◌∙◌, arith}
use Rattle.std.{specs.Prelude.{map, if◌then◌else◌}, proofs.Math.ListN.get_or-map, proofs.lemmas.List.FromFn.get_or-map-range_with_len, proofs.lemmas.Nat.div_below}
use Rattle.masked_bytes.specs.{Entries.{Layer, layer_of, layer_by, stacked}, Masked.laid, declared.entry.Entry.Entry}
use Rattle.start_gap.specs.{Rotation.{place_by, IsRotation}, Slots.slot_at}
use Rattle.spare_pool.{specs.Table.{line_from, line_by, used_by}, proofs.Lines.line_by-within}
use Rattle.cell_rows.specs.{Device.ArrayState, Rows.zero_row}
use Rattle.ecp_line.specs.Reading.{decode}
use Rattle.bank_shape.specs.{Shape.{if_array, slots_of}, declared.BankShape.BankShape, declared.Home.Home}
use Rattle.bank_shape.specs.declared.Home.TheVariants as home
use Rattle.power_recovery.{specs.Kept.{KeptState, IsKept, region_at, slot_of as kept_slot, stands_at as kept_at, no_region as no_kept}, proofs.Placing.place_by-within}
use Rattle.module_shape.specs.{Addresses.{module_of, bank_shape, array_lines_of}, Limits.IsShape, declared.raw.RawShape.RawShape}
use Rattle.bank_invariant.specs.Holds.{stands_for as kept_for}
use Rattle.pcm_image.{specs.Saved.array_lines_in, specs.Standing.{entry_of, own_bytes, slot_of, stands_at}, proofs.Heads.{row_below, slot_below}}
use Rattle.right_images.specs.Saving.{head_of, home_number, saved_bank, saved_cells, saved_entry, saved_of, saved_region}

-- entries without their rows give the same
layers-same : {n : ℕ} (es : List (Entry n)) (line : ℕ) → layer_of (map entry_of (map saved_entry es)) line ≡ layer_of es line
layers-same [] line = refl
layers-same (e ∷ es) line = ap (λ (l : Layer). if e.line == line then stacked l (layer_by e) else l) (layers-same es line)

-- the array lines of a bank
controls-same : (h : Home) (count : ℕ) → (if home_number h == 0 then 0 else count) ≡ if_array h count
controls-same home.Guarded count = refl
controls-same home.Array count = refl

pub lines-same : (raw : RawShape) (seed : ℕ) → array_lines_in (head_of raw seed) ≡ array_lines_of (module_of raw)
lines-same raw seed = ap (λ k. raw.regions * (raw.lines + 1) + raw.spares + k) (controls-same raw.home (raw.regions + raw.spares + 1))

module _ {n m : ℕ} (e : ℕ) (raw : RawShape) (seed : ℕ) (keeps : ℕ → KeptState n) (array : ArrayState n m) (shaped : IsShape raw)
    (size : array.lines ≡ raw.banks * array_lines_of (module_of raw)) (bank : ℕ) (exists : bank < raw.banks)
    (is : IsKept (keeps bank)) (shape : (keeps bank).shape ≡ bank_shape (module_of raw) bank) (own : ℕ) (there : own < raw.regions * raw.lines) where
  abbrev kept : KeptState n
  kept = keeps bank

  lines-are : kept.shape.lines ≡ raw.lines
  lines-are = ap (λ (s : BankShape). s.lines) shape

  slots-are : kept.table.slots ≡ raw.regions * (raw.lines + 1)
  slots-are = is.slots ∙ ap slots_of shape

  region-there : own / raw.lines < raw.regions
  region-there = div_below own raw.lines raw.regions (omega (arith, shaped.some_lines)) there

  of-region : IsRotation (region_at kept (own / raw.lines)).rotation
  of-region = (is.regions (own / raw.lines) (omega (arith, region-there, ap (λ (s : BankShape). s.regions) shape))).in_range.rotates

  rotates : (region_at kept (own / raw.lines)).rotation.lines ≡ raw.lines
  rotates = (is.regions (own / raw.lines) (omega (arith, region-there, ap (λ (s : BankShape). s.regions) shape))).rotates ∙ lines-are

  -- the slot by the saved registers is that by the kept ones
  abbrev place : ℕ
  place = place_by (region_at kept (own / raw.lines)).rotation (own % raw.lines)

  saved-slot : slot_of (head_of raw seed) (saved_bank kept) own ≡ slot_at raw.lines (own / raw.lines) place
  saved-slot =
      let r = (region_at kept (own / raw.lines)).rotation in
      ap (λ q. slot_at raw.lines (own / raw.lines) (place_by (record { lines = raw.lines; start = q.start; gap = q.gap }) (own % raw.lines)))
      (get_or-map saved_region kept.regions (own / raw.lines) no_kept)
      ∙ ap (λ (l : ℕ). slot_at raw.lines (own / raw.lines) (place_by (record { lines = l; start = r.start; gap = r.gap }) (own % raw.lines))) (sym rotates)

  kept-slot : kept_slot kept own ≡ slot_at raw.lines (own / raw.lines) place
  kept-slot =
      ap (λ (l : ℕ). own / l * (l + 1) + place_by (region_at kept (own / l)).rotation (own % l)) lines-are

  slot-there : slot_at raw.lines (own / raw.lines) place < kept.table.slots
  slot-there =
      let low = place_by-within (region_at kept (own / raw.lines)).rotation (own % raw.lines) of-region in
      rw slots-are (slot_below raw.regions raw.lines (own / raw.lines) place region-there (omega (arith, low, rotates)))

  -- and so is the array line
  same-line : stands_at (head_of raw seed) (saved_bank kept) bank own ≡ kept_at kept own
  same-line =
      let base : bank * array_lines_in (head_of raw seed) ≡ kept.shape.base =
      ap (λ k. bank * k) (lines-same raw seed) ∙ sym (ap (λ (s : BankShape). s.base) shape) in
      ap (λ b. b + line_from (raw.regions * (raw.lines + 1)) (slot_of (head_of raw seed) (saved_bank kept) own) kept.table.replaced (slot_of (head_of raw seed) (saved_bank kept) own)) base
      ∙ ap (λ k. kept.shape.base + line_from (raw.regions * (raw.lines + 1)) k kept.table.replaced k) (saved-slot ∙ sym kept-slot)
      ∙ ap (λ k. kept.shape.base + line_from k (kept_slot kept own) kept.table.replaced (kept_slot kept own)) (sym slots-are)

  line-there : kept_at kept own < array.lines
  line-there =
      let low : line_by kept.table (kept_slot kept own) < kept.table.slots + used_by kept.table =
      line_by-within kept.table (kept_slot kept own) (rw kept-slot slot-there) in
      let base : kept.shape.base ≡ bank * array_lines_of (module_of raw) = ap (λ (s : BankShape). s.base) shape in
      let spares : kept.table.spares ≡ raw.spares = is.spares ∙ ap (λ (s : BankShape). s.spares) shape in
      let within : line_by kept.table (kept_slot kept own) < array_lines_of (module_of raw) = omega (arith, low, is.table.within, spares, slots-are) in
      rw size (rw base (row_below bank raw.banks (array_lines_of (module_of raw)) (line_by kept.table (kept_slot kept own)) exists within))

  pub own-saved : own_bytes e (saved_of raw seed keeps array) (saved_bank kept) bank own ≡ kept_for e kept array own
  own-saved =
      let cells : get_or (saved_cells array array.lines) (kept_at kept own) (zero_row n m) ≡ (array.line (kept_at kept own)).held =
      get_or-map-range_with_len (λ line. (array.line line).held) 0 array.lines (kept_at kept own) (kept_at kept own) (zero_row n m) line-there (omega arith) in
      ap (λ (l : Layer). laid l.bytes l.given (decode e (get_or (saved_cells array array.lines) (stands_at (head_of raw seed) (saved_bank kept) bank own) (zero_row n m))))
      (layers-same kept.entries own)
      ∙ ap (λ at. laid (layer_of kept.entries own).bytes (layer_of kept.entries own).given (decode e (get_or (saved_cells array array.lines) at (zero_row n m)))) same-line
      ∙ ap (λ c. laid (layer_of kept.entries own).bytes (layer_of kept.entries own).given (decode e c)) cells
