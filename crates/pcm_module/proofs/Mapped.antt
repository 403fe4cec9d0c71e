-- Where a line of a module stands, by what its bank keeps.
use Rattle.std.proofs.Common.{◌≡◌, ℕ, ◌*◌, ◌/◌, ◌%◌, ◌<◌, refl, sym, ap, subst, ◌∙◌, arith}
use Rattle.std.proofs.lemmas.Nat.{div_below}
use Rattle.start_gap.specs.Rotation.{Rotation, StandsFor, place_after}
use Rattle.bank_shape.specs.{Shape.{slot_moved, slots_of}, declared.BankShape.BankShape}
use Rattle.power_recovery.specs.Kept.{KeptState, IsKept, region_at, array_line}
use Rattle.module_shape.specs.{Addresses.{module_of, bank_shape}, Limits.IsShape, declared.raw.RawShape.RawShape}
use Rattle.end_laws.specs.EndLaws.{IsEndOf}
use Rattle.right_runs.specs.{Banks.{bank_of_line, line_in_bank}, Ends.{BankEnd, place_by_table}}
use Rattle.pcm_module.specs.{Standings.standing_of, declared.map.LinePlace.LinePlace}

-- a line's region is one of its bank
pub region-within : (shape : BankShape) (raw got : RawShape) (bank own : ℕ) → IsShape got → shape ≡ bank_shape (module_of raw) bank → got ≡ raw → own < raw.regions * raw.lines
    → own / got.lines < shape.regions
region-within shape raw got bank own is shaped same below =
    let lines : got.lines ≡ raw.lines = ap (λ (r : RawShape). r.lines) same in
    let regions : shape.regions ≡ raw.regions = ap (λ (s : BankShape). s.regions) shaped in
    rw (lines, regions) (div_below own raw.lines raw.regions (omega (arith, is.some_lines, lines)) below)

module _ {n : ℕ} (kept : KeptState n) (end : BankEnd) (is : IsEndOf kept end) where
  -- the array line of a bank line
  pub array-of : (shape : BankShape) (own slot array : ℕ) → kept.shape ≡ shape → own / kept.shape.lines < kept.shape.regions → slot < slots_of kept.shape
      → ((t : ℕ) → StandsFor (region_at kept (own / kept.shape.lines)).rotation t → slot ≡ slot_moved kept.shape own t) → array ≡ array_line kept slot
      → array ≡ place_by_table shape end.moves end.table own
  array-of shape own slot array shaped within exists after at =
      subst (λ (s : BankShape). array ≡ place_by_table s end.moves end.table own) shaped
      (at ∙ sym (is.table slot exists) ∙ ap end.table (after (end.moves (own / kept.shape.lines)) (is.moves (own / kept.shape.lines) within)))

  -- its place in its region
  pub place-of : (lines region offset place : ℕ) (registers : Rotation) → IsKept kept → kept.shape.lines ≡ lines → region < kept.shape.regions → registers ≡ (region_at kept region).rotation
      → ((t : ℕ) → StandsFor registers t → place ≡ place_after registers.lines offset t) → place ≡ place_after lines offset (end.moves region)
  place-of lines region offset place registers range same within at after =
      let rotates : registers.lines ≡ lines = ap (λ (r : Rotation). r.lines) at ∙ (range.regions region within).rotates ∙ same in
      after (end.moves region) (subst (λ (r : Rotation). StandsFor r (end.moves region)) (sym at) (is.moves region within))
      ∙ ap (λ (k : ℕ). place_after k offset (end.moves region)) rotates

module _ (raw : RawShape) (seed : ℕ) (ends : ℕ → BankEnd) where
  -- a line of this number in this bank
  stands-in : (bank own : ℕ) → LinePlace
  stands-in bank own = record {
    address = record { bank = bank; region = own / raw.lines; offset = own % raw.lines };
    place = place_after raw.lines (own % raw.lines) ((ends bank).moves (own / raw.lines));
    array = place_by_table (bank_shape (module_of raw) bank) (ends bank).moves (ends bank).table own;
  }

  pub standing-is : (line bank own place array : ℕ) → bank ≡ bank_of_line raw seed line → own ≡ line_in_bank raw seed line
      → place ≡ place_after raw.lines (own % raw.lines) ((ends bank).moves (own / raw.lines))
      → array ≡ place_by_table (bank_shape (module_of raw) bank) (ends bank).moves (ends bank).table own
      → record { address = record { bank = bank; region = own / raw.lines; offset = own % raw.lines }; place = place; array = array } ≡ standing_of raw seed ends line
  unfolding stands-in
  standing-is line bank own place array of numbered placed stands =
      let made : LinePlace = record { address = record { bank = bank; region = own / raw.lines; offset = own % raw.lines }; place = place; array = array } in
      let so : made ≡ stands-in bank own = rw (placed, stands) refl in
      let home : stands-in bank own ≡ stands-in (bank_of_line raw seed line) own = ap (λ (b : ℕ). stands-in b own) of in
      so ∙ home ∙ ap (stands-in (bank_of_line raw seed line)) numbered

  -- the same, where the lines of a region are so many by another name
  pub standing-by : (line bank own place array lines : ℕ) → lines ≡ raw.lines → bank ≡ bank_of_line raw seed line → own ≡ line_in_bank raw seed line
      → place ≡ place_after raw.lines (own % lines) ((ends bank).moves (own / lines))
      → array ≡ place_by_table (bank_shape (module_of raw) bank) (ends bank).moves (ends bank).table own
      → record { address = record { bank = bank; region = own / lines; offset = own % lines }; place = place; array = array } ≡ standing_of raw seed ends line
  standing-by line bank own place array lines same of numbered placed stands =
      let By : ℕ → Type 0 = λ k. place ≡ place_after raw.lines (own % k) ((ends bank).moves (own / k))
      → record { address = record { bank = bank; region = own / k; offset = own % k }; place = place; array = array } ≡ standing_of raw seed ends line in
      subst By (sym same) (λ p. standing-is line bank own place array of numbered p stands) placed
