-- What an array line is used for, by who has it, and what a slot is, by the registers of its region.
use Rattle.std.proofs.Common.{◌≡◌, ℕ, ◌+◌, ◌-◌, ◌*◌, ◌/◌, ◌%◌, ◌^◌, ◌<◌, ◌≤◌, sym, ap, subst, ◌∙◌, arith}
use Rattle.std.proofs.{Math.Nat.mul-add, lemmas.Nat.{mul-add-lt, div_below, div-mul-add, mod-mul-add, div-add-mod'}}
use Rattle.spare_pool.specs.Table.{IsOwner, line_by, used_by}
use Rattle.spare_pool.specs.declared.Owner.TheVariants as owned
use Rattle.bank_shape.specs.{Shape.{slots_of, slot_at, slot_moved, controls_from}, declared.Role.Role, declared.Role.TheVariants.{Line, Gap, Free, Retired}}
use Rattle.start_gap.specs.Rotation.{Rotation, StandsFor, place_after, gap_after}
use Rattle.power_recovery.specs.Kept.{KeptState, IsKept, region_at, array_line}
use Rattle.end_laws.{specs.EndLaws.IsEndOf, proofs.Used.used-same}
use Rattle.right_runs.specs.{Ends.BankEnd, Roles.{IsRole, used_spares}}

module _ {n : ℕ} (kept : KeptState n) (range : IsKept kept) where
  -- ---- the region of a slot, and its place there

  region-exists : (slot : ℕ) → slot < slots_of kept.shape → slot / (kept.shape.lines + 1) < kept.shape.regions
  region-exists slot exists = div_below slot (kept.shape.lines + 1) kept.shape.regions (omega arith) exists

  slot-whole : (slot lines : ℕ) → lines ≡ kept.shape.lines → slot_at kept.shape (slot / (lines + 1)) (slot % (lines + 1)) ≡ slot
  slot-whole slot lines all = ap (λ m. slot / (lines + 1) * (m + 1) + slot % (lines + 1)) (sym all) ∙ div-add-mod' slot (lines + 1)

  line-exists : (region offset : ℕ) → region < kept.shape.regions → offset < kept.shape.lines
      → region * kept.shape.lines + offset < kept.shape.regions * kept.shape.lines
  line-exists region offset within below =
      let own : region * kept.shape.lines + offset < kept.shape.lines * kept.shape.regions = mul-add-lt region kept.shape.lines offset kept.shape.regions within below in
      let swap : kept.shape.lines * kept.shape.regions ≡ kept.shape.regions * kept.shape.lines = grind arith in
      omega (arith, own, swap)

  -- the slot of the line that has this place in its region
  slot-of_line : (moves : ℕ → ℕ) (region offset place slot : ℕ) → offset < kept.shape.lines → place_after kept.shape.lines offset (moves region) ≡ place
      → slot_at kept.shape region place ≡ slot
      → slot_moved kept.shape (region * kept.shape.lines + offset) (moves ((region * kept.shape.lines + offset) / kept.shape.lines)) ≡ slot
  slot-of_line moves region offset place slot below stands whole =
      let own : ℕ = region * kept.shape.lines + offset in
      let quotient : own / kept.shape.lines ≡ region = div-mul-add region kept.shape.lines offset below in
      let remainder : own % kept.shape.lines ≡ offset = mod-mul-add region kept.shape.lines offset below in
      ap (λ q. slot_at kept.shape q (place_after kept.shape.lines (own % kept.shape.lines) (moves q))) quotient
      ∙ ap (λ o. slot_at kept.shape region (place_after kept.shape.lines o (moves region))) remainder
      ∙ ap (λ p. slot_at kept.shape region p) stands ∙ whole

  -- ---- what a slot is used for, by the registers of its region

  pub line-role : (slot lines offset : ℕ) (registers : Rotation) → slot < slots_of kept.shape → lines ≡ kept.shape.lines
      → registers ≡ (region_at kept (slot / (lines + 1))).rotation → offset < registers.lines
      → ((t : ℕ) → StandsFor registers t → place_after registers.lines offset t ≡ slot % (lines + 1))
      → (end : BankEnd) → IsEndOf kept end → IsRole kept.shape (λ own. own) end (array_line kept slot) (Line (slot / (lines + 1) * lines + offset))
  line-role slot lines offset registers exists all at below stands end is =
      let region : ℕ = slot / (lines + 1) in
      let number : region ≡ slot / (kept.shape.lines + 1) = ap (λ m. slot / (m + 1)) all in
      let within : region < kept.shape.regions = subst (λ (r : ℕ). r < kept.shape.regions) (sym number) (region-exists slot exists) in
      let count : registers.lines ≡ kept.shape.lines = ap (λ r. r.lines) at ∙ (range.regions region within).rotates in
      let offset-below : offset < kept.shape.lines = omega (arith, below, count) in
      let stand : StandsFor registers (end.moves region) = subst (λ (r : Rotation). StandsFor r (end.moves region)) (sym at) (is.moves region within) in
      let placed : place_after kept.shape.lines offset (end.moves region) ≡ slot % (lines + 1) =
      ap (λ m. place_after m offset (end.moves region)) (sym count) ∙ stands (end.moves region) stand in
      let own : region * lines + offset ≡ region * kept.shape.lines + offset = ap (λ m. region * m + offset) all in (
        region * kept.shape.lines + offset,
        line-exists region offset within offset-below,
        ap end.table (slot-of_line end.moves region offset (slot % (lines + 1)) slot offset-below placed (slot-whole slot lines all)) ∙ is.table slot exists,
        own,
      )

  -- a line's number in the bank is a u32, since the numbers of its array lines are
  pub line-fits : (slot lines offset : ℕ) (registers : Rotation) → slot < slots_of kept.shape → lines ≡ kept.shape.lines
      → registers ≡ (region_at kept (slot / (lines + 1))).rotation → offset < registers.lines → slot / (lines + 1) * lines + offset < 2 ^ 32
  line-fits slot lines offset registers exists all at below =
      let region : ℕ = slot / (lines + 1) in
      let number : region ≡ slot / (kept.shape.lines + 1) = ap (λ m. slot / (m + 1)) all in
      let within : region < kept.shape.regions = subst (λ (r : ℕ). r < kept.shape.regions) (sym number) (region-exists slot exists) in
      let count : registers.lines ≡ kept.shape.lines = ap (λ r. r.lines) at ∙ (range.regions region within).rotates in
      let offset-below : offset < kept.shape.lines = omega (arith, below, count) in
      let own : region * lines + offset ≡ region * kept.shape.lines + offset = ap (λ m. region * m + offset) all in
      let low = line-exists region offset within offset-below in
      let slots = mul-add kept.shape.regions kept.shape.lines 1 in
      let fits = range.shape.fits in
      omega (arith, own, low, slots, fits)

  pub gap-role : (slot lines : ℕ) (registers : Rotation) → slot < slots_of kept.shape → lines ≡ kept.shape.lines
      → registers ≡ (region_at kept (slot / (lines + 1))).rotation
      → ((t : ℕ) → StandsFor registers t → slot % (lines + 1) ≡ gap_after registers.lines t)
      → (end : BankEnd) → IsEndOf kept end → IsRole kept.shape (λ own. own) end (array_line kept slot) Gap
  gap-role slot lines registers exists all at stands end is =
      let region : ℕ = slot / (lines + 1) in
      let number : region ≡ slot / (kept.shape.lines + 1) = ap (λ m. slot / (m + 1)) all in
      let within : region < kept.shape.regions = subst (λ (r : ℕ). r < kept.shape.regions) (sym number) (region-exists slot exists) in
      let count : registers.lines ≡ kept.shape.lines = ap (λ r. r.lines) at ∙ (range.regions region within).rotates in
      let stand : StandsFor registers (end.moves region) = subst (λ (r : Rotation). StandsFor r (end.moves region)) (sym at) (is.moves region within) in
      let placed : gap_after kept.shape.lines (end.moves region) ≡ slot % (lines + 1) =
      ap (λ m. gap_after m (end.moves region)) (sym count) ∙ sym (stands (end.moves region) stand) in
      (region, within, ap (λ p. end.table (slot_at kept.shape region p)) placed ∙ ap end.table (slot-whole slot lines all) ∙ is.table slot exists)

  -- the array line of a slot is used for what the slot is used for
  pub slot-role : (line at slot : ℕ) (role : Role) → kept.shape.base ≤ line → at ≡ line - kept.shape.base → IsOwner kept.table at (owned.Slot slot)
      → ((end : BankEnd) → IsEndOf kept end → IsRole kept.shape (λ own. own) end (array_line kept slot) role)
      → (end : BankEnd) → IsEndOf kept end → IsRole kept.shape (λ own. own) end line role
  slot-role line at slot role begun same has roles end is =
      let stands : array_line kept slot ≡ line = omega (arith, begun, same, has.1) in
      subst (λ (of : ℕ). IsRole kept.shape (λ own. own) end of role) stands (roles end is)

  -- ---- what an array line is used for that no slot has

  pub free-role : (line at : ℕ) → kept.shape.base ≤ line → line < controls_from kept.shape → at ≡ line - kept.shape.base → IsOwner kept.table at owned.Free
      → (end : BankEnd) → IsEndOf kept end → IsRole kept.shape (λ own. own) end line Free
  free-role line at begun below same has end is =
      let used : used_by kept.table ≡ used_spares kept.shape end.table = used-same kept range end.table is.table in
      (omega (arith, begun, same, has, used, range.slots), below)

  pub retired-role : (line at : ℕ) → kept.shape.base ≤ line → at ≡ line - kept.shape.base → IsOwner kept.table at owned.Retired
      → (end : BankEnd) → IsEndOf kept end → IsRole kept.shape (λ own. own) end line Retired
  retired-role line at begun same has end is =
      let used : used_by kept.table ≡ used_spares kept.shape end.table = used-same kept range end.table is.table in (
        omega (arith, begun, same, has.0, used, range.slots),
        λ slot exists e.
            let own : line_by kept.table slot ≡ at = omega (arith, begun, same, e, is.table slot exists) in
            has.1 slot (omega (arith, exists, range.slots)) own,
      )
