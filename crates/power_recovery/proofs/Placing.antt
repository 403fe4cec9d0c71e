-- Slots and places of a bank by its registers: each within the bank, and no two alike.
use Rattle.std.proofs.Common.{◌≡◌, ◌≢◌, ℕ, ◌+◌, ◌*◌, ◌/◌, ◌%◌, ◌<◌, ◌≤◌, inl, inr, sym, subst, ap, ◌∙◌, arith}
use Rattle.std.proofs.{lemmas.Bool.cases_lt, lemmas.Nat.{mod_below, div_below, div-mul-add, mod-mul-add, div-add-mod'}}
use Rattle.bank_shape.{specs.Shape.{slots_of, slot_at}, specs.declared.BankShape.BankShape, proofs.Sizes.slot_at-within}
use Rattle.start_gap.specs.Rotation.{Rotation, IsRotation, StandsFor, place_by, place_after}
use Rattle.start_gap.proofs.Turning.{place_by-before, place_by-behind, place-apart, place-off_gap, place-stands}
use Rattle.region_regs.specs.Region.{RegionState}
use Rattle.power_recovery.specs.{Kept.{KeptState, region_at, slot_of, IsKept}, Slots.bank_lines}

-- a line's place is one of its region
pub place_by-within : (r : Rotation) (line : ℕ) → IsRotation r → place_by r line ≤ r.lines
place_by-within r line range =
    let turned : (line + r.start) % r.lines < r.lines = mod_below (line + r.start) r.lines (omega (arith, range.some_lines)) in
    elim (cases_lt ((line + r.start) % r.lines) r.gap) [
      | inl before ↦ omega (arith, place_by-before r line before, turned)
      | inr behind ↦ omega (arith, place_by-behind r line behind, turned)
    ]

-- two places have one slot only where they are one
pub slot_at-region : (shape : BankShape) (region place other at : ℕ) → place ≤ shape.lines → at ≤ shape.lines → slot_at shape region place ≡ slot_at shape other at → region ≡ other
slot_at-region shape region place other at h k e =
    sym (div-mul-add region (shape.lines + 1) place (omega arith)) ∙ ap (λ slot. slot / (shape.lines + 1)) e ∙ div-mul-add other (shape.lines + 1) at (omega arith)

pub slot_at-place : (shape : BankShape) (region place other at : ℕ) → place ≤ shape.lines → at ≤ shape.lines → slot_at shape region place ≡ slot_at shape other at → place ≡ at
slot_at-place shape region place other at h k e =
    sym (mod-mul-add region (shape.lines + 1) place (omega arith)) ∙ ap (λ slot. slot % (shape.lines + 1)) e ∙ mod-mul-add other (shape.lines + 1) at (omega arith)

-- a bank line is that of its region and its number there
pub same_line : (lines a b : ℕ) → a / lines ≡ b / lines → a % lines ≡ b % lines → a ≡ b
same_line lines a b e f =
    sym (div-add-mod' a lines) ∙ ap (λ q. q * lines + a % lines) e ∙ ap (λ r. b / lines * lines + r) f ∙ div-add-mod' b lines

-- a slot by the region and the place of a line
pub slot_of-place : {n : ℕ} (kept : KeptState n) (line place : ℕ) (region : RegionState) (rotation : Rotation)
    → IsKept kept → region ≡ region_at kept (line / kept.shape.lines) → rotation ≡ region.rotation → place ≡ place_by rotation (line % kept.shape.lines)
    → line / kept.shape.lines * (kept.shape.lines + 1) + place ≡ slot_of kept line
slot_of-place kept line place region rotation range e f h =
    ap (λ p. line / kept.shape.lines * (kept.shape.lines + 1) + p)
    (h ∙ ap (λ r. place_by r (line % kept.shape.lines)) f ∙ ap (λ r. place_by r.rotation (line % kept.shape.lines)) e)

module _ {n : ℕ} (kept : KeptState n) (range : IsKept kept) where
  some_lines : 0 < kept.shape.lines
  some_lines = omega (arith, range.shape.some_lines)

  pub region-exists : (line : ℕ) → line < bank_lines kept.shape → line / kept.shape.lines < kept.shape.regions
  region-exists line h = div_below line kept.shape.lines kept.shape.regions some_lines h

  pub offset-below : (line : ℕ) → line % kept.shape.lines < kept.shape.lines
  offset-below line = mod_below line kept.shape.lines some_lines

  pub place-within : (region line : ℕ) → region < kept.shape.regions → place_by (region_at kept region).rotation line ≤ kept.shape.lines
  place-within region line h =
      let own = range.regions region h in
      omega (arith, own.rotates, place_by-within (region_at kept region).rotation line own.in_range.rotates)

  pub slot_of-within : (line : ℕ) → line < bank_lines kept.shape → slot_of kept line < slots_of kept.shape
  slot_of-within line h =
      slot_at-within kept.shape (line / kept.shape.lines) _ (region-exists line h) (place-within (line / kept.shape.lines) (line % kept.shape.lines) (region-exists line h))

  -- the slot of a line after so many moves of its region's gap
  pub slot_of-after : (line t : ℕ) → line < bank_lines kept.shape → StandsFor (region_at kept (line / kept.shape.lines)).rotation t
      → slot_of kept line ≡ slot_at kept.shape (line / kept.shape.lines) (place_after kept.shape.lines (line % kept.shape.lines) t)
  slot_of-after line t h stands =
      let own = range.regions (line / kept.shape.lines) (region-exists line h) in
      ap (λ p. slot_at kept.shape (line / kept.shape.lines) p)
      (place-stands (region_at kept (line / kept.shape.lines)).rotation t (line % kept.shape.lines) own.in_range.rotates stands
      ∙ ap (λ lines. place_after lines (line % kept.shape.lines) t) own.rotates)

  same_place : (region other a b : ℕ) → other < kept.shape.regions → region ≡ other → a < kept.shape.lines → b < kept.shape.lines
      → place_by (region_at kept region).rotation a ≡ place_by (region_at kept other).rotation b → a ≡ b
  same_place region other a b h same p q e =
      let own = range.regions other h in
      let there : place_by (region_at kept other).rotation a ≡ place_by (region_at kept other).rotation b =
      subst (λ (r : ℕ). place_by (region_at kept r).rotation a ≡ place_by (region_at kept other).rotation b) same e in
      place-apart (region_at kept other).rotation a b (omega (arith, own.rotates, p)) (omega (arith, own.rotates, q)) there

  -- two lines never have one slot
  pub slot_of-apart : (line other : ℕ) → line < bank_lines kept.shape → other < bank_lines kept.shape → slot_of kept other ≡ slot_of kept line → other ≡ line
  slot_of-apart line other h k e =
      let here = place-within (line / kept.shape.lines) (line % kept.shape.lines) (region-exists line h) in
      let there = place-within (other / kept.shape.lines) (other % kept.shape.lines) (region-exists other k) in
      let region : other / kept.shape.lines ≡ line / kept.shape.lines = slot_at-region kept.shape _ _ _ _ there here e in
      let place = slot_at-place kept.shape (other / kept.shape.lines) _ (line / kept.shape.lines) _ there here e in
      same_line kept.shape.lines other line region
      (same_place (other / kept.shape.lines) (line / kept.shape.lines) (other % kept.shape.lines) (line % kept.shape.lines) (region-exists line h) region
      (offset-below other) (offset-below line) place)

  -- no line has the slot of a gap
  pub slot_of-off_gap : (line region : ℕ) → line < bank_lines kept.shape → region < kept.shape.regions
      → slot_of kept line ≢ slot_at kept.shape region (region_at kept region).rotation.gap
  slot_of-off_gap line region h k e =
      let here = place-within (line / kept.shape.lines) (line % kept.shape.lines) (region-exists line h) in
      let own = range.regions region k in
      let gap : (region_at kept region).rotation.gap ≤ kept.shape.lines = omega (arith, own.rotates, own.in_range.rotates.gap_within) in
      let same : line / kept.shape.lines ≡ region = slot_at-region kept.shape _ _ _ _ here gap e in
      let place = slot_at-place kept.shape (line / kept.shape.lines) _ region _ here gap e in
      let on_gap : place_by (region_at kept region).rotation (line % kept.shape.lines) ≡ (region_at kept region).rotation.gap =
      subst (λ (r : ℕ). place_by (region_at kept r).rotation (line % kept.shape.lines) ≡ (region_at kept region).rotation.gap) same place in
      place-off_gap (region_at kept region).rotation (line % kept.shape.lines) on_gap
