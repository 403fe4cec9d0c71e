-- A bank that was just made, over lines that were just powered up.
use Rattle.std.proofs.Common.{◌≡◌, ℕ, ◌+◌, ◌*◌, ◌-◌, ◌<◌, ◌≤◌, refl, sym, ap, subst, ◌∙◌, arith, [], replicate}
use Rattle.std.proofs.{Math.Nat.zero-mod, lemmas.List.get_or-replicate}
use Rattle.masked_bytes.proofs.Layering.{laid-none_given}
use Rattle.cell_rows.specs.Device.{ArrayState}
use Rattle.ecp_line.{specs.ArrayLines.decoded, proofs.Blank.{Sound-blank, decode-blank}}
use Rattle.line_writer.proofs.{Orderly.orderly-blank, Untouched.untouched-blank}
use Rattle.start_gap.specs.Rotation.{turn}
use Rattle.region_regs.specs.Region.{RegionState, first_region}
use Rattle.bank_shape.specs.{Shape.{IsBankShape, slots_of}, declared.BankShape.BankShape}
use Rattle.power_recovery.{specs.Events.first_kept, specs.Kept.{KeptState, no_region, slot_of}, proofs.Bundle.IsKept-first, proofs.Placing.slot_of-within}
use Rattle.bank_invariant.specs.{Holds.{Holds, IsRegionAfter}, State.first_bank}
use Rattle.bank_core.specs.Steps.{IsFreshFor}

region_after : (lines psi : ℕ) → 1 ≤ lines → IsRegionAfter 0 0 psi (first_region lines psi)
region_after lines psi some = record {
  registers = record { moves = zero-mod (turn lines) ∙ none };
  counter = omega arith;
}
  where
    none : 0 ≡ 0 * (lines + 1) + (lines - lines)
    none = omega arith

pub fresh_law : {n m e : ℕ} (shape : BankShape) (array : ArrayState n m) → 0 < n → n ≤ 128 → IsBankShape shape → IsFreshFor shape array
    → Holds {n = n} {m = m} {e = e} [] (first_bank shape) array
fresh_law {n} {m} {e} shape array some few limits fresh =
    let kept : KeptState n = first_kept shape in
    let range = IsKept-first {n = n} shape some few limits in
    let first : RegionState = first_region shape.lines shape.psi in
    record {
      past = tt;
      newest = λ line below.
          let within : slot_of kept line < slots_of shape = slot_of-within kept range line below in
          laid-none_given n (replicate n 0) (decoded e array (shape.base + slot_of kept line))
          ∙ decode-blank e (array.line (shape.base + slot_of kept line)).held (fresh.blank (slot_of kept line) (omega (arith, within))).held;
      waiting = refl;
      few_waiting = omega arith;
      served = λ k d few. let none : ⊥ = omega (arith, few) in absurd none;
      running = refl;
      steps = tt;
      rounds = tt;
      tied = record {
        lines = fresh.lines;
        sound = record {
          apart = λ slot other below also same. omega (arith, same);
          slots = λ slot below. Sound-blank n m e _ _ (fresh.blank slot (omega (arith, below))).held;
          spares = λ spare free below.
              let at : shape.base + slots_of shape + spare ≡ shape.base + (slots_of shape + spare) = omega arith in
              let blank = fresh.blank (slots_of shape + spare) (omega (arith, below)) in
              rw at (Sound-blank n m e _ _ blank.held, blank.pulses);
          worn = λ line below none. absurd (none line (omega (arith, below)) refl);
        };
        unused = λ line below. untouched-blank e (array.line (shape.base + line)) (fresh.blank line (omega (arith, below)));
        orderly = λ line below. orderly-blank array.bounds.misses (array.line (shape.base + line)) (fresh.blank line (omega (arith, below)));
        operation = tt;
        exhausted = λ mark. cc;
      };
      regions = λ region below.
          let P : RegionState → Type 0 = λ r. IsRegionAfter 0 0 shape.psi r in
          subst P (sym (get_or-replicate shape.regions region first no_region below)) (region_after shape.lines shape.psi limits.some_lines);
      due_last = λ region below due.
          let zero : 0 ≡ shape.psi = sym (ap (λ r. r.counter) (get_or-replicate shape.regions region first no_region below)) ∙ due in
          let none : ⊥ = omega (arith, zero, limits.some_psi) in
          absurd none;
      entries = refl;
      table = refl;
      exhausted = refl;
      rows = tt;
      kept = range;
    }
