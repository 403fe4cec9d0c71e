-- The array line of each slot: its own, or a spare where its own is worn.
use Rattle.std.proofs.Common.{◌≡◌, ℕ, ◌+◌, ◌<◌, ◌≤◌, ◌⊎◌, inl, inr, ap, subst, arith}
use Rattle.std.specs.Prelude.{IsTrue}
use Rattle.cell_rows.specs.Device.{ArrayState}
use Rattle.spare_pool.{specs.Table.line_by, proofs.Lines.{HasSpare, line_by-cases, only_own}}
use Rattle.bank_shape.specs.Shape.{slots_of}
use Rattle.power_recovery.specs.Kept.{KeptState, IsKept, array_line}
use Rattle.ecp_line.specs.ArrayLines.{is_worn_at}
use Rattle.bank_invariant.specs.Tied.{AreSound}
use Rattle.end_laws.specs.EndLaws.{RemappedLaw}
use Rattle.right_runs.specs.Ends.{IsRemapped}

module _ {n m : ℕ} (e : ℕ) (kept : KeptState n) (array : ArrayState n m) (range : IsKept kept) (sound : AreSound e kept array) where
  -- a slot that was given a spare has left a worn line
  home-worn : (slot : ℕ) → slot < slots_of kept.shape → HasSpare kept.table.slots kept.table.replaced slot (line_by kept.table slot)
      → IsTrue (is_worn_at e array (kept.shape.base + slot))
  home-worn slot exists spare =
      sound.worn slot (omega (arith, exists)) (λ other below same.
      let own : other ≡ slot = only_own kept.table slot (omega (arith, exists, range.slots)) other same in
      let here : line_by kept.table slot ≡ slot = subst (λ k. line_by kept.table k ≡ slot) own same in
      omega (arith, here, spare.line_is, exists, range.slots))

  pub remapped : IsRemapped kept.shape (is_worn_at e array) (array_line kept)
  remapped = record {
    apart = sound.apart;
    lines = λ slot exists. by slot exists (line_by-cases kept.table slot);
  }
    where
      by : (slot : ℕ) → slot < slots_of kept.shape → (line_by kept.table slot ≡ slot) ⊎ HasSpare kept.table.slots kept.table.replaced slot (line_by kept.table slot)
          → (array_line kept slot ≡ kept.shape.base + slot)
          ⊎ ((kept.shape.base + slots_of kept.shape ≤ array_line kept slot) × (array_line kept slot < kept.shape.base + slots_of kept.shape + kept.shape.spares)
          × IsTrue (is_worn_at e array (kept.shape.base + slot)))
      by slot exists (inl own) = inl (ap (λ k. kept.shape.base + k) own)
      by slot exists (inr spare) = inr (
        omega (arith, spare.line_is, range.slots),
        omega (arith, spare.line_is, spare.given, range.slots, range.spares, range.table.within),
        home-worn slot exists spare,
      )

pub remapped_law : RemappedLaw
remapped_law n m e h bank array holds = remapped e bank.kept array holds.kept holds.tied.sound
