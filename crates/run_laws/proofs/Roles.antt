-- Each array line of a bank has one role after a right run.
use Rattle.std.proofs.Common.{ℕ, ◌+◌, ◌*◌, ◌^◌, ◌<◌, Bool, inl, inr, arith}
use Rattle.bank_shape.specs.{Shape.{slots_of, controls_from, IsBankShape}, declared.BankShape.BankShape}
use Rattle.module_shape.{specs.Addresses.{module_of, array_lines_of, bank_shape}, specs.Limits.IsShape, specs.declared.raw.RawShape.RawShape, proofs.Bounds.banks_apart}
use Rattle.ecp_line.specs.ArrayLines.{is_worn_at}
use Rattle.right_runs.specs.{Banks.line_named, Ends.IsRemapped}
use Rattle.end_laws.specs.Roles.{RoleLaw}
use Rattle.run_laws.{specs.FinishedLaws.RolesLaw, proofs.Rows.array_lines_fit}

-- the shape of each bank is one that a bank may have
pub is_bank_shape : (raw : RawShape) (bank : ℕ) → IsShape raw → bank < raw.banks → IsBankShape (bank_shape (module_of raw) bank)
is_bank_shape raw bank is few = record {
  some_regions = is.some_regions;
  few_regions = is.few_regions;
  some_lines = omega (arith, is.some_lines);
  few_lines = is.few_lines;
  few_spares = is.few_spares;
  some_writes = is.some_writes;
  few_writes = is.few_writes;
  some_reads = is.some_reads;
  few_reads = is.few_reads;
  some_psi = is.some_psi;
  few_psi = is.few_psi;
  fits = fits;
}
  where
    fits : bank * array_lines_of (module_of raw) + array_lines_of (module_of raw) < 2 ^ 32
    fits = omega (arith, banks_apart bank raw.banks (array_lines_of (module_of raw)) few, array_lines_fit raw is)

-- no slot has a control line
pub below_controls : (shape : BankShape) (worn : ℕ → Bool) (table : ℕ → ℕ) → IsRemapped shape worn table
    → (slot : ℕ) → slot < slots_of shape → table slot < controls_from shape
below_controls shape worn table remapped slot exists =
    elim (remapped.lines slot exists) [
      | inl own ↦ omega (arith, own, exists)
      | inr spare ↦ spare.1
    ]

pub roles_law : RoleLaw → RolesLaw
roles_law law n m e raw seed rows array ends bank at is right few =
    law (bank_shape (module_of raw) bank) (line_named raw seed bank) (ends bank) at (is_bank_shape raw bank is few) (right.end bank few).lines.apart
    (below_controls (bank_shape (module_of raw) bank) (is_worn_at e array) (ends bank).table (right.end bank few).lines)
