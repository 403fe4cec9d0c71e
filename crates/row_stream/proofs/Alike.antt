-- A printer that was told the same.
use Rattle.std.proofs.Common.{◌≡◌, ℕ, List, sym, subst}
use Rattle.row_printer.specs.{declared.snapshot.Snapshot.Snapshot, declared.told.Shown.Shown, declared.told.Told.Told}

-- what holds of what a printer was told holds of one that was told the same
pub told-same : {n : ℕ} (P : ℕ → List (Told n) → Shown → List Snapshot → Type 0) (rows rows2 : ℕ) (told told2 : List (Told n)) (prints prints2 : Shown) (snaps snaps2 : List Snapshot)
    → rows2 ≡ rows → told2 ≡ told → prints2 ≡ prints → snaps2 ≡ snaps → P rows told prints snaps → P rows2 told2 prints2 snaps2
told-same P rows rows2 told told2 prints prints2 snaps snaps2 r t p s had =
    subst (λ k. P k told2 prints2 snaps2) (sym r) (subst (λ k. P rows k prints2 snaps2) (sym t) (subst (λ k. P rows told k snaps2) (sym p) (subst (λ k. P rows told prints k) (sym s) had)))
