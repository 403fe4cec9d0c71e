-- A disk to which nothing was written.
use Rattle.std.proofs.Common.{◌≡◌, ℕ, zero, suc, get_or, replicate, refl}
use Rattle.atomic_sectors.specs.Serving.{NewLaw}
use Rattle.disk_rules.specs.Agreeing.{NewDiskLaw}

zeros : (n i : ℕ) → get_or {A = ℕ} (replicate n 0) i 0 ≡ 0
zeros zero i = refl
zeros (suc n) zero = refl
zeros (suc n) (suc i) = zeros n i

pub new_disk_law : NewLaw → NewDiskLaw
new_disk_law new n layout = record { whole = (new n layout).0; bytes = λ x exists. zeros n _ }
