-- How many spares of a module's banks are used, by the ends of its banks.
use Rattle.std.specs.Prelude.{ℕ, zero, suc, ◌+◌}
use Rattle.module_shape.specs.{Addresses.{module_of, bank_shape}, declared.raw.RawShape.RawShape}
use Rattle.right_runs.specs.{Ends.BankEnd, Roles.used_spares}

-- how many spares of the first so many banks are used
abbrev pub spares_used_in : RawShape → (ℕ → BankEnd) → ℕ → ℕ
spares_used_in raw ends zero = 0
spares_used_in raw ends (suc banks) = spares_used_in raw ends banks + used_spares (bank_shape (module_of raw) banks) (ends banks).table

-- how many spares of all banks are used
abbrev pub spares_used : RawShape → (ℕ → BankEnd) → ℕ
spares_used raw ends = spares_used_in raw ends raw.banks
