-- Where the mixed number of a line stands: its bank, its region there, and its offset in the region.
use Rattle.std.specs.Prelude.{ℕ, ◌+◌, ◌*◌, ◌/◌, ◌%◌}
use Rattle.feistel_map.specs.declared.address.Address.{Address}

-- the address of a mixed number, in banks of so many regions of so many lines
abbrev pub address_of : ℕ → ℕ → ℕ → Address
address_of regions lines number = record { bank = number / (regions * lines); region = (number / lines) % regions; offset = number % lines }

-- the number at an address
abbrev pub number_at : ℕ → ℕ → Address → ℕ
number_at regions lines a = (a.bank * regions + a.region) * lines + a.offset
