-- The slots of a bank: the places of its regions, one region behind the other.
use Rattle.std.specs.Prelude.{ℕ, ◌+◌, ◌*◌}

-- how many slots a bank of so many regions of n lines has
abbrev pub slots_of : ℕ → ℕ → ℕ
slots_of regions n = regions * (n + 1)

-- the slot of a place of a region
abbrev pub slot_at : ℕ → ℕ → ℕ → ℕ
slot_at n region place = region * (n + 1) + place
