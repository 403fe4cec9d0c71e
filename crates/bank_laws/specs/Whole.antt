-- The laws of a bank, whatever the sizes of its lines.
use Rattle.std.specs.Prelude.{ℕ}
use Rattle.bank_laws.specs.{Laws.{TableLaw, PlaceLaw, LogLaw}, Room.RoomLaw}

-- of its rows
abbrev pub WholeTableLaw : Type 0
WholeTableLaw = (n m : ℕ) → TableLaw n m

-- of their places and of wear
abbrev pub WholePlaceLaw : Type 0
WholePlaceLaw = (n m : ℕ) → PlaceLaw n m

-- of the log
abbrev pub WholeLogLaw : Type 0
WholeLogLaw = (n m : ℕ) → LogLaw n m

-- of what it holds at any tick
abbrev pub WholeRoomLaw : Type 0
WholeRoomLaw = (n m : ℕ) → RoomLaw n m
