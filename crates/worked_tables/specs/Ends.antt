-- Worked ends of a small bank, whose four lines stand in the array lines of their numbers. The newest row is first.
use Rattle.std.specs.Prelude.{ℕ, ◌==◌, Bool, if◌then◌else◌, List, [], ◌∷◌}
use Rattle.result_rows.specs.declared.Outcome.TheVariants as out
use Rattle.row_rules.specs.declared.Row.{Row}
use Rattle.right_runs.specs.Queued.{QueueEntry, entries_by, queued_writes}
use Rattle.worked_tables.specs.TableExamples.{W, M}

-- line 3 is stored
abbrev pub stored_rows : List (Row 2)
stored_rows = W 0 3 0x11 (out.Stored 30 3) ∷ []

-- a write of its first byte is queued
abbrev pub half_stored_rows : List (Row 2)
half_stored_rows = M 100 3 0xee (out.Queued 100) ∷ stored_rows

-- what the queue gives then, where a store of it was begun or not
abbrev pub half_queue : Bool → List QueueEntry
half_queue begun = entries_by begun (queued_writes half_stored_rows)

-- slot 3 has this line, and each other its own
abbrev pub slot_3_has : ℕ → ℕ → ℕ
slot_3_has line slot = if slot == 3 then line else slot

-- array line 3 is worn, and no other
abbrev pub worn_3 : ℕ → Bool
worn_3 line = line == 3
