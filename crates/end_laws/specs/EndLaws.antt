-- That a bank keeps each line's newest bytes to the end, part by part and whole.
use Rattle.std.specs.Prelude.{◌≡◌, ℕ, ◌*◌, ◌<◌, ◌==◌, ◌||◌, Bool, false, if◌then◌else◌, List, [], ◌∷◌, IsTrue, IfSome, map}
use Rattle.masked_bytes.specs.{Entries.{layer_by, layer_of}, Masked.{gives_all, laid}, declared.entry.Entry.Entry}
use Rattle.start_gap.specs.Rotation.{StandsFor}
use Rattle.cell_rows.specs.Device.{ArrayState}
use Rattle.row_rules.specs.{Answers.is_stored, Queueing.unstored, Rows.{each_row, newest}, Serving.same_bytes}
use Rattle.bank_shape.specs.{Shape.{slots_of, control_line}, declared.BankShape.BankShape, declared.pace.Pace.Pace}
use Rattle.power_recovery.specs.Kept.{KeptState, region_at, array_line}
use Rattle.bank_model.specs.{Changes.{change_after, halted_after}, Events.BankEvent, History.moved_in, Lawful.Lawful, Timing.{TimedEvent, core}}
use Rattle.bank_invariant.specs.{Holds.Holds, State.BankState}
use Rattle.ecp_line.specs.ArrayLines.{decoded, is_worn_at}
use Rattle.bank_laws.specs.{Laws.IsSized, Outcomes.table_of, Resting.EndsIn}
use Rattle.right_runs.specs.{Ends.{is_moved_to, BankEnd, EndsWithTo, IsRemapped, QueueEndsTo, place_by_table, is_kept_line, is_still_there}, Queued.QueueEntry}

-- what an entry of a queue gives
abbrev pub queue_entry : {n : ℕ} → Entry n → QueueEntry
queue_entry entry = record { line = entry.line; gives = layer_by entry }

-- a bank's end is that of what it keeps
pub record IsEndOf {n : ℕ} (kept : KeptState n) (end : BankEnd) : Type 0 where
  pub table : (slot : ℕ) → slot < slots_of kept.shape → end.table slot ≡ array_line kept slot
  pub moves : (region : ℕ) → region < kept.shape.regions → StandsFor (region_at kept region).rotation (end.moves region)
  pub queue : end.queue ≡ map queue_entry kept.entries

-- what a bank keeps says where each slot's line is and what its queue gives, and its history how often each region moved
abbrev pub end_of : {n : ℕ} → KeptState n → List (BankEvent n) → BankEnd
end_of kept h = record { table = array_line kept; moves = moved_in kept.shape.lines h; queue = map queue_entry kept.entries }

-- where the writing of the change that stands has halted, its control line is worn
abbrev pub IsHaltedWorn : {n m : ℕ} → ℕ → BankShape → List (TimedEvent n m) → ArrayState n m → Type 0
IsHaltedWorn e shape xs array = IsTrue (halted_after xs) → IfSome (change_after shape xs) (λ item. IsTrue (is_worn_at e array (control_line shape item)))

-- each slot has an array line of its own: its first, or a spare where that is worn
abbrev pub RemappedLaw : Type 0
RemappedLaw =
    (n m e : ℕ) (h : List (BankEvent n)) (bank : BankState n m e) (array : ArrayState n m)
    → Holds h bank array → IsRemapped bank.kept.shape (is_worn_at e array) (array_line bank.kept)

-- each region has moved once for so many stores; or once less, where the bank is worn out before a move that is due
abbrev pub GapsLaw : Type 0
GapsLaw =
    (off : Bool) (n m e : ℕ) (pace : Pace) (xs : List (TimedEvent n m)) (bank : BankState n m e) (array : ArrayState n m) (region : ℕ)
    → IsSized bank.kept.shape pace → Lawful bank.kept.shape pace e xs → EndsIn off bank.kept.shape pace xs → Holds (core xs) bank array
    → IsHaltedWorn e bank.kept.shape xs array
    → IsTrue (is_moved_to off bank.kept.shape (is_worn_at e array) (table_of bank.kept.shape xs) region (moved_in bank.kept.shape.lines (core xs) region))

-- what the array line that the table gives a line is read as, with what the queue gives of it laid over, are the line's newest bytes
abbrev pub KeptLaw : Type 0
KeptLaw =
    (n m e : ℕ) (pace : Pace) (xs : List (TimedEvent n m)) (bank : BankState n m e) (array : ArrayState n m) (line : ℕ)
    → Lawful bank.kept.shape pace e xs → Holds (core xs) bank array → line < bank.kept.shape.regions * bank.kept.shape.lines
    → IsTrue (is_kept_line (table_of bank.kept.shape xs) (map queue_entry bank.kept.entries) line
    (decoded e array (place_by_table bank.kept.shape (moved_in bank.kept.shape.lines (core xs)) (array_line bank.kept) line)))

-- the head of a queue is of this line, and gives every byte
abbrev pub has_whole_head : {n : ℕ} → List (Entry n) → ℕ → Bool
has_whole_head [] line = false
has_whole_head (entry ∷ entries) line = if gives_all entry.given then entry.line == line else false

-- so the bytes that are not of writes that were not stored stand in the array, but of the line of such a head, whose store may have been
-- broken off
abbrev pub StoredBytesLaw : Type 0
StoredBytesLaw =
    (n m e : ℕ) (pace : Pace) (xs : List (TimedEvent n m)) (bank : BankState n m e) (array : ArrayState n m) (line : ℕ)
    → IsSized bank.kept.shape pace → Lawful bank.kept.shape pace e xs → Holds (core xs) bank array → line < bank.kept.shape.regions * bank.kept.shape.lines
    → let newest_bytes = newest (table_of bank.kept.shape xs) line in
    IsTrue (has_whole_head bank.kept.entries line
    || same_bytes (laid newest_bytes (unstored is_stored line (table_of bank.kept.shape xs))
    (decoded e array (place_by_table bank.kept.shape (moved_in bank.kept.shape.lines (core xs)) (array_line bank.kept) line))) newest_bytes)

-- what the queue's entries of a line give, over what the array line that the table gives it is read as, is the line's newest bytes
abbrev pub StandsLaw : Type 0
StandsLaw =
    (n m e : ℕ) (pace : Pace) (xs : List (TimedEvent n m)) (bank : BankState n m e) (array : ArrayState n m) (line : ℕ)
    → Lawful bank.kept.shape pace e xs → Holds (core xs) bank array → line < bank.kept.shape.regions * bank.kept.shape.lines
    → laid (layer_of bank.kept.entries line).bytes (layer_of bank.kept.entries line).given
    (decoded e array (place_by_table bank.kept.shape (moved_in bank.kept.shape.lines (core xs)) (array_line bank.kept) line))
    ≡ newest (table_of bank.kept.shape xs) line

-- the queue has an entry for each write that is queued by the rows, and whether a store of the first was begun
abbrev pub QueueLaw : Type 0
QueueLaw =
    (off : Bool) (n m e : ℕ) (pace : Pace) (xs : List (TimedEvent n m)) (bank : BankState n m e) (array : ArrayState n m)
    → IsSized bank.kept.shape pace → Lawful bank.kept.shape pace e xs → EndsIn off bank.kept.shape pace xs → Holds (core xs) bank array
    → IsHaltedWorn e bank.kept.shape xs array
    → QueueEndsTo off bank.kept.shape (is_worn_at e array) (table_of bank.kept.shape xs) (end_of bank.kept (core xs))

-- the slot of each stored row has the row's place still, or a later spare where that place is worn
abbrev pub StillThereLaw : Type 0
StillThereLaw =
    (n m e : ℕ) (pace : Pace) (xs : List (TimedEvent n m)) (bank : BankState n m e) (array : ArrayState n m)
    → IsSized bank.kept.shape pace → Lawful bank.kept.shape pace e xs → Holds (core xs) bank array
    → IsHaltedWorn e bank.kept.shape xs array
    → IsTrue (each_row (is_still_there bank.kept.shape (is_worn_at e array) (array_line bank.kept)) (table_of bank.kept.shape xs) [])

-- after a lawful history, at whose end nothing runs and nothing would be chosen, the bank that it leads to has each line's newest
-- bytes where its own registers and its own table say, with those of its queue laid over them
abbrev pub EndLaw : Type 0
EndLaw =
    (off : Bool) (n m e : ℕ) (pace : Pace) (xs : List (TimedEvent n m)) (bank : BankState n m e) (array : ArrayState n m)
    → IsSized bank.kept.shape pace → Lawful bank.kept.shape pace e xs → EndsIn off bank.kept.shape pace xs → Holds (core xs) bank array
    → IsHaltedWorn e bank.kept.shape xs array
    → (end : BankEnd) × IsEndOf bank.kept end
    × EndsWithTo off bank.kept.shape (is_worn_at e array) (decoded e array) (table_of bank.kept.shape xs) end
