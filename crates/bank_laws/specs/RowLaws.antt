-- The laws of a bank's rows, one by one: those of a whole table, as far as they are proved.
use Rattle.std.specs.Prelude.{ℕ, Bool, not, ◌&&◌, ◌||◌, ◌==◌, nat_le, if◌then◌else◌, length, IsTrue, List, []}
use Rattle.result_rows.specs.declared.Outcome.{Outcome}
use Rattle.row_rules.specs.{Answers.{is_answered, is_busy, is_forwarded, is_full, is_lost}, Queueing.{merge_fits, pending, waiting}}
use Rattle.row_rules.specs.{Rows.{RowTest, each_row, asks_read, asks_write, line_of}, Serving.is_served, Wearing.{is_wear_final, is_wear_earned}}
use Rattle.bank_shape.specs.{declared.BankShape.BankShape, declared.pace.Pace.Pace}
use Rattle.bank_model.specs.{Lawful.Lawful, Timing.TimedEvent}
use Rattle.bank_laws.specs.{Laws.IsSized, Outcomes.table_of, Resting.IsStill}

-- each row has an outcome of its own operation, and each read that is answered has the newest bytes of its line
abbrev pub ServedLaw : Type 0
ServedLaw =
    (n m e : ℕ) (shape : BankShape) (pace : Pace) (xs : List (TimedEvent n m)) → Lawful shape pace e xs → IsStill shape xs
    → IsTrue (each_row is_served (table_of shape xs) [])

-- behind a write that was refused since a worn line found no spare every write is, and none is stored at its tick or later;
-- and before it some write was accepted
pub record KeepsWear {n m : ℕ} (shape : BankShape) (xs : List (TimedEvent n m)) : Type 0 where
  pub final : IsTrue (each_row is_wear_final (table_of shape xs) [])
  pub earned : IsTrue (each_row is_wear_earned (table_of shape xs) [])

abbrev pub WearLaw : Type 0
WearLaw =
    (n m e : ℕ) (shape : BankShape) (pace : Pace) (xs : List (TimedEvent n m)) → IsSized shape pace → Lawful shape pace e xs
    → KeepsWear shape xs

-- a write that is merged has an accepted write of its line behind it, and carries the tick of the next such one
abbrev pub is_merge_fair : {n : ℕ} → RowTest n
is_merge_fair before r after = not (asks_write r.asks) || merge_fits (line_of r.asks) r.outcome after

abbrev pub MergeLaw : Type 0
MergeLaw =
    (n m e : ℕ) (shape : BankShape) (pace : Pace) (xs : List (TimedEvent n m)) → Lawful shape pace e xs
    → IsTrue (each_row is_merge_fair (table_of shape xs) [])

-- a read that isn't forwarded is busy exactly where as many reads wait as may, and else it is read or lost
abbrev pub waits_fit : {n : ℕ} → ℕ → ℕ → Outcome n → Bool
waits_fit reads count outcome =
    is_forwarded outcome || (if count == reads then is_busy outcome else is_answered outcome || is_lost outcome)

-- at each row no more reads wait than may, and a read's own outcome is the one that follows
abbrev pub is_wait_fair : {n : ℕ} → ℕ → RowTest n
is_wait_fair reads before r after =
    nat_le (length (waiting r.tick [] before)) reads
    && (not (asks_read r.asks) || waits_fit reads (length (waiting r.tick [] before)) r.outcome)

abbrev pub WaitLaw : Type 0
WaitLaw =
    (n m e : ℕ) (shape : BankShape) (pace : Pace) (xs : List (TimedEvent n m)) → IsSized shape pace → Lawful shape pace e xs
    → IsStill shape xs → IsTrue (each_row (is_wait_fair shape.reads) (table_of shape xs) [])

-- at each row the queue holds no more writes than it may, and a write that is refused as full finds exactly as many
abbrev pub is_room_fair : {n : ℕ} → ℕ → RowTest n
is_room_fair writes before r after =
    nat_le (length (pending r.tick [] before)) writes
    && (not (asks_write r.asks && is_full r.outcome) || length (pending r.tick [] before) == writes)

abbrev pub QueueLaw : Type 0
QueueLaw =
    (n m e : ℕ) (shape : BankShape) (pace : Pace) (xs : List (TimedEvent n m)) → IsSized shape pace → Lawful shape pace e xs
    → IsTrue (each_row (is_room_fair shape.writes) (table_of shape xs) [])
