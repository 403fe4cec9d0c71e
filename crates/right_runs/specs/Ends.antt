-- Where each line's newest bytes are in the end.
use Rattle.std.specs.List.{list_any}
use Rattle.std.specs.Prelude.{ℕ, ◌+◌, ◌/◌, ◌%◌, ◌==◌, ◌&&◌, ◌||◌, Bool, List, false, ◌≡◌, ◌≢◌, ◌⊎◌, ◌<◌, ◌≤◌, IsTrue, IsFalse, nat_lt, nat_le, true, ◌∷◌, ◌++◌, ◌*◌, []}
use Rattle.row_rules.specs.{Answers.{is_stored, stored_before}, Rows.{newest, RowTest, line_of, each_row}, Serving.same_bytes, Wearing.worn_row, declared.Row.Row}
use Rattle.bank_shape.specs.{Shape.{slots_of, slot_moved, controls_from, controls_of}, declared.BankShape.BankShape}
use Rattle.right_runs.specs.{Places.region_stores, Queued.{QueueEntry, entries_by, first_again, laid_over, queued_writes}, WornLines.{may_leave, worn_among}}
use Rattle.result_rows.specs.declared.Outcome.{Outcome}
use Rattle.result_rows.specs.declared.Outcome.TheVariants as out

-- the moves of a region in the end. One that is due may be left, too, where the power is off
abbrev pub is_moved_to : {n : ℕ} → Bool → BankShape → (ℕ → Bool) → List (Row n) → ℕ → ℕ → Bool
is_moved_to off shape worn rows region moves =
    let count = region_stores is_stored shape region rows in
    moves == count / shape.psi
    || (moves + 1 == count / shape.psi && (count % shape.psi == 0 && (off || may_leave shape worn)))

-- the same where the power isn't off
abbrev pub is_moved : {n : ℕ} → BankShape → (ℕ → Bool) → List (Row n) → ℕ → ℕ → Bool
is_moved shape worn rows region moves = is_moved_to false shape worn rows region moves

-- an array line for each slot of a bank, no two the same: its own, or a spare where its own is worn
pub record IsRemapped (shape : BankShape) (worn : ℕ → Bool) (table : ℕ → ℕ) : Type 0 where
  pub apart : (slot other : ℕ) → slot < slots_of shape → other < slots_of shape → table slot ≡ table other → slot ≡ other
  pub lines : (slot : ℕ) → slot < slots_of shape
      → (table slot ≡ shape.base + slot)
      ⊎ ((shape.base + slots_of shape ≤ table slot) × (table slot < shape.base + slots_of shape + shape.spares) × IsTrue (worn (shape.base + slot)))

-- the array line where a bank line stands, by the moves of each region and the table
abbrev pub place_by_table : BankShape → (ℕ → ℕ) → (ℕ → ℕ) → ℕ → ℕ
place_by_table shape moves table line = table (slot_moved shape line (moves (line / shape.lines)))

-- the newest bytes of a line: those of the array, with what the queue gives of it laid over them
abbrev pub is_kept_line : {n : ℕ} → List (Row n) → List QueueEntry → ℕ → List ℕ → Bool
is_kept_line rows queue line held = same_bytes (laid_over queue line held) (newest rows line)

-- a stored row's slot has its place, or a spare of a greater number, and then the place is worn
abbrev pub has_place : ℕ → (ℕ → Bool) → ℕ → ℕ → Bool
has_place spares_from worn now place = now == place || (nat_lt place now && (nat_le spares_from now && worn place))

-- a row with this outcome: a stored one is still where the table has its slot
abbrev pub outcome_ends : {n : ℕ} → BankShape → (ℕ → Bool) → (ℕ → ℕ) → ℕ → List (Row n) → Outcome n → Bool
outcome_ends shape worn table line all (out.Stored tick place) =
    has_place (shape.base + slots_of shape) worn
    (table (slot_moved shape line (region_stores (stored_before tick) shape (line / shape.lines) all / shape.psi))) place
outcome_ends shape worn table line all outcome = true

-- each row that was stored
abbrev pub is_still_there : {n : ℕ} → BankShape → (ℕ → Bool) → (ℕ → ℕ) → RowTest n
is_still_there shape worn table before r after = outcome_ends shape worn table (line_of r.asks) (before ++ r ∷ after) r.outcome

-- what the end of a bank is: an array line of each slot, the moves of each region, and the entries of its queue, the oldest first
pub record BankEnd : Type 0 where
  pub table : ℕ → ℕ
  pub moves : ℕ → ℕ
  pub queue : List QueueEntry

-- each region has moved as often as its stores say: no move is due
abbrev pub NoneDue : {n : ℕ} → BankShape → List (Row n) → BankEnd → Type 0
NoneDue shape rows end = (region : ℕ) → region < shape.regions → end.moves region ≡ region_stores is_stored shape region rows / shape.psi

-- the queue has an entry for each write that is queued by the rows, in the order in which they came there. A store of the first of them
-- was begun or not: never where no write is queued or a gap move is due; always where another of them is of its line. Where no move is
-- due it was begun, too, where a write was refused as worn, and where one is queued though the power isn't off, unless a control line is worn
pub record QueueEndsTo {n : ℕ} (off : Bool) (shape : BankShape) (worn : ℕ → Bool) (rows : List (Row n)) (end : BankEnd) : Type 0 where
  pub begun : Bool
  pub entries : end.queue ≡ entries_by begun (queued_writes rows)
  pub some : IsTrue begun → queued_writes rows ≢ []
  pub none_due : IsTrue begun → NoneDue shape rows end
  pub again : IsTrue (first_again (queued_writes rows)) → IsTrue begun
  pub refused : IsTrue (list_any worn_row rows) → NoneDue shape rows end → IsTrue begun
  pub left : IsFalse off → queued_writes rows ≢ [] → NoneDue shape rows end
      → IsTrue begun ⊎ (0 < worn_among worn (controls_from shape) (controls_of shape))

-- a bank in the end, over its table of rows, the newest first: by one table of lines and the moves of its regions each line's newest
-- bytes are those of the array with those of the queue laid over them, which holds the writes that are queued. A move that is due may be
-- left where the power is off
pub record EndsWithTo {n : ℕ} (off : Bool) (shape : BankShape) (worn : ℕ → Bool) (held : ℕ → List ℕ) (rows : List (Row n)) (end : BankEnd) : Type 0 where
  pub lines : IsRemapped shape worn end.table
  pub moved : (region : ℕ) → region < shape.regions → IsTrue (is_moved_to off shape worn rows region (end.moves region))
  pub queue : QueueEndsTo off shape worn rows end
  pub kept : (line : ℕ) → line < shape.regions * shape.lines
      → IsTrue (is_kept_line rows end.queue line (held (place_by_table shape end.moves end.table line)))
  pub stored : IsTrue (each_row (is_still_there shape worn end.table) rows [])

-- the same where the power isn't off
abbrev pub EndsWith : {n : ℕ} → BankShape → (ℕ → Bool) → (ℕ → List ℕ) → List (Row n) → BankEnd → Type 0
EndsWith shape worn held rows end = EndsWithTo false shape worn held rows end
