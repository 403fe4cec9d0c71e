-- What a row changes in what is found of those before it.
use Rattle.std.specs.{List.list_any, Prelude.{ℕ, ◌&&◌, ◌||◌, not, nat_le, nat_lt, Bool, true, ◌++◌, [], ◌∷◌, if◌then◌else◌, List, Option, Some, None}}
use Rattle.masked_bytes.specs.Masked.{joined, none_given}
use Rattle.result_rows.specs.declared.Outcome.{Outcome}
use Rattle.result_rows.specs.declared.Outcome.TheVariants as out
use Rattle.row_rules.specs.{Answers.{is_answered, is_lost, is_stored, stored_by, stored_before}, Queueing.none_before, Rows.{accepted_of, asks_read, given_of, write_of}}
use Rattle.row_rules.specs.declared.Row.{Row}
use Rattle.check_telling.specs.declared.mates.Numbered.{Numbered}

-- the bytes of a line that the queue gives at a tick
abbrev pub with_given : {n : ℕ} → ℕ → ℕ → Row n → List Bool → List Bool
with_given {n} tick line q under =
    if write_of line q && stored_by tick q.outcome then none_given n else (if accepted_of line q then joined (given_of q.asks) under else under)

-- a write is not stored before a tick, or not at all where there is none
abbrev pub leaves_later : {n : ℕ} → Option ℕ → Outcome n → Bool
leaves_later (Some u) o = not (stored_before u o)
leaves_later None o = not (is_stored o)

-- a write of another line leaves before a line's next store, or at all where that has none
abbrev pub is_ahead : {n : ℕ} → ℕ → Option ℕ → Row n → Bool
is_ahead line next q = not (write_of line q || leaves_later next q.outcome)

-- when a write leaves the queue, if it does
abbrev pub leave_of : {n : ℕ} → Outcome n → Option ℕ
leave_of (out.Stored u place) = Some u
leave_of (out.Merged u) = Some u
leave_of _ = None

-- a write is stored before one with this outcome leaves, or at all where that never does
abbrev pub is_stored_first : {n : ℕ} → Outcome n → Row n → Bool
is_stored_first o q = not (leaves_later (leave_of o) q.outcome)

-- a write is of another line, or came before a tick and leaves before any of these is stored
abbrev pub is_other_or_first : {n : ℕ} → List (Row n) → ℕ → ℕ → Row n → Bool
is_other_or_first all tick line q = not (write_of line q) || (nat_lt q.tick tick && none_before q.outcome all)

-- at most one of these is a write of a line
abbrev pub has_one : {n : ℕ} → ℕ → List (Row n) → Bool
has_one line [] = true
has_one line (q ∷ rows) = if write_of line q then not (list_any (write_of line) rows) else has_one line rows

-- the ticks above another at which rows are read, the oldest row first
abbrev pub with_read_at : {n : ℕ} → ℕ → Outcome n → List ℕ → List ℕ
with_read_at tick (out.Read u place bytes) found = if nat_lt tick u then found ++ u ∷ [] else found
with_read_at tick _ found = found

-- a row is a read that came at a tick or later, and is read or lost
abbrev pub came_from : {n : ℕ} → ℕ → Numbered n → Bool
came_from v one = asks_read one.row.asks && (nat_le v one.row.tick && (is_answered one.row.outcome || is_lost one.row.outcome))

-- the ticks above another at which rows are stored, the oldest row first
abbrev pub with_store : {n : ℕ} → ℕ → Outcome n → List ℕ → List ℕ
with_store tick (out.Stored u place) found = if nat_lt tick u then found ++ u ∷ [] else found
with_store tick _ found = found
