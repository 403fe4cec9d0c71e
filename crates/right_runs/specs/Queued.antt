-- The writes that stand in a bank's queue in the end, by its rows alone, and what they give.
use Rattle.std.specs.{List.list_any, Prelude.{ℕ, List, ◌∷◌, ◌==◌, ◌&&◌, if◌then◌else◌, [], filter, Bool, false, map}}
use Rattle.masked_bytes.specs.{Entries.{Layer, stacked}, Masked.{all_given, laid}}
use Rattle.result_rows.specs.declared.Outcome.{Outcome}
use Rattle.row_rules.specs.{Answers.{is_merged, is_queued}, Rows.{newest, line_of, bytes_of, given_of, accepted}, declared.Row.Row}

-- what one place of a queue gives: some bytes of a line
pub record QueueEntry : Type 0 where
  pub line : ℕ
  pub gives : Layer

-- the bytes of a line with what a queue gives of it laid over them, the oldest entry first
abbrev pub laid_over : List QueueEntry → ℕ → List ℕ → List ℕ
laid_over [] line held = held
laid_over (entry ∷ entries) line held =
    laid_over entries line (if entry.line == line then laid entry.gives.bytes entry.gives.given held else held)

-- an accepted write: its line, what it and those that were merged into it give, the newest bytes of its line as it came, and what
-- became of it
pub record QueuedWrite (n : ℕ) : Type 0 where
  pub line : ℕ
  pub gives : Layer
  pub newest : List ℕ
  pub outcome : Outcome n

module _ {n : ℕ} where
  -- a write as it comes behind these rows, the newest of them first
  abbrev pub coming : List (Row n) → Row n → QueuedWrite n
  coming before r = record {
    line = line_of r.asks;
    gives = record { bytes = bytes_of r.asks; given = given_of r.asks };
    newest = newest (r ∷ before) (line_of r.asks);
    outcome = r.outcome;
  }

  -- a write that another one was merged into
  abbrev pub merging : QueuedWrite n → QueuedWrite n → QueuedWrite n
  merging w old = record { line = w.line; gives = stacked w.gives old.gives; newest = w.newest; outcome = w.outcome }

  -- a write takes the place of the one that was merged into it, or goes last
  abbrev pub queued_after : QueuedWrite n → List (QueuedWrite n) → List (QueuedWrite n)
  queued_after w [] = w ∷ []
  queued_after w (old ∷ ws) = if old.line == w.line && is_merged old.outcome then merging w old ∷ ws else old ∷ queued_after w ws

  -- the accepted writes of these rows by their places in the queue, but those that gave their place to a later one
  abbrev pub by_order : List (Row n) → List (QueuedWrite n)
  by_order [] = []
  by_order (r ∷ before) = if accepted r then queued_after (coming before r) (by_order before) else by_order before

  -- those that are queued in the end
  abbrev pub queued_writes : List (Row n) → List (QueuedWrite n)
  queued_writes rows = filter (λ w. is_queued w.outcome) (by_order rows)

  -- whether another of these writes is of the first one's line
  abbrev pub first_again : List (QueuedWrite n) → Bool
  first_again [] = false
  first_again (w ∷ ws) = list_any (λ other. other.line == w.line) ws

  -- an entry gives what its writes give; or, once a store of it was begun, every byte of its line, as they were newest when the write came
  abbrev pub entry_by : Bool → QueuedWrite n → QueueEntry
  entry_by begun w = record { line = w.line; gives = if begun then record { bytes = w.newest; given = all_given n } else w.gives }

  -- the entries of these writes, where a store of the first was begun or not
  abbrev pub entries_by : Bool → List (QueuedWrite n) → List QueueEntry
  entries_by begun [] = []
  entries_by begun (w ∷ ws) = entry_by begun w ∷ map (entry_by false) ws
