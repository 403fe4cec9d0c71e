-- What waits in a bank, by its rows.
use Rattle.std.specs.Prelude.{◌≡◌, ℕ, ◌&&◌, Bool, List, count_by}
use Rattle.row_rules.specs.{Answers.is_queued, Rows.{asks_read, asks_write}, declared.Row.Row}
use Rattle.answered_laws.specs.Answered.{is_open}
use Rattle.row_printer.specs.declared.told.Backlog.{Backlog}

-- a write that is queued, and a read that has no outcome
abbrev pub is_queued_write : {n : ℕ} → Row n → Bool
is_queued_write r = asks_write r.asks && is_queued r.outcome

abbrev pub is_open_read : {n : ℕ} → Row n → Bool
is_open_read r = asks_read r.asks && is_open r.outcome

-- as many of a bank's rows wait as is told: writes that are queued, and reads without an outcome
pub record CountsBacklog {n : ℕ} (rows : List (Row n)) (backlog : Backlog) : Type 0 where
  pub writes : backlog.writes ≡ count_by is_queued_write rows
  pub reads : backlog.reads ≡ count_by is_open_read rows
