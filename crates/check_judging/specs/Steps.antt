-- How the writes that stand and the reads that wait change, as time passes and with each row.
use Rattle.std.specs.Prelude.{◌≡◌, ℕ, ◌≤◌, ◌&&◌, not, Bool, if◌then◌else◌, List, [], ◌∷◌, filter}
use Rattle.row_rules.specs.{Answers.{is_lost, is_merged, stored_by, read_by}, Queueing.{stands, pending, awaits, waiting}, Rows.{accepted_of, is_cut, line_of}, declared.Row.Row}

module _ {n : ℕ} where
  -- a write of these stays in the queue up to tick u
  abbrev pub stays : ℕ → Row n → Bool
  stays u q = not (stored_by u q.outcome)

  -- it stays behind a row: it isn't merged into it
  abbrev pub stays_behind : Row n → Row n → Bool
  stays_behind r q = not (is_merged q.outcome && accepted_of (line_of q.asks) r)

  -- a read still waits at tick u, and behind a row
  abbrev pub waits_on : ℕ → Row n → Bool
  waits_on u q = not (read_by u q.outcome)

  abbrev pub waits_behind : Row n → Row n → Bool
  waits_behind r q = not (is_lost q.outcome && is_cut r)

-- as time passes
pub record Settles {n : ℕ} (t u : ℕ) (rows : List (Row n)) : Type 0 where
  pub writes : pending u [] rows ≡ filter (stays u) (pending t [] rows)
  pub reads : waiting u [] rows ≡ filter (waits_on u) (waiting t [] rows)

abbrev pub SettleLaw : Type 0
SettleLaw = (n t u : ℕ) (rows : List (Row n)) → t ≤ u → Settles t u rows

-- with one row more
pub record Joins {n : ℕ} (t : ℕ) (r : Row n) (rows : List (Row n)) : Type 0 where
  pub writes : pending t [] (r ∷ rows) ≡ (if stands t [] r then r ∷ filter (stays_behind r) (pending t [] rows) else filter (stays_behind r) (pending t [] rows))
  pub reads : waiting t [] (r ∷ rows) ≡ (if awaits t [] r then r ∷ filter (waits_behind r) (waiting t [] rows) else filter (waits_behind r) (waiting t [] rows))

abbrev pub StepLaw : Type 0
StepLaw = (n t : ℕ) (r : Row n) (rows : List (Row n)) → Joins t r rows
