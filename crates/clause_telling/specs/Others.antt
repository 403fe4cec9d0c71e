-- Rows by which others are judged: the first from which one doesn't lie apart, and the last before which other bytes were the newest.
use Rattle.std.specs.Prelude.{ℕ, ◌+◌, not, Bool, if◌then◌else◌, List, [], ◌∷◌, Option, Some, None, length}
use Rattle.result_rows.specs.declared.Outcome.{Outcome}
use Rattle.row_rules.specs.{Rows.newest, Serving.same_bytes, Ticking.apart, declared.Row.Row}
use Rattle.check_telling.specs.declared.facts.RowAt.{RowAt}

module _ {n : ℕ} where
  -- a row doesn't lie apart from another
  abbrev pub is_near : ℕ → Outcome n → Row n → Bool
  is_near read o q = not (apart read o q.outcome)

  -- the last of these rows, the newest first, before which a line's newest bytes were these
  abbrev pub stale_at : List ℕ → ℕ → List (Row n) → Option RowAt
  stale_at told line [] = None
  stale_at told line (q ∷ before) =
      if same_bytes told (newest before line) then Some (record { row = length before + 1; tick = q.tick }) else stale_at told line before

-- the row at an index, where these are a line's newest bytes before it, or else another
abbrev pub stale_or : Bool → ℕ → ℕ → Option RowAt → Option RowAt
stale_or same index tick found = if same then Some (record { row = index + 1; tick = tick }) else found
