-- The most line writes of one array line by the rows: of a slot's own line, and of a control line, which is written by line writes of its
-- own.
use Rattle.std.specs.Prelude.{ℕ, ◌==◌, Bool, false, ◌&&◌, List, count_by, ◌+◌, ◌/◌, ◌%◌, min, ◌*◌, nat_lt, if◌then◌else◌}
use Rattle.result_rows.specs.declared.Outcome.{Outcome}
use Rattle.result_rows.specs.declared.Outcome.TheVariants as out
use Rattle.row_rules.specs.{Answers.is_stored, Rows.{asks_write, is_cut}, Ticking.tries, declared.Row.Row, declared.Rules.Rules}
use Rattle.bank_shape.specs.declared.BankShape.{BankShape}
use Rattle.right_runs.specs.Places.{region_stores}

-- stored on this array line
abbrev pub is_stored_on : {n : ℕ} → ℕ → Outcome n → Bool
is_stored_on at (out.Stored tick place) = place == at
is_stored_on at _ = false

-- how many writes were stored on an array line, of whatever line
abbrev pub stores_at : {n : ℕ} → ℕ → List (Row n) → ℕ
stores_at at rows = count_by (λ q. asks_write q.asks && is_stored_on at q.outcome) rows

-- of so many successive moves of a region, at most so many copy into one place
abbrev pub most_moves : ℕ → ℕ → ℕ
most_moves lines moves = moves / (lines + 1) + min 1 (moves % (lines + 1))

-- the most line writes of a slot's own array line, each begun once: its stores, the gap moves into it, one that gives it up, and one
-- for each cut
abbrev pub most_works : {n : ℕ} → BankShape → List (Row n) → ℕ → ℕ
most_works shape rows slot =
    stores_at (shape.base + slot) rows
    + most_moves shape.lines (region_stores is_stored shape (slot / (shape.lines + 1)) rows / shape.psi)
    + 1 + count_by is_cut rows

-- the most pulses of one line write, as often as it may be begun
abbrev pub most_each : Rules → ℕ
most_each rules = tries rules.policy * rules.steps

-- the most changes of an item by the rows: of a region's one for each of its stores and moves, of a spare's and of the mark one
abbrev pub most_changes : {n : ℕ} → BankShape → List (Row n) → ℕ → ℕ
most_changes shape rows item =
    if nat_lt item shape.regions
    then region_stores is_stored shape item rows + region_stores is_stored shape item rows / shape.psi
    else 1

-- the most line writes of an item's control line, each begun once: one for each change, and one for each cut
abbrev pub most_kept : {n : ℕ} → BankShape → List (Row n) → ℕ → ℕ
most_kept shape rows item = most_changes shape rows item + count_by is_cut rows
