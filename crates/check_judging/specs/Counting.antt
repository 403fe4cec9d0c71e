-- The next and the last of a bank's stores, told by how many there are.
use Rattle.std.specs.{List.list_all, Prelude.{◌≡◌, ℕ, ◌==◌, ◌&&◌, ◌||◌, List, nat_le, nat_lt, count_by}}
use Rattle.row_rules.specs.{Answers.{stored_after, stored_by}, Queueing.{next_store, is_first}, Rows.write_of, Ticking.{last_store, stores_in}, declared.Row.Row}
use Rattle.check_judging.specs.Standing.{at_end}

-- how many of these are writes of a line that are stored above tick t and up to e
abbrev pub line_stores : {n : ℕ} → ℕ → ℕ → ℕ → List (Row n) → ℕ
line_stores line t e rows = count_by (λ q. write_of line q && (stored_after t q.outcome && stored_by e q.outcome)) rows

-- no member of another line is stored before the line's next store exactly where, by each tick at which one is, the line has had one
abbrev pub FirstByCountLaw : Type 0
FirstByCountLaw =
    (n t line : ℕ) (rows ps : List (Row n))
    → is_first line (next_store t line rows) ps ≡ list_all (λ q. write_of line q || at_end (λ e. nat_lt 0 (line_stores line t e rows)) q.outcome) ps

-- the last store up to tick a comes by d exactly where none lies between
abbrev pub LastByCountLaw : Type 0
LastByCountLaw = (n a d : ℕ) (rows : List (Row n)) → nat_le (last_store a rows) d ≡ (stores_in d a rows == 0)
