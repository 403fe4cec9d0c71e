-- How the stores of one line of a bank are spread over the places of its region.
use Rattle.std.specs.Prelude.{◌≡◌, ℕ, zero, suc, ◌+◌, ◌*◌, ◌/◌, ◌%◌, ◌<◌, ◌≤◌, ◌==◌, ◌&&◌, Bool, if◌then◌else◌, min, List, [], count_by, IsTrue}
use Rattle.result_rows.specs.declared.Outcome.TheVariants as out
use Rattle.row_rules.specs.{Answers.is_stored, Rows.{each_row, asks_write_of}, Ticking.is_in_time, declared.Row.Row, declared.Rules.Rules}
use Rattle.start_gap.specs.Rotation.{turn, gap_after}
use Rattle.bank_shape.specs.{Shape.{slots_of, slot_moved}, declared.BankShape.BankShape, declared.pace.Pace.Pace}
use Rattle.bank_model.specs.{Lawful.Lawful, Timing.TimedEvent}
use Rattle.bank_laws.specs.{Laws.IsSized, Outcomes.table_of}
use Rattle.right_runs.specs.{LineWrites.{is_stored_on, most_moves}, Places.{region_stores, is_placed}}

-- how many of the numbers below n pass a test
abbrev pub passing : (ℕ → Bool) → ℕ → ℕ
passing test zero = 0
passing test (suc n) = (if test n then 1 else 0) + passing test n

-- how many writes of a line were stored on an array line, by the places of the rows
abbrev pub stores_on : {n : ℕ} → ℕ → ℕ → List (Row n) → ℕ
stores_on line at rows = count_by (λ q. asks_write_of line q.asks && is_stored_on at q.outcome) rows

-- how many stores of a region come while a line stays at one place, and how many make its gap turn fully
abbrev pub stay : ℕ → ℕ → ℕ
stay lines psi = lines * psi

abbrev pub whole_turn : ℕ → ℕ → ℕ
whole_turn lines psi = turn lines * psi

-- the most of so many successive stores of a region that find a line at one place: a whole stay for each full turn, and at most
-- one stay of the rest
abbrev pub most_at : ℕ → ℕ → ℕ → ℕ
most_at lines psi count =
    stay lines psi * (count / whole_turn lines psi) + min (stay lines psi) (count % whole_turn lines psi)

-- of so many stores of its region, those that find a line at this slot
abbrev pub finding_at : BankShape → ℕ → ℕ → ℕ → ℕ
finding_at shape line slot count = passing (λ k. slot_moved shape line (k / shape.psi) == slot) count

-- ---- the laws of the rotation alone

-- whatever the trace, of the first `count` stores of a region at most so many find a line at one slot
abbrev pub StayLaw : Type 0
StayLaw =
    (shape : BankShape) (line slot count : ℕ) → 1 ≤ shape.lines → 1 ≤ shape.psi
    → finding_at shape line slot count ≤ most_at shape.lines shape.psi count

-- and that many do: line 0 at its first place
abbrev pub TightLaw : Type 0
TightLaw =
    (shape : BankShape) (count : ℕ) → 1 ≤ shape.lines → 1 ≤ shape.psi
    → most_at shape.lines shape.psi count ≤ finding_at shape 0 0 count

-- N + 1 times those are at most all stores, and N times a stay
abbrev pub EvenLaw : Type 0
EvenLaw =
    (lines psi count : ℕ) → 1 ≤ lines → 1 ≤ psi
    → (lines + 1) * most_at lines psi count ≤ count + lines * stay lines psi

-- without a full stay all stores may be at one place: that is so where no gap moves
abbrev pub OneStayLaw : Type 0
OneStayLaw = (lines psi count : ℕ) → 1 ≤ lines → 1 ≤ psi → count ≤ stay lines psi → most_at lines psi count ≡ count

abbrev pub CopiesLaw : Type 0
CopiesLaw = (lines place moves : ℕ) → passing (λ t. gap_after lines t == place) moves ≤ most_moves lines moves

-- ---- the laws of a table of rows

-- rows that are placed and in time: as many stores of a line are on the array line of a slot as find the line there
abbrev pub FoundLaw : Type 0
FoundLaw =
    (n : ℕ) (rules : Rules) (shape : BankShape) (worn : ℕ → Bool) (rows : List (Row n)) (line slot : ℕ)
    → 1 ≤ rules.read_ticks → slot < slots_of shape
    → IsTrue (each_row (is_in_time rules) rows []) → IsTrue (each_row (is_placed shape worn) rows [])
    → stores_on line (shape.base + slot) rows ≤ finding_at shape line slot (region_stores is_stored shape (line / shape.lines) rows)

-- so of the stores of one line those on the array line of one slot are at most so many
abbrev pub SpreadLaw : Type 0
SpreadLaw =
    (n : ℕ) (rules : Rules) (shape : BankShape) (worn : ℕ → Bool) (rows : List (Row n)) (line slot : ℕ)
    → 1 ≤ shape.lines → 1 ≤ shape.psi → 1 ≤ rules.read_ticks → slot < slots_of shape
    → IsTrue (each_row (is_in_time rules) rows []) → IsTrue (each_row (is_placed shape worn) rows [])
    → stores_on line (shape.base + slot) rows ≤ most_at shape.lines shape.psi (region_stores is_stored shape (line / shape.lines) rows)

-- ---- the law of a history

-- no array line of the bank, a slot's own or a spare, takes more of the stores of one line
abbrev pub AnyLineLaw : Type 0
AnyLineLaw =
    (n m e : ℕ) (shape : BankShape) (pace : Pace) (xs : List (TimedEvent n m)) (line at : ℕ)
    → IsSized shape pace → Lawful shape pace e xs
    → stores_on line at (table_of shape xs)
    ≤ most_at shape.lines shape.psi (region_stores is_stored shape (line / shape.lines) (table_of shape xs))
