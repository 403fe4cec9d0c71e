-- How many of a bank's array lines are worn in the end, and what its rows may say only then.
use Rattle.std.specs.Prelude.{ℕ, zero, suc, ◌+◌, Bool, if◌then◌else◌, nat_le, ◌||◌, nat_lt, ◌&&◌, not, false, [], length}
use Rattle.bank_shape.specs.{Shape.{slots_of, controls_of}, declared.BankShape.BankShape}
use Rattle.row_rules.specs.{Answers.{is_queued, accepts}, Queueing.pending, Rows.{RowTest, asks_write}, Wearing.worn_row, declared.Rules.Rules}

-- how many of n lines from one on are worn
abbrev pub worn_among : (ℕ → Bool) → ℕ → ℕ → ℕ
worn_among worn from zero = 0
worn_among worn from (suc n) = (if worn from then 1 else 0) + worn_among worn (from + 1) n

-- more of the lines of slots and spares are worn than there are spares
abbrev pub is_worn_out : BankShape → (ℕ → Bool) → Bool
is_worn_out shape worn = nat_le (shape.spares + 1) (worn_among worn shape.base (slots_of shape + shape.spares))

-- that, or a control line is worn: why a bank may leave work undone
abbrev pub may_leave : BankShape → (ℕ → Bool) → Bool
may_leave shape worn =
    is_worn_out shape worn || nat_lt 0 (worn_among worn (shape.base + slots_of shape + shape.spares) (controls_of shape))

-- a worn row says that too many lines are worn, and a queued one that, or that a control line is, or that the power is off
abbrev pub is_wear_true_to : {n : ℕ} → Bool → BankShape → (ℕ → Bool) → RowTest n
is_wear_true_to off shape worn before r after =
    (not (worn_row r) || is_worn_out shape worn) && (not (asks_write r.asks && is_queued r.outcome) || (off || may_leave shape worn))

-- the same where the power isn't off
abbrev pub is_wear_true : {n : ℕ} → BankShape → (ℕ → Bool) → RowTest n
is_wear_true shape worn before r after = is_wear_true_to false shape worn before r after

-- a write that finds room in the queue of a bank that is not worn out is accepted, and leaves the queue again, where the power isn't off
abbrev pub is_taken_to : {n : ℕ} → Bool → Rules → BankShape → (ℕ → Bool) → RowTest n
is_taken_to off rules shape worn before r after =
    not (asks_write r.asks && (nat_lt (length (pending r.tick [] before)) rules.writes && not (may_leave shape worn)))
    || (accepts r.outcome && (off || not (is_queued r.outcome)))

-- the same where the power isn't off
abbrev pub is_taken : {n : ℕ} → Rules → BankShape → (ℕ → Bool) → RowTest n
is_taken rules shape worn before r after = is_taken_to false rules shape worn before r after
