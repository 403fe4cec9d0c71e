-- The first row of a table that breaks a law.
use Rattle.std.specs.Prelude.{ℕ, ◌+◌, List, [], ◌∷◌, Bool, if◌then◌else◌, filter, Option, Some, None}
use Rattle.row_rules.specs.{Queueing.{has_room, is_queue_fair}, Rows.RowTest, Serving.is_served, Ticking.is_in_time, Wearing.{is_wear_final, is_wear_earned}, declared.Asks.Asks}
use Rattle.row_rules.specs.{declared.Row.Row, declared.Rules.Rules}

-- the bank whose rows pass the test `own` holds no more than it may as a row comes
abbrev pub finds_room : {n : ℕ} → (Asks n → Bool) → Rules → RowTest n
finds_room own rules before r after = has_room rules r.tick (filter (λ q. own q.asks) before)

-- the laws: what is served, what the queue holds, what follows from a worn line and what goes before it, and the times
pub data Law : Type 0 where
  Serves : Law
  Queues : Law
  Wears : Law
  Earns : Law
  Ticks : Law

abbrev pub test_of : {n : ℕ} → Rules → Law → RowTest n
test_of rules Serves = is_served
test_of rules Queues = is_queue_fair rules
test_of rules Wears = is_wear_final
test_of rules Earns = is_wear_earned
test_of rules Ticks = is_in_time rules

abbrev pub all_laws : List Law
all_laws = Serves ∷ Queues ∷ Wears ∷ Earns ∷ Ticks ∷ []

-- a row, counted from 1, with the law that it breaks
pub record Fault : Type 0 where
  pub row : ℕ
  pub law : Law

-- the first of these laws that a row breaks
abbrev pub broken_by : {n : ℕ} → Rules → List Law → List (Row n) → Row n → List (Row n) → Option Law
broken_by rules [] before r after = None
broken_by rules (law ∷ laws) before r after =
    if test_of rules law before r after then broken_by rules laws before r after else Some law

-- this row's fault, or else that of a later one
abbrev pub or_later : ℕ → Option Law → Option Fault → Option Fault
or_later number (Some law) later = Some (record { row = number; law = law })
or_later number None later = later

-- the lowest of these rows, the oldest first, that breaks one of these laws, with the first that it breaks
abbrev pub fault_from : {n : ℕ} → Rules → List Law → ℕ → List (Row n) → List (Row n) → Option Fault
fault_from rules laws number before [] = None
fault_from rules laws number before (r ∷ after) =
    or_later number (broken_by rules laws before r after) (fault_from rules laws (number + 1) (r ∷ before) after)

-- that of a whole table, the oldest row first; none where every row keeps every law
abbrev pub first_fault : {n : ℕ} → Rules → List (Row n) → Option Fault
first_fault rules rows = fault_from rules all_laws 1 [] rows
