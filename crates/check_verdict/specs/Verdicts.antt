-- The verdict on a finished table of several banks: the lowest row that breaks a rule, and the first rule that it breaks.
use Rattle.std.specs.{List.list_all, Prelude.{ℕ, ◌+◌, ◌&&◌, IsTrue, if◌then◌else◌, List, [], ◌∷◌, reverse, Option, Some, None, slice_get, unwrap_or}}
use Rattle.row_rules.specs.{Queueing.{has_room, is_queue_fair}, Rows.{RowTest, each_row}, Serving.is_served, Table.of_bank, Ticking.is_in_time, Wearing.is_wear_final}
use Rattle.row_rules.specs.{declared.Asks.Asks, declared.Asks.TheVariants.{Reads, Writes, Cuts}, declared.Row.Row, declared.Rules.Rules}
use Rattle.check_verdict.specs.{declared.Rule.Rule, declared.Verdict.Verdict, declared.Verdict.TheVariants.{Yes, No}}
use Rattle.check_verdict.specs.declared.Rule.TheVariants as rule

-- the bank of a line, these being the banks of all lines
abbrev pub bank_in : List ℕ → ℕ → ℕ
bank_in banks line = unwrap_or (slice_get banks line) 0

module _ {n : ℕ} (banks : List ℕ) where
  -- those of these rows that stand in the table of a row's bank; the rules that go by a bank ask nothing of a cut
  abbrev pub mates : Asks n → List (Row n) → List (Row n)
  mates (Reads line) rows = of_bank (bank_in banks) (bank_in banks line) rows
  mates (Writes line bytes given) rows = of_bank (bank_in banks) (bank_in banks line) rows
  mates Cuts rows = []

  -- a test of a row in the table of its bank
  abbrev pub in_bank : RowTest n → RowTest n
  in_bank test before r after = test (mates r.asks before) r (mates r.asks after)

  -- each bank holds no more than it may as a row comes, whichever bank the row is of
  abbrev pub all_have_room : Rules → RowTest n
  all_have_room rules before r after = list_all (λ bank. has_room rules r.tick (of_bank (bank_in banks) bank before)) banks

  -- the test of each rule
  abbrev pub keeps : Rules → Rule → RowTest n
  keeps rules rule.Serves before r after = is_served before r after
  keeps rules rule.Queue before r after = all_have_room rules before r after && in_bank (is_queue_fair rules) before r after
  keeps rules rule.Worn before r after = in_bank is_wear_final before r after
  keeps rules rule.Tick before r after = in_bank (is_in_time rules) before r after

-- the rules, in their order
abbrev pub all_rules : List Rule
all_rules = rule.Serves ∷ rule.Queue ∷ rule.Worn ∷ rule.Tick ∷ []

-- what a row that breaks this rule, or none, makes of the verdict on those behind it
abbrev pub or_later : ℕ → Option Rule → Verdict → Verdict
or_later row (Some one) later = No row one
or_later row None later = later

module _ {n : ℕ} (rules : Rules) (banks : List ℕ) where
  -- the first of these rules that a row breaks
  abbrev pub broken_by : List Rule → List (Row n) → Row n → List (Row n) → Option Rule
  broken_by [] before r after = None
  broken_by (one ∷ rest) before r after =
      if keeps banks rules one before r after then broken_by rest before r after else Some one

  -- the verdict on these rows, the oldest first, behind those before them, the newest first
  abbrev pub verdict_from : ℕ → List (Row n) → List (Row n) → Verdict
  verdict_from row before [] = Yes
  verdict_from row before (r ∷ after) = or_later row (broken_by all_rules before r after) (verdict_from (row + 1) (r ∷ before) after)

  -- that on a whole table, the oldest row first
  abbrev pub verdict_of : List (Row n) → Verdict
  verdict_of rows = verdict_from 1 [] rows

  -- each row keeps each rule
  abbrev pub keeps_all : RowTest n
  keeps_all before r after = list_all (λ one. keeps banks rules one before r after) all_rules

  -- the table, the oldest row first, is one that a module may leave
  abbrev pub RowsOk : List (Row n) → Type 0
  RowsOk rows = IsTrue (each_row keeps_all (reverse rows) [])

abbrev pub no : ℕ → Rule → Verdict
no row one = No row one
