-- What the finished table of a module keeps, over the tables of its banks.
use Rattle.std.specs.Prelude.{◌≡◌, ℕ, ◌<◌, ◌≤◌, IsTrue, List, [], ◌∷◌, All, map}
use Rattle.result_rows.specs.declared.Outcome.{Outcome}
use Rattle.result_rows.specs.declared.Outcome.TheVariants as out
use Rattle.row_rules.specs.{Lines.IsOfLines, Rows.each_row, Serving.is_served, declared.Asks.Asks, declared.Asks.TheVariants.{Reads, Writes, Cuts}, declared.Row.Row}
use Rattle.bank_shape.specs.{declared.BankShape.BankShape, declared.pace.Pace.Pace}
use Rattle.bank_model.specs.{Lawful.Lawful, Timing.{TimedEvent, last_tick}, Told.IsWhole}
use Rattle.bank_laws.specs.{Laws.IsSized, Outcomes.{table_of, outcome_of, ended}, Resting.{IsStill, IsCutOff}, Room.RoomLaw}
use Rattle.right_runs.specs.{Banks.rules_of, Tables.{bank_table, finds_room_in}}
use Rattle.module_laws.specs.Asking.{Asked, row_with, asked_of, AreAsked}

-- the outcome of a row that asks this, where its bank's history has come to its end
abbrev pub last_outcome : {n m : ℕ} → BankShape → List (TimedEvent n m) → Asked n → Asks n → Outcome n
last_outcome shape xs a (Reads line) = outcome_of shape xs a.row
last_outcome shape xs a (Writes line bytes given) = ended a.tick (outcome_of shape xs a.row)
last_outcome shape xs a Cuts = out.Cut a.tick

-- each row that was asked of a bank has the outcome of the bank's history
abbrev pub AreRecorded : {n m : ℕ} → BankShape → List (TimedEvent n m) → (ℕ → Outcome n) → List (Asked n) → Type 0
AreRecorded shape xs outcome asked = All (λ a. outcome a.row ≡ last_outcome shape xs a a.asks) asked

-- a bank's table is that of its history
abbrev pub BankTableLaw : Type 0
BankTableLaw =
    (n m : ℕ) (shape : BankShape) (bank_of line_in : ℕ → ℕ) (bank : ℕ) (xs : List (TimedEvent n m)) (asked : List (Asked n)) (outcome : ℕ → Outcome n)
    → AreAsked xs (asked_of bank_of line_in bank asked) → AreRecorded shape xs outcome (asked_of bank_of line_in bank asked)
    → bank_table bank_of line_in bank (map (row_with outcome) asked) ≡ table_of shape xs

-- the lines of a module: each is of one bank, where no other line has its number
pub record AreLines (banks lines : ℕ) (bank_of line_in : ℕ → ℕ) : Type 0 where
  pub exists : (line : ℕ) → line < lines → bank_of line < banks
  pub apart : (line other : ℕ) → line < lines → other < lines → bank_of line ≡ bank_of other → line_in line ≡ line_in other → line ≡ other

-- where each bank's table serves its reads, the module's does: a bank's newest bytes of a line are the module's
abbrev pub ServedByBanksLaw : Type 0
ServedByBanksLaw =
    (n banks lines : ℕ) (bank_of line_in : ℕ → ℕ) (rows : List (Row n))
    → AreLines banks lines bank_of line_in → 0 < banks → All (λ r. IsOfLines lines r.asks) rows
    → ((bank : ℕ) → bank < banks → IsTrue (each_row is_served (bank_table bank_of line_in bank rows) []))
    → IsTrue (each_row is_served rows [])

-- the ticks of these rows, the newest first, never fall
abbrev pub TicksFall : {n : ℕ} → List (Asked n) → Type 0
TicksFall [] = Unit {0}
TicksFall (a ∷ asked) = All (λ b. b.tick ≤ a.tick) asked × TicksFall asked

-- every row of a module finds so, where at any tick between two of its events each bank holds no more than it may
abbrev pub RoomByBankLaw : Type 0
RoomByBankLaw =
    (n m e : ℕ) (shape : BankShape) (pace : Pace) (bank_of line_in : ℕ → ℕ) (bank : ℕ) (xs : List (TimedEvent n m)) (asked : List (Asked n)) (outcome : ℕ → Outcome n)
    → RoomLaw n m → IsSized shape pace → Lawful shape pace e xs → IsStill shape xs → TicksFall asked
    → AreAsked xs (asked_of bank_of line_in bank asked) → AreRecorded shape xs outcome (asked_of bank_of line_in bank asked)
    → IsTrue (each_row (finds_room_in bank_of line_in (rules_of e shape pace) bank) (map (row_with outcome) asked) [])

-- where the last row that was asked for is a power cut, and no event came behind its tick, the history ends with that cut
abbrev pub LastCutLaw : Type 0
LastCutLaw =
    (n m e : ℕ) (shape : BankShape) (pace : Pace) (xs : List (TimedEvent n m)) (a : Asked n) (asked : List (Asked n))
    → 1 ≤ pace.read → 1 ≤ pace.iter → Lawful shape pace e xs → IsWhole xs → AreAsked xs (a ∷ asked) → a.asks ≡ Cuts
    → last_tick xs ≤ a.tick → IsCutOff xs
