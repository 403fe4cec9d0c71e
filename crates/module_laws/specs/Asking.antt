-- What the rows of a trace ask of a module, and what arrives in one bank.
use Rattle.std.specs.Prelude.{◌≡◌, ℕ, Bool, true, false, List, [], ◌∷◌, map, filter}
use Rattle.result_rows.specs.declared.Outcome.{Outcome}
use Rattle.row_rules.specs.{Table.is_of, declared.Asks.Asks, declared.Asks.TheVariants.{Reads, Writes, Cuts}, declared.Row.Row}
use Rattle.bank_model.specs.{Events.{BankEvent, Write, Read, Cut}, Timing.{Happens, Core, Regs, TimedEvent}}
use Rattle.right_runs.specs.Tables.{asks_in}

-- a row with its number, as it is asked for
pub record Asked (n : ℕ) : Type 0 where
  pub row : ℕ
  pub tick : ℕ
  pub asks : Asks n

-- a row with its outcome
abbrev pub row_with : {n : ℕ} → (ℕ → Outcome n) → Asked n → Row n
row_with outcome a = record { tick = a.tick; asks = a.asks; outcome = outcome a.row }

module _ {n : ℕ} (bank_of line_in : ℕ → ℕ) where
  abbrev pub asked_in : Asked n → Asked n
  asked_in a = record { row = a.row; tick = a.tick; asks = asks_in bank_of line_in a.asks }

  -- what is asked of one bank, the cuts included
  abbrev pub asked_of : ℕ → List (Asked n) → List (Asked n)
  asked_of bank asked = map asked_in (filter (λ a. is_of bank_of bank a.asks) asked)

-- the rows of a bank's history are what was asked of the bank, both the newest first: each write and read has the number, the line
-- and the tick of its row, and each power cut the tick of its row, which has no number in the history. What is no arrival has no row,
-- nor has a cut that a read made
abbrev pub IsAskedBy : {n : ℕ} → BankEvent n → Bool → ℕ → (List (Asked n) → Type 0) → List (Asked n) → Type 0
IsAskedBy (Write row line bytes given answer) cancels tick rest [] = ⊥
IsAskedBy (Write row line bytes given answer) cancels tick rest (a ∷ asked) = (a ≡ record { row = row; tick = tick; asks = Writes line bytes given }) × rest asked
IsAskedBy (Read row line answer) cancels tick rest [] = ⊥
IsAskedBy (Read row line answer) cancels tick rest (a ∷ asked) = (a ≡ record { row = row; tick = tick; asks = Reads line }) × rest asked
IsAskedBy (Cut tearing) true tick rest asked = rest asked
IsAskedBy (Cut tearing) false tick rest [] = ⊥
IsAskedBy (Cut tearing) false tick rest (a ∷ asked) = (a.tick ≡ tick) × (a.asks ≡ Cuts) × rest asked
IsAskedBy _ cancels tick rest asked = rest asked

abbrev pub IsAsked : {n : ℕ} → Happens n → Bool → ℕ → (List (Asked n) → Type 0) → List (Asked n) → Type 0
IsAsked (Core event) cancels tick rest asked = IsAskedBy event cancels tick rest asked
IsAsked (Regs event) cancels tick rest asked = rest asked

abbrev pub AreAsked : {n m : ℕ} → List (TimedEvent n m) → List (Asked n) → Type 0
AreAsked [] asked = asked ≡ []
AreAsked (x ∷ xs) asked = IsAsked x.happens x.cancels x.tick (AreAsked xs) asked
