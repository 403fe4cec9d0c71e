-- A run that is served in parts, each bank in one of them, and what makes one run of them.
use Rattle.std.specs.Prelude.{◌≡◌, ℕ, ◌+◌, ◌*◌, ◌<◌, ◌≤◌, Bool, List, [], ◌∷◌, All, map, None}
use Rattle.cell_rows.specs.Device.{ArrayState}
use Rattle.result_rows.specs.declared.Outcome.{Outcome}
use Rattle.row_rules.specs.{Lines.IsOfLines, declared.Row.Row}
use Rattle.bank_shape.specs.Shape.{lines_in}
use Rattle.bank_model.specs.Timing.{TimedEvent}
use Rattle.module_shape.specs.{Addresses.{module_of, array_lines_of, bank_shape}, Limits.{IsShape, total_of}, declared.raw.RawShape.RawShape}
use Rattle.module_laws.specs.Asking.{Asked, asked_of, row_with}
use Rattle.clock_laws.specs.State.{ClockState}
use Rattle.end_laws.specs.EndLaws.{IsEndOf}
use Rattle.right_runs.specs.{Banks.{bank_of_line, line_in_bank}, Ends.BankEnd, Runs.RunsRightTo, Tables.table_in}
use Rattle.run_laws.specs.{Finishing.IsFinishedTo, FinishedLaws.ends_of}

-- a part of a run: the histories of its banks, what came there, what the banks keep in the end, its array, and the outcomes of its rows, by the
-- numbers that they have in the part
pub record Part (n m e : ℕ) : Type 0 where
  pub histories : ℕ → List (TimedEvent n m)
  pub trace : List (Asked n)
  pub banks : ℕ → ClockState n m e
  pub array : ArrayState n m
  pub outcome : ℕ → Outcome n

-- rows of a table, the newest first, as they were asked for: the same ticks and the same operations, with whichever numbers
abbrev pub AreRowsOf : {n : ℕ} → List (Asked n) → List (Row n) → Type 0
AreRowsOf [] [] = Unit {0}
AreRowsOf [] (r ∷ rows) = ⊥
AreRowsOf (a ∷ asked) [] = ⊥
AreRowsOf (a ∷ asked) (r ∷ rows) = (a.tick ≡ r.tick) × (a.asks ≡ r.asks) × AreRowsOf asked rows

-- the ticks of these rows, the newest first, never fall
abbrev pub RowTicksFall : {n : ℕ} → List (Row n) → Type 0
RowTicksFall [] = Unit {0}
RowTicksFall (r ∷ rows) = All (λ q. q.tick ≤ r.tick) rows × RowTicksFall rows

-- an array is put together of these, one for each bank: each line of a bank is as in the bank's own, and it tells no log
pub record IsJoined {n m : ℕ} (raw : RawShape) (arrays : ℕ → ArrayState n m) (array : ArrayState n m) : Type 0 where
  pub size : array.lines ≡ raw.banks * array_lines_of (module_of raw)
  pub own : (bank line : ℕ) → bank < raw.banks → (bank_shape (module_of raw) bank).base ≤ line
      → line < (bank_shape (module_of raw) bank).base + lines_in (bank_shape (module_of raw) bank) → array.line line ≡ (arrays bank).line line
  pub bounds : (bank : ℕ) → bank < raw.banks → array.bounds ≡ (arrays bank).bounds
  pub silent : array.log ≡ None

module _ {n m e : ℕ} (raw : RawShape) (seed : ℕ) where
  -- a part was served to its end: its banks have nothing left to do, or the power is off
  abbrev pub IsServedTo : Bool → Part n m e → Type 0
  IsServedTo off part = IsFinishedTo raw seed off part.histories part.trace part.banks part.array part.outcome

  -- a part served one bank of a module to which these rows came: numbered as they are in the part, the rows of the bank's lines and the power
  -- cuts are what came to the bank there, and each of them has the outcome that it has there
  pub record HasServedBank (bank : ℕ) (part : Part n m e) (rows : List (Row n)) : Type 0 where
    pub numbered : List (Asked n)
    pub rows_of : AreRowsOf numbered rows
    pub came :
        asked_of (bank_of_line raw seed) (line_in_bank raw seed) bank numbered
        ≡ asked_of (bank_of_line raw seed) (line_in_bank raw seed) bank part.trace
    pub outcomes : table_in raw seed bank rows ≡ table_in raw seed bank (map (row_with part.outcome) numbered)

  -- a run was served in parts, of which each bank has one: these rows came, whose ticks never fall
  pub record IsParted (off : Bool) (parts : ℕ → Part n m e) (rows : List (Row n)) (array : ArrayState n m) : Type 0 where
    pub served : (bank : ℕ) → bank < raw.banks → IsServedTo off (parts bank)
    pub banks : (bank : ℕ) → bank < raw.banks → HasServedBank bank (parts bank) rows
    pub exist : All (λ r. IsOfLines (total_of raw) r.asks) rows
    pub ticks : RowTicksFall rows
    pub joined : IsJoined raw (λ bank. (parts bank).array) array

-- the end of each bank is that which its part left
abbrev pub ends_in : {n m e : ℕ} → (ℕ → Part n m e) → ℕ → BankEnd
ends_in parts bank = ends_of (parts bank).histories (parts bank).banks bank

-- then it is a right run: these rows are right over the array that is put together, by the ends that the parts left
abbrev pub PartedLaw : Type 0
PartedLaw =
    (n m e : ℕ) (raw : RawShape) (seed : ℕ) (off : Bool) (parts : ℕ → Part n m e) (rows : List (Row n)) (array : ArrayState n m)
    → IsShape raw → IsParted raw seed off parts rows array
    → RunsRightTo e raw seed off rows array (ends_in parts)
    × ((bank : ℕ) → bank < raw.banks → IsEndOf ((parts bank).banks bank).bank.kept (ends_in parts bank))

-- a run that was served to its end, over an array that tells no log, is one in parts, of which all banks have the same
abbrev pub OnePartLaw : Type 0
OnePartLaw =
    (n m e : ℕ) (raw : RawShape) (seed : ℕ) (off : Bool) (part : Part n m e)
    → IsServedTo raw seed off part → part.array.log ≡ None
    → IsParted raw seed off (λ bank. part) (map (row_with part.outcome) part.trace) part.array
