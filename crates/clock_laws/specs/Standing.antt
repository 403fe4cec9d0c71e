-- The rows that stand in a bank's queue or wait there, and that no other outcome is touched.
use Rattle.std.specs.{List.list_any, Prelude.{◌≡◌, ◌≢◌, ℕ, ◌+◌, ◌≤◌, ◌==◌, Bool, true, false, if◌then◌else◌, List, [], ◌∷◌, ◌++◌, drop, Some, None}}
use Rattle.result_rows.specs.declared.Outcome.{Outcome}
use Rattle.result_rows.specs.declared.Outcome.TheVariants as out
use Rattle.cell_rows.specs.Device.{ArrayState}
use Rattle.masked_bytes.specs.{Entries.{completed, has_row, RowsApart}, declared.entry.Entry.Entry}
use Rattle.protected_queue.specs.Queue.{accepted}
use Rattle.bank_model.specs.{Events.{Write, Read, Cut, RowsBelow}, Lawful.Lawful, Timing.{Happens, Core, TimedEvent, core}, Told.tick_of_row}
use Rattle.bank_shape.specs.{declared.answer.WriteAnswer.WriteAnswer, declared.waiting.Waiting.Waiting}
use Rattle.bank_laws.specs.Outcomes.{outcome_of, outcome_with}
use Rattle.clock_laws.specs.{Leads.Leads, Recording.outcome_on, State.ClockState}

module _ {n : ℕ} where
  -- whether a read of this row waits
  abbrev pub has_waiting : List (Waiting n) → ℕ → Bool
  has_waiting ws row = list_any (λ w. w.row == row) ws

  -- no two reads that wait have one row
  abbrev pub WaitingApart : List (Waiting n) → Type 0
  WaitingApart [] = Unit {0}
  WaitingApart (w ∷ ws) = (has_waiting ws w.row ≡ false) × WaitingApart ws

  -- the rows of entries and of waiting reads are below the next row, and all apart
  pub record AreApart (es : List (Entry n)) (ws : List (Waiting n)) (next : ℕ) : Type 0 where
    pub queued_below : (row : ℕ) → next ≤ row → has_row es row ≡ false
    pub waiting_below : (row : ℕ) → next ≤ row → has_waiting ws row ≡ false
    pub queued_apart : RowsApart es
    pub waiting_apart : WaitingApart ws
    pub one_place : (row : ℕ) → has_row es row ≡ true → has_waiting ws row ≡ false

-- so are those of a bank to which a history leads
abbrev pub ApartLaw : Type 0
ApartLaw =
    (n m e : ℕ) (xs : List (TimedEvent n m)) (clock : ClockState n m e) (array : ArrayState n m)
    → Leads xs clock array → AreApart clock.bank.kept.entries clock.bank.waiting clock.bank.rows_below

-- rows that are apart stay so: while the bound rises, after a write that the queue takes, a read that begins to wait or the first
-- that is served, the head that is completed or stored, and a cut
pub record StayApart {n : ℕ} (es : List (Entry n)) (ws : List (Waiting n)) (next : ℕ) : Type 0 where
  pub rises : (bound : ℕ) → next ≤ bound → AreApart es ws bound
  pub taken : (cap : ℕ) (busy : Bool) (entry : Entry n) → next ≤ entry.row → AreApart (accepted cap busy entry es) ws (entry.row + 1)
  pub waits : (w : Waiting n) → next ≤ w.row → AreApart es (ws ++ w ∷ []) (w.row + 1)
  pub served : AreApart es (drop 1 ws) next
  pub completed : (under : List ℕ) → AreApart (completed under es) ws next
  pub stored : AreApart (drop 1 es) ws next
  pub cut : AreApart es [] next

abbrev pub StayApartLaw : Type 0
StayApartLaw = (n : ℕ) (es : List (Entry n)) (ws : List (Waiting n)) (next : ℕ) → AreApart es ws next → StayApart es ws next

-- whether an event is the arrival of a row
abbrev pub is_arrival_of : {n : ℕ} → Happens n → ℕ → Bool
is_arrival_of (Core (Write at line bytes given answer)) row = at == row
is_arrival_of (Core (Read at line answer)) row = at == row
is_arrival_of happens row = false

-- whether a row arrives with one of these events
abbrev pub arrives_with : {n m : ℕ} → List (TimedEvent n m) → ℕ → Bool
arrives_with added row = list_any (λ x. is_arrival_of x.happens row) added

-- events leave the outcome of each row that neither stood in the queue, nor waited, nor came with them
abbrev pub OtherRowsLaw : Type 0
OtherRowsLaw =
    (n m e row : ℕ) (added xs : List (TimedEvent n m)) (clock : ClockState n m e) (array : ArrayState n m) (before : ℕ → Outcome n)
    → Leads xs clock array → Lawful clock.bank.kept.shape clock.pace e (added ++ xs)
    → has_row clock.bank.kept.entries row ≡ false → has_waiting clock.bank.waiting row ≡ false → arrives_with added row ≡ false
    → outcome_on clock.bank.kept.shape added xs before row ≡ before row

-- each row that came, and neither stands in the queue nor waits, has its outcome
abbrev pub SettledLaw : Type 0
SettledLaw =
    (n m e row : ℕ) (xs : List (TimedEvent n m)) (clock : ClockState n m e) (array : ArrayState n m)
    → Leads xs clock array → arrives_with xs row ≡ true → has_row clock.bank.kept.entries row ≡ false → has_waiting clock.bank.waiting row ≡ false
    → outcome_of clock.bank.kept.shape xs row ≢ out.Unset

-- a cut makes lost just the reads that wait at the bank
abbrev pub LostRowsLaw : Type 0
LostRowsLaw =
    (n m e row tick : ℕ) (tearing : Bool) (xs : List (TimedEvent n m)) (clock : ClockState n m e) (array : ArrayState n m)
    → Leads xs clock array
    → outcome_with clock.bank.kept.shape xs (Core (Cut tearing)) tick row ≡ (if has_waiting clock.bank.waiting row then Some (out.Lost tick) else None)

-- the arrival tick of a row is that of its write
abbrev pub ArrivalTickLaw : Type 0
ArrivalTickLaw =
    (n m row line bound : ℕ) (bytes : List ℕ) (given : List Bool) (answer : WriteAnswer) (later xs : List (TimedEvent n m)) (x : TimedEvent n m)
    → RowsBelow (core (later ++ x ∷ xs)) bound → x.happens ≡ Core (Write row line bytes given answer) → tick_of_row row (later ++ x ∷ xs) ≡ x.tick
