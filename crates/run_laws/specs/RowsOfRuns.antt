-- What a right run says of each row of its module.
use Rattle.std.specs.{Option.ForSome, Prelude.{◌≡◌, ℕ, ◌*◌, ◌<◌, ◌≤◌, IsTrue, IsFalse, Bool, length, List, [], ◌∷◌, ◌++◌, map, Some, All}}
use Rattle.cell_rows.specs.Device.{ArrayState}
use Rattle.result_rows.specs.Outcomes.{op_of, place_of}
use Rattle.result_rows.specs.declared.Op.TheVariants as op
use Rattle.run_text.specs.Shortfall.{any_short}
use Rattle.row_rules.specs.{Answers.{accepts, is_queued, is_lost}, Lines.IsOfLines, Queueing.{pending, waiting}, Rows.{is_cut, op_asked}, declared.Asks.Asks}
use Rattle.row_rules.specs.{declared.Asks.TheVariants.{Reads, Writes, Cuts}, declared.Row.Row}
use Rattle.ecp_line.specs.ArrayLines.{is_worn_at}
use Rattle.right_runs.specs.{Banks.bank_of_line, Ends.BankEnd, Runs.RunsRight, Tables.table_in, WornLines.may_leave}
use Rattle.module_shape.specs.{Addresses.{module_of, array_lines_of, bank_shape}, Limits.{IsShape, IsSmall, total_of}, declared.raw.RawShape.RawShape}

-- each line that the rows name is one of the module's
abbrev pub LinesExist : {n : ℕ} → RawShape → List (Row n) → Type 0
LinesExist raw rows = All (λ r. IsOfLines (total_of raw) r.asks) rows

-- the power is never cut
abbrev pub NoCuts : {n : ℕ} → List (Row n) → Type 0
NoCuts rows = All (λ r. IsFalse (is_cut r)) rows

module _ {n m : ℕ} (e : ℕ) (raw : RawShape) (seed : ℕ) (array : ArrayState n m) where
  -- behind these rows and at this tick the queue of a line's bank has room for a write, and in the end that bank isn't worn out and has
  -- no worn control line
  pub record HasRoom (before : List (Row n)) (tick line : ℕ) : Type 0 where
    pub free : length (pending tick [] (table_in raw seed (bank_of_line raw seed line) before)) < raw.writes
    pub unworn : IsFalse (may_leave (bank_shape (module_of raw) (bank_of_line raw seed line)) (is_worn_at e array))

  -- behind these rows a row finds what it needs: a write room in its bank, which in the end isn't worn out and has no worn control line, and
  -- a read fewer waiting reads in its bank than may wait there
  abbrev pub FindsPlace : List (Row n) → ℕ → Asks n → Type 0
  FindsPlace before tick (Reads line) = length (waiting tick [] (table_in raw seed (bank_of_line raw seed line) before)) < raw.reads
  FindsPlace before tick (Writes line bytes given) = HasRoom before tick line
  FindsPlace before tick Cuts = Unit {0}

-- each row of a right run has an outcome of the operation that it asks for
abbrev pub OwnOutcomesLaw : Type 0
OwnOutcomesLaw =
    (n m e : ℕ) (raw : RawShape) (seed : ℕ) (rows : List (Row n)) (array : ArrayState n m) (ends : ℕ → BankEnd)
    → RunsRight e raw seed rows array ends → All (λ r. op_of r.outcome ≡ Some (op_asked r.asks)) rows

-- the place of each stored or read row is an array line of the module
abbrev pub PlacesExistLaw : Type 0
PlacesExistLaw =
    (n m e : ℕ) (raw : RawShape) (seed : ℕ) (rows : List (Row n)) (array : ArrayState n m) (ends : ℕ → BankEnd)
    → IsShape raw → LinesExist raw rows → RunsRight e raw seed rows array ends
    → All (λ r. ForSome (place_of r.outcome) (λ place. place < raw.banks * array_lines_of (module_of raw))) rows

-- a module on which a whole trace is replayed has at most 98,832 array lines
abbrev pub FewArrayLinesLaw : Type 0
FewArrayLinesLaw = (raw : RawShape) → IsShape raw → IsSmall raw → raw.banks * array_lines_of (module_of raw) ≤ 98832

-- without power cuts no read is lost
abbrev pub NoneLostLaw : Type 0
NoneLostLaw =
    (n m e : ℕ) (raw : RawShape) (seed : ℕ) (rows : List (Row n)) (array : ArrayState n m) (ends : ℕ → BankEnd)
    → IsShape raw → LinesExist raw rows → NoCuts rows → RunsRight e raw seed rows array ends
    → All (λ r. IsFalse (is_lost r.outcome)) rows

-- a write that finds room in a bank that isn't worn out and has no worn control line is accepted, and leaves the queue again
abbrev pub RoomIsTakenLaw : Type 0
RoomIsTakenLaw =
    (n m e : ℕ) (raw : RawShape) (seed : ℕ) (rows : List (Row n)) (array : ArrayState n m) (ends : ℕ → BankEnd)
    → IsShape raw → LinesExist raw rows → RunsRight e raw seed rows array ends
    → (later before : List (Row n)) (r : Row n) (line : ℕ) (bytes : List ℕ) (given : List Bool)
    → rows ≡ later ++ r ∷ before → r.asks ≡ Writes line bytes given → HasRoom e raw seed array before r.tick line
    → IsTrue (accepts r.outcome) × IsFalse (is_queued r.outcome)

-- where the power is never cut and each row finds what it needs, none is refused, lost or left in a queue
abbrev pub NoneShortLaw : Type 0
NoneShortLaw =
    (n m e : ℕ) (raw : RawShape) (seed : ℕ) (rows : List (Row n)) (array : ArrayState n m) (ends : ℕ → BankEnd)
    → IsShape raw → LinesExist raw rows → NoCuts rows → RunsRight e raw seed rows array ends
    → ((later before : List (Row n)) (r : Row n) → rows ≡ later ++ r ∷ before → FindsPlace e raw seed array before r.tick r.asks)
    → IsFalse (any_short (map (λ r. r.outcome) rows))
