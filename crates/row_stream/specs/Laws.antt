-- What holds of every stream that has ended.
use Rattle.std.specs.Prelude.{◌≡◌, ℕ, ◌≤◌, Bool, true, List, [], ◌∷◌, ◌++◌, Option}
use Rattle.cell_rows.specs.Device.{ArrayState}
use Rattle.module_shape.specs.declared.raw.RawShape.{RawShape}
use Rattle.right_runs.specs.{Ends.BankEnd, Runs.RunsRightTo}
use Rattle.pcm_module.specs.State.{AreEndsOf, ModuleState}
use Rattle.row_printer.specs.{Printing.table_of, Telling.{outcomes_in, tells, TellsOnce}, declared.told.Told.Told}
use Rattle.trace_stream.specs.{Arrived.Comes, Asked.events_in, declared.asked.Asked.Asked, declared.asked.Asked.TheVariants.{Happens, Settle, Query, Look, Peek, Until, UntilAny}}
use Rattle.trace_stream.specs.declared.fault.StreamFault.{StreamFault}
use Rattle.row_stream.specs.{Asking.read_of, Ending.{HasEnded, rows_of}, Sourcing.{IsFaulty, IsRead}}

-- an outcome of each of so many rows was told
abbrev pub TellsEach : {n : ℕ} → ℕ → List (Told n) → Type 0
TellsEach places told = (row : ℕ) → 1 ≤ row → row ≤ places → tells (outcomes_in told) row ≡ true

-- where no row was told twice, each row was told
abbrev pub EachToldLaw : Type 0
EachToldLaw =
    (n m e : ℕ) (raw : RawShape) (seed : ℕ) (off : Bool) (asked : List (Asked n)) (module_ : ModuleState n m e) (array : ArrayState n m) (places : ℕ) (told : List (Told n))
    → TellsOnce places (outcomes_in told) → HasEnded raw seed off asked module_ array places told → TellsEach places told

-- what rows ask that don't settle: a query does, a look, a peek, and a settle until
abbrev pub without_settles : {n : ℕ} → List (Asked n) → List (Asked n)
without_settles [] = []
without_settles (Happens event ∷ before) = Happens event ∷ without_settles before
without_settles (Settle tick ∷ before) = without_settles before
without_settles (Query tick ∷ before) = without_settles before
without_settles (Look tick ∷ before) = without_settles before
without_settles (Peek peek ∷ before) = without_settles before
without_settles (Until until ∷ before) = without_settles before
without_settles (UntilAny until ∷ before) = without_settles before

-- what a stream with rows that settle leaves is a right run of its rows without them
abbrev pub SettleLaw : Type 0
SettleLaw =
    (n m e : ℕ) (raw : RawShape) (seed : ℕ) (off : Bool) (asked : List (Asked n)) (module_ : ModuleState n m e) (array : ArrayState n m) (places : ℕ) (told : List (Told n))
    → HasEnded raw seed off asked module_ array places told
    → (ends : ℕ → BankEnd) × AreEndsOf module_ ends × RunsRightTo e raw seed off (rows_of (events_in (without_settles asked)) (table_of places told)) array ends

-- a text begins with these bytes, and is these where nothing more may come
abbrev pub IsText : List ℕ → List ℕ → Bool → Type 0
IsText text bytes ended = (more : List ℕ) × Comes ended more × (bytes ++ more ≡ text)

-- of two readings of one text
module _ {S : Type 0} (left : S → Option (List ℕ)) (taken faults : S → ℕ) where
  -- none stops at a fault where the other came to the end
  abbrev pub ReadLaw : Type 0
  ReadLaw =
      (n lines : ℕ) (old new old2 new2 : S) (asked asked2 : List (Asked n)) (e : StreamFault)
      (read : IsRead lines left taken faults old new asked) (faulty : IsFaulty lines left taken faults old2 new2 asked2 e)
      → IsText read.bytes faulty.bytes faulty.ended → ⊥

  -- both stop at the same fault, behind the same rows as they were read, where both stop at one
  abbrev pub FaultyLaw : Type 0
  FaultyLaw =
      (n lines : ℕ) (old new old2 new2 : S) (asked asked2 : List (Asked n)) (e e2 : StreamFault)
      (one : IsFaulty lines left taken faults old new asked e) (other : IsFaulty lines left taken faults old2 new2 asked2 e2)
      (text : List ℕ) → IsText text one.bytes one.ended → IsText text other.bytes other.ended → (e ≡ e2) × (read_of asked ≡ read_of asked2)
