-- What one step of a stream does: it takes the next row, or finds that there is none.
use Rattle.std.specs.{Io.KnownBytes.Appends, Prelude.{◌≡◌, ◌≢◌, ◌⊎◌, ◌<◌, ◌&&◌, ℕ, Bool, true, false, List, ◌∷◌, Option, Some, None}}
use Rattle.cell_rows.specs.Device.{ArrayState}
use Rattle.pcm_io.specs.{Faults.Rose, Giving.AppendsPrefix}
use Rattle.pcm_module.specs.State.{ModuleState}
use Rattle.row_printer.specs.{Printing.{IsPrinting, Printing, table_told, text_told}, Refusing.any_refused}
use Rattle.trace_stream.specs.{Asked.{reached_at, tick_named}, Requests.{AsksWhere, LacksRow}, Stream.Standing, declared.asked.Asked.Asked}
use Rattle.row_stream.specs.{Asking.behind_of, Serving.ServesOn, Sourcing.{GivesNext, HasNoNext, StopsLate}, declared.stop.Behind.Behind, declared.stop.StreamStep.StreamStep}
use Rattle.row_stream.specs.{declared.stop.StreamStep.TheVariants.{Goes, Ends, Stops}, declared.stop.Stop.Stop, declared.stop.Stop.TheVariants.Output}

-- a printer was told nothing more
pub record TellsNoMore {n : ℕ} {K : Type 0} (out now : Printing n K) : Type 0 where
  pub rows : now.rows ≡ out.rows
  pub told : now.told ≡ out.told
  pub snapshots : now.snapshots ≡ out.snapshots
  pub prints : now.prints ≡ out.prints

-- nothing was done to a module and its array, nor was a printer told of any
pub record Rests {n m e : ℕ} {K : Type 0} (old new : ModuleState n m e) (before after : ArrayState n m) (out now : Printing n K) : Type 0 where
  pub same : new ≡ old
  pub array : after ≡ before
  pub printer : TellsNoMore out now

-- of a module over an array and of a printer, before a row and behind it, where a stream is to stop at a refusal or isn't
module _ {n m e : ℕ} {K : Type 0} (stops : Bool) (old new : ModuleState n m e) (before after : ArrayState n m) (out now : Printing n K) where
  -- the row was served, and so the module stands behind it; and whether the stream ends there, at a refusal
  pub record IsTaken (row : Asked n) (behind : Behind) (ended : Bool) : Type 0 where
    pub serves : ServesOn (λ earlier. reached_at new.tick row) old new before after out now
    pub stands : (earlier : List (Asked n)) → behind ≡ behind_of (row ∷ earlier)
    pub refused : (stops && any_refused (table_told now)) ≡ ended

  -- the row names a tick below the module's, and so the stream stops before it
  pub record ComesLate (row : Asked n) (stop : Stop) : Type 0 where
    pub rests : Rests old new before after out now
    pub below : tick_named row < new.tick
    pub late : StopsLate now.rows stop

  -- the row was served; or it comes too late; or it was served and refused, and then the output failed
  abbrev pub TakesRow : Asked n → StreamStep → Type 0
  TakesRow row (Goes behind) = IsTaken row behind false
  TakesRow row (Ends behind) = IsTaken row behind true
  TakesRow row (Stops stop) = ComesLate row stop ⊎ ((stop ≡ Output) × (behind : Behind) × IsTaken row behind true)

-- and of a reader of rows over a source
module _ {n m e : ℕ} {S K : Type 0} (left : S → Option (List ℕ)) (taken faults : S → ℕ) (stops : Bool) (old new : ModuleState n m e) (before after : ArrayState n m)
    (source rest : S) (from onto : Standing) (out now : Printing n K) (behind : Behind) where
  -- no row is left, and the module stands as before; or none could be had
  abbrev pub HasNoRow : StreamStep → Type 0
  HasNoRow (Goes stands) = ⊥
  HasNoRow (Ends stands) = GivesNext {n = n} left taken faults source rest from onto None × (stands ≡ behind)
  HasNoRow (Stops stop) = HasNoNext n left taken faults source rest from onto stop

  -- the next row was taken, or there was none
  abbrev pub Steps : StreamStep → Type 0
  Steps step =
      ((row : Asked n) × GivesNext left taken faults source rest from onto (Some row) × TakesRow stops old new before after out now row step)
      ⊎ (Rests old new before after out now × HasNoRow step)

-- behind a row the stream goes on, or it ends there, at a refusal, unless the output fails
abbrev pub GoesOn : Behind → (refused : Bool) → StreamStep → Type 0
GoesOn behind refused (Goes stands) = (stands ≡ behind) × (refused ≡ false)
GoesOn behind refused (Ends stands) = (stands ≡ behind) × (refused ≡ true)
GoesOn behind refused (Stops stop) = (stop ≡ Output) × (refused ≡ true)

-- a stream doesn't go on behind a step, and its output didn't fail
abbrev pub IsWritten : StreamStep → Type 0
IsWritten step = (step ≢ Stops Output) × ((behind : Behind) → step ≢ Goes behind)

-- what is printed as a stream takes a step: all that was told, where the stream doesn't go on, and a part of it where the output failed
pub record Writes {n : ℕ} {K : Type 0} (written : K → Option (List ℕ)) (faults : K → ℕ) (out now : Printing n K) (step : StreamStep) : Type 0 where
  pub prints : now.prints ≡ out.prints
  pub printing : (before : Option (List ℕ)) (first : ℕ) → IsPrinting written faults before first out → IsPrinting written faults before first now
  pub whole : IsWritten step → (before : Option (List ℕ)) (first : ℕ) → IsPrinting written faults before first out → Appends before (written now.sink) (text_told now)
  pub part : step ≡ Stops Output → (before : Option (List ℕ)) (first : ℕ) → IsPrinting written faults before first out
      → AppendsPrefix before (written now.sink) (text_told now) × Rose first (faults now.sink)

-- a source wasn't touched; or first all that a printer had been told was written, and then it was asked only where what had come decided of no row
abbrev pub AsksBehind : {n : ℕ} {S K : Type 0} (left : S → Option (List ℕ)) (taken : S → ℕ) (written : K → Option (List ℕ)) (faults : K → ℕ) (source rest : S) (from : Standing) (out : Printing n K) → Type 0
AsksBehind {n} {S} {K} left taken written faults source rest from out =
    (rest ≡ source)
    ⊎ ((by : Printing n K) × TellsNoMore out by
    × ((before : Option (List ℕ)) (first : ℕ) → IsPrinting written faults before first out → Appends before (written by.sink) (text_told by))
    × (times : ℕ) × (bytes : List ℕ) × AsksWhere left taken (LacksRow from.state from.arrived) source times bytes rest)
