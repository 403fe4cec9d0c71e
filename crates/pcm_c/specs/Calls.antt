-- What calls do to the module that stands behind a handle.
use Rattle.std.specs.Prelude.{◌≡◌, ℕ, ◌*◌, false, true, [], ◌∷◌, ◌++◌, IfNone, length, option_to_list, Option, Some, None}
use Rattle.cell_rows.specs.{Device.{ArrayState, IsFresh}, declared.array.Wear.Wear}
use Rattle.module_shape.specs.{Addresses.{array_lines_of, module_of}, Limits.total_of, declared.raw.RawShape.RawShape}
use Rattle.pcm_cells.specs.Seeded.{seeded_state}
use Rattle.trace_stream.specs.declared.asked.Asked.{Asked}
use Rattle.row_stream.specs.{Ending.{IsLeft, told_along}, Serving.{ServesOn, told_so_far}}
use Rattle.pcm_library.specs.{Serving.{HasServedRows, Serving}, declared.keeper.KeptOutcome.KeptOutcome}
use Rattle.pcm_c.specs.{declared.held.Held.Held, declared.held.Held.TheVariants.{Narrow, Wide}}

module _ {n m e : ℕ} {S : Type 0} (state : S → ArrayState n m) where
  -- a session of these sizes over a fresh array that wears so, by whose seed its lines are spread, and of which nothing was asked so far
  pub record Begins (raw : RawShape) (wear : Wear) (new : Serving n m e S) : Type 0 where
    pub shape : new.module_.shape ≡ raw
    pub seed : new.module_.seed ≡ wear.seed
    pub fresh : IsFresh (raw.banks * array_lines_of (module_of raw)) wear (state new.array)
    pub tick : new.module_.tick ≡ 0
    pub rows : new.kept.rows ≡ 0
    pub going : new.module_.finished ≡ false
    pub asked : new.asked ≡ []
    pub taken : new.kept.sink.taken ≡ []
    pub waiting : new.kept.sink.waiting ≡ []

  -- whatever was served before, it goes on with what is asked here; nothing is taken
  pub record Takes (row : Asked n) (old new : Serving n m e S) : Type 0 where
    pub asked : new.asked ≡ row ∷ old.asked
    pub serves : ServesOn (λ before. row) old.module_ new.module_ (state old.array) (state new.array) old.kept new.kept
    pub taken : new.kept.sink.taken ≡ old.kept.sink.taken

  -- its banks drain behind all that was asked; nothing is taken, and cells wear as before
  pub record Finishes (old new : Serving n m e S) : Type 0 where
    pub finished : new.module_.finished ≡ true
    pub asked : new.asked ≡ old.asked
    pub off : new.off ≡ false
    pub ended : (had : HasServedRows old.module_ (state old.array) old.kept old.asked)
        → (left : IsLeft old.module_.shape old.module_.seed false old.asked new.module_ (state new.array) new.kept.rows new.kept.told new.kept.prints new.kept.snapshots)
        × (told_along left.0 ≡ told_so_far had)
    pub taken : new.kept.sink.taken ≡ old.kept.sink.taken
    pub wear : (state new.array).wear ≡ (state old.array).wear

-- the first outcome that waits is taken, or none where none waits, and all else stays
pub record Hands {n m e : ℕ} {S : Type 0} (first : Option (KeptOutcome n)) (old new : Serving n m e S) : Type 0 where
  pub waiting : old.kept.sink.waiting ≡ option_to_list first ++ new.kept.sink.waiting
  pub none : IfNone first (old.kept.sink.waiting ≡ [])
  pub taken : new.kept.sink.taken ≡ old.kept.sink.taken ++ option_to_list first
  pub module_ : new.module_ ≡ old.module_
  pub array : new.array ≡ old.array
  pub asked : new.asked ≡ old.asked
  pub told : new.kept.told ≡ old.kept.told
  pub snapshots : new.kept.snapshots ≡ old.kept.snapshots
  pub prints : new.kept.prints ≡ old.kept.prints
  pub rows : new.kept.rows ≡ old.kept.rows
  pub off : new.off ≡ old.off

-- what is asked of a module with lines of either size
abbrev pub Row : Type 0
Row = (n : ℕ) → Asked n

-- the module takes it, whatever the size of its lines
abbrev pub TakesRow : Row → Held → Held → Type 0
TakesRow row (Narrow old) (Narrow new) = Takes seeded_state (row 64) old new
TakesRow row (Wide old) (Wide new) = Takes seeded_state (row 128) old new
TakesRow row (Narrow old) (Wide new) = ⊥
TakesRow row (Wide old) (Narrow new) = ⊥

abbrev pub FinishesRows : Held → Held → Type 0
FinishesRows (Narrow old) (Narrow new) = Finishes seeded_state old new
FinishesRows (Wide old) (Wide new) = Finishes seeded_state old new
FinishesRows (Narrow old) (Wide new) = ⊥
FinishesRows (Wide old) (Narrow new) = ⊥

-- and so does the one behind an open handle
abbrev pub TakesRowAt : Row → Option Held → Option Held → Type 0
TakesRowAt row (Some old) (Some new) = TakesRow row old new
TakesRowAt row (Some old) None = ⊥
TakesRowAt row None new = ⊥

abbrev pub FinishesAt : Option Held → Option Held → Type 0
FinishesAt (Some old) (Some new) = FinishesRows old new
FinishesAt (Some old) None = ⊥
FinishesAt None new = ⊥

-- the tick that a module has reached, how many rows came to it, how many outcomes of them wait, how many lines it has
abbrev pub tick_at : Held → ℕ
tick_at (Narrow held) = held.module_.tick
tick_at (Wide held) = held.module_.tick

abbrev pub rows_at : Held → ℕ
rows_at (Narrow held) = held.kept.rows
rows_at (Wide held) = held.kept.rows

abbrev pub waiting_at : Held → ℕ
waiting_at (Narrow held) = length held.kept.sink.waiting
waiting_at (Wide held) = length held.kept.sink.waiting

abbrev pub lines_at : Held → ℕ
lines_at (Narrow held) = total_of held.module_.shape
lines_at (Wide held) = total_of held.module_.shape

-- a number of the module behind a handle; 0 of a closed one
abbrev pub number_of : (Held → ℕ) → Option Held → ℕ
number_of count (Some held) = count held
number_of count None = 0
