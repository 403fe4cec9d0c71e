-- What contracts see of a module that another program calls.
use Rattle.std.specs.Prelude.{◌≡◌, ℕ, ◌+◌, ◌*◌, Bool, true, false, List, ◌∷◌}
use Rattle.cell_rows.specs.Device.{ArrayState}
use Rattle.ecp_line.specs.Layout.{IsLayout}
use Rattle.pcm_module.specs.State.{ModuleState}
use Rattle.trace_reader.specs.declared.event.Event.{Event}
use Rattle.trace_stream.specs.{declared.asked.Asked.Asked, declared.asked.Asked.TheVariants.Happens}
use Rattle.row_printer.specs.Printing.{Printing}
use Rattle.row_stream.specs.{Asking.behind_of, Ending.HasEnded, Serving.{IsServing, ServesOn}, declared.stop.Behind.Behind}
use Rattle.module_shape.specs.declared.raw.RawShape.{RawShape}
use Rattle.pcm_library.specs.Keeping.{Waiting}

-- a module, its array, what it was told, of which some waits, what its rows asked, the newest first, and whether the power was left off behind them
pub record Serving (n m e : ℕ) (S : Type 0) : Type 0 where
  pub module_ : ModuleState n m e
  pub array : S
  pub kept : Printing n (Waiting n)
  pub asked : List (Asked n)
  pub off : Bool

-- the most rows that may have no outcome: as many as the banks have places for
abbrev pub most_open : RawShape → ℕ
most_open shape = shape.banks * (shape.writes + shape.reads)

module _ {n m e : ℕ} (module_ : ModuleState n m e) (array : ArrayState n m) (kept : Printing n (Waiting n)) (asked : List (Asked n)) where
  -- rows that asked this were served by the module over the array, and told so
  abbrev pub HasServedRows : Type 0
  HasServedRows = IsServing module_.shape module_.seed asked module_ array kept.rows kept.told kept.prints kept.snapshots

  -- and behind them its banks drained, or the power stayed off
  abbrev pub HasEndedRows : Bool → Type 0
  HasEndedRows off = HasEnded module_.shape module_.seed off asked module_ array kept.rows kept.told

  -- what is true of each: lines are laid out, it knows whether a cut was its last row, outcomes have room, and the rows were served, and where it is finished it ended behind them
  pub record IsSession (finished off : Bool) (behind : Behind) : Type 0 where
    pub layout : IsLayout n m e
    pub going : module_.finished ≡ finished
    pub stands : behind ≡ behind_of asked
    pub room : kept.sink.room ≡ most_open module_.shape + 1
    pub serving : finished ≡ false → HasServedRows
    pub ended : finished ≡ true → HasEndedRows off

-- an event came, and was served
pub record Takes {n m e : ℕ} {S : Type 0} (state : S → ArrayState n m) (event : Event n) (old new : Serving n m e S) : Type 0 where
  pub asked : new.asked ≡ Happens event ∷ old.asked
  pub serves : ServesOn (λ before. Happens event) old.module_ new.module_ (state old.array) (state new.array) old.kept new.kept
  pub taken : new.kept.sink.taken ≡ old.kept.sink.taken
