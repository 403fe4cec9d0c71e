-- What a stream leaves that was served to its end.
use Rattle.std.specs.Prelude.{◌≡◌, ℕ, Bool, true, false, List, ◌++◌, length, reverse}
use Rattle.cell_rows.specs.Device.{ArrayState}
use Rattle.trace_reader.specs.declared.event.Event.{Event}
use Rattle.result_rows.specs.declared.Outcome.{Outcome}
use Rattle.bank_model.specs.Timing.{TimedEvent}
use Rattle.bank_timing.specs.Extending.{outcome_in}
use Rattle.row_rules.specs.declared.Row.{Row}
use Rattle.trace_rows.specs.Rows.{rows_with}
use Rattle.module_shape.specs.declared.raw.RawShape.{RawShape}
use Rattle.right_runs.specs.{Ends.BankEnd, Runs.RunsRightTo}
use Rattle.run_laws.specs.Finishing.{IsFinishedTo}
use Rattle.pcm_module.specs.{Asking.asked_for, State.{AreEndsOf, ModuleState, bank_at}}
use Rattle.row_printer.specs.{Printing.table_of, Snapshots.{AddsDue, takes_snapshots}, Telling.became, declared.snapshot.Snapshot.Snapshot, declared.told.Shown.Shown}
use Rattle.row_printer.specs.declared.told.Told.{Told}
use Rattle.trace_stream.specs.{Asked.events_in, declared.asked.Asked.Asked}
use Rattle.row_stream.specs.{Asking.{behind_of, cut_at_end, cut_if, tick_reached, with_cut}, Looking.IsSnapshot}
use Rattle.row_stream.specs.{Serving.{ComeByBanks, SnapsAlong, Telling, TellsAlong, told_before}, declared.stop.Behind.Behind}
use Rattle.row_stream.specs.declared.stop.Behind.TheVariants.{Nothing, Going, Off}

-- the table of events, the newest first, with the outcomes of the rows from the first on: the newest row first
abbrev pub rows_of : {n : ℕ} → List (Event n) → List (Outcome n) → List (Row n)
rows_of events outcomes = reverse (rows_with (reverse events) outcomes)

-- rows that asked this were served to their end: the banks drained, or the power stayed off. Row by row the outcomes were told as they became known, and
-- in the end the rest, bank by bank; by them the rows are right over the array
pub record HasEnded {n m e : ℕ} (raw : RawShape) (seed : ℕ) (off : Bool) (asked : List (Asked n)) (module_ : ModuleState n m e) (array : ArrayState n m) (places : ℕ) (told : List (Told n)) : Type 0 where
  pub shape : module_.shape ≡ raw
  pub seeded : module_.seed ≡ seed
  pub counted : places ≡ length (events_in asked)
  pub size : length (table_of places told) ≡ length (events_in asked)
  pub history : ℕ → List (TimedEvent n m)
  pub said : List (Told n)
  pub along : TellsAlong e raw seed asked history said
  pub rest : List (ℕ × Outcome n)
  pub all : told ≡ said ++ became rest
  pub order : ComeByBanks raw seed true (events_in asked) raw.banks rest
  pub finished : (added : ℕ → List (TimedEvent n m))
      × IsFinishedTo raw seed off (λ bank. added bank ++ history bank) (asked_for (events_in asked))
      (bank_at module_) array (outcome_in (table_of places told))
  pub ends : ℕ → BankEnd
  pub are : AreEndsOf module_ ends
  pub right : RunsRightTo e raw seed off (rows_of (events_in asked) (table_of places told)) array ends

module _ {n m e : ℕ} {raw : RawShape} {seed : ℕ} where
  -- what was told as its rows were served
  abbrev pub told_along : {off : Bool} {asked : List (Asked n)} {module_ : ModuleState n m e} {array : ArrayState n m} {places : ℕ} {told : List (Told n)}
      → HasEnded raw seed off asked module_ array places told → Telling n m e raw seed asked
  told_along ended = record { history = ended.history; told = ended.said; along = ended.along }

  -- as rows were served without the cut that may have been added behind them
  abbrev pub without_cut_if : (behind : Behind) (asked : List (Asked n)) → Telling n m e raw seed (cut_if behind asked) → Telling n m e raw seed asked
  without_cut_if Nothing asked telling = telling
  without_cut_if Off asked telling = telling
  without_cut_if Going asked telling = told_before (cut_at_end asked) asked telling

  abbrev pub without_cut : (off : Bool) (asked : List (Asked n)) → Telling n m e raw seed (with_cut off asked) → Telling n m e raw seed asked
  without_cut false asked telling = telling
  without_cut true asked telling = without_cut_if (behind_of asked) asked telling

module _ {n m e : ℕ} {raw : RawShape} {seed : ℕ} {off : Bool} {asked : List (Asked n)} {module_ : ModuleState n m e} {array : ArrayState n m} {places : ℕ} {told : List (Told n)}
    (shown : Shown) (ended : HasEnded raw seed off asked module_ array places told) where
  -- the snapshots that were taken until the last row was served
  abbrev pub SnapsRows : List Snapshot → Type 0
  SnapsRows snapshots = SnapsAlong e raw seed shown asked ended.history ended.said ended.along snapshots

  -- all of them: in the end, where snapshots are taken, one more says what then stands
  abbrev pub SnapsAll : List Snapshot → Type 0
  SnapsAll snapshots =
      (before : List Snapshot) × SnapsRows before
      × AddsDue (takes_snapshots shown) (IsSnapshot places (tick_reached asked) told module_ array) before snapshots

module _ {n m e : ℕ} (raw : RawShape) (seed : ℕ) (off : Bool) (asked : List (Asked n)) (module_ : ModuleState n m e) (array : ArrayState n m) (places : ℕ) (told : List (Told n))
    (shown : Shown) (snapshots : List Snapshot) where
  -- rows were served to their end, and these snapshots were taken, but for the last one
  abbrev pub IsLeft : Type 0
  IsLeft = (ended : HasEnded raw seed off asked module_ array places told) × SnapsRows shown ended snapshots

  -- and with the last one
  abbrev pub EndsShowing : Type 0
  EndsShowing = (ended : HasEnded raw seed off asked module_ array places told) × SnapsAll shown ended snapshots
