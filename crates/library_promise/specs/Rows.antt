-- What a session promises of the rows that its calls took, the newest first, said of these rows and of what was told alone.
use Rattle.std.specs.Prelude.{◌≡◌, ℕ, ◌<◌, Bool, IsTrue, true, List, [], ◌++◌, length}
use Rattle.cell_rows.specs.Device.{ArrayState}
use Rattle.result_rows.specs.declared.Outcome.{Outcome}
use Rattle.row_rules.specs.{Rows.{each_row, newest}, declared.Row.Row}
use Rattle.answered_laws.specs.Answered.{is_served_so_far}
use Rattle.bank_timing.specs.Extending.{outcome_in}
use Rattle.module_shape.specs.{Limits.total_of, declared.raw.RawShape.RawShape}
use Rattle.pcm_module.specs.State.{ModuleState, stand_now}
use Rattle.right_runs.specs.{Ends.BankEnd, Runs.{EndsTo, RunsRightTo}}
use Rattle.row_printer.specs.{Printing.table_of, Telling.became, declared.told.Told.Told}
use Rattle.trace_stream.specs.{Asked.events_in, declared.asked.Asked.Asked}
use Rattle.row_stream.specs.{Ending.rows_of, Serving.ComeByBanks}
use Rattle.moment_laws.specs.Moments.{rows_now}
use Rattle.settle_laws.specs.Settles.{SettlesForGood, SettlesSoFar}
use Rattle.stream_promise.specs.Rows.{AreInTurnByRows, RowsTold, TellsByRows}

module _ {n m : ℕ} (e : ℕ) (raw : RawShape) (seed : ℕ) (asked : List (Asked n)) (array : ArrayState n m) where
  -- the table of the rows by what was told so far: a write without an outcome counts as queued
  abbrev pub rows_so_far : List (Told n) → List (Row n)
  rows_so_far told = rows_now (events_in asked) (table_of (length (events_in asked)) told)

  -- rows that asked this were served, and this was told: row by row what became known, behind each what was decided as it came, up to each settle all that had come by its
  -- tick. Each row that has an outcome is served, and by these rows each line's newest bytes are in the array as it is, or in a queue
  pub record PromisesSoFar (told : List (Told n)) : Type 0 where
    pub rows : TellsByRows raw seed asked told
    pub in_time : SettlesSoFar asked told
    pub in_turn : AreInTurnByRows raw seed asked told rows (outcome_in (table_of (length (events_in asked)) told))
    pub served : IsTrue (each_row is_served_so_far (rows_so_far told) [])
    pub ends : ℕ → BankEnd
    pub end : EndsTo e raw seed true (rows_so_far told) array ends

  -- and the banks drained behind them, or the power stayed off behind the last of them, a cut: in the end the rest was told, bank by bank, and by all outcomes the
  -- rows are right over the array
  pub record PromisesByRows (off : Bool) (places : ℕ) (told : List (Told n)) : Type 0 where
    pub along : RowsTold raw seed asked
    pub rest : List (ℕ × Outcome n)
    pub all : told ≡ along.told ++ became rest
    pub order : ComeByBanks raw seed true (events_in asked) raw.banks rest
    pub in_time : SettlesForGood asked places told
    pub in_turn : AreInTurnByRows raw seed asked along.told along.rows (outcome_in (table_of places told))
    pub ends : ℕ → BankEnd
    pub right : RunsRightTo e raw seed off (rows_of (events_in asked) (table_of places told)) array ends

-- the bytes that stand for each line of a module now are its newest by these rows, as they stand by what was told
abbrev pub StandsNewest : {n m e : ℕ} → ModuleState n m e → ArrayState n m → List (Asked n) → List (Told n) → Type 0
StandsNewest module_ array asked told =
    (line : ℕ) → line < total_of module_.shape
    → stand_now module_ array line ≡ newest (rows_now (events_in asked) (table_of (length (events_in asked)) told)) line
