-- That between any two rows of a stream each line's newest bytes are in the array or in a queue.
use Rattle.std.specs.Prelude.{◌≡◌, ℕ, ◌<◌, IsTrue, true, List, [], ◌∷◌, ◌++◌, All, length, map}
use Rattle.masked_bytes.specs.Entries.{has_row}
use Rattle.cell_rows.specs.Device.{ArrayState}
use Rattle.trace_reader.specs.declared.event.Event.{Event}
use Rattle.result_rows.specs.{declared.Outcome.Outcome, declared.Outcome.TheVariants.Unset}
use Rattle.row_rules.specs.{Rows.{asks_write, each_row, line_of, newest}, declared.Row.Row}
use Rattle.bank_model.specs.{Events.newest as newest_by, Timing.{TimedEvent, core}}
use Rattle.answered_laws.specs.Answered.{is_served_so_far}
use Rattle.module_shape.specs.{Limits.{IsShape, total_of}, declared.raw.RawShape.RawShape}
use Rattle.module_laws.specs.Asking.{Asked}
use Rattle.bank_timing.specs.Extending.{outcome_in}
use Rattle.right_runs.specs.{Banks.{bank_of_line, line_in_bank}, Runs.EndsTo, Tables.table_in}
use Rattle.run_laws.specs.FinishedLaws.{ends_of}
use Rattle.pcm_module.specs.{Asking.asked_for, State.{ModuleState, bank_at, kept_for, stand_now}}
use Rattle.read_moments.specs.Reads.{standing}
use Rattle.row_printer.specs.{Printing.table_of, declared.told.Told.Told}
use Rattle.trace_stream.specs.{Asked.events_in, declared.asked.Asked.Asked as StreamAsked}
use Rattle.row_stream.specs.{Answering.backlog_of, Ending.rows_of, Serving.{HasServed, TellsAlong}}
use Rattle.moment_laws.specs.Backlogs.{CountsBacklog}

-- the rows of events as they stand by what is known of them, the newest first: a write whose outcome isn't known yet counts as queued
abbrev pub rows_now : {n : ℕ} → List (Event n) → List (Outcome n) → List (Row n)
rows_now events outcomes = map standing (rows_of events outcomes)

module _ {n m e : ℕ} (module_ : ModuleState n m e) where
  -- a write stands in the queue of its line's bank exactly where its outcome isn't known yet
  abbrev pub IsQueuedNow : List (Outcome n) → Asked n → Type 0
  IsQueuedNow outcomes a =
      IsTrue (asks_write a.asks)
      → (outcome_in outcomes a.row ≡ Unset → IsTrue (has_row (kept_for module_ (line_of a.asks)).entries a.row))
      × (IsTrue (has_row (kept_for module_ (line_of a.asks)).entries a.row) → outcome_in outcomes a.row ≡ Unset)

  -- nothing is lost now: the bytes that stand for each line are its newest, by what its bank accepted and by the rows so far; what
  -- counts there as queued is what is queued; each row so far is served, or has no outcome yet; and by these rows each bank stands as where the power stays off, and as
  -- many of them wait there as a query tells
  pub record LosesNothing (h : ℕ → List (TimedEvent n m)) (events : List (Event n)) (array : ArrayState n m) (outcomes : List (Outcome n))
      : Type 0 where
    pub accepted : (line : ℕ) → line < total_of module_.shape
        → stand_now module_ array line ≡ newest_by (core (h (bank_of_line module_.shape module_.seed line))) (line_in_bank module_.shape module_.seed line)
    pub stands : (line : ℕ) → line < total_of module_.shape → stand_now module_ array line ≡ newest (rows_now events outcomes) line
    pub queued : All (IsQueuedNow outcomes) (asked_for events)
    pub reads : IsTrue (each_row is_served_so_far (rows_now events outcomes) [])
    pub ends : EndsTo e module_.shape module_.seed true (rows_now events outcomes) array (ends_of h (bank_at module_))
    pub backlogs : (bank : ℕ) → bank < module_.shape.banks
        → CountsBacklog (table_in module_.shape module_.seed bank (rows_now events outcomes)) (backlog_of bank (bank_at module_ bank))

-- whatever events were handed to a module so far: nothing is lost now, over the array as it is
abbrev pub MomentLaw : Type 0
MomentLaw =
    (n m e : ℕ) (raw : RawShape) (seed : ℕ) (events : List (Event n)) (h : ℕ → List (TimedEvent n m)) (module_ : ModuleState n m e)
    (array : ArrayState n m) (outcomes : List (Outcome n))
    → IsShape raw → HasServed raw seed events h module_ array outcomes → LosesNothing module_ h events array outcomes

module _ {n m : ℕ} (e : ℕ) (raw : RawShape) (seed : ℕ) where
  -- of a stream with these whole histories of its banks, of which this was told in all, a moment when just these events had been handed in:
  -- parts of the histories had led to a module over an array, a first part of what was told had been told, and nothing was lost
  pub record WasMoment (events : List (Event n)) (whole : ℕ → List (TimedEvent n m)) (told : List (Told n)) : Type 0 where
    pub since : ℕ → List (TimedEvent n m)
    pub history : ℕ → List (TimedEvent n m)
    pub part : (bank : ℕ) → whole bank ≡ since bank ++ history bank
    pub said : List (Told n)
    pub rest : List (Told n)
    pub all : told ≡ said ++ rest
    pub module_ : ModuleState n m e
    pub array : ArrayState n m
    pub served : HasServed raw seed events history module_ array (table_of (length events) said)
    pub nothing_lost : LosesNothing module_ history events array (table_of (length events) said)

  -- so it was behind each of these rows
  abbrev pub LosesNothingAlong : List (StreamAsked n) → (ℕ → List (TimedEvent n m)) → List (Told n) → Type 0
  LosesNothingAlong asked whole told =
      (row : StreamAsked n) (later before : List (StreamAsked n)) → asked ≡ later ++ row ∷ before
      → WasMoment (events_in (row ∷ before)) whole told

-- rows that were served one by one, and told so: nothing was lost behind any of them
abbrev pub AlongLaw : Type 0
AlongLaw =
    (n m e : ℕ) (raw : RawShape) (seed : ℕ) (asked : List (StreamAsked n)) (h : ℕ → List (TimedEvent n m)) (told : List (Told n))
    → IsShape raw → TellsAlong e raw seed asked h told → LosesNothingAlong e raw seed asked h told
