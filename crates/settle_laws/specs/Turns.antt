-- That a stream tells in turn what becomes of its rows: what is decided as a row comes is told behind that row, and of one bank nothing that is told later came earlier.
use Rattle.std.specs.Prelude.{◌≡◌, ◌≢◌, ℕ, ◌<◌, ◌≤◌, Bool, true, false, IsTrue, List, [], ◌∷◌, length, IfSome}
use Rattle.cell_rows.specs.Device.{ArrayState}
use Rattle.result_rows.specs.{Outcomes.tick_of, declared.Outcome.Outcome}
use Rattle.result_rows.specs.declared.Outcome.TheVariants as out
use Rattle.row_rules.specs.Table.{is_of}
use Rattle.trace_rows.specs.Rows.{asks_of}
use Rattle.bank_model.specs.Timing.{TimedEvent}
use Rattle.bank_timing.specs.Extending.{outcome_in}
use Rattle.module_shape.specs.{Limits.IsShape, declared.raw.RawShape.RawShape}
use Rattle.right_runs.specs.Banks.{bank_of_line}
use Rattle.pcm_module.specs.{Asking.asked_for, State.ModuleState, Telling.is_asked_of}
use Rattle.row_printer.specs.{Printing.table_of, declared.told.Told.Told}
use Rattle.trace_stream.specs.{Asked.events_in, declared.asked.Asked.Asked, declared.asked.Asked.TheVariants.Happens}
use Rattle.row_stream.specs.{Asking.tick_reached, Ending.HasEnded, Serving.{HasServed, TellsAlong}}
use Rattle.settle_laws.specs.Settles.{IsFrom, IsKnownBy}

-- what is decided as a row comes: a write is refused, a read answered by the queue or refused, the power cut
abbrev pub is_decided : {n : ℕ} → Outcome n → Bool
is_decided (out.Full tick) = true
is_decided (out.Worn tick) = true
is_decided (out.Forwarded tick bytes) = true
is_decided (out.Busy tick) = true
is_decided (out.Cut tick) = true
is_decided _ = false

module _ {n : ℕ} (raw : RawShape) (seed : ℕ) where
  -- whether a row is one that was asked of a bank: a read or a write of one of its lines
  abbrev pub is_in_bank : List (Asked n) → ℕ → ℕ → Bool
  is_in_bank asked bank row = is_asked_of (bank_of_line raw seed) bank (asked_for (events_in asked)) row

  -- whether what a row asks makes a bank go on to its tick: one of a line its own bank, and a cut each
  abbrev pub comes_in : Asked n → ℕ → Bool
  comes_in (Happens event) bank = is_of (bank_of_line raw seed) bank (asks_of event.op)
  comes_in _ bank = false

  -- behind a row: what was told by then has a tick up to its own, and stays; of the rows that had come, each that was decided as it came is told; of the rows of one bank, none that is
  -- told later has an earlier tick than one that was told; and of a bank that the row made go on, none has an earlier tick than the row
  pub record TellsInTurn (row : Asked n) (before : List (Asked n)) (by_then in_the_end : ℕ → Outcome n) : Type 0 where
    pub known : IsKnownBy (tick_reached (row ∷ before)) by_then in_the_end
    pub at_once : (number : ℕ) → 1 ≤ number → number ≤ length (events_in (row ∷ before)) → IsTrue (is_decided (in_the_end number)) → by_then number ≡ in_the_end number
    pub rises : (bank first other : ℕ) → bank < raw.banks → IsTrue (is_in_bank (row ∷ before) bank first) → IsTrue (is_in_bank (row ∷ before) bank other)
        → by_then other ≡ out.Unset → in_the_end other ≢ out.Unset → IfSome (tick_of (by_then first)) (λ tick. IsFrom tick (in_the_end other))
    pub from_here : (bank number : ℕ) → bank < raw.banks → IsTrue (comes_in row bank) → IsTrue (is_in_bank (row ∷ before) bank number)
        → by_then number ≡ out.Unset → in_the_end number ≢ out.Unset → IsFrom (tick_reached (row ∷ before)) (in_the_end number)

-- so it is behind each row of these, which were told so
abbrev pub AreInTurn : {n m : ℕ} (e : ℕ) (raw : RawShape) (seed : ℕ) (asked : List (Asked n)) (h : ℕ → List (TimedEvent n m)) (told : List (Told n))
    → TellsAlong e raw seed asked h told → (ℕ → Outcome n) → Type 0
AreInTurn e raw seed [] h told along in_the_end = Unit {0}
AreInTurn e raw seed (row ∷ before) h told along in_the_end =
    AreInTurn e raw seed before along.0 along.1 along.2 in_the_end
    × TellsInTurn raw seed row before (outcome_in (table_of (length (events_in (row ∷ before))) told)) in_the_end

-- of every stream that has ended
abbrev pub EndedTurnLaw : Type 0
EndedTurnLaw =
    (n m e : ℕ) (raw : RawShape) (seed : ℕ) (off : Bool) (asked : List (Asked n)) (module_ : ModuleState n m e) (array : ArrayState n m) (places : ℕ) (told : List (Told n))
    → IsShape raw → (ended : HasEnded raw seed off asked module_ array places told)
    → AreInTurn e raw seed asked ended.history ended.said ended.along (outcome_in (table_of places told))

-- and of every one that goes on, by what is known now
abbrev pub TurnLaw : Type 0
TurnLaw =
    (n m e : ℕ) (raw : RawShape) (seed : ℕ) (asked : List (Asked n)) (h : ℕ → List (TimedEvent n m)) (module_ : ModuleState n m e) (array : ArrayState n m) (told : List (Told n))
    → IsShape raw → (along : TellsAlong e raw seed asked h told) → HasServed raw seed (events_in asked) h module_ array (table_of (length (events_in asked)) told)
    → AreInTurn e raw seed asked h told along (outcome_in (table_of (length (events_in asked)) told))
