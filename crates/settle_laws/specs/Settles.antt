-- What a stream has told of its rows by the tick of one that settles: in time and for good; and the rest comes later.
use Rattle.std.specs.Prelude.{◌≡◌, ◌≢◌, ℕ, zero, suc, ◌≤◌, Bool, List, [], ◌∷◌, ◌++◌, length, Option, None, Some, IfSome}
use Rattle.cell_rows.specs.Device.{ArrayState}
use Rattle.result_rows.specs.{Outcomes.tick_of, declared.Outcome.Outcome}
use Rattle.result_rows.specs.declared.Outcome.TheVariants as out
use Rattle.bank_model.specs.Timing.{TimedEvent}
use Rattle.bank_timing.specs.Extending.{outcome_in}
use Rattle.module_shape.specs.{Limits.IsShape, declared.raw.RawShape.RawShape}
use Rattle.pcm_module.specs.State.{ModuleState}
use Rattle.row_printer.specs.{Printing.table_of, declared.told.Told.Told, declared.told.Told.TheVariants.{Became, Bank, Looked, Peeked, Settled}}
use Rattle.trace_stream.specs.{Asked.events_in, declared.asked.Asked.Asked, declared.asked.Asked.TheVariants.{Happens, Settle, Query, Look, Peek, Until, UntilAny}}
use Rattle.row_stream.specs.{Ending.HasEnded, Serving.{HasServed, TellsAlong}}

module _ {n : ℕ} where
  -- at which tick a row settles, if it does
  abbrev pub settled_at : Asked n → Option ℕ
  settled_at (Happens event) = None
  settled_at (Settle tick) = Some tick
  settled_at (Query tick) = Some tick
  settled_at (Look tick) = Some tick
  settled_at (Peek peek) = Some peek.tick
  settled_at (Until until) = Some until.reached
  settled_at (UntilAny until) = Some until.reached

  -- how many of these rows settle
  abbrev pub settles_in : List (Asked n) → ℕ
  settles_in [] = 0
  settles_in (Happens event ∷ before) = settles_in before
  settles_in (Settle tick ∷ before) = suc (settles_in before)
  settles_in (Query tick ∷ before) = suc (settles_in before)
  settles_in (Look tick ∷ before) = suc (settles_in before)
  settles_in (Peek peek ∷ before) = suc (settles_in before)
  settles_in (Until until ∷ before) = suc (settles_in before)
  settles_in (UntilAny until ∷ before) = suc (settles_in before)

  -- the first lines that were told, up to those of so many settles: each answer to a row that settles ends with one
  abbrev pub told_up_to : ℕ → List (Told n) → List (Told n)
  told_up_to zero told = []
  told_up_to (suc settles) [] = []
  told_up_to (suc settles) (Became row outcome ∷ told) = Became row outcome ∷ told_up_to (suc settles) told
  told_up_to (suc settles) (Bank tick backlog ∷ told) = Bank tick backlog ∷ told_up_to (suc settles) told
  told_up_to (suc settles) (Looked tick wear ∷ told) = Looked tick wear ∷ told_up_to (suc settles) told
  told_up_to (suc settles) (Peeked tick newest ∷ told) = Peeked tick newest ∷ told_up_to (suc settles) told
  told_up_to (suc settles) (Settled tick ∷ told) = Settled tick ∷ told_up_to settles told

  -- what was known of each row behind one that settles, by the lines that were told up to its own
  abbrev pub known_by : Asked n → List (Asked n) → List (Told n) → ℕ → Outcome n
  known_by row before told = outcome_in (table_of (length (events_in before)) (told_up_to (settles_in (row ∷ before)) told))

  -- an outcome that came at this tick or later; or a write that stayed in its queue, whose outcome tells its arrival
  abbrev pub IsFrom : ℕ → Outcome n → Type 0
  IsFrom from out.Unset = ⊥
  IsFrom from (out.Stored tick place) = from ≤ tick
  IsFrom from (out.Merged tick) = from ≤ tick
  IsFrom from (out.Queued tick) = Unit {0}
  IsFrom from (out.Full tick) = from ≤ tick
  IsFrom from (out.Worn tick) = from ≤ tick
  IsFrom from (out.Read tick place bytes) = from ≤ tick
  IsFrom from (out.Forwarded tick bytes) = from ≤ tick
  IsFrom from (out.Busy tick) = from ≤ tick
  IsFrom from (out.Lost tick) = from ≤ tick
  IsFrom from (out.Cut tick) = from ≤ tick

  -- what was known by a tick has a tick up to it, and stays
  pub record IsKnownBy (tick : ℕ) (by_then in_the_end : ℕ → Outcome n) : Type 0 where
    pub told : (row : ℕ) → IfSome (tick_of (by_then row)) (λ at. at ≤ tick)
    pub stays : (row : ℕ) → by_then row ≢ out.Unset → in_the_end row ≡ by_then row

  -- of so many rows each that wasn't known by a tick comes from it on, or stays in its queue
  abbrev pub RestComesLater : ℕ → ℕ → (by_then in_the_end : ℕ → Outcome n) → Type 0
  RestComesLater tick rows by_then in_the_end = (row : ℕ) → 1 ≤ row → row ≤ rows → by_then row ≡ out.Unset → IsFrom tick (in_the_end row)

  -- or it isn't known yet
  abbrev pub NewsComesLater : ℕ → ℕ → (by_then now : ℕ → Outcome n) → Type 0
  NewsComesLater tick rows by_then now = (row : ℕ) → 1 ≤ row → row ≤ rows → by_then row ≡ out.Unset → now row ≢ out.Unset → IsFrom tick (now row)

  -- behind each row that settles, of those that asked this: what was told by then was told in time and is what is told in the end, and the rest
  -- comes later
  abbrev pub SettlesForGood : List (Asked n) → ℕ → List (Told n) → Type 0
  SettlesForGood asked places told =
      (row : Asked n) (later before : List (Asked n)) (tick : ℕ) → asked ≡ later ++ row ∷ before → settled_at row ≡ Some tick
      → IsKnownBy tick (known_by row before told) (outcome_in (table_of places told))
      × RestComesLater tick (length (events_in before)) (known_by row before told) (outcome_in (table_of places told))

  -- so it is while more rows may come
  abbrev pub SettlesSoFar : List (Asked n) → List (Told n) → Type 0
  SettlesSoFar asked told =
      (row : Asked n) (later before : List (Asked n)) (tick : ℕ) → asked ≡ later ++ row ∷ before → settled_at row ≡ Some tick
      → IsKnownBy tick (known_by row before told) (outcome_in (table_of (length (events_in asked)) told))
      × NewsComesLater tick (length (events_in before)) (known_by row before told) (outcome_in (table_of (length (events_in asked)) told))

-- of every stream that has ended
abbrev pub SettledLaw : Type 0
SettledLaw =
    (n m e : ℕ) (raw : RawShape) (seed : ℕ) (off : Bool) (asked : List (Asked n)) (module_ : ModuleState n m e) (array : ArrayState n m) (places : ℕ) (told : List (Told n))
    → IsShape raw → HasEnded raw seed off asked module_ array places told → SettlesForGood asked places told

-- and of every one that goes on
abbrev pub SoFarLaw : Type 0
SoFarLaw =
    (n m e : ℕ) (raw : RawShape) (seed : ℕ) (asked : List (Asked n)) (h : ℕ → List (TimedEvent n m)) (module_ : ModuleState n m e) (array : ArrayState n m) (told : List (Told n))
    → IsShape raw → TellsAlong e raw seed asked h told → HasServed raw seed (events_in asked) h module_ array (table_of (length (events_in asked)) told) → SettlesSoFar asked told
