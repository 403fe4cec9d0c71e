-- That of two snapshots of a stream the later one counts no less.
use Rattle.std.specs.Prelude.{ℕ, ◌≤◌, Bool, List, [], ◌∷◌, All}
use Rattle.cell_rows.specs.Device.{ArrayState}
use Rattle.bank_model.specs.Timing.{TimedEvent}
use Rattle.module_shape.specs.declared.raw.RawShape.{RawShape}
use Rattle.pcm_module.specs.State.{ModuleState}
use Rattle.run_text.specs.declared.counts.OutcomeCounts.{OutcomeCounts}
use Rattle.row_printer.specs.{Telling.{outcomes_in, TellsOnce}, declared.snapshot.Snapshot.Snapshot, declared.told.Shown.Shown, declared.told.Told.Told}
use Rattle.trace_stream.specs.declared.asked.Asked.{Asked}
use Rattle.row_stream.specs.{Ending.EndsShowing, Serving.{SnapsAlong, TellsAlong}}

-- of each outcome there are at least as many
pub record CountsRise (one later : OutcomeCounts) : Type 0 where
  pub stored : one.stored ≤ later.stored
  pub merged : one.merged ≤ later.merged
  pub queued : one.queued ≤ later.queued
  pub full : one.full ≤ later.full
  pub worn : one.worn ≤ later.worn
  pub read : one.read ≤ later.read
  pub forwarded : one.forwarded ≤ later.forwarded
  pub busy : one.busy ≤ later.busy
  pub lost : one.lost ≤ later.lost
  pub cut : one.cut ≤ later.cut

-- a later snapshot tells of at least as many rows, of no earlier tick, and of at least as many of each outcome, retired spares, and pulses: of all lines,
-- on average, and of the line that has most
pub record Rises (one later : Snapshot) : Type 0 where
  pub rows : one.rows ≤ later.rows
  pub tick : one.tick ≤ later.tick
  pub counts : CountsRise one.counts later.counts
  pub retired : one.retired ≤ later.retired
  pub pulses : one.wear.pulses ≤ later.wear.pulses
  pub most : one.wear.most ≤ later.wear.most
  pub mean : one.wear.mean ≤ later.wear.mean

-- so does each of these snapshots, of each that stands before it
abbrev pub NeverFall : List Snapshot → Type 0
NeverFall [] = Unit {0}
NeverFall (one ∷ later) = All (Rises one) later × NeverFall later

-- those of every stream that has ended, each row having been told once
abbrev pub EndedLaw : Type 0
EndedLaw =
    (n m e : ℕ) (raw : RawShape) (seed : ℕ) (off : Bool) (asked : List (Asked n)) (module_ : ModuleState n m e) (array : ArrayState n m) (places : ℕ) (told : List (Told n))
    (shown : Shown) (snapshots : List Snapshot)
    → TellsOnce places (outcomes_in told) → EndsShowing raw seed off asked module_ array places told shown snapshots → NeverFall snapshots

-- and of every one that goes on
abbrev pub SoFarLaw : Type 0
SoFarLaw =
    (n m e : ℕ) (raw : RawShape) (seed most : ℕ) (shown : Shown) (asked : List (Asked n)) (h : ℕ → List (TimedEvent n m)) (told : List (Told n))
    (along : TellsAlong e raw seed asked h told) (snapshots : List Snapshot)
    → TellsOnce most (outcomes_in told) → SnapsAlong e raw seed shown asked h told along snapshots → NeverFall snapshots
