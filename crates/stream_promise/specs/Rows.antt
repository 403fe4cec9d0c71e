-- What a stream tells row by row, said of its rows and its lines alone. What was asked stands with the newest row first.
use Rattle.std.specs.Prelude.{◌≡◌, ◌⊎◌, ℕ, zero, suc, Bool, true, false, List, [], ◌∷◌, ◌++◌, All, length}
use Rattle.cell_rows.specs.Device.{ArrayState}
use Rattle.result_rows.specs.declared.Outcome.{Outcome}
use Rattle.bank_timing.specs.Extending.{outcome_in}
use Rattle.module_shape.specs.declared.raw.RawShape.{RawShape}
use Rattle.row_rules.specs.{Rows.newest, declared.Row.Row}
use Rattle.right_runs.specs.Tables.{table_in}
use Rattle.run_text.specs.Counting.{counts_of}
use Rattle.row_printer.specs.{Printing.{stream_text, table_of}, Refusing.any_refused, Snapshots.AddsDue, Telling.became, declared.snapshot.Snapshot.Snapshot}
use Rattle.row_printer.specs.{declared.told.ArrayWear.ArrayWear, declared.told.Backlog.Backlog, declared.told.Shown.Shown, declared.told.Told.Told}
use Rattle.row_printer.specs.declared.told.Told.TheVariants.{Bank, Looked, Peeked, Settled}
use Rattle.trace_stream.specs.{Asked.events_in, declared.asked.Asked.Asked, declared.asked.Asked.TheVariants.{Happens, Settle, Query, Look, Peek, Until, UntilAny}}
use Rattle.row_stream.specs.{Asking.{behind_of, cut_if, tick_reached, with_cut}, Looking.wear_of, Reaching.ReachesBy, Serving.{ComeInOrder, is_due_behind}}
use Rattle.row_stream.specs.{declared.stop.Behind.Behind, declared.stop.Behind.TheVariants.{Nothing, Going, Off}}
use Rattle.stream_words.specs.declared.job.StreamJob.{StreamJob}
use Rattle.stream_top.specs.Streams.{shown_by}
use Rattle.moment_laws.specs.{Backlogs.CountsBacklog, Moments.rows_now}
use Rattle.settle_laws.specs.{Marks.IsTrueMark, Turns.TellsInTurn}

module _ {n : ℕ} (raw : RawShape) (seed : ℕ) where
  -- the lines of the first so many banks at a tick, one of each, in their order: how many of the bank's rows wait there, by these rows as they stand
  abbrev pub AreOfBanks : List (Row n) → ℕ → ℕ → List (Told n) → Type 0
  AreOfBanks rows tick zero lines = lines ≡ []
  AreOfBanks rows tick (suc bank) lines =
      (earlier : List (Told n)) × (backlog : Backlog) × AreOfBanks rows tick bank earlier
      × (backlog.bank ≡ bank) × CountsBacklog (table_in raw seed bank rows) backlog × (lines ≡ earlier ++ Bank tick backlog ∷ [])

  -- the lines that answer a row beside outcomes, where these rows stand behind it: of each that settles the last one is its tick, and what a peek tells are the
  -- newest bytes of its line, by the writes that were accepted before
  abbrev pub AreAnswers : List (Row n) → Asked n → List (Told n) → Type 0
  AreAnswers rows (Happens event) lines = lines ≡ []
  AreAnswers rows (Settle tick) lines = lines ≡ Settled tick ∷ []
  AreAnswers rows (Query tick) lines = (first : List (Told n)) × AreOfBanks rows tick raw.banks first × (lines ≡ first ++ Settled tick ∷ [])
  AreAnswers rows (Look tick) lines = (wear : ArrayWear) × (lines ≡ Looked tick wear ∷ Settled tick ∷ [])
  AreAnswers rows (Peek peek) lines = lines ≡ Peeked peek.tick (record { line = peek.line; bytes = newest rows peek.line }) ∷ Settled peek.tick ∷ []
  AreAnswers rows (Until until) lines = lines ≡ Settled until.reached ∷ []
  AreAnswers rows (UntilAny until) lines = lines ≡ Settled until.reached ∷ []

  -- this was told of rows that asked this: of each, in their order, the outcomes that became known as it was served, and its answer; a settle until went on to
  -- the first tick behind which its row has an outcome
  abbrev pub TellsByRows : List (Asked n) → List (Told n) → Type 0
  TellsByRows [] told = told ≡ []
  TellsByRows (row ∷ before) told =
      (said : List (Told n)) × TellsByRows before said
      × (outcomes : List (ℕ × Outcome n)) × ComeInOrder raw seed row before outcomes
      × (lines : List (Told n)) × AreAnswers (rows_now (events_in (row ∷ before)) (table_of (length (events_in (row ∷ before))) told)) row lines × (told ≡ (said ++ became outcomes) ++ lines)
      × ReachesBy (tick_reached before) row (table_of (length (events_in (row ∷ before))) told)

  -- what was told of rows that asked this
  pub record RowsTold (asked : List (Asked n)) : Type 0 where
    pub told : List (Told n)
    pub rows : TellsByRows asked told

  -- and before the last of them was served
  abbrev pub before_row : (row : Asked n) (before : List (Asked n)) → RowsTold (row ∷ before) → RowsTold before
  before_row row before it = record { told = it.rows.0; rows = it.rows.1 }

  -- without the cut that may have been added behind them
  abbrev pub before_cut_if : (behind : Behind) (asked : List (Asked n)) → RowsTold (cut_if behind asked) → RowsTold asked
  before_cut_if Nothing asked it = it
  before_cut_if Off asked it = it
  before_cut_if Going asked it = before_row _ asked it

  abbrev pub before_cut : (off : Bool) (asked : List (Asked n)) → RowsTold (with_cut off asked) → RowsTold asked
  before_cut false asked it = it
  before_cut true asked it = before_cut_if (behind_of asked) asked it

  -- whether a refusal was told
  abbrev pub is_refusal_told : (asked : List (Asked n)) → RowsTold asked → Bool
  is_refusal_told asked it = any_refused (table_of (length (events_in asked)) it.told)

  -- none was, before the last row was served
  abbrev pub NoneWasBefore : (asked : List (Asked n)) → RowsTold asked → Type 0
  NoneWasBefore [] it = Unit {0}
  NoneWasBefore (row ∷ before) it = is_refusal_told before (before_row row before it) ≡ false

  -- where the rows end: behind all of them; or, where a stream is to stop at a refusal, behind the row by which the first is told, and else behind all of them
  abbrev pub EndWhere : Bool → (asked : List (Asked n)) → RowsTold asked → (All Some : Type 0) → Type 0
  EndWhere false asked it All Some = All
  EndWhere true asked it All Some =
      ((is_refusal_told asked it ≡ false) × All) ⊎ (NoneWasBefore asked it × (is_refusal_told asked it ≡ true) × Some)

  -- where a stream is to stop at a refusal, none was told so far
  abbrev pub WithoutRefusal : Bool → (asked : List (Asked n)) → RowsTold asked → Type 0
  WithoutRefusal false asked it = Unit {0}
  WithoutRefusal true asked it = is_refusal_told asked it ≡ false

  -- and before its last row none was
  abbrev pub WithoutRefusalBefore : Bool → (asked : List (Asked n)) → RowsTold asked → Type 0
  WithoutRefusalBefore false asked it = Unit {0}
  WithoutRefusalBefore true asked it = NoneWasBefore asked it

-- a snapshot tells of so many rows, at a tick, how many had each outcome by what was told
pub record CountsRows {n : ℕ} (places at : ℕ) (told : List (Told n)) (snapshot : Snapshot) : Type 0 where
  pub rows : snapshot.rows ≡ places
  pub tick : snapshot.tick ≡ at
  pub counts : snapshot.counts ≡ counts_of (table_of places told)

-- the snapshots that were taken of rows: one stands behind each with a number where one is due, and counts what was told by then
abbrev pub SnapsByRows : {n : ℕ} (raw : RawShape) (seed : ℕ) → Shown → (asked : List (Asked n)) (told : List (Told n)) → TellsByRows raw seed asked told → List Snapshot → Type 0
SnapsByRows raw seed shown [] told rows snapshots = snapshots ≡ []
SnapsByRows raw seed shown (row ∷ before) told rows snapshots =
    (earlier : List Snapshot) × SnapsByRows raw seed shown before rows.0 rows.1 earlier
    × AddsDue (is_due_behind shown row (length (events_in (row ∷ before)))) (CountsRows (length (events_in (row ∷ before))) (tick_reached (row ∷ before)) told) earlier snapshots

-- this is the text of what was told of rows that asked this, with the snapshots that were taken of them
abbrev pub IsTextByRows : (n m e : ℕ) → StreamJob → List (Asked n) → List ℕ → Type 0
IsTextByRows n m e job asked text =
    (it : RowsTold job.shape job.seed asked) × (snapshots : List Snapshot) × SnapsByRows job.shape job.seed (shown_by job.shape job.seed job.print) asked it.told it.rows snapshots
    × (text ≡ stream_text (shown_by job.shape job.seed job.print) it.told snapshots)

-- behind each row what was told had been told in turn, by what became of the rows in the end
abbrev pub AreInTurnByRows : {n : ℕ} (raw : RawShape) (seed : ℕ) (asked : List (Asked n)) (told : List (Told n)) → TellsByRows raw seed asked told → (ℕ → Outcome n) → Type 0
AreInTurnByRows raw seed [] told rows in_the_end = Unit {0}
AreInTurnByRows raw seed (row ∷ before) told rows in_the_end =
    AreInTurnByRows raw seed before rows.0 rows.1 in_the_end
    × TellsInTurn raw seed row before (outcome_in (table_of (length (events_in (row ∷ before))) told)) in_the_end

-- a bank that a query marked stores nothing any more, and one that it told as exhausted accepts no write that comes later, by what became in the end of all these rows
abbrev pub AreMarksTrueByRows : {n : ℕ} (raw : RawShape) (seed : ℕ) (whole : List (Asked n)) (in_the_end : ℕ → Outcome n) (asked : List (Asked n)) (told : List (Told n))
    → TellsByRows raw seed asked told → Type 0
AreMarksTrueByRows raw seed whole in_the_end [] told rows = Unit {0}
AreMarksTrueByRows raw seed whole in_the_end (row ∷ before) told rows =
    AreMarksTrueByRows raw seed whole in_the_end before rows.0 rows.1
    × All (IsTrueMark raw seed whole (outcome_in (table_of (length (events_in (row ∷ before))) told)) in_the_end (length (events_in (row ∷ before)))) rows.4

-- where the last row was a look, its line says how worn this array is
abbrev pub LooksAt : {n m : ℕ} → ℕ → ArrayState n m → List (Asked n) → List (Told n) → Type 0
LooksAt e array [] told = Unit {0}
LooksAt e array (Happens event ∷ before) told = Unit {0}
LooksAt e array (Settle tick ∷ before) told = Unit {0}
LooksAt e array (Query tick ∷ before) told = Unit {0}
LooksAt {n} e array (Look tick ∷ before) told = (said : List (Told n)) × (told ≡ said ++ Looked tick (wear_of e array) ∷ Settled tick ∷ [])
LooksAt e array (Peek peek ∷ before) told = Unit {0}
LooksAt e array (Until until ∷ before) told = Unit {0}
LooksAt e array (UntilAny until ∷ before) told = Unit {0}

-- where a snapshot was taken behind the last row, so does that
abbrev pub ShowsAt : {n m : ℕ} → ℕ → ArrayState n m → Shown → List (Asked n) → List Snapshot → Type 0
ShowsAt e array shown [] snapshots = Unit {0}
ShowsAt e array shown (row ∷ before) snapshots =
    (earlier : List Snapshot) × AddsDue (is_due_behind shown row (length (events_in (row ∷ before)))) (λ one. one.wear ≡ wear_of e array) earlier snapshots
