-- What a module and what was told have to do with what the rows of a stream asked so far. What was asked stands with the newest first.
use Rattle.std.specs.Prelude.{◌≡◌, ◌⊎◌, ℕ, zero, suc, ◌+◌, ◌<◌, ◌≤◌, Bool, true, false, List, [], ◌∷◌, ◌++◌, length, Some, All, IsSomeAnd, slice_get}
use Rattle.cell_rows.specs.Device.{ArrayState}
use Rattle.trace_reader.specs.{Rows.latest_tick, declared.event.Event.Event}
use Rattle.result_rows.specs.{Outcomes.tick_of, declared.Outcome.Outcome}
use Rattle.row_rules.specs.{Answers.is_queued, declared.Asks.Asks, declared.Asks.TheVariants.{Reads, Writes, Cuts}}
use Rattle.trace_rows.specs.Rows.{asks_of}
use Rattle.bank_model.specs.Timing.{TimedEvent}
use Rattle.bank_timing.specs.Extending.{next_end}
use Rattle.module_shape.specs.{Limits.total_of, declared.raw.RawShape.RawShape}
use Rattle.right_runs.specs.Banks.{bank_of_line}
use Rattle.pcm_module.specs.{Asking.asked_for, Replaying.Replays, Settling.IsAtTick, State.{ModuleState, bank_at, stand_now}, Telling.{is_asked_of, rows_at}}
use Rattle.row_printer.specs.{Printing.{Printing, table_of}, Snapshots.{AddsDue, is_due}, Telling.became, declared.snapshot.Snapshot.Snapshot, declared.told.Shown.Shown}
use Rattle.row_printer.specs.{declared.told.Told.Told, declared.told.Told.TheVariants.{Looked, Peeked, Settled}}
use Rattle.trace_stream.specs.{Asked.events_in, declared.asked.Asked.Asked, declared.asked.Asked.TheVariants.{Happens, Settle, Query, Look, Peek, Until, UntilAny}}
use Rattle.row_stream.specs.{Answering.banks_told, Asking.tick_reached, Looking.{IsSnapshot, wear_of}, Reaching.{CameBetween, CameBy, HasFound, ReachesBy}}

module _ {n m e : ℕ} (raw : RawShape) (seed : ℕ) where
  -- a module of these sizes and this seed was handed these events, and histories of its banks, which asked for exactly these, led to it over the
  -- array and gave exactly these outcomes so far
  pub record HasServed (events : List (Event n)) (h : ℕ → List (TimedEvent n m)) (module_ : ModuleState n m e) (array : ArrayState n m) (outcomes : List (Outcome n)) : Type 0 where
    pub shape : module_.shape ≡ raw
    pub seeded : module_.seed ≡ seed
    pub going : module_.finished ≡ false
    pub bound : module_.rows_below ≤ length events + 1
    pub size : length outcomes ≡ length events
    pub replays : Replays h (asked_for events) module_ array outcomes

-- the tick of the last of some turns: of the first one, or of the newest behind it
abbrev pub last_turn : ℕ → List ℕ → ℕ
last_turn first [] = first
last_turn first (tick ∷ ticks) = tick

module _ {n : ℕ} where
  -- outcomes in the order of their ticks, from this tick on: from one to the next no tick falls, and none is that of a write that stays queued
  abbrev pub ComeByTick : ℕ → List (ℕ × Outcome n) → Type 0
  ComeByTick from [] = Unit {0}
  ComeByTick from (one ∷ outcomes) = (tick : ℕ) × (from ≤ tick) × (tick_of one.1 ≡ Some tick) × (is_queued one.1 ≡ false) × ComeByTick tick outcomes

  -- so they come where rows may still come, and in the end those of writes that stay queued behind them
  abbrev pub ComeInTurn : Bool → List (ℕ × Outcome n) → Type 0
  ComeInTurn false outcomes = ComeByTick 0 outcomes
  ComeInTurn true outcomes =
      (known : List (ℕ × Outcome n)) × (left : List (ℕ × Outcome n)) × (outcomes ≡ known ++ left) × ComeByTick 0 known
      × All (λ one. is_queued one.1 ≡ true) left

module _ {n : ℕ} (raw : RawShape) (seed : ℕ) where
  -- outcomes of rows that these events asked of one bank, of no others, in the order of their ticks, and in the end those of writes that stay queued behind them
  abbrev pub ComeOfBank : Bool → List (Event n) → ℕ → List (ℕ × Outcome n) → Type 0
  ComeOfBank ends events bank outcomes =
      All (λ one. is_asked_of (bank_of_line raw seed) bank (asked_for events) one.0 ≡ true) outcomes × ComeInTurn ends outcomes

  -- outcomes of rows that these events asked of so many banks, bank by bank from the first on
  abbrev pub ComeByBanks : Bool → List (Event n) → ℕ → List (ℕ × Outcome n) → Type 0
  ComeByBanks ends events zero outcomes = outcomes ≡ []
  ComeByBanks ends events (suc bank) outcomes =
      (earlier : List (ℕ × Outcome n)) × (own : List (ℕ × Outcome n)) × (outcomes ≡ earlier ++ own) × ComeByBanks ends events bank earlier
      × ComeOfBank ends events bank own

  -- and behind the banks at most that of this row
  abbrev pub ComeBehind : List (Event n) → ℕ → List (ℕ × Outcome n) → Type 0
  ComeBehind events row outcomes =
      (of_banks : List (ℕ × Outcome n)) × (own : List (ℕ × Outcome n)) × (outcomes ≡ of_banks ++ own) × ComeByBanks false events raw.banks of_banks
      × All (λ one. one.0 ≡ row) own

  -- outcomes that were told as the last row of these was taken, which asked this: of a line's row, outcomes of the line's own bank alone; of a cut bank by bank, and its own
  -- behind the banks
  abbrev pub ComeFor : List (Event n) → ℕ → Asks n → List (ℕ × Outcome n) → Type 0
  ComeFor events row (Reads line) outcomes = ComeOfBank false events (bank_of_line raw seed line) outcomes
  ComeFor events row (Writes line bytes given) outcomes = ComeOfBank false events (bank_of_line raw seed line) outcomes
  ComeFor events row Cuts outcomes = ComeBehind events row outcomes

  -- outcomes that were told turn by turn, in each turn bank by bank, from this tick on, and then at ticks that rise, of which the newest stands first: in the first
  -- turn what came by its tick, and in each one more what came behind the tick of the turn before and by its own
  abbrev pub ComeByTurns : List (Event n) → ℕ → List ℕ → List (ℕ × Outcome n) → Type 0
  ComeByTurns events first [] outcomes = ComeByBanks false events raw.banks outcomes × All (λ one. CameBy first one.1) outcomes
  ComeByTurns events first (tick ∷ ticks) outcomes =
      (earlier : List (ℕ × Outcome n)) × (own : List (ℕ × Outcome n)) × (outcomes ≡ earlier ++ own) × ComeByTurns events first ticks earlier
      × (last_turn first ticks < tick) × ComeByBanks false events raw.banks own × All (λ one. CameBetween (last_turn first ticks) tick one.1) own

  -- the outcomes that are told as a row is served, behind these rows: of an event what comes for it; of what settles bank by bank, and of a settle until so
  -- turn by turn, from the tick that was reached before to the one that it reaches; where that names no row, to the first behind which one has an outcome
  abbrev pub ComeInOrder : Asked n → List (Asked n) → List (ℕ × Outcome n) → Type 0
  ComeInOrder (Happens event) before outcomes = ComeFor (event ∷ events_in before) (length (events_in before) + 1) (asks_of event.op) outcomes
  ComeInOrder (Settle tick) before outcomes = ComeByBanks false (events_in before) raw.banks outcomes
  ComeInOrder (Query tick) before outcomes = ComeByBanks false (events_in before) raw.banks outcomes
  ComeInOrder (Look tick) before outcomes = ComeByBanks false (events_in before) raw.banks outcomes
  ComeInOrder (Peek peek) before outcomes = ComeByBanks false (events_in before) raw.banks outcomes
  ComeInOrder (Until until) before outcomes =
      (ticks : List ℕ) × (until.reached ≡ last_turn (tick_reached before) ticks) × ComeByTurns (events_in before) (tick_reached before) ticks outcomes
  ComeInOrder (UntilAny until) before outcomes =
      (ticks : List ℕ) × (until.reached ≡ last_turn (tick_reached before) ticks) × ComeByTurns (events_in before) (tick_reached before) ticks outcomes
      × HasFound (tick_reached before) until outcomes

-- the lines that answer a row besides outcomes, at the module and the array behind it: of a settle its tick, of a query what waits in each bank before
-- it, of a look how worn the array is before it, of a peek the line's newest bytes before it, and of a settle until the tick that it reached
abbrev pub lines_of : {n m e : ℕ} → Asked n → ModuleState n m e → ArrayState n m → List (Told n)
lines_of (Happens event) module_ array = []
lines_of (Settle tick) module_ array = Settled tick ∷ []
lines_of (Query tick) module_ array = banks_told module_ tick module_.shape.banks ++ Settled tick ∷ []
lines_of {e = e} (Look tick) module_ array = Looked tick (wear_of e array) ∷ Settled tick ∷ []
lines_of (Peek peek) module_ array = Peeked peek.tick (record { line = peek.line; bytes = stand_now module_ array peek.line }) ∷ Settled peek.tick ∷ []
lines_of (Until until) module_ array = Settled until.reached ∷ []
lines_of (UntilAny until) module_ array = Settled until.reached ∷ []

-- whether a snapshot is due behind a row, of so many with a number: a row that settles has none
abbrev pub is_due_behind : {n : ℕ} → Shown → Asked n → ℕ → Bool
is_due_behind shown (Happens event) rows = is_due shown rows
is_due_behind shown (Settle tick) rows = false
is_due_behind shown (Query tick) rows = false
is_due_behind shown (Look tick) rows = false
is_due_behind shown (Peek peek) rows = false
is_due_behind shown (Until until) rows = false
is_due_behind shown (UntilAny until) rows = false

-- a row stands in a bank of a module, and this is the tick at which the action ends that runs there next, but at most a limit
abbrev pub IsNextTurn : {n m e : ℕ} → (row limit : ℕ) → ModuleState n m e → ℕ → Type 0
IsNextTurn row limit module_ tick =
    (bank : ℕ) × (bank < module_.shape.banks) × (rows_at module_ bank row ≡ true) × (tick ≡ next_end limit (bank_at module_ bank))

-- and this is the first tick at which an action ends that runs in any bank, but at most a limit
abbrev pub IsFirstTurn : {n m e : ℕ} → (limit : ℕ) → ModuleState n m e → ℕ → Type 0
IsFirstTurn limit module_ tick =
    (tick ≤ limit) × ((bank : ℕ) → bank < module_.shape.banks → tick ≤ next_end limit (bank_at module_ bank))
    × ((tick ≡ limit) ⊎ ((bank : ℕ) × (bank < module_.shape.banks) × (tick ≡ next_end limit (bank_at module_ bank))))

module _ {n m : ℕ} (e : ℕ) (raw : RawShape) (seed : ℕ) where
  -- behind a settle, a query, a look or a peek each bank has come to its tick, and behind a settle until to the one that it reached; a peek is of a line of the module
  abbrev pub HasSettled : Asked n → ModuleState n m e → Type 0
  HasSettled (Happens event) module_ = Unit {0}
  HasSettled (Settle tick) module_ = (bank : ℕ) → bank < module_.shape.banks → IsSomeAnd (slice_get module_.banks bank) (IsAtTick tick)
  HasSettled (Query tick) module_ = (bank : ℕ) → bank < module_.shape.banks → IsSomeAnd (slice_get module_.banks bank) (IsAtTick tick)
  HasSettled (Look tick) module_ = (bank : ℕ) → bank < module_.shape.banks → IsSomeAnd (slice_get module_.banks bank) (IsAtTick tick)
  HasSettled (Peek peek) module_ =
      ((bank : ℕ) → bank < module_.shape.banks → IsSomeAnd (slice_get module_.banks bank) (IsAtTick peek.tick)) × (peek.line < total_of module_.shape)
  HasSettled (Until until) module_ = (bank : ℕ) → bank < module_.shape.banks → IsSomeAnd (slice_get module_.banks bank) (IsAtTick until.reached)
  HasSettled (UntilAny until) module_ = (bank : ℕ) → bank < module_.shape.banks → IsSomeAnd (slice_get module_.banks bank) (IsAtTick until.reached)

  -- of these rows exactly those outcomes were told which these histories gave so far, at the module and the array to which they led, which is
  -- at the tick of the last row, no earlier than before, and each of its banks where that settles, no sooner and no later than where that waits for a row
  pub record AreKnown (asked : Asked n) (before : List (Asked n)) (h : ℕ → List (TimedEvent n m)) (told : List (Told n)) : Type 0 where
    pub module_ : ModuleState n m e
    pub array : ArrayState n m
    pub served : HasServed raw seed (events_in (asked ∷ before)) h module_ array (table_of (length (events_in (asked ∷ before))) told)
    pub tick : module_.tick ≡ tick_reached (asked ∷ before)
    pub rises : tick_reached before ≤ tick_reached (asked ∷ before)
    pub settled : HasSettled asked module_
    pub reached : ReachesBy (tick_reached before) asked (table_of (length (events_in (asked ∷ before))) told)

  -- by these histories, which gave exactly the outcomes that were told, the banks of a module came to a tick, each of them
  pub record HaveCome (tick : ℕ) (before : List (Asked n)) (h : ℕ → List (TimedEvent n m)) (module_ : ModuleState n m e) (array : ArrayState n m) (told : List (Told n)) : Type 0 where
    pub served : HasServed raw seed (events_in before) h module_ array (table_of (length (events_in before)) told)
    pub settled : (bank : ℕ) → bank < module_.shape.banks → IsSomeAnd (slice_get module_.banks bank) (IsAtTick tick)

  -- a settle until, behind rows of which this was told, brought the banks from turn to turn to these ticks: first to the one that was reached before, and then each
  -- time to the next one, by how the module stood. As they came to a tick, what they had done by it was told
  abbrev pub TakesTurns : (Next : ModuleState n m e → ℕ → Type 0) → List (Asked n) → (ℕ → List (TimedEvent n m)) → List (Told n) → List ℕ
      → (ℕ → List (TimedEvent n m)) → ModuleState n m e → ArrayState n m → List (ℕ × Outcome n) → Type 0
  TakesTurns Next before earlier said [] h module_ array outcomes =
      (added : ℕ → List (TimedEvent n m)) × ((bank : ℕ) → h bank ≡ added bank ++ earlier bank)
      × HaveCome (tick_reached before) before h module_ array (said ++ became outcomes)
  TakesTurns Next before earlier said (tick ∷ ticks) h module_ array outcomes =
      (between : ℕ → List (TimedEvent n m)) × (stood : ModuleState n m e) × (held : ArrayState n m) × (known : List (ℕ × Outcome n))
      × TakesTurns Next before earlier said ticks between stood held known × Next stood tick
      × (own : List (ℕ × Outcome n)) × (outcomes ≡ known ++ own)
      × (added : ℕ → List (TimedEvent n m)) × ((bank : ℕ) → h bank ≡ added bank ++ between bank)
      × HaveCome tick before h module_ array (said ++ became outcomes)

  -- where a row is a settle until, it took the turns in whose order outcomes were told: to each tick at which an action ends of the bank where its row stands, or,
  -- where it names no row, of any bank
  abbrev pub GoesByTurns : (asked : Asked n) (before : List (Asked n)) (earlier : ℕ → List (TimedEvent n m)) (said : List (Told n)) (outcomes : List (ℕ × Outcome n))
      → ComeInOrder raw seed asked before outcomes → (ℕ → List (TimedEvent n m)) → ModuleState n m e → ArrayState n m → Type 0
  GoesByTurns (Happens event) before earlier said outcomes order h module_ array = Unit {0}
  GoesByTurns (Settle tick) before earlier said outcomes order h module_ array = Unit {0}
  GoesByTurns (Query tick) before earlier said outcomes order h module_ array = Unit {0}
  GoesByTurns (Look tick) before earlier said outcomes order h module_ array = Unit {0}
  GoesByTurns (Peek peek) before earlier said outcomes order h module_ array = Unit {0}
  GoesByTurns (Until until) before earlier said outcomes order h module_ array =
      TakesTurns (IsNextTurn until.row until.limit) before earlier said order.0 h module_ array outcomes
  GoesByTurns (UntilAny until) before earlier said outcomes order h module_ array =
      TakesTurns (IsFirstTurn until.limit) before earlier said order.0 h module_ array outcomes

  -- row by row: rows that asked this brought these histories about, and this was told of them. As each row was served, the outcomes were told that
  -- the histories gave then and hadn't given before, no others, bank by bank, and behind them the lines of the row, by the module as it then was; a settle until
  -- went by its turns
  abbrev pub TellsAlong : List (Asked n) → (ℕ → List (TimedEvent n m)) → List (Told n) → Type 0
  TellsAlong [] h told = (h ≡ (λ bank. [])) × (told ≡ [])
  TellsAlong (asked ∷ before) h told =
      (earlier : ℕ → List (TimedEvent n m)) × (said : List (Told n)) × TellsAlong before earlier said
      × (added : ℕ → List (TimedEvent n m)) × (h ≡ (λ bank. added bank ++ earlier bank))
      × (outcomes : List (ℕ × Outcome n)) × (order : ComeInOrder raw seed asked before outcomes)
      × (known : AreKnown asked before h told) × (told ≡ (said ++ became outcomes) ++ lines_of asked known.module_ known.array)
      × GoesByTurns asked before earlier said outcomes order h known.module_ known.array

  -- the lines of the last of these rows were told of this module and this array
  abbrev pub IsToldOf : ModuleState n m e → ArrayState n m → (asked : List (Asked n)) (h : ℕ → List (TimedEvent n m)) (told : List (Told n)) → TellsAlong asked h told → Type 0
  IsToldOf module_ array [] h told along = Unit {0}
  IsToldOf module_ array (asked ∷ before) h told along = (along.7.module_ ≡ module_) × (along.7.array ≡ array)

  -- the snapshots that were taken of them: each stands behind a row with a number where one is due, and says what that row left
  abbrev pub SnapsAlong : Shown → (asked : List (Asked n)) (h : ℕ → List (TimedEvent n m)) (told : List (Told n)) → TellsAlong asked h told → List Snapshot → Type 0
  SnapsAlong shown [] h told along snapshots = snapshots ≡ []
  SnapsAlong shown (asked ∷ before) h told along snapshots =
      (earlier : List Snapshot) × SnapsAlong shown before along.0 along.1 along.2 earlier
      × AddsDue (is_due_behind shown asked (length (events_in (asked ∷ before))))
      (IsSnapshot (length (events_in (asked ∷ before))) (tick_reached (asked ∷ before)) told along.7.module_ along.7.array) earlier snapshots

-- rows that asked this were served by a module over an array, and told by a printer that knows of so many rows and took these snapshots: what the last row says, and
-- a snapshot behind it, is of this very module and array
pub record IsServing {n m e : ℕ} (raw : RawShape) (seed : ℕ) (asked : List (Asked n)) (module_ : ModuleState n m e) (array : ArrayState n m) (places : ℕ) (told : List (Told n)) (shown : Shown) (snapshots : List Snapshot) : Type 0 where
  pub history : ℕ → List (TimedEvent n m)
  pub along : TellsAlong e raw seed asked history told
  pub snaps : SnapsAlong e raw seed shown asked history told along snapshots
  pub now : IsToldOf e raw seed module_ array asked history told along
  pub served : HasServed raw seed (events_in asked) history module_ array (table_of places told)
  pub counted : places ≡ length (events_in asked)
  pub tick : module_.tick ≡ tick_reached asked
  pub in_time : module_.tick ≤ latest_tick

-- rows may be served by a module over an array, and told by this printer: some were so far
pub record MayServe {n m e : ℕ} {S : Type 0} (module_ : ModuleState n m e) (array : ArrayState n m) (out : Printing n S) : Type 0 where
  pub raw : RawShape
  pub seed : ℕ
  pub before : List (Asked n)
  pub serving : IsServing raw seed before module_ array out.rows out.told out.prints out.snapshots

-- what was told of rows that asked this, as they were served, by the histories that they brought about
pub record Telling (n m e : ℕ) (raw : RawShape) (seed : ℕ) (asked : List (Asked n)) : Type 0 where
  pub history : ℕ → List (TimedEvent n m)
  pub told : List (Told n)
  pub along : TellsAlong e raw seed asked history told

module _ {n m e : ℕ} {raw : RawShape} {seed : ℕ} where
  -- and before the last of them was
  abbrev pub told_before : (row : Asked n) (before : List (Asked n)) → Telling n m e raw seed (row ∷ before) → Telling n m e raw seed before
  told_before row before now = record { history = now.along.0; told = now.along.1; along = now.along.2 }

  module _ {asked : List (Asked n)} {module_ : ModuleState n m e} {array : ArrayState n m} {places : ℕ} {told : List (Told n)} {shown : Shown} {snapshots : List Snapshot} where
    -- so far
    abbrev pub told_so_far : IsServing raw seed asked module_ array places told shown snapshots → Telling n m e raw seed asked
    told_so_far serving = record { history = serving.history; told = told; along = serving.along }

-- whatever was served before, it goes on with this row; what is shown of it stays, and the cells' wear is drawn as before
pub record ServesOn {n m e : ℕ} {S : Type 0} (row : List (Asked n) → Asked n) (old new : ModuleState n m e)
    (before after : ArrayState n m) (out now : Printing n S) : Type 0 where
  pub serving : (raw : RawShape) (seed : ℕ) (asked : List (Asked n))
      → (had : IsServing raw seed asked old before out.rows out.told out.prints out.snapshots)
      → (has : IsServing raw seed (row asked ∷ asked) new after now.rows now.told now.prints now.snapshots)
      × (told_before (row asked) asked (told_so_far has) ≡ told_so_far had)
  pub prints : now.prints ≡ out.prints
  pub wear : after.wear ≡ before.wear
