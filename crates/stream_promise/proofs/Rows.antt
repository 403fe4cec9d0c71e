-- What was told along the histories of a module's banks was told row by row.
use Rattle.std.proofs.Common.{◌≡◌, inl, inr, ℕ, zero, suc, ◌<◌, Bool, true, false, List, [], ◌∷◌, ◌++◌, length, refl, ap, subst, ◌∙◌, arith}
use Rattle.cell_rows.specs.Device.{ArrayState}
use Rattle.result_rows.specs.declared.Outcome.{Outcome}
use Rattle.bank_model.specs.Timing.{TimedEvent}
use Rattle.row_rules.specs.declared.Row.{Row}
use Rattle.module_shape.specs.{Limits.IsShape, declared.raw.RawShape.RawShape}
use Rattle.right_runs.specs.Tables.{table_in}
use Rattle.pcm_module.specs.State.{ModuleState, bank_at}
use Rattle.row_printer.specs.{Printing.table_of, Snapshots.AddsDue, Telling.became, declared.snapshot.Snapshot.Snapshot, declared.told.Shown.Shown, declared.told.Told.Told}
use Rattle.row_printer.specs.declared.told.Told.TheVariants.{Looked, Peeked, Settled}
use Rattle.trace_stream.specs.{Asked.events_in, declared.asked.Asked.Asked, declared.asked.Asked.TheVariants.{Happens, Settle, Query, Look, Peek, Until, UntilAny}}
use Rattle.row_stream.specs.{Answering.{backlog_of, banks_told}, Asking.{behind_of, cut_if, tick_reached, with_cut}, Ending.{without_cut, without_cut_if}}
use Rattle.row_stream.specs.{Looking.{IsSnapshot, wear_of}, Refusing.{EndsBehind, MayGoOn, NoneBefore, WentOn}}
use Rattle.row_stream.specs.{Serving.{AreKnown, IsToldOf, SnapsAlong, Telling, TellsAlong, is_due_behind, lines_of}, declared.stop.Behind.Behind}
use Rattle.row_stream.specs.declared.stop.Behind.TheVariants.{Nothing, Going, Off}
use Rattle.moment_laws.specs.{Backlogs.CountsBacklog, Moments.{LosesNothing, MomentLaw, rows_now}}
use Rattle.settle_laws.specs.{Marks.AreMarksTrue, Turns.AreInTurn}
use Rattle.stream_promise.specs.Rows.{AreAnswers, AreInTurnByRows, AreMarksTrueByRows, AreOfBanks, CountsRows, EndWhere, NoneWasBefore, RowsTold, SnapsByRows, TellsByRows, LooksAt}
use Rattle.stream_promise.specs.Rows.{ShowsAt, WithoutRefusal, WithoutRefusalBefore, before_cut, before_cut_if}

-- ---- lines

of-banks : {n m e : ℕ} (raw : RawShape) (seed : ℕ) (rows : List (Row n)) (module_ : ModuleState n m e) (tick banks : ℕ)
    → ((bank : ℕ) → bank < banks → CountsBacklog (table_in raw seed bank rows) (backlog_of bank (bank_at module_ bank)))
    → AreOfBanks raw seed rows tick banks (banks_told module_ tick banks)
of-banks raw seed rows module_ tick zero counts = refl
of-banks raw seed rows module_ tick (suc bank) counts = (
  banks_told module_ tick bank,
  backlog_of bank (bank_at module_ bank),
  of-banks raw seed rows module_ tick bank (λ other below. counts other (omega (arith, below))),
  refl,
  counts bank (omega arith),
  refl,
)

-- ---- snapshots

pub adds : (due : Bool) (P Q : Snapshot → Type 0) (before now : List Snapshot) → ((one : Snapshot) → P one → Q one) → AddsDue due P before now → AddsDue due Q before now
adds false P Q before now weaker is = is
adds true P Q before now weaker is = (is.0, weaker is.0 is.1, is.2)

pub counts-rows : {n m e : ℕ} (places at : ℕ) (told : List (Told n)) (module_ : ModuleState n m e) (array : ArrayState n m) (one : Snapshot)
    → IsSnapshot places at told module_ array one → CountsRows places at told one
counts-rows places at told module_ array one is = record { rows = is.rows; tick = is.tick; counts = is.counts }

module _ {n m : ℕ} (e : ℕ) (raw : RawShape) (seed : ℕ) (moment : MomentLaw) (shape : IsShape raw) where
  pub answers : (row : Asked n) (before : List (Asked n)) (h : ℕ → List (TimedEvent n m)) (told : List (Told n)) (known : AreKnown e raw seed row before h told)
      → AreAnswers raw seed (rows_now (events_in (row ∷ before)) (table_of (length (events_in (row ∷ before))) told)) row (lines_of row known.module_ known.array)
  answers (Happens event) before h told known = refl
  answers (Settle tick) before h told known = refl
  answers (Query tick) before h told known = (
    banks_told known.module_ tick known.module_.shape.banks,
    subst (λ (banks : ℕ). AreOfBanks raw seed rows tick banks (banks_told known.module_ tick known.module_.shape.banks)) (ap (λ (r : RawShape). r.banks) known.served.shape)
        (of-banks raw seed rows known.module_ tick known.module_.shape.banks counts),
    refl,
  )
    where
      rows : List (Row n)
      rows = rows_now (events_in before) (table_of (length (events_in before)) told)

      lost : LosesNothing known.module_ h (events_in before) known.array (table_of (length (events_in before)) told)
      lost = moment n m e raw seed (events_in before) h known.module_ known.array (table_of (length (events_in before)) told) shape known.served

      counts : (bank : ℕ) → bank < known.module_.shape.banks → CountsBacklog (table_in raw seed bank rows) (backlog_of bank (bank_at known.module_ bank))
      counts bank exists =
          subst (λ (r : RawShape). CountsBacklog (table_in r seed bank rows) (backlog_of bank (bank_at known.module_ bank))) known.served.shape
          (subst (λ (k : ℕ). CountsBacklog (table_in known.module_.shape k bank rows) (backlog_of bank (bank_at known.module_ bank))) known.served.seeded (lost.backlogs bank exists))
  answers (Look tick) before h told known = (wear_of e known.array, refl)
  answers (Peek peek) before h told known =
      ap (λ (bytes : List ℕ). Peeked peek.tick (record { line = peek.line; bytes = bytes }) ∷ Settled peek.tick ∷ []) (lost.stands peek.line known.settled.1)
    where
      lost : LosesNothing known.module_ h (events_in before) known.array (table_of (length (events_in before)) told)
      lost = moment n m e raw seed (events_in before) h known.module_ known.array (table_of (length (events_in before)) told) shape known.served
  answers (Until until) before h told known = refl
  answers (UntilAny until) before h told known = refl

  -- ---- rows

  abbrev pub by-rows : (asked : List (Asked n)) (h : ℕ → List (TimedEvent n m)) (told : List (Told n)) → TellsAlong e raw seed asked h told → TellsByRows raw seed asked told
  by-rows [] h told along = along.1
  by-rows (row ∷ before) h told along = (
    along.1,
    by-rows before along.0 along.1 along.2,
    along.5,
    along.6,
    lines_of row along.7.module_ along.7.array,
    answers row before h told along.7,
    along.8,
    along.7.reached,
  )

  abbrev pub rows-of : (asked : List (Asked n)) → Telling n m e raw seed asked → RowsTold raw seed asked
  rows-of asked it = record { told = it.told; rows = by-rows asked it.history it.told it.along }

  -- without the cut that was added they are the same
  cut-if : (behind : Behind) (asked : List (Asked n)) (telling : Telling n m e raw seed (cut_if behind asked))
      → rows-of asked (without_cut_if behind asked telling) ≡ before_cut_if raw seed behind asked (rows-of (cut_if behind asked) telling)
  cut-if Nothing asked telling = refl
  cut-if Off asked telling = refl
  cut-if Going asked telling = refl

  pub cut-same : (off : Bool) (asked : List (Asked n)) (telling : Telling n m e raw seed (with_cut off asked))
      → rows-of asked (without_cut off asked telling) ≡ before_cut raw seed off asked (rows-of (with_cut off asked) telling)
  cut-same false asked telling = refl
  cut-same true asked telling = cut-if (behind_of asked) asked telling

  -- ---- refusals

  none-before : (asked : List (Asked n)) (telling : Telling n m e raw seed asked) → NoneBefore asked telling → NoneWasBefore raw seed asked (rows-of asked telling)
  none-before [] telling none = tt
  none-before (row ∷ before) telling none = none

  pub end-where : (stops : Bool) (asked : List (Asked n)) (telling : Telling n m e raw seed asked) (All Some : Type 0)
      → EndsBehind stops asked telling All Some → EndWhere raw seed stops asked (rows-of asked telling) All Some
  end-where false asked telling All Some is = is
  end-where true asked telling All Some (inl all) = inl (all.0, all.1)
  end-where true asked telling All Some (inr some) = inr (none-before asked telling some.0.0, some.0.1, some.1)

  pub without-refusal : (stops : Bool) (asked : List (Asked n)) (telling : Telling n m e raw seed asked) → MayGoOn stops asked telling → WithoutRefusal raw seed stops asked (rows-of asked telling)
  without-refusal false asked telling is = tt
  without-refusal true asked telling is = is

  pub without-refusal-before : (stops : Bool) (asked : List (Asked n)) (telling : Telling n m e raw seed asked) → WentOn stops asked telling → WithoutRefusalBefore raw seed stops asked (rows-of asked telling)
  without-refusal-before false asked telling is = tt
  without-refusal-before true asked telling is = none-before asked telling is

  -- ---- snapshots along rows

  pub snaps-by-rows : (shown : Shown) (asked : List (Asked n)) (h : ℕ → List (TimedEvent n m)) (told : List (Told n)) (along : TellsAlong e raw seed asked h told) (snapshots : List Snapshot)
      → SnapsAlong e raw seed shown asked h told along snapshots → SnapsByRows raw seed shown asked told (by-rows asked h told along) snapshots
  snaps-by-rows shown [] h told along snapshots none = none
  snaps-by-rows shown (row ∷ before) h told along snapshots snaps =
      let rows : ℕ = length (events_in (row ∷ before)) in
      let tick : ℕ = tick_reached (row ∷ before) in (
        snaps.0,
        snaps-by-rows shown before along.0 along.1 along.2 snaps.0 snaps.1,
        adds (is_due_behind shown row rows) (IsSnapshot rows tick told along.7.module_ along.7.array) (CountsRows rows tick told) snaps.0 snapshots
            (counts-rows rows tick told along.7.module_ along.7.array) snaps.2,
      )

  -- ---- in turn

  pub in-turn-by-rows : (asked : List (Asked n)) (h : ℕ → List (TimedEvent n m)) (told : List (Told n)) (along : TellsAlong e raw seed asked h told) (in_the_end : ℕ → Outcome n)
      → AreInTurn e raw seed asked h told along in_the_end → AreInTurnByRows raw seed asked told (by-rows asked h told along) in_the_end
  in-turn-by-rows [] h told along in_the_end are = tt
  in-turn-by-rows (row ∷ before) h told along in_the_end are = (in-turn-by-rows before along.0 along.1 along.2 in_the_end are.0, are.1)

  pub marks-by-rows : (whole : List (Asked n)) (in_the_end : ℕ → Outcome n) (asked : List (Asked n)) (h : ℕ → List (TimedEvent n m)) (told : List (Told n)) (along : TellsAlong e raw seed asked h told)
      → AreMarksTrue e raw seed whole in_the_end asked h told along → AreMarksTrueByRows raw seed whole in_the_end asked told (by-rows asked h told along)
  marks-by-rows whole in_the_end [] h told along are = tt
  marks-by-rows whole in_the_end (row ∷ before) h told along are = (marks-by-rows whole in_the_end before along.0 along.1 along.2 are.0, are.1)

  -- ---- the last row

  pub looks-at : (module_ : ModuleState n m e) (array : ArrayState n m) (asked : List (Asked n)) (h : ℕ → List (TimedEvent n m)) (told : List (Told n)) (along : TellsAlong e raw seed asked h told)
      → IsToldOf e raw seed module_ array asked h told along → LooksAt e array asked told
  looks-at module_ array [] h told along now = tt
  looks-at module_ array (Happens event ∷ before) h told along now = tt
  looks-at module_ array (Settle tick ∷ before) h told along now = tt
  looks-at module_ array (Query tick ∷ before) h told along now = tt
  looks-at module_ array (Look tick ∷ before) h told along now =
      let said : List (Told n) = along.1 ++ became along.5 in
      (said, subst (λ (a : ArrayState n m). told ≡ said ++ Looked tick (wear_of e a) ∷ Settled tick ∷ []) now.1 along.8)
  looks-at module_ array (Peek peek ∷ before) h told along now = tt
  looks-at module_ array (Until until ∷ before) h told along now = tt
  looks-at module_ array (UntilAny until ∷ before) h told along now = tt

  pub shows-at : (module_ : ModuleState n m e) (array : ArrayState n m) (shown : Shown) (asked : List (Asked n)) (h : ℕ → List (TimedEvent n m)) (told : List (Told n)) (along : TellsAlong e raw seed asked h told)
      (snapshots : List Snapshot) → SnapsAlong e raw seed shown asked h told along snapshots → IsToldOf e raw seed module_ array asked h told along → ShowsAt e array shown asked snapshots
  shows-at module_ array shown [] h told along snapshots snaps now = tt
  shows-at module_ array shown (row ∷ before) h told along snapshots snaps now =
      let rows : ℕ = length (events_in (row ∷ before)) in (
        snaps.0,
        adds (is_due_behind shown row rows) (IsSnapshot rows (tick_reached (row ∷ before)) told along.7.module_ along.7.array) (λ one. one.wear ≡ wear_of e array) snaps.0 snapshots
            (λ one is. is.wear ∙ ap (λ (a : ArrayState n m). wear_of e a) now.1) snaps.2,
      )
