-- No number of a stream's snapshots falls.
use Rattle.std.proofs.Common.{◌≡◌, ℕ, ◌≤◌, Bool, true, false, List, [], ◌∷◌, ◌++◌, length, sym, ap, subst, ◌∙◌, append_assoc, arith}
use Rattle.std.{specs.Prelude.All, proofs.lemmas.List.Elements.{All-head, All-nil, All-push, All-same, All-tail, All-weaker}}
use Rattle.cell_rows.specs.Device.{ArrayState}
use Rattle.bank_model.specs.Timing.{TimedEvent}
use Rattle.module_shape.specs.declared.raw.RawShape.{RawShape}
use Rattle.pcm_module.specs.{Asking.asked_for, State.ModuleState}
use Rattle.row_printer.specs.{Printing.table_of, Snapshots.{AddsDue, takes_snapshots}, Telling.{became, outcomes_in, TellsOnce}, declared.snapshot.Snapshot.Snapshot}
use Rattle.row_printer.specs.{declared.told.Shown.Shown, declared.told.Told.Told}
use Rattle.trace_stream.specs.{Asked.events_in, declared.asked.Asked.Asked, declared.asked.Asked.TheVariants.Look}
use Rattle.row_stream.specs.{Asking.tick_reached, Ending.HasEnded, Looking.IsSnapshot, Serving.{AreKnown, SnapsAlong, TellsAlong, is_due_behind, lines_of}}
use Rattle.snapshot_laws.specs.Rising.{EndedLaw, NeverFall, Rises, SoFarLaw}
use Rattle.snapshot_laws.proofs.Standing.{IsLed, led-ended, led-served, rises-on, once-front, rises-stand, says, standing, standing-rises}

-- ---- one more

one-more : (snapshots : List Snapshot) (one : Snapshot) → NeverFall snapshots → All (λ s. Rises s one) snapshots → NeverFall (snapshots ++ one ∷ [])
one-more [] one none below = (All-nil (Rises one), tt)
one-more (first ∷ snapshots) one never below = (
  All-push (Rises first) snapshots one never.0 (All-head (λ s. Rises s one) first snapshots below),
  one-more snapshots one never.1 (All-tail (λ s. Rises s one) first snapshots below),
)

-- of those so far, and perhaps one of what stands, no number falls, and none is above what stands
added : (due : Bool) (Is : Snapshot → Type 0) (now : Snapshot) (before snapshots : List Snapshot) → ((one : Snapshot) → Is one → one ≡ now)
    → NeverFall before → All (λ s. Rises s now) before → AddsDue due Is before snapshots → NeverFall snapshots × All (λ s. Rises s now) snapshots
added false Is now before snapshots same never below is =
    (subst NeverFall (sym is) never, All-same (λ s. Rises s now) snapshots before is below)
added true Is now before snapshots same never below is =
    let one : is.0 ≡ now = same is.0 is.1 in
    let all : snapshots ≡ before ++ now ∷ [] = is.2 ∙ ap (λ (s : Snapshot). before ++ s ∷ []) one in (
      subst NeverFall (sym all) (one-more before now never below),
      All-same (λ s. Rises s now) snapshots (before ++ now ∷ []) all (All-push (λ s. Rises s now) before now below (rises-stand now)),
    )

-- ---- rows

rows-grow : {n : ℕ} (row : Asked n) (before : List (Asked n)) → length (events_in before) ≤ length (events_in (row ∷ before))
rows-grow (Look tick) before = omega arith
rows-grow _ before = omega arith

module _ {n m : ℕ} (e : ℕ) (raw : RawShape) (seed most : ℕ) (shown : Shown) where
  -- what stands behind the last of these rows; nothing does before the first
  abbrev BelowNow : (asked : List (Asked n)) (h : ℕ → List (TimedEvent n m)) (told : List (Told n)) → TellsAlong e raw seed asked h told → Snapshot → Type 0
  BelowNow [] h told along one = ⊥
  BelowNow (row ∷ before) h told along one = Rises one (standing raw e (length (events_in (row ∷ before))) (tick_reached (row ∷ before)) told h along.7.array)

  -- later rows leave no less
  later : (asked : List (Asked n)) (h : ℕ → List (TimedEvent n m)) (said : List (Told n)) (along : TellsAlong e raw seed asked h said)
      → (more : ℕ → List (TimedEvent n m)) (told lines : List (Told n)) (places behind : ℕ) (module_ : ModuleState n m e) (array : ArrayState n m)
      → length (events_in asked) ≤ places → tick_reached asked ≤ behind → told ≡ said ++ lines → TellsOnce most (outcomes_in told)
      → IsLed raw (λ bank. more bank ++ h bank) module_ array
      → (one : Snapshot) → BelowNow asked h said along one → Rises one (standing raw e places behind told (λ bank. more bank ++ h bank) array)
  later [] h said along more told lines places behind module_ array rows tick all once led one below = absurd below
  later (row ∷ before) h said along more told lines places behind module_ array rows tick all once led one below =
      let known = along.7 in
      rises-on one (standing raw e (length (events_in (row ∷ before))) (tick_reached (row ∷ before)) said h known.array) (standing raw e places behind told (λ bank. more bank ++ h bank) array) below
      (standing-rises raw most (length (events_in (row ∷ before))) places (tick_reached (row ∷ before)) behind said told lines h more known.module_ module_ known.array array rows tick all once
      (led-served raw seed (events_in (row ∷ before)) h known.module_ known.array (table_of (length (events_in (row ∷ before))) said) known.served) led)

  so-far : (asked : List (Asked n)) (h : ℕ → List (TimedEvent n m)) (told : List (Told n)) (along : TellsAlong e raw seed asked h told) (snapshots : List Snapshot)
      → TellsOnce most (outcomes_in told) → SnapsAlong e raw seed shown asked h told along snapshots → NeverFall snapshots × All (BelowNow asked h told along) snapshots
  so-far [] h told along snapshots once none =
      (subst NeverFall (sym none) tt, All-same (BelowNow [] h told along) snapshots [] none (All-nil (BelowNow [] h told along)))
  so-far (row ∷ before) h told along snapshots once snaps =
      let earlier : ℕ → List (TimedEvent n m) = along.0 in
      let said : List (Told n) = along.1 in
      let more : ℕ → List (TimedEvent n m) = along.3 in
      let outcomes = along.5 in
      let known : AreKnown e raw seed row before h told = along.7 in
      let lines : List (Told n) = became outcomes ++ lines_of row known.module_ known.array in
      let places : ℕ = length (events_in (row ∷ before)) in
      let behind : ℕ = tick_reached (row ∷ before) in
      let all : told ≡ said ++ lines = along.8 ∙ append_assoc said (became outcomes) (lines_of row known.module_ known.array) in
      let led : IsLed raw h known.module_ known.array = led-served raw seed (events_in (row ∷ before)) h known.module_ known.array (table_of places told) known.served in
      let now : Snapshot = standing raw e places behind told h known.array in
      let first = so-far before earlier said along.2 snaps.0 (once-front most said lines told all once) snaps.1 in
      let up : (one : Snapshot) → BelowNow before earlier said along.2 one → Rises one now = λ one below.
      subst (λ (g : ℕ → List (TimedEvent n m)). Rises one (standing raw e places behind told g known.array)) (sym along.4)
      (later before earlier said along.2 more told lines places behind known.module_ known.array (rows-grow row before) known.rises all once
      (subst (λ (g : ℕ → List (TimedEvent n m)). IsLed raw g known.module_ known.array) along.4 led) one below) in
      added (is_due_behind shown row places) (IsSnapshot places behind told known.module_ known.array) now snaps.0 snapshots
      (λ one is. says raw places behind told h known.module_ known.array one led is) first.0
      (All-weaker (BelowNow before earlier said along.2) (λ s. Rises s now) up snaps.0 first.1) snaps.2

-- ---- laws

pub so_far_law : SoFarLaw
so_far_law n m e raw seed most shown asked h told along snapshots once snaps = (so-far e raw seed most shown asked h told along snapshots once snaps).0

pub ended_law : EndedLaw
ended_law n m e raw seed off asked module_ array places told shown snapshots once showing =
    let ended : HasEnded raw seed off asked module_ array places told = showing.0 in
    let snaps = showing.1 in
    let more : ℕ → List (TimedEvent n m) = ended.finished.0 in
    let h : ℕ → List (TimedEvent n m) = λ bank. more bank ++ ended.history bank in
    let led : IsLed raw h module_ array = led-ended h (asked_for (events_in asked)) module_ array ended.shape ended.finished.1 in
    let behind : ℕ = tick_reached asked in
    let now : Snapshot = standing raw e places behind told h array in
    let first = so-far e raw seed places shown asked ended.history ended.said ended.along snaps.0 (once-front places ended.said (became ended.rest) told ended.all once) snaps.1 in
    let up : (one : Snapshot) → BelowNow e raw seed places shown asked ended.history ended.said ended.along one → Rises one now = λ one below.
    later e raw seed places shown asked ended.history ended.said ended.along more told (became ended.rest) places behind module_ array (omega (arith, ended.counted)) (omega arith) ended.all once led one below in
    (added (takes_snapshots shown) (IsSnapshot places behind told module_ array) now snaps.0 snapshots (λ one is. says raw places behind told h module_ array one led is) first.0
    (All-weaker (BelowNow e raw seed places shown asked ended.history ended.said ended.along) (λ s. Rises s now) up snaps.0 first.1) snaps.2).0
