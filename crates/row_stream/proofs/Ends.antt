-- How a stream ends.
use Rattle.std.proofs.Common.{◌≡◌, ℕ, Bool, true, false, List, [], ◌∷◌, ◌++◌, length, map, ◌≤◌, arith, refl, sym, ◌∙◌, subst}
use Rattle.cell_rows.specs.Device.{ArrayState}
use Rattle.trace_reader.specs.{Events.IsEventFor, Rows.latest_tick, declared.event.EventOp.EventOp, declared.event.EventOp.TheVariants.{Read, Write, Mask, Cut}}
use Rattle.result_rows.specs.declared.Outcome.{Outcome}
use Rattle.row_rules.specs.{declared.Asks.TheVariants.Cuts, declared.Row.Row}
use Rattle.trace_rows.specs.Rows.{asks_of}
use Rattle.bank_model.specs.Timing.{TimedEvent}
use Rattle.bank_timing.specs.Extending.{outcome_in}
use Rattle.module_shape.specs.declared.raw.RawShape.{RawShape}
use Rattle.module_laws.specs.Asking.{row_with}
use Rattle.right_runs.specs.{Ends.BankEnd, Runs.RunsRightTo}
use Rattle.run_laws.specs.Finishing.{IsFinishedTo}
use Rattle.pcm_module.specs.{Asking.asked_for, Draining.IsLastCut, State.{AreEndsOf, ModuleState, bank_at}}
use Rattle.row_printer.specs.{Printing.table_of, Telling.became, declared.snapshot.Snapshot.Snapshot, declared.told.Shown.Shown, declared.told.Told.Told}
use Rattle.trace_stream.specs.{Asked.events_in, declared.asked.Asked.Asked, declared.asked.Asked.TheVariants.{Happens, Settle, Query, Look, Peek, Until, UntilAny}}
use Rattle.row_stream.specs.{Asking.{behind_of, behind_op, cut_if, tick_reached, with_cut}, Ending.{IsLeft, told_along}, Serving.{ComeByBanks, IsServing, SnapsAlong, told_so_far}}
use Rattle.row_stream.{specs.declared.stop.Behind.Behind, specs.declared.stop.Behind.TheVariants.{Nothing, Going, Off}, proofs.Tables.rows-are}

-- an operation behind which the power is off is a cut
op-cut : {n : ℕ} (op : EventOp n) → behind_op op ≡ Off → asks_of op ≡ Cuts
op-cut (Read line) is = absurd (cc is)
op-cut (Write line bytes) is = absurd (cc is)
op-cut (Mask line bytes given) is = absurd (cc is)
op-cut Cut is = refl

-- a cut may come at the tick that was reached
pub cut-next : {n : ℕ} (lines before tick : ℕ) → tick ≡ before → before ≤ latest_tick → IsEventFor {n = n} lines before (record { tick = tick; op = Cut })
cut-next lines before tick same in_time = record { rises = omega (arith, same); in_time = omega (arith, same, in_time); op = tt }

-- a cut that is added doesn't change the tick that was reached
pub cut-tick : {n : ℕ} (off : Bool) (asked : List (Asked n)) → tick_reached (with_cut off asked) ≡ tick_reached asked
cut-tick false asked = refl
cut-tick true asked = by (behind_of asked)
  where
    by : (b : Behind) → tick_reached (cut_if b asked) ≡ tick_reached asked
    by Nothing = refl
    by Going = refl
    by Off = refl

-- then the last row was one
pub last-cut : {n : ℕ} (asked : List (Asked n)) (tick : ℕ) → behind_of asked ≡ Off → tick ≡ tick_reached asked → IsLastCut tick (asked_for (events_in asked))
last-cut [] tick is reached = absurd (cc is)
last-cut (Happens event ∷ before) tick is reached = (sym reached, op-cut event.op is)
last-cut (Settle at ∷ before) tick is reached = absurd (cc is)
last-cut (Query at ∷ before) tick is reached = absurd (cc is)
last-cut (Look at ∷ before) tick is reached = absurd (cc is)
last-cut (Peek peek ∷ before) tick is reached = absurd (cc is)
last-cut (Until until ∷ before) tick is reached = absurd (cc is)
last-cut (UntilAny until ∷ before) tick is reached = absurd (cc is)

module _ {n m e : ℕ} (raw : RawShape) (seed : ℕ) (asked : List (Asked n)) (module_ : ModuleState n m e) (array : ArrayState n m) (places : ℕ) (told : List (Told n)) (shown : Shown) (snaps : List Snapshot)
    (had : IsServing raw seed asked module_ array places told shown snaps) where
  -- what is left, where the banks drained or the power stays off
  pub has-ended : (off : Bool) (new : ModuleState n m e) (after : ArrayState n m) (places2 : ℕ) (told2 : List (Told n)) (shown2 : Shown) (snaps2 : List Snapshot)
      → shown2 ≡ shown → snaps2 ≡ snaps → places2 ≡ places → (outcomes : List (ℕ × Outcome n)) → told2 ≡ told ++ became outcomes → ComeByBanks raw seed true (events_in asked) raw.banks outcomes
      → new.shape ≡ module_.shape → new.seed ≡ module_.seed → length (table_of places2 told2) ≡ length (table_of places told)
      → ((added : ℕ → List (TimedEvent n m))
      × IsFinishedTo new.shape new.seed off (λ bank. added bank ++ had.history bank) (asked_for (events_in asked)) (bank_at new) after (outcome_in (table_of places2 told2)))
      → ((ends : ℕ → BankEnd) × AreEndsOf new ends
      × RunsRightTo e new.shape new.seed off (map (row_with (outcome_in (table_of places2 told2))) (asked_for (events_in asked))) after ends)
      → (left : IsLeft raw seed off asked new after places2 told2 shown2 snaps2) × (told_along left.0 ≡ told_so_far had)
  has-ended off new after places2 told2 shown2 snaps2 shows snapped same outcomes tells order shape seeded size finished right =
      let whole : length (table_of places2 told2) ≡ length (events_in asked) = size ∙ had.served.size in
      let Right : List (Row n) → Type 0 = λ rows. RunsRightTo e raw seed off rows after right.0 in
      let same_shape : new.shape ≡ raw = shape ∙ had.served.shape in
      let same_seed : new.seed ≡ seed = seeded ∙ had.served.seeded in
      let Done : RawShape → ℕ → Type 0 = λ r k. (added : ℕ → List (TimedEvent n m))
      × IsFinishedTo r k off (λ bank. added bank ++ had.history bank) (asked_for (events_in asked)) (bank_at new) after (outcome_in (table_of places2 told2)) in
      let Was : RawShape → ℕ → Type 0 = λ r k. RunsRightTo e r k off (map (row_with (outcome_in (table_of places2 told2))) (asked_for (events_in asked))) after right.0 in
      let S : Shown → List Snapshot → Type 0 = λ s t. SnapsAlong e raw seed s asked had.history told had.along t in (
        (
          record {
            shape = shape ∙ had.served.shape;
            seeded = seeded ∙ had.served.seeded;
            counted = same ∙ had.counted;
            size = whole;
            history = had.history;
            said = told;
            along = had.along;
            rest = outcomes;
            all = tells;
            order = order;
            finished = subst (λ k. Done raw k) same_seed (subst (λ r. Done r new.seed) same_shape finished);
            ends = right.0;
            are = right.1;
            right = subst Right (rows-are (events_in asked) (table_of places2 told2) whole) (subst (λ k. Was raw k) same_seed (subst (λ r. Was r new.seed) same_shape right.2));
          },
          subst (λ s. S s snaps2) (sym shows) (subst (S shown) (sym snapped) had.snaps),
        ),
        refl {a = told_so_far had},
      )
