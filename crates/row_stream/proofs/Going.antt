-- How a row of a stream is served.
use Rattle.std.proofs.Common.{◌≡◌, ℕ, zero, suc, ◌+◌, ◌<◌, ◌≤◌, ◌==◌, ◌&&◌, Bool, false, List, [], ◌∷◌, ◌++◌, length, refl, sym, ap, ◌∙◌, subst, arith, eq-eqb, replicate, true, Option}
use Rattle.std.{specs.Prelude.{IsSomeAnd, slice_get}, proofs.lemmas.List.{append-nil, length_push}}
use Rattle.cell_rows.specs.Device.{ArrayState}
use Rattle.trace_reader.specs.{Events.IsOpFor, Rows.latest_tick, declared.event.Event.Event, declared.event.EventOp.EventOp}
use Rattle.trace_reader.specs.declared.event.EventOp.TheVariants.{Read, Write, Mask, Cut}
use Rattle.result_rows.specs.declared.Outcome.{Outcome}
use Rattle.bank_model.specs.Timing.{TimedEvent}
use Rattle.row_rules.specs.{Lines.IsOfLines, declared.Asks.Asks, declared.Asks.TheVariants.{Reads, Writes, Cuts}}
use Rattle.module_shape.specs.{Limits.{IsShape, total_of}, declared.raw.RawShape.RawShape}
use Rattle.run_laws.proofs.Mixing.{lines_law}
use Rattle.module_laws.specs.Asking.{Asked as AskedRow}
use Rattle.bank_timing.specs.Extending.{IsOpen}
use Rattle.pcm_module.specs.{Asking.{asked_by, asked_for}, Replaying.Replays, Settling.IsAtTick, State.{ModuleState, AreEndsOf, bank_at}}
use Rattle.pcm_module.{specs.Telling.{TellsByBanks, TellsFor, TellsOf, comes_to, is_asked_of, rows_at, rows_taking}, proofs.Asked.{standing_asked, taking_asked}}
use Rattle.right_runs.specs.{Banks.bank_of_line, Ends.BankEnd}
use Rattle.trace_rows.specs.Rows.{asks_of}
use Rattle.row_printer.specs.{Printing.{Printing, PrintsOn, table_of, table_told}, Snapshots.{AddsDue, is_due}, Telling.{became, outcomes_in, recorded, TellsOnce}}
use Rattle.row_printer.specs.{declared.snapshot.Snapshot.Snapshot, declared.told.Shown.Shown, declared.told.Told.Told, declared.told.Told.TheVariants.{Bank, Settled}}
use Rattle.row_printer.proofs.Telling.{outcomes-same}
use Rattle.trace_stream.specs.{Asked.events_in, declared.asked.Asked.Asked, declared.asked.Asked.TheVariants.{Happens, Settle, Query, Look, Peek}}
use Rattle.row_stream.specs.{Answering.{backlog_of, banks_told}, Looking.IsSnapshot}
use Rattle.row_stream.specs.Serving.{ComeByBanks, ComeFor, ComeInOrder, ComeOfBank, HasServed, IsServing, SnapsAlong, lines_of, told_before, told_so_far}
use Rattle.row_stream.proofs.{Growing.{none, longer, open-last, replays-longer}, Order.{ToldSo, come-by-banks, come-in-order, come-of-bank, in_rest}, Standing.ends-now}

-- the lines that answer a query tell no outcome
banks-no-outcome : {n m e : ℕ} (module_ : ModuleState n m e) (tick banks : ℕ) → outcomes_in (banks_told module_ tick banks) ≡ []
banks-no-outcome module_ tick zero = refl
banks-no-outcome module_ tick (suc bank) = outcomes-same (banks_told module_ tick bank) (Bank tick (backlog_of bank (bank_at module_ bank)) ∷ []) refl ∙ banks-no-outcome module_ tick bank

query-no-outcome : {n m e : ℕ} (module_ : ModuleState n m e) (array : ArrayState n m) (tick : ℕ) → outcomes_in (lines_of (Query tick) module_ array) ≡ []
query-no-outcome module_ array tick = outcomes-same (banks_told module_ tick module_.shape.banks) (Settled tick ∷ []) refl ∙ banks-no-outcome module_ tick module_.shape.banks

-- what an operation for so many lines asks is of one of them, or of none
lines-asked : {n : ℕ} (lines : ℕ) (op : EventOp n) → IsOpFor lines op → IsOfLines lines (asks_of op)
lines-asked lines (Read line) is = is
lines-asked lines (Write line bytes) is = is.0
lines-asked lines (Mask line bytes given) is = is.0
lines-asked lines Cut is = tt

module _ {n m e : ℕ} (raw : RawShape) (seed : ℕ) (asked : List (Asked n)) (module_ : ModuleState n m e) (array : ArrayState n m) (places : ℕ) (told : List (Told n)) (shown : Shown) (snaps : List Snapshot)
    (had : IsServing raw seed asked module_ array places told shown snaps) where
  -- an event may be handed to the module once there is a place for its outcome
  pub next-replayed : (results : List (Outcome n)) → results ≡ longer (table_of places told)
      → (h : ℕ → List (TimedEvent n m)) × (rows : List (AskedRow n)) × Replays h rows module_ array results
  next-replayed results grown =
      let P : List (Outcome n) → Type 0 = λ r. Replays had.history (asked_for (events_in asked)) module_ array r in
      (had.history, asked_for (events_in asked), subst P (sym grown) (replays-longer had.history (asked_for (events_in asked)) module_ array (table_of places told) had.served.replays))

  pub next-bound : (row : ℕ) → row ≡ places + 1 → module_.rows_below ≤ row
  next-bound row is = omega (arith, is, had.served.bound, had.counted)

  pub next-open : (results : List (Outcome n)) (row : ℕ) → results ≡ longer (table_of places told) → row ≡ places + 1 → IsOpen results row
  next-open results row grown is =
      let last : length (table_of places told) + 1 ≡ row = omega (arith, is, had.counted, had.served.size) in
      let P : List (Outcome n) → Type 0 = λ r. IsOpen r row in
      let Q : ℕ → Type 0 = λ r. IsOpen (longer (table_of places told)) r in
      subst P (sym grown) (subst Q last (open-last (table_of places told)))

  -- what is told of it comes of the bank of its line, or of a cut in order
  pub event-order : {S : Type 0} (written : S → Option (List ℕ)) (faults : S → ℕ) (event : Event n) (row : ℕ) (one two : Printing n S)
      → row ≡ places + 1 → IsShape module_.shape → IsOpFor (total_of module_.shape) event.op → TellsOnce two.rows (outcomes_in two.told)
      → TellsFor (PrintsOn written faults) table_told module_ row (asks_of event.op) one two
      → ToldSo (ComeInOrder raw seed (Happens event) asked) one.told two.told
  event-order {S = S} written faults event row one two is shaped lawful once tells =
      let came : ToldSo (ComeFor module_.shape module_.seed events row (asks_of event.op)) one.told two.told = by (asks_of event.op) refl (lines-asked (total_of module_.shape) event.op lawful) tells in
      let Q : RawShape → ℕ → ℕ → Type 0 = λ r k at. ComeFor r k events at (asks_of event.op) came.outcomes in
      record {
        outcomes = came.outcomes;
        told = came.told;
        are = subst (λ at. Q raw seed at) number (subst (λ k. Q raw k row) had.served.seeded (subst (λ r. Q r module_.seed row) had.served.shape came.are));
      }
    where
      events : List (Event n)
      events = event ∷ events_in asked

      home : ℕ → ℕ
      home = bank_of_line module_.shape module_.seed

      number : row ≡ length (events_in asked) + 1
      number = omega (arith, is, had.counted)

      own : (line : ℕ) → comes_to home (home line) (asks_of event.op) ≡ true → line < total_of module_.shape → TellsOf (PrintsOn written faults) table_told false (rows_taking module_ row line) one two
          → ToldSo (ComeOfBank module_.shape module_.seed false events (home line)) one.told two.told
      own line comes there tells =
          let exists : home line < module_.shape.banks = (lines_law module_.shape module_.seed shaped).exists line there in
          come-of-bank written faults module_.shape module_.seed false events (home line) (rows_taking module_ row line)
          (λ other of.
          let P : ℕ → Type 0 = λ k. is_asked_of home (home line) (asked_by k event ∷ asked_for (events_in asked)) other ≡ true in
          subst P number (taking_asked had.history (asked_for (events_in asked)) module_ array (table_of places told) had.served.replays (home line) exists (asked_by row event) other comes of)) one two once tells

      by : (asks : Asks n) → asks_of event.op ≡ asks → IsOfLines (total_of module_.shape) asks → TellsFor (PrintsOn written faults) table_told module_ row asks one two
          → ToldSo (ComeFor module_.shape module_.seed events row asks) one.told two.told
      by (Reads line) asks there tells = own line (subst (λ (a : Asks n). comes_to home (home line) a ≡ true) (sym asks) (eq-eqb (home line) (home line) refl)) there tells
      by (Writes line bytes given) asks there tells = own line (subst (λ (a : Asks n). comes_to home (home line) a ≡ true) (sym asks) (eq-eqb (home line) (home line) refl)) there tells
      by Cuts asks there tells =
          come-in-order written faults module_.shape module_.seed events (rows_at module_)
          (λ bank there other stands.
          in_rest (comes_to home bank (asks_of event.op) && (length (events_in asked) + 1) == other) (is_asked_of home bank (asked_for (events_in asked)) other)
          (standing_asked had.history (asked_for (events_in asked)) module_ array (table_of places told) had.served.replays bank there other stands)) row one two once tells

  -- so does what the banks tell where no row comes
  pub banks-order : {S : Type 0} (ends : Bool) (written : S → Option (List ℕ)) (faults : S → ℕ) (one two : Printing n S) → TellsOnce two.rows (outcomes_in two.told)
      → TellsByBanks (PrintsOn written faults) table_told ends (rows_at module_) module_.shape.banks one two
      → ToldSo (ComeByBanks raw seed ends (events_in asked) raw.banks) one.told two.told
  banks-order {S = S} ends written faults one two once order =
      let came =
      come-by-banks written faults module_.shape module_.seed (events_in asked) (rows_at module_)
      (λ bank there other of. standing_asked had.history (asked_for (events_in asked)) module_ array (table_of places told) had.served.replays bank there other of) ends module_.shape.banks one two (omega arith) once order in
      let Q : RawShape → ℕ → Type 0 = λ r k. ComeByBanks r k ends (events_in asked) r.banks came.outcomes in
      record { outcomes = came.outcomes; told = came.told; are = subst (λ k. Q raw k) had.served.seeded (subst (λ r. Q r module_.seed) had.served.shape came.are) }

  -- and then it is served
  pub serving-event : (event : Event n) (new : ModuleState n m e) (after : ArrayState n m) (places2 : ℕ) (told2 : List (Told n)) (shown2 : Shown) (snaps1 snaps2 : List Snapshot) (row : ℕ) (results : List (Outcome n))
      → results ≡ longer (table_of places told) → row ≡ places + 1 → places2 ≡ places + 1
      → (outcomes : List (ℕ × Outcome n)) → told2 ≡ told ++ became outcomes → ComeInOrder raw seed (Happens event) asked outcomes
      → new.shape ≡ module_.shape → new.seed ≡ module_.seed → new.finished ≡ false → new.tick ≡ event.tick → module_.tick ≤ event.tick → event.tick ≤ latest_tick → new.rows_below ≡ row + 1
      → length (table_of places2 told2) ≡ length results
      → ((h : ℕ → List (TimedEvent n m)) (rows : List (AskedRow n)) → Replays h rows module_ array results
      → (added : ℕ → List (TimedEvent n m)) × Replays (λ bank. added bank ++ h bank) (asked_by row event ∷ rows) new after (table_of places2 told2))
      → shown2 ≡ shown → snaps1 ≡ snaps
      → ((ends : ℕ → BankEnd) → AreEndsOf new ends → AddsDue (is_due shown2 places2) (IsSnapshot places2 new.tick told2 new after) snaps1 snaps2)
      → (has : IsServing raw seed (Happens event ∷ asked) new after places2 told2 shown2 snaps2) × (told_before (Happens event) asked (told_so_far has) ≡ told_so_far had)
  unfolding next-replayed
  serving-event event new after places2 told2 shown2 snaps1 snaps2 row results grown is counts outcomes tells order shape seeded going tick rises in_time bound size leads shows snapped adds =
      let next = next-replayed results grown in
      let led = leads had.history (asked_for (events_in asked)) next.2 in
      let h : ℕ → List (TimedEvent n m) = λ bank. led.0 bank ++ had.history bank in
      let number : row ≡ length (events_in asked) + 1 = omega (arith, is, had.counted) in
      let counted : places2 ≡ length (event ∷ events_in asked) = omega (arith, counts, had.counted) in
      let P : ℕ → Type 0 = λ r. Replays h (asked_by r event ∷ asked_for (events_in asked)) new after (table_of places2 told2) in
      let one : length results ≡ length (table_of places told) + 1 = ap length grown ∙ length_push (table_of places told) none in
      let served : HasServed raw seed (event ∷ events_in asked) h new after (table_of places2 told2) = record {
        shape = shape ∙ had.served.shape;
        seeded = seeded ∙ had.served.seeded;
        going = going;
        bound = omega (arith, bound, number);
        size = size ∙ omega (arith, one, had.served.size);
        replays = subst P number led.1;
      } in
      let Q : ℕ → Type 0 = λ k. HasServed raw seed (event ∷ events_in asked) h new after (table_of k told2) in
      let ends = ends-now h (asked_for (event ∷ events_in asked)) new after (table_of places2 told2) served.replays in
      let A : Shown → Type 0 = λ s. SnapsAlong e raw seed s asked had.history told had.along snaps in
      let B : ℕ → ℕ → List Snapshot → Type 0 = λ k at was. AddsDue (is_due shown2 k) (IsSnapshot k at told2 new after) was snaps2 in
      let added : B (length (event ∷ events_in asked)) event.tick snaps =
      subst (B (length (event ∷ events_in asked)) event.tick) snapped (subst (λ at. B (length (event ∷ events_in asked)) at snaps1) tick (subst (λ k. B k new.tick snaps1) counted (adds ends.0 ends.1))) in (
        record {
          history = h;
          along = (had.history, told, had.along, led.0, refl, outcomes, order, record { module_ = new; array = after; served = subst Q counted served; tick = tick; rises = omega (arith, had.tick, rises); settled = tt; reached = tt }, tells ∙ sym (append-nil (told ++ became outcomes)), tt);
          snaps = (snaps, subst A (sym shows) had.snaps, added);
          now = (refl, refl);
          served = served;
          counted = counted;
          tick = tick;
          in_time = omega (arith, tick, in_time);
        },
        refl {a = told_so_far had},
      )

  -- behind a settle, whatever lines answer it that tell no outcome, no event more was handed in
  settled-served : (new : ModuleState n m e) (after : ArrayState n m) (places2 : ℕ) (told1 told2 lines : List (Told n))
      → outcomes_in lines ≡ [] → places2 ≡ places → told2 ≡ told1 ++ lines → new.shape ≡ module_.shape → new.seed ≡ module_.seed → new.finished ≡ false → new.rows_below ≡ module_.rows_below
      → length (table_of places2 told1) ≡ length (table_of places told)
      → ((h : ℕ → List (TimedEvent n m)) (rows : List (AskedRow n)) → Replays h rows module_ array (table_of places told)
      → (added : ℕ → List (TimedEvent n m)) × Replays (λ bank. added bank ++ h bank) rows new after (table_of places2 told1))
      → (added : ℕ → List (TimedEvent n m)) × HasServed raw seed (events_in asked) (λ bank. added bank ++ had.history bank) new after (table_of places2 told2)
  settled-served new after places2 told1 told2 lines silent counts tells2 shape seeded going bound size leads =
      let led = leads had.history (asked_for (events_in asked)) had.served.replays in
      let h : ℕ → List (TimedEvent n m) = λ bank. led.0 bank ++ had.history bank in
      let same : table_of places2 told1 ≡ table_of places2 told2 =
      let P : List (Told n) → Type 0 = λ t. table_of places2 told1 ≡ table_of places2 t in
      subst P (sym tells2) (ap (λ (o : List (ℕ × Outcome n)). recorded o (replicate places2 (none {n = n}))) (sym (outcomes-same told1 lines silent))) in
      let R : List (Outcome n) → Type 0 = λ results. HasServed raw seed (events_in asked) h new after results in
      let served : HasServed raw seed (events_in asked) h new after (table_of places2 told1) = record {
        shape = shape ∙ had.served.shape;
        seeded = seeded ∙ had.served.seeded;
        going = going;
        bound = omega (arith, bound, had.served.bound);
        size = size ∙ had.served.size;
        replays = led.1;
      } in
      (led.0, subst R same served)

  -- so is a settle
  pub serving-settle : (at : ℕ) (new : ModuleState n m e) (after : ArrayState n m) (places2 : ℕ) (told1 told2 : List (Told n)) (shown2 : Shown) (snaps2 : List Snapshot)
      → places2 ≡ places → (outcomes : List (ℕ × Outcome n)) → told1 ≡ told ++ became outcomes → ComeByBanks raw seed false (events_in asked) raw.banks outcomes → told2 ≡ told1 ++ lines_of (Settle at) new after
      → new.shape ≡ module_.shape → new.seed ≡ module_.seed → new.finished ≡ false → new.tick ≡ at → module_.tick ≤ at → ((bank : ℕ) → bank < new.shape.banks → IsSomeAnd (slice_get new.banks bank) (IsAtTick at))
      → at ≤ latest_tick → new.rows_below ≡ module_.rows_below
      → length (table_of places2 told1) ≡ length (table_of places told)
      → ((h : ℕ → List (TimedEvent n m)) (rows : List (AskedRow n)) → Replays h rows module_ array (table_of places told)
      → (added : ℕ → List (TimedEvent n m)) × Replays (λ bank. added bank ++ h bank) rows new after (table_of places2 told1))
      → shown2 ≡ shown → snaps2 ≡ snaps
      → (has : IsServing raw seed (Settle at ∷ asked) new after places2 told2 shown2 snaps2) × (told_before (Settle at) asked (told_so_far has) ≡ told_so_far had)
  serving-settle at new after places2 told1 told2 shown2 snaps2 counts outcomes tells order tells2 shape seeded going tick rises settled in_time bound size leads shows snapped =
      let lines : List (Told n) = lines_of (Settle at) new after in
      let now = settled-served new after places2 told1 told2 lines (refl) counts tells2 shape seeded going bound size leads in
      let h : ℕ → List (TimedEvent n m) = λ bank. now.0 bank ++ had.history bank in
      let counted : places2 ≡ length (events_in asked) = counts ∙ had.counted in
      let Q : ℕ → Type 0 = λ k. HasServed raw seed (events_in asked) h new after (table_of k told2) in (
        record {
          history = h;
          along = (
            had.history,
            told,
            had.along,
            now.0,
            refl,
            outcomes,
            order,
            record { module_ = new; array = after; served = subst Q counted now.1; tick = tick; rises = omega (arith, had.tick, rises); settled = settled; reached = tt },
            tells2 ∙ ap (λ t. t ++ lines) tells,
            tt,
          );
          snaps = (snaps, subst (λ s. SnapsAlong e raw seed s asked had.history told had.along snaps) (sym shows) had.snaps, snapped);
          now = (refl, refl);
          served = now.1;
          counted = counted;
          tick = tick;
          in_time = omega (arith, tick, in_time);
        },
        refl {a = told_so_far had},
      )

  -- so is a query
  pub serving-query : (at : ℕ) (new : ModuleState n m e) (after : ArrayState n m) (places2 : ℕ) (told1 told2 : List (Told n)) (shown2 : Shown) (snaps2 : List Snapshot)
      → places2 ≡ places → (outcomes : List (ℕ × Outcome n)) → told1 ≡ told ++ became outcomes → ComeByBanks raw seed false (events_in asked) raw.banks outcomes → told2 ≡ told1 ++ lines_of (Query at) new after
      → new.shape ≡ module_.shape → new.seed ≡ module_.seed → new.finished ≡ false → new.tick ≡ at → module_.tick ≤ at → ((bank : ℕ) → bank < new.shape.banks → IsSomeAnd (slice_get new.banks bank) (IsAtTick at))
      → at ≤ latest_tick → new.rows_below ≡ module_.rows_below
      → length (table_of places2 told1) ≡ length (table_of places told)
      → ((h : ℕ → List (TimedEvent n m)) (rows : List (AskedRow n)) → Replays h rows module_ array (table_of places told)
      → (added : ℕ → List (TimedEvent n m)) × Replays (λ bank. added bank ++ h bank) rows new after (table_of places2 told1))
      → shown2 ≡ shown → snaps2 ≡ snaps
      → (has : IsServing raw seed (Query at ∷ asked) new after places2 told2 shown2 snaps2) × (told_before (Query at) asked (told_so_far has) ≡ told_so_far had)
  serving-query at new after places2 told1 told2 shown2 snaps2 counts outcomes tells order tells2 shape seeded going tick rises settled in_time bound size leads shows snapped =
      let lines : List (Told n) = lines_of (Query at) new after in
      let now = settled-served new after places2 told1 told2 lines (query-no-outcome new after at) counts tells2 shape seeded going bound size leads in
      let h : ℕ → List (TimedEvent n m) = λ bank. now.0 bank ++ had.history bank in
      let counted : places2 ≡ length (events_in asked) = counts ∙ had.counted in
      let Q : ℕ → Type 0 = λ k. HasServed raw seed (events_in asked) h new after (table_of k told2) in (
        record {
          history = h;
          along = (
            had.history,
            told,
            had.along,
            now.0,
            refl,
            outcomes,
            order,
            record { module_ = new; array = after; served = subst Q counted now.1; tick = tick; rises = omega (arith, had.tick, rises); settled = settled; reached = tt },
            tells2 ∙ ap (λ t. t ++ lines) tells,
            tt,
          );
          snaps = (snaps, subst (λ s. SnapsAlong e raw seed s asked had.history told had.along snaps) (sym shows) had.snaps, snapped);
          now = (refl, refl);
          served = now.1;
          counted = counted;
          tick = tick;
          in_time = omega (arith, tick, in_time);
        },
        refl {a = told_so_far had},
      )

  -- so is a look
  pub serving-look : (at : ℕ) (new : ModuleState n m e) (after : ArrayState n m) (places2 : ℕ) (told1 told2 : List (Told n)) (shown2 : Shown) (snaps2 : List Snapshot)
      → places2 ≡ places → (outcomes : List (ℕ × Outcome n)) → told1 ≡ told ++ became outcomes → ComeByBanks raw seed false (events_in asked) raw.banks outcomes → told2 ≡ told1 ++ lines_of (Look at) new after
      → new.shape ≡ module_.shape → new.seed ≡ module_.seed → new.finished ≡ false → new.tick ≡ at → module_.tick ≤ at → ((bank : ℕ) → bank < new.shape.banks → IsSomeAnd (slice_get new.banks bank) (IsAtTick at))
      → at ≤ latest_tick → new.rows_below ≡ module_.rows_below
      → length (table_of places2 told1) ≡ length (table_of places told)
      → ((h : ℕ → List (TimedEvent n m)) (rows : List (AskedRow n)) → Replays h rows module_ array (table_of places told)
      → (added : ℕ → List (TimedEvent n m)) × Replays (λ bank. added bank ++ h bank) rows new after (table_of places2 told1))
      → shown2 ≡ shown → snaps2 ≡ snaps
      → (has : IsServing raw seed (Look at ∷ asked) new after places2 told2 shown2 snaps2) × (told_before (Look at) asked (told_so_far has) ≡ told_so_far had)
  serving-look at new after places2 told1 told2 shown2 snaps2 counts outcomes tells order tells2 shape seeded going tick rises settled in_time bound size leads shows snapped =
      let lines : List (Told n) = lines_of (Look at) new after in
      let now = settled-served new after places2 told1 told2 lines (refl) counts tells2 shape seeded going bound size leads in
      let h : ℕ → List (TimedEvent n m) = λ bank. now.0 bank ++ had.history bank in
      let counted : places2 ≡ length (events_in asked) = counts ∙ had.counted in
      let Q : ℕ → Type 0 = λ k. HasServed raw seed (events_in asked) h new after (table_of k told2) in (
        record {
          history = h;
          along = (
            had.history,
            told,
            had.along,
            now.0,
            refl,
            outcomes,
            order,
            record { module_ = new; array = after; served = subst Q counted now.1; tick = tick; rises = omega (arith, had.tick, rises); settled = settled; reached = tt },
            tells2 ∙ ap (λ t. t ++ lines) tells,
            tt,
          );
          snaps = (snaps, subst (λ s. SnapsAlong e raw seed s asked had.history told had.along snaps) (sym shows) had.snaps, snapped);
          now = (refl, refl);
          served = now.1;
          counted = counted;
          tick = tick;
          in_time = omega (arith, tick, in_time);
        },
        refl {a = told_so_far had},
      )

  -- so is a peek
  pub serving-peek : (at line : ℕ) (new : ModuleState n m e) (after : ArrayState n m) (places2 : ℕ) (told1 told2 : List (Told n)) (shown2 : Shown) (snaps2 : List Snapshot)
      → places2 ≡ places → (outcomes : List (ℕ × Outcome n)) → told1 ≡ told ++ became outcomes → ComeByBanks raw seed false (events_in asked) raw.banks outcomes → told2 ≡ told1 ++ lines_of (Peek (record { tick = at; line = line })) new after
      → new.shape ≡ module_.shape → new.seed ≡ module_.seed → new.finished ≡ false → new.tick ≡ at → module_.tick ≤ at → ((bank : ℕ) → bank < new.shape.banks → IsSomeAnd (slice_get new.banks bank) (IsAtTick at)) → line < total_of new.shape
      → at ≤ latest_tick → new.rows_below ≡ module_.rows_below
      → length (table_of places2 told1) ≡ length (table_of places told)
      → ((h : ℕ → List (TimedEvent n m)) (rows : List (AskedRow n)) → Replays h rows module_ array (table_of places told)
      → (added : ℕ → List (TimedEvent n m)) × Replays (λ bank. added bank ++ h bank) rows new after (table_of places2 told1))
      → shown2 ≡ shown → snaps2 ≡ snaps
      → (has : IsServing raw seed (Peek (record { tick = at; line = line }) ∷ asked) new after places2 told2 shown2 snaps2) × (told_before (Peek (record { tick = at; line = line })) asked (told_so_far has) ≡ told_so_far had)
  serving-peek at line new after places2 told1 told2 shown2 snaps2 counts outcomes tells order tells2 shape seeded going tick rises settled exists in_time bound size leads shows snapped =
      let lines : List (Told n) = lines_of (Peek (record { tick = at; line = line })) new after in
      let now = settled-served new after places2 told1 told2 lines (refl) counts tells2 shape seeded going bound size leads in
      let h : ℕ → List (TimedEvent n m) = λ bank. now.0 bank ++ had.history bank in
      let counted : places2 ≡ length (events_in asked) = counts ∙ had.counted in
      let Q : ℕ → Type 0 = λ k. HasServed raw seed (events_in asked) h new after (table_of k told2) in (
        record {
          history = h;
          along = (
            had.history,
            told,
            had.along,
            now.0,
            refl,
            outcomes,
            order,
            record { module_ = new; array = after; served = subst Q counted now.1; tick = tick; rises = omega (arith, had.tick, rises); settled = (settled, exists); reached = tt },
            tells2 ∙ ap (λ t. t ++ lines) tells,
            tt,
          );
          snaps = (snaps, subst (λ s. SnapsAlong e raw seed s asked had.history told had.along snaps) (sym shows) had.snaps, snapped);
          now = (refl, refl);
          served = now.1;
          counted = counted;
          tick = tick;
          in_time = omega (arith, tick, in_time);
        },
        refl {a = told_so_far had},
      )
