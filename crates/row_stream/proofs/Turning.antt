-- The banks of a module go on turn by turn, and then a settle until is served.
use Rattle.std.proofs.Common.{◌≡◌, ◌⊎◌, ℕ, ◌<◌, ◌≤◌, false, List, [], ◌∷◌, ◌++◌, length, Option, refl, sym, ap, ◌∙◌, subst, arith, replicate, append_assoc}
use Rattle.std.specs.Prelude.{All, IsSomeAnd, slice_get}
use Rattle.cell_rows.specs.Device.{ArrayState}
use Rattle.trace_reader.specs.Rows.{latest_tick}
use Rattle.result_rows.specs.{Table.HasRow, declared.Outcome.Outcome}
use Rattle.bank_model.specs.Timing.{TimedEvent}
use Rattle.module_shape.specs.declared.raw.RawShape.{RawShape}
use Rattle.module_laws.specs.Asking.{Asked as AskedRow}
use Rattle.bank_timing.specs.Extending.{outcome_in}
use Rattle.pcm_module.specs.{Asking.asked_for, Replaying.{Replays, ReplaysIn}, Settling.IsAtTick, State.ModuleState, Telling.{TellsByBanks, rows_at}}
use Rattle.pcm_module.proofs.Asked.{standing_asked}
use Rattle.row_printer.specs.{Printing.{Printing, PrintsOn, table_of, table_told}, Telling.{became, outcomes_in, recorded, TellsOnce}, declared.snapshot.Snapshot.Snapshot}
use Rattle.row_printer.{specs.declared.told.Shown.Shown, specs.declared.told.Told.Told, proofs.Telling.outcomes-same}
use Rattle.trace_stream.specs.{Asked.events_in, declared.asked.Asked.Asked, declared.asked.Asked.TheVariants.{Until, UntilAny}, declared.asked.Until.Until as Waited}
use Rattle.trace_stream.specs.declared.asked.UntilAny.{UntilAny as Awaited}
use Rattle.row_stream.specs.{Asking.tick_reached, Reaching.{CameBetween, CameBy, HasFound, HasReached}}
use Rattle.row_stream.specs.Serving.{ComeByBanks, ComeByTurns, HasServed, HaveCome, IsFirstTurn, IsNextTurn, IsServing, SnapsAlong, TakesTurns, last_turn, lines_of, told_before, told_so_far}
use Rattle.row_stream.proofs.{Growing.none, Order.{ToldSo, are-told, come-by-banks, told-both}}

-- histories that are the same replay the same
pub replays-same : {n m e : ℕ} (h k : ℕ → List (TimedEvent n m)) (asked : List (AskedRow n)) (module_ : ModuleState n m e) (array : ArrayState n m) (results : List (Outcome n))
    → ((bank : ℕ) → h bank ≡ k bank) → Replays h asked module_ array results → Replays k asked module_ array results
replays-same {n} {m} h k asked module_ array results same f = record {
  size = f.size;
  banks = λ bank there. subst (λ (xs : List (TimedEvent n m)). IsSomeAnd (slice_get module_.banks bank) (ReplaysIn module_ bank xs asked array results)) (same bank) (f.banks bank there);
  exist = f.exist;
  ticks = f.ticks;
  in_time = f.in_time;
  rows = f.rows;
  below = f.below;
  in_table = f.in_table;
}

module _ {n m e : ℕ} (raw : RawShape) (seed : ℕ) (asked : List (Asked n)) (module_ : ModuleState n m e) (array : ArrayState n m) (places : ℕ) (told : List (Told n)) (shown : Shown) (snaps : List Snapshot)
    (had : IsServing raw seed asked module_ array places told shown snaps) (Next : ModuleState n m e → ℕ → Type 0) where
  -- turn by turn its banks went on, as far as this module, and told this
  pub record HasGone (new : ModuleState n m e) (after : ArrayState n m) (places2 : ℕ) (told2 : List (Told n)) : Type 0 where
    pub ticks : List ℕ
    pub outcomes : List (ℕ × Outcome n)
    pub tells : told2 ≡ told ++ became outcomes
    pub at : new.tick ≡ last_turn (tick_reached asked) ticks
    pub order : ComeByTurns raw seed (events_in asked) (tick_reached asked) ticks outcomes
    pub added : ℕ → List (TimedEvent n m)
    pub served : HasServed raw seed (events_in asked) (λ bank. added bank ++ had.history bank) new after (table_of places2 told2)
    pub takes : TakesTurns e raw seed Next asked had.history told ticks (λ bank. added bank ++ had.history bank) new after outcomes
    pub counted : places2 ≡ places

  -- so they came to a tick
  pub have-come : (tick : ℕ) (h : ℕ → List (TimedEvent n m)) (new : ModuleState n m e) (after : ArrayState n m) (places2 : ℕ) (told2 : List (Told n)) (outcomes : List (ℕ × Outcome n))
      → places2 ≡ places → told2 ≡ told ++ became outcomes → HasServed raw seed (events_in asked) h new after (table_of places2 told2)
      → ((bank : ℕ) → bank < new.shape.banks → IsSomeAnd (slice_get new.banks bank) (IsAtTick tick)) → HaveCome e raw seed tick asked h new after (told ++ became outcomes)
  have-come tick h new after places2 told2 outcomes counted tells served settled = record {
    served =
        subst (λ (t : List (Told n)). HasServed raw seed (events_in asked) h new after (table_of (length (events_in asked)) t)) tells
        (subst (λ (k : ℕ). HasServed raw seed (events_in asked) h new after (table_of k told2)) (counted ∙ had.counted) served);
    settled = settled;
  }

  -- a table has a place for each row that came
  one-of : (results : List (Outcome n)) → length results ≡ length (events_in asked) → (r : ℕ) → HasRow results r → (1 ≤ r) × (r ≤ length (events_in asked))
  one-of results same r there = (there.above, subst (λ (k : ℕ). r ≤ k) same there.within)

  -- what is told in a turn comes bank by bank, and all of it is of a kind
  abbrev pub ComeSo : (Outcome n → Type 0) → List (ℕ × Outcome n) → Type 0
  ComeSo Are outcomes = ComeByBanks raw seed false (events_in asked) raw.banks outcomes × All (λ one. Are one.1) outcomes

  pub turn-so : {S : Type 0} (written : S → Option (List ℕ)) (faults : S → ℕ) (Are : Outcome n → Type 0) (one two : Printing n S) → two.rows ≡ one.rows → length (table_told one) ≡ length (events_in asked)
      → TellsOnce two.rows (outcomes_in two.told) → ToldSo (ComeByBanks raw seed false (events_in asked) raw.banks) one.told two.told
      → ((r : ℕ) → 1 ≤ r → r ≤ length (events_in asked) → (outcome_in (table_told two) r ≡ outcome_in (table_told one) r) ⊎ Are (outcome_in (table_told two) r))
      → ToldSo (ComeSo Are) one.told two.told
  turn-so written faults Are one two rows size once came changes = record {
    outcomes = came.outcomes;
    told = came.told;
    are = (
      came.are,
      are-told written faults Are one two came.outcomes came.told rows once
          (λ r there. let within = one-of (table_told one) size r there in changes r within.0 within.1),
    );
  }

  -- the first turn
  abbrev pub gone-first : (new : ModuleState n m e) (after : ArrayState n m) (places2 : ℕ) (told2 : List (Told n))
      → new.shape ≡ module_.shape → new.seed ≡ module_.seed → new.finished ≡ false → new.rows_below ≡ module_.rows_below → places2 ≡ places
      → length (table_of places2 told2) ≡ length (table_of places told)
      → ((h : ℕ → List (TimedEvent n m)) (rows : List (AskedRow n)) → Replays h rows module_ array (table_of places told)
      → (added : ℕ → List (TimedEvent n m)) × Replays (λ bank. added bank ++ h bank) rows new after (table_of places2 told2))
      → (tick : ℕ) → tick ≡ module_.tick → new.tick ≡ tick → ((bank : ℕ) → bank < new.shape.banks → IsSomeAnd (slice_get new.banks bank) (IsAtTick tick))
      → ToldSo (ComeSo (CameBy tick)) told told2 → HasGone new after places2 told2
  gone-first new after places2 told2 shape seeded going bound counted size leads tick stood at settled order =
      let led = leads had.history (asked_for (events_in asked)) had.served.replays in
      let h : ℕ → List (TimedEvent n m) = λ bank. led.0 bank ++ had.history bank in
      let from : tick ≡ tick_reached asked = stood ∙ had.tick in
      let served : HasServed raw seed (events_in asked) h new after (table_of places2 told2) = record {
        shape = shape ∙ had.served.shape;
        seeded = seeded ∙ had.served.seeded;
        going = going;
        bound = omega (arith, bound, had.served.bound);
        size = size ∙ had.served.size;
        replays = led.1;
      } in
      record {
        ticks = [];
        outcomes = order.outcomes;
        tells = order.told;
        at = at ∙ from;
        order = subst (λ (t : ℕ). ComeByTurns raw seed (events_in asked) t [] order.outcomes) from order.are;
        added = led.0;
        served = served;
        takes = (
          led.0,
          λ bank. refl,
          subst (λ (t : ℕ). HaveCome e raw seed t asked h new after (told ++ became order.outcomes)) from
              (have-come tick h new after places2 told2 order.outcomes counted order.told served settled),
        );
        counted = counted;
      }

  module _ (mid : ModuleState n m e) (between : ArrayState n m) (places1 : ℕ) (told1 : List (Told n)) (gone : HasGone mid between places1 told1) where
    -- a turn of it comes bank by bank
    pub turn-order : {S : Type 0} (written : S → Option (List ℕ)) (faults : S → ℕ) (one two : Printing n S) → TellsOnce two.rows (outcomes_in two.told)
        → TellsByBanks (PrintsOn written faults) table_told false (rows_at mid) mid.shape.banks one two
        → ToldSo (ComeByBanks raw seed false (events_in asked) raw.banks) one.told two.told
    turn-order written faults one two once order =
        let came =
        come-by-banks written faults mid.shape mid.seed (events_in asked) (rows_at mid)
        (λ bank there other of. standing_asked (λ bank. gone.added bank ++ had.history bank) (asked_for (events_in asked)) mid between (table_of places1 told1) gone.served.replays bank there other of) false mid.shape.banks one two (omega arith) once order in
        let Q : RawShape → ℕ → Type 0 = λ r k. ComeByBanks r k false (events_in asked) r.banks came.outcomes in
        record { outcomes = came.outcomes; told = came.told; are = subst (λ k. Q raw k) gone.served.seeded (subst (λ r. Q r mid.seed) gone.served.shape came.are) }

    -- a turn more
    abbrev pub gone-more : (new : ModuleState n m e) (after : ArrayState n m) (places2 : ℕ) (told2 : List (Told n))
        → new.shape ≡ mid.shape → new.seed ≡ mid.seed → new.finished ≡ false → new.rows_below ≡ mid.rows_below → places2 ≡ places1
        → length (table_of places2 told2) ≡ length (table_of places1 told1)
        → ((h : ℕ → List (TimedEvent n m)) (rows : List (AskedRow n)) → Replays h rows mid between (table_of places1 told1)
        → (added : ℕ → List (TimedEvent n m)) × Replays (λ bank. added bank ++ h bank) rows new after (table_of places2 told2))
        → (tick : ℕ) → mid.tick < tick → new.tick ≡ tick → ((bank : ℕ) → bank < new.shape.banks → IsSomeAnd (slice_get new.banks bank) (IsAtTick tick)) → Next mid tick
        → ToldSo (ComeSo (CameBetween mid.tick tick)) told1 told2 → HasGone new after places2 told2
    gone-more new after places2 told2 shape seeded going bound counted size leads tick rises at settled next order =
        let led = leads (λ bank. gone.added bank ++ had.history bank) (asked_for (events_in asked)) gone.served.replays in
        let was : ℕ → List (TimedEvent n m) = λ bank. gone.added bank ++ had.history bank in
        let h : ℕ → List (TimedEvent n m) = λ bank. (led.0 bank ++ gone.added bank) ++ had.history bank in
        let parts : (bank : ℕ) → h bank ≡ led.0 bank ++ was bank = λ bank. append_assoc (led.0 bank) (gone.added bank) (had.history bank) in
        let tells = told-both told told1 told2 gone.outcomes order.outcomes gone.tells order.told in
        let served : HasServed raw seed (events_in asked) h new after (table_of places2 told2) = record {
          shape = shape ∙ gone.served.shape;
          seeded = seeded ∙ gone.served.seeded;
          going = going;
          bound = omega (arith, bound, gone.served.bound);
          size = size ∙ gone.served.size;
          replays = replays-same (λ bank. led.0 bank ++ was bank) h (asked_for (events_in asked)) new after (table_of places2 told2) (λ bank. sym (parts bank)) led.1;
        } in
        let Rises : ℕ → Type 0 = λ low. (low < tick) × ComeSo (CameBetween low tick) order.outcomes in
        let so : Rises (last_turn (tick_reached asked) gone.ticks) = subst Rises gone.at (rises, order.are) in
        record {
          ticks = tick ∷ gone.ticks;
          outcomes = gone.outcomes ++ order.outcomes;
          tells = tells;
          at = at;
          order = (gone.outcomes, order.outcomes, refl, gone.order, so.0, so.1.0, so.1.1);
          added = λ bank. led.0 bank ++ gone.added bank;
          served = served;
          takes = (
            was,
            mid,
            between,
            gone.outcomes,
            gone.takes,
            next,
            order.outcomes,
            refl,
            led.0,
            parts,
            have-come tick h new after places2 told2 (gone.outcomes ++ order.outcomes) (counted ∙ gone.counted) tells served settled,
          );
          counted = counted ∙ gone.counted;
        }

-- behind all turns a settle until is served, ..
module _ {n m e : ℕ} (raw : RawShape) (seed : ℕ) (asked : List (Asked n)) (module_ : ModuleState n m e) (array : ArrayState n m) (places : ℕ) (told : List (Told n)) (shown : Shown) (snaps : List Snapshot)
    (had : IsServing raw seed asked module_ array places told shown snaps) (mid : ModuleState n m e) (between : ArrayState n m) (places1 : ℕ) (told1 : List (Told n)) where
  -- of a row
  pub serving-until : (until : Waited) (gone : HasGone raw seed asked module_ array places told shown snaps had (IsNextTurn until.row until.limit) mid between places1 told1)
      (places2 : ℕ) (told2 : List (Told n)) (shown2 : Shown) (snaps2 : List Snapshot) → places2 ≡ places1 → told2 ≡ told1 ++ lines_of (Until until) mid between → mid.tick ≡ until.reached
      → ((bank : ℕ) → bank < mid.shape.banks → IsSomeAnd (slice_get mid.banks bank) (IsAtTick until.reached)) → until.reached ≤ latest_tick
      → HasReached module_.tick until (outcome_in (table_of places1 told1) until.row) → shown2 ≡ shown → snaps2 ≡ snaps
      → (has : IsServing raw seed (Until until ∷ asked) mid between places2 told2 shown2 snaps2) × (told_before (Until until) asked (told_so_far has) ≡ told_so_far had)
  serving-until until gone places2 told2 shown2 snaps2 counts tells tick settled in_time reached shows snapped =
      let lines : List (Told n) = lines_of (Until until) mid between in
      let h : ℕ → List (TimedEvent n m) = λ bank. gone.added bank ++ had.history bank in
      let counted : places2 ≡ length (events_in asked) = counts ∙ gone.counted ∙ had.counted in
      let same : table_of places1 told1 ≡ table_of places2 told2 =
      let P : ℕ → List (Told n) → Type 0 = λ k t. table_of places1 told1 ≡ table_of k t in
      subst (λ (k : ℕ). P k told2) (sym counts)
      (subst (P places1) (sym tells) (ap (λ (o : List (ℕ × Outcome n)). recorded o (replicate places1 (none {n = n}))) (sym (outcomes-same told1 lines refl)))) in
      let R : List (Outcome n) → Type 0 = λ results. HasServed raw seed (events_in asked) h mid between results in
      let now : HasServed raw seed (events_in asked) h mid between (table_of places2 told2) = subst R same gone.served in
      let Q : ℕ → Type 0 = λ k. HasServed raw seed (events_in asked) h mid between (table_of k told2) in
      let T : ℕ → Type 0 = λ k. HasReached k until (outcome_in (table_of places2 told2) until.row) in
      let U : ℕ → Type 0 = λ k. HasReached (tick_reached asked) until (outcome_in (table_of k told2) until.row) in
      let here : HasReached module_.tick until (outcome_in (table_of places2 told2) until.row) = subst (λ (results : List (Outcome n)). HasReached module_.tick until (outcome_in results until.row)) same reached in (
        record {
          history = h;
          along = (
            had.history,
            told,
            had.along,
            gone.added,
            refl,
            gone.outcomes,
            (gone.ticks, sym tick ∙ gone.at, gone.order),
            record { module_ = mid; array = between; served = subst Q counted now; tick = tick; rises = omega (arith, had.tick, reached.from); settled = settled; reached = subst U counted (subst T had.tick here) },
            tells ∙ ap (λ t. t ++ lines) gone.tells,
            gone.takes,
          );
          snaps = (snaps, subst (λ s. SnapsAlong e raw seed s asked had.history told had.along snaps) (sym shows) had.snaps, snapped);
          now = (refl, refl);
          served = now;
          counted = counted;
          tick = tick;
          in_time = omega (arith, tick, in_time);
        },
        refl {a = told_so_far had},
      )

  -- .. and one of any row
  pub serving-any : (until : Awaited) (gone : HasGone raw seed asked module_ array places told shown snaps had (IsFirstTurn until.limit) mid between places1 told1)
      (places2 : ℕ) (told2 : List (Told n)) (shown2 : Shown) (snaps2 : List Snapshot) → places2 ≡ places1 → told2 ≡ told1 ++ lines_of (UntilAny until) mid between → mid.tick ≡ until.reached
      → ((bank : ℕ) → bank < mid.shape.banks → IsSomeAnd (slice_get mid.banks bank) (IsAtTick until.reached)) → until.reached ≤ latest_tick
      → HasFound module_.tick until gone.outcomes → shown2 ≡ shown → snaps2 ≡ snaps
      → (has : IsServing raw seed (UntilAny until ∷ asked) mid between places2 told2 shown2 snaps2) × (told_before (UntilAny until) asked (told_so_far has) ≡ told_so_far had)
  serving-any until gone places2 told2 shown2 snaps2 counts tells tick settled in_time reached shows snapped =
      let lines : List (Told n) = lines_of (UntilAny until) mid between in
      let h : ℕ → List (TimedEvent n m) = λ bank. gone.added bank ++ had.history bank in
      let counted : places2 ≡ length (events_in asked) = counts ∙ gone.counted ∙ had.counted in
      let same : table_of places1 told1 ≡ table_of places2 told2 =
      let P : ℕ → List (Told n) → Type 0 = λ k t. table_of places1 told1 ≡ table_of k t in
      subst (λ (k : ℕ). P k told2) (sym counts)
      (subst (P places1) (sym tells) (ap (λ (o : List (ℕ × Outcome n)). recorded o (replicate places1 (none {n = n}))) (sym (outcomes-same told1 lines refl)))) in
      let R : List (Outcome n) → Type 0 = λ results. HasServed raw seed (events_in asked) h mid between results in
      let now : HasServed raw seed (events_in asked) h mid between (table_of places2 told2) = subst R same gone.served in
      let Q : ℕ → Type 0 = λ k. HasServed raw seed (events_in asked) h mid between (table_of k told2) in (
        record {
          history = h;
          along = (
            had.history,
            told,
            had.along,
            gone.added,
            refl,
            gone.outcomes,
            (gone.ticks, sym tick ∙ gone.at, gone.order, subst (λ (k : ℕ). HasFound k until gone.outcomes) had.tick reached),
            record { module_ = mid; array = between; served = subst Q counted now; tick = tick; rises = omega (arith, had.tick, reached.from); settled = settled; reached = tt },
            tells ∙ ap (λ t. t ++ lines) gone.tells,
            gone.takes,
          );
          snaps = (snaps, subst (λ s. SnapsAlong e raw seed s asked had.history told had.along snaps) (sym shows) had.snaps, snapped);
          now = (refl, refl);
          served = now;
          counted = counted;
          tick = tick;
          in_time = omega (arith, tick, in_time);
        },
        refl {a = told_so_far had},
      )
