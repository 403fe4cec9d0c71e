-- What a module was asked, one row more or some time later.
use Rattle.std.proofs.Common.{◌≡◌, ℕ, ◌+◌, ◌-◌, ◌^◌, ◌<◌, ◌≤◌, ◌||◌, nat_le, min, max, Bool, true, false, cond, List, ◌∷◌, ◌++◌, length, refl, sym, ap, ◌∙◌, subst, arith}
use Rattle.std.{specs.Prelude.{IfErr, IsSomeAnd, OnErr, Option, Some, Result, Ok, Err, slice_get}, proofs.lemmas.Bool.Decides.nat_tests}
use Rattle.pcm_io.specs.Faults.{Rose}
use Rattle.cell_rows.specs.Device.{ArrayState}
use Rattle.trace_reader.specs.{Rows.latest_tick, declared.event.Event.Event}
use Rattle.result_rows.specs.declared.Outcome.{Outcome}
use Rattle.row_rules.specs.Rows.{lay_row, newest}
use Rattle.bank_model.specs.Timing.{TimedEvent}
use Rattle.module_shape.specs.{Limits.{IsShape, total_of}, declared.raw.RawShape.RawShape}
use Rattle.bank_timing.specs.Extending.{IsOpen, outcome_in}
use Rattle.row_stream.proofs.Growing.{longer, open-last, replays-longer}
use Rattle.clock_laws.specs.State.{ClockState}
use Rattle.pcm_module.specs.{Asking.{asked_by, asked_for}, Replaying.{Replays, ReplaysIn}, State.ModuleState}
use Rattle.read_moments.specs.Reads.{KeptLaw, StillLaw, rows_by}
use Rattle.atomic_sectors.specs.declared.lines.Stopped.{Stopped}
use Rattle.atomic_sectors.specs.declared.lines.Stopped.TheVariants as out
use Rattle.disk_lines.specs.Asking.{HasCause, HasHeard, IsLater, Passes, SameLines, TakesRow, has_ended, most_rows, row_standing, rows_heard, stops_at}
use Rattle.disk_lines.specs.{Hearing.{Hearing, cuts_in, events_in, refusals_in, refuses_by, table_in}, declared.watch.Heard.Heard}

module _ {n m e : ℕ} (old new : ModuleState n m e) (before after : ArrayState n m) (out now : Hearing n) (had : HasHeard old before out.heard)
    (is : IsShape old.shape) (shape : new.shape ≡ old.shape) (seed : new.seed ≡ old.seed) (going : new.finished ≡ old.finished)
    (size : length (table_in now.heard) ≡ length (events_in now.heard)) (added : ℕ → List (TimedEvent n m)) where
  abbrev h : ℕ → List (TimedEvent n m)
  h = λ bank. added bank ++ had.history bank

  -- a row came
  module _ (event : Event n) (row : ℕ) (events : events_in now.heard ≡ event ∷ events_in out.heard) (number : row ≡ length (events_in out.heard) + 1)
      (replays : Replays h (asked_by row event ∷ asked_for (events_in out.heard)) new after (table_in now.heard)) where
    replays-next : Replays h (asked_for (events_in now.heard)) new after (table_in now.heard)
    replays-next =
        subst (λ (evs : List (Event n)). Replays h (asked_for evs) new after (table_in now.heard)) (sym events)
        (subst (λ (r : ℕ). Replays h (asked_by r event ∷ asked_for (events_in out.heard)) new after (table_in now.heard)) number replays)

    pub has-next : new.tick ≤ latest_tick → new.rows_below ≡ row + 1 → HasHeard new after now.heard
    has-next in_time below = record {
      history = h;
      served = record {
        shape = refl;
        seeded = refl;
        going = going ∙ had.served.going;
        bound = omega (arith, below, number, ap length events);
        size = size;
        replays = replays-next;
      };
      in_time = in_time;
    }

    newest-next : KeptLaw → outcome_in (table_in now.heard) row ≡ now.last → (line : ℕ) → line < total_of old.shape
        → newest (rows_heard now.heard) line ≡ lay_row line (row_standing event now.last) (newest (rows_heard out.heard) line)
    newest-next kept last line exists =
        ap (λ (evs : List (Event n)). newest (rows_by (table_in now.heard) (asked_for evs)) line) events
        ∙ ap (λ (o : Outcome n). lay_row line (row_standing event o) (newest (rows_by (table_in now.heard) (asked_for (events_in out.heard))) line))
        (ap (outcome_in (table_in now.heard)) (sym number) ∙ last)
        ∙ ap (lay_row line (row_standing event now.last))
        (kept n m e had.history added (asked_by row event) (asked_for (events_in out.heard)) old new before after (table_in out.heard) (table_in now.heard) line is shape seed exists had.served.replays replays)

    pub takes-next : KeptLaw → outcome_in (table_in now.heard) row ≡ now.last → new.tick ≡ event.tick → old.tick ≤ event.tick
        → refusals_in out.heard + refuses_by now.last ≤ refusals_in now.heard → TakesRow old new event out now
    takes-next kept last tick rises refused = record {
      later = record {
        shape = shape;
        seed = seed;
        tick = omega (arith, tick, rises);
        rows = omega (arith, ap length events);
        cuts = omega (arith, ap cuts_in events);
        refused = omega (arith, refused);
      };
      tick = tick;
      events = events;
      newest = newest-next kept last;
      refused = refused;
    }

  -- time passed
  module _ (tick : ℕ) (events : events_in now.heard ≡ events_in out.heard)
      (replays : Replays h (asked_for (events_in out.heard)) new after (table_in now.heard)) where
    pub has-later : new.tick ≤ latest_tick → new.rows_below ≡ old.rows_below → HasHeard new after now.heard
    has-later in_time below = record {
      history = h;
      served = record {
        shape = refl;
        seeded = refl;
        going = going ∙ had.served.going;
        bound = omega (arith, below, had.served.bound, ap length events);
        size = size;
        replays = subst (λ (evs : List (Event n)). Replays h (asked_for evs) new after (table_in now.heard)) (sym events) replays;
      };
      in_time = in_time;
    }

    pub passes-later : StillLaw → new.tick ≡ tick → old.tick ≤ tick → refusals_in out.heard ≤ refusals_in now.heard → Passes old new tick out.heard now.heard
    passes-later still at rises refused = record {
      later = record {
        shape = shape;
        seed = seed;
        tick = omega (arith, at, rises);
        rows = omega (arith, ap length events);
        cuts = omega (arith, ap cuts_in events);
        refused = refused;
      };
      tick = at;
      events = events;
      same = λ line exists.
          ap (λ (evs : List (Event n)). newest (rows_by (table_in now.heard) (asked_for evs)) line) events
          ∙ still n m e had.history added (asked_for (events_in out.heard)) old new before after (table_in out.heard) (table_in now.heard) line is shape seed exists had.served.replays replays;
    }

-- what is later than what is later is later
module _ {n m e : ℕ} (one two three : ModuleState n m e) (was then_ now : List (Heard n)) where
  pub later-still : IsLater one two was then_ → IsLater two three then_ now → IsLater one three was now
  later-still a b = record {
    shape = b.shape ∙ a.shape;
    seed = b.seed ∙ a.seed;
    tick = omega (arith, a.tick, b.tick);
    rows = omega (arith, a.rows, b.rows);
    cuts = omega (arith, a.cuts, b.cuts);
    refused = omega (arith, a.refused, b.refused);
  }

  pub same-still : IsLater one two was then_ → SameLines one two was then_ → SameLines two three then_ now → SameLines one three was now
  same-still a same also line exists = also line (subst (λ (raw : RawShape). line < total_of raw) (sym a.shape) exists) ∙ same line exists

  -- a cause of what came later is one of all
  pub cause-later : (why : Stopped) (tick : ℕ) → IsLater one two was then_ → HasCause why tick then_ now → HasCause why tick was now
  cause-later out.Cut tick a cause = omega (arith, a.cuts, cause)
  cause-later out.Worn tick a cause = omega (arith, a.refused, cause)
  cause-later out.Ended tick a cause = cause
  cause-later out.Memory tick a cause = cause

-- the count of stops never falls, and rises by what is a cause
by_flags : (was now : Bool) (s t most : ℕ) → (was ≡ true → now ≡ true) → s ≤ t → cond was (max s most) s ≤ cond now (max t most) t
by_flags true true s t most on h = omega arith
by_flags true false s t most on h = absurd (cc (on refl))
by_flags false true s t most on h = omega arith
by_flags false false s t most on h = h

rose_flags : (was now : Bool) (s t most : ℕ) → (was ≡ true → now ≡ true) → s + 1 ≤ t → min (cond was (max s most) s + 1) most ≤ cond now (max t most) t
rose_flags true true s t most on h = omega arith
rose_flags true false s t most on h = absurd (cc (on refl))
rose_flags false true s t most on h = omega arith
rose_flags false false s t most on h = omega arith

ended_flag : (now : Bool) (s t most : ℕ) → now ≡ true → min s most ≤ cond now (max t most) t
ended_flag true s t most is = omega arith
ended_flag false s t most is = absurd (cc is)

ended-on : (last most t u r k : ℕ) → t ≤ u → r ≤ k → (nat_le last t || nat_le most r) ≡ true → (nat_le last u || nat_le most k) ≡ true
ended-on last most t u r k h j is = grind (arith, nat_tests)

module _ {n m e : ℕ} (old new : ModuleState n m e) (was now : List (Heard n)) (later : IsLater old new was now) where
  still-ended : has_ended old.tick was ≡ true → has_ended new.tick now ≡ true
  still-ended is = ended-on latest_tick most_rows old.tick new.tick (length (events_in was)) (length (events_in now)) later.tick later.rows is

  pub stops-later : stops_at old.tick was ≤ stops_at new.tick now
  stops-later =
      by_flags (has_ended old.tick was) (has_ended new.tick now) (cuts_in (events_in was) + refusals_in was) (cuts_in (events_in now) + refusals_in now) (2 ^ 64 - 1)
      still-ended (omega (arith, later.cuts, later.refused))

  pub stops-rose : (why : Stopped) → HasCause why new.tick was now → Rose (stops_at old.tick was) (stops_at new.tick now)
  stops-rose out.Cut cause =
      rose_flags (has_ended old.tick was) (has_ended new.tick now) (cuts_in (events_in was) + refusals_in was) (cuts_in (events_in now) + refusals_in now) (2 ^ 64 - 1)
      still-ended (omega (arith, cause, later.refused))
  stops-rose out.Worn cause =
      rose_flags (has_ended old.tick was) (has_ended new.tick now) (cuts_in (events_in was) + refusals_in was) (cuts_in (events_in now) + refusals_in now) (2 ^ 64 - 1)
      still-ended (omega (arith, cause, later.cuts))
  stops-rose out.Memory cause = absurd cause
  stops-rose out.Ended cause =
      ended_flag (has_ended new.tick now) (stops_at old.tick was + 1) (cuts_in (events_in now) + refusals_in now) (2 ^ 64 - 1) cause

-- no bank is past the last tick
pub bank-in-time : {n m e : ℕ} (module_ : ModuleState n m e) (array : ArrayState n m) (heard : List (Heard n)) → HasHeard module_ array heard
    → (bank : ℕ) → bank < module_.shape.banks → (clock : ClockState n m e) → slice_get module_.banks bank ≡ Some clock → clock.tick ≤ latest_tick
bank-in-time module_ array heard has bank there clock is =
    let P : Option (ClockState _ _ _) → Type 0 = λ o. IsSomeAnd o (ReplaysIn module_ bank (has.history bank) (asked_for (events_in heard)) array (table_in heard)) in
    let replays = subst P is (has.served.replays.banks bank there) in
    omega (arith, replays.in_time, has.in_time)

-- a row may come once there is a place for its outcome
module _ {n m e : ℕ} (module_ : ModuleState n m e) (array : ArrayState n m) (heard : List (Heard n)) (has : HasHeard module_ array heard) (rows : ℕ)
    (counted : length (events_in heard) ≡ rows) (results : List (Outcome n)) (grown : results ≡ longer (table_in heard)) where
  pub grown-replays : Replays has.history (asked_for (events_in heard)) module_ array results
  grown-replays =
      let P : List (Outcome n) → Type 0 = λ r. Replays has.history (asked_for (events_in heard)) module_ array r in
      subst P (sym grown) (replays-longer has.history (asked_for (events_in heard)) module_ array (table_in heard) has.served.replays)

  module _ (row : ℕ) (is : row ≡ rows + 1) where
    pub may-rise : module_.rows_below ≤ row
    may-rise = omega (arith, is, has.served.bound, counted)

    pub may-open : IsOpen results row
    may-open =
        let last : length (table_in heard) + 1 ≡ row = omega (arith, is, counted, has.served.size) in
        let P : List (Outcome n) → Type 0 = λ r. IsOpen r row in
        let Q : ℕ → Type 0 = λ r. IsOpen (longer (table_in heard)) r in
        subst P (sym grown) (subst Q last (open-last (table_in heard)))

-- a call that was stopped for a cause is one stop more
pub rose-of : {n m e : ℕ} {T : Type 0} (old new : ModuleState n m e) (was now : List (Heard n)) (later : IsLater old new was now) (result : Result T Stopped)
    → IfErr result (λ why. HasCause why new.tick was now) → OnErr result (Rose (stops_at old.tick was) (stops_at new.tick now))
rose-of old new was now later (Ok x) cause = tt
rose-of old new was now later (Err why) cause = stops-rose old new was now later why cause
