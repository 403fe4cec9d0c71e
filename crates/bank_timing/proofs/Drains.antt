-- What a drain leaves: a settled bank, whose queued writes are told.
use Rattle.std.proofs.Common.{◌≡◌, ℕ, if◌then◌else◌, true, false, List, [], ◌∷◌, ◌++◌, length, map, None, refl, sym, ap, ◌∙◌, arith}
use Rattle.std.{specs.Prelude.{IsTrue, unwrap_or}, proofs.lemmas.List.length-map, proofs.lemmas.List.Elements.{All-head, All-tail, All-nil}}
use Rattle.cell_rows.specs.Device.{ArrayState}
use Rattle.result_rows.specs.{declared.Outcome.Outcome, declared.Outcome.TheVariants.Queued}
use Rattle.masked_bytes.specs.{Entries.has_row, declared.entry.Entry.Entry}
use Rattle.bank_shape.specs.declared.BankShape.{BankShape}
use Rattle.bank_model.specs.{Events.BankEvent, History.queue, Timing.{Happens, Core, Regs, TimedEvent, core, core_of}, Told.tick_of_row}
use Rattle.bank_laws.specs.{Resting.IsCutOff, Ticks.ends_action}
use Rattle.clock_laws.{specs.Leads.Leads, specs.State.{ClockState, next_action}, proofs.Absent.queue-lacks, proofs.Extending.nothing_added_law, proofs.Others.apart_law}
use Rattle.clock_laws.proofs.Passing.{idle_law}
use Rattle.bank_timing.specs.Draining.{Drains, DrainsTo, closed, AreQueueable, AreQueued, queued_outcome}
use Rattle.bank_timing.{specs.Extending.{RunsDown, AreOpen, LeavesOthers, EndsAction, IsQuiet, outcome_in}, proofs.Queued.{none-left, queued-told}}
use Rattle.bank_timing.proofs.Running.{end-brings_none, ran-others, runs-on}

-- A row that doesn't stand in the queue does not come to stand there where actions end

module _ {n : ℕ} where
  out-by : (shape : BankShape) (row : ℕ) (h : Happens n) (past : List (BankEvent n)) → IsTrue (ends_action h)
      → has_row (queue shape past) row ≡ false → has_row (queue shape (core_of h past)) row ≡ false
  out-by shape row (Core event) past quiet none = queue-lacks shape past row none event (end-brings_none (Core event) row quiet)
  out-by shape row (Regs event) past quiet none = none

stays-out : {n m : ℕ} (shape : BankShape) (row : ℕ) (added xs : List (TimedEvent n m)) → IsQuiet added
    → has_row (queue shape (core xs)) row ≡ false → has_row (queue shape (core (added ++ xs))) row ≡ false
stays-out shape row [] xs quiet none = none
stays-out {n} {m} shape row (x ∷ added) xs quiet none =
    out-by shape row x.happens (core (added ++ xs)) (All-head (λ (x : TimedEvent n m). EndsAction x) x added quiet)
    (stays-out shape row added xs (All-tail (λ (x : TimedEvent n m). EndsAction x) x added quiet) none)

module _ {n m e : ℕ} where
  -- a clock to which nothing may come any more
  abbrev pub drained : ClockState n m e → ClockState n m e
  drained clock = record { bank = clock.bank; regs = clock.regs; pace = clock.pace; tick = clock.tick; action = clock.action; arrivals = clock.arrivals; cancels = clock.cancels; drained = true }

  still-leads : (xs : List (TimedEvent n m)) (clock : ClockState n m e) (array : ArrayState n m) → Leads xs clock array → Leads xs (drained clock) array
  still-leads xs clock array leads =
      record { lawful = leads.lawful; holds = leads.holds; told = leads.told; regs = leads.regs; control = leads.control; pulses = leads.pulses; aged = leads.aged; copying = leads.copying; taken = leads.taken }

  ticks-are : (xs : List (TimedEvent n m)) (clock : ClockState n m e) (array : ArrayState n m) → Leads xs clock array
      → clock.arrivals ≡ map (λ (entry : Entry n). tick_of_row entry.row xs) clock.bank.kept.entries
  ticks-are xs clock array leads = leads.told.arrived ∙ ap (λ (es : List (Entry n)). map (λ (entry : Entry n). tick_of_row entry.row xs) es) (sym leads.holds.entries)

  module _ (old clock : ClockState n m e) (before after : ArrayState n m) (results between : List (Outcome n)) (ran : RunsDown old clock before after results between) where
    -- what stands in the queue of a settled bank may be queued
    pub queueable : AreQueueable clock.bank.kept.entries clock.arrivals between
    queueable = record {
      told = ap (λ (ticks : List ℕ). length ticks) (ticks-are ran.led.0 clock after ran.led.1) ∙ length-map clock.bank.kept.entries (λ (entry : Entry n). tick_of_row entry.row ran.led.0);
      apart = (apart_law n m e ran.led.0 clock after ran.led.1).queued_apart;
      unset = ran.unset.queued;
    }

    module _ (recorded : List (Outcome n)) (queued : AreQueued clock.bank.kept.entries clock.arrivals between recorded) where
      pub drains : next_action clock ≡ None → (xs : List (TimedEvent n m)) → Leads xs old before
          → (added : List (TimedEvent n m)) × Drains xs added old (drained clock) before after results recorded
      drains rests xs leads =
          let by = ran.extends xs leads in
          let added = by.0 in (
            added,
            record {
              leads = still-leads (added ++ xs) clock after by.1.leads;
              quiet = by.2;
              now = by.3;
              idle = idle_law n m e (added ++ xs) clock after by.1.leads rests;
              shape = by.1.shape;
              pace = by.1.pace;
              adds = by.1.adds;
              rows = queued.rows ∙ by.1.rows;
              outcomes = λ row there.
                  let same = by.1.rows in
                  queued.outcomes row (record { above = there.above; within = omega (arith, same, there.within) })
                  ∙ ap (λ (ticks : List ℕ). unwrap_or (queued_outcome clock.bank.kept.entries ticks row) (outcome_in between row)) (ticks-are (added ++ xs) clock after by.1.leads)
                  ∙ queued-told (λ row. tick_of_row row (added ++ xs)) clock.bank.kept.entries row (outcome_in between row)
                  ∙ ap (λ (o : Outcome n). if has_row clock.bank.kept.entries row then Queued (tick_of_row row (added ++ xs)) else o) (by.1.outcomes row there);
            },
          )

      -- no other row is touched
      pub drain-others : ((xs : List (TimedEvent n m)) × Leads xs old before) → LeavesOthers old.bank results recorded
      drain-others led row there unqueued unawaited =
          let by = ran.extends led.0 led.1 in
          let none : has_row (queue old.bank.kept.shape (core (by.0 ++ led.0))) row ≡ false =
          stays-out old.bank.kept.shape row by.0 led.0 by.2 (ap (λ (es : List (Entry n)). has_row es row) (sym led.1.holds.entries) ∙ unqueued) in
          let lacks : has_row clock.bank.kept.entries row ≡ false =
          ap (λ (es : List (Entry n)). has_row es row) by.1.leads.holds.entries ∙ ap (λ (shape : BankShape). has_row (queue shape (core (by.0 ++ led.0))) row) by.1.shape ∙ none in
          let same = by.1.rows in
          none-left clock.bank.kept.entries clock.arrivals between recorded row (record { above = there.above; within = omega (arith, same, there.within) }) lacks queued
          ∙ ran-others old clock before after results between led (runs-on old clock before after results between ran) row there unqueued unawaited

  -- A bank that is stopped behind a cut

  module _ (clock : ClockState n m e) (results : List (Outcome n)) (led : (array : ArrayState n m) × (xs : List (TimedEvent n m)) × Leads xs clock array) (unset : AreOpen clock.bank results) where
    pub stop-queueable : AreQueueable clock.bank.kept.entries clock.arrivals results
    stop-queueable = record {
      told = ap (λ (ticks : List ℕ). length ticks) (ticks-are led.1 clock led.0 led.2) ∙ length-map clock.bank.kept.entries (λ (entry : Entry n). tick_of_row entry.row led.1);
      apart = (apart_law n m e led.1 clock led.0 led.2).queued_apart;
      unset = unset.queued;
    }

    module _ (recorded : List (Outcome n)) (queued : AreQueued clock.bank.kept.entries clock.arrivals results recorded) where
      pub stops : (xs : List (TimedEvent n m)) (array : ArrayState n m) → Leads xs clock array → IsCutOff xs → DrainsTo true xs [] clock (closed clock) array array results recorded
      stops xs array leads cut = record {
        leads = still-leads xs clock array leads;
        quiet = All-nil (λ (x : TimedEvent n m). EndsAction x);
        now = refl;
        idle = cut;
        shape = refl;
        pace = refl;
        adds = nothing_added_law n m clock.bank.kept.shape array;
        rows = queued.rows;
        outcomes = λ row there.
            queued.outcomes row there
            ∙ ap (λ (ticks : List ℕ). unwrap_or (queued_outcome clock.bank.kept.entries ticks row) (outcome_in results row)) (ticks-are xs clock array leads)
            ∙ queued-told (λ row. tick_of_row row xs) clock.bank.kept.entries row (outcome_in results row);
      }

      pub stop-others : LeavesOthers clock.bank results recorded
      stop-others row there unqueued unawaited = none-left clock.bank.kept.entries clock.arrivals results recorded row there unqueued queued
