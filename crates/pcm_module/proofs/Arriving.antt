-- A bank runs on to a tick, and then a row arrives: both calls together are one step.
use Rattle.std.proofs.Common.{◌≡◌, ◌≢◌, ℕ, ◌≤◌, ◌==◌, ◌||◌, Bool, true, false, if◌then◌else◌, List, [], ◌∷◌, ◌++◌, Option, Some, None, append_assoc, refl, sym, ap, subst, ◌∙◌, arith}
use Rattle.std.{specs.Prelude.IsTrue, proofs.lemmas.Bool.{ne_eqb, or_from}, proofs.lemmas.List.Elements.{All-head, All-tail}}
use Rattle.masked_bytes.proofs.Truth.{neither_first, neither_second}
use Rattle.cell_rows.specs.Device.{ArrayState}
use Rattle.result_rows.specs.declared.Outcome.{Outcome}
use Rattle.bank_shape.specs.declared.BankShape.{BankShape}
use Rattle.bank_model.specs.{Adding.Adds, Events.{Write, Read, Serve, Begin, Iterate, Cut, RowsBelow}, Timing.{Happens, Core, Regs, TimedEvent, core, core_of}}
use Rattle.clock_laws.specs.{Arriving.cancels_for, Leads.Leads, Recording.outcome_on, Standing.{is_arrival_of, arrives_with}, State.ClockState}
use Rattle.clock_laws.proofs.{Extending.both_added_law, Recording.both_recorded_law}
use Rattle.module_laws.specs.Asking.{Asked, AreAsked, IsAsked}
use Rattle.reg_lines.specs.declared.Change.{Change}
use Rattle.bank_timing.{specs.Cancelling.{cancel_by, cancel_first}, specs.Extending.{Extends, IsOpen, IsQuiet, EndsAction, outcome_in}, proofs.Running.none-arrives}
use Rattle.bank_timing.proofs.Telling.{AreAt}
use Rattle.bank_laws.specs.Ticks.{ends_action}
use Rattle.pcm_module.{specs.Stepping.IsStep, proofs.Moving.{untouched, open_kept, outcome_at_row}}

module _ {n m : ℕ} where
  abbrev Ends : TimedEvent n m → Type 0
  Ends x = EndsAction x

  -- nothing is asked by events that a bank comes to by itself
  pub own_asked : (added xs : List (TimedEvent n m)) (own : List (Asked n)) → IsQuiet added → AreAsked xs own → AreAsked (added ++ xs) own
  own_asked [] xs own by_itself is = is
  own_asked (x ∷ added) xs own by_itself is =
      by x.happens (All-head Ends x added by_itself) (own_asked added xs own (All-tail Ends x added by_itself) is)
    where
      by : (h : Happens n) → IsTrue (ends_action h) → AreAsked (added ++ xs) own → IsAsked h x.cancels x.tick (AreAsked (added ++ xs)) own
      by (Core (Write row line bytes given answer)) own is = absurd (cc)
      by (Core (Read row line answer)) own is = absurd (cc)
      by (Core (Serve answer)) own is = is
      by (Core (Begin answer)) own is = is
      by (Core (Iterate answer)) own is = is
      by (Core (Cut tearing)) own is = absurd (cc)
      by (Regs event) own is = is

  -- a row above those of a history didn't arrive there
  pub below_off : (xs : List (TimedEvent n m)) (bound row : ℕ) → RowsBelow (core xs) bound → bound ≤ row → arrives_with xs row ≡ false
  below_off [] bound row below le = refl
  below_off (x ∷ xs) bound row below le = by x.happens below (λ b is less. below_off xs b row is less)
    where
      by : (h : Happens n) → RowsBelow (core_of h (core xs)) bound → ((b : ℕ) → RowsBelow (core xs) b → b ≤ row → arrives_with xs row ≡ false)
          → (is_arrival_of h row || arrives_with xs row) ≡ false
      by (Core (Write at line bytes given answer)) is rec = or_from (at == row) _ (ne_eqb at row (λ e. absurd (omega (arith, is.0)))) (rec at is.1 (omega (arith, is.0)))
      by (Core (Read at line answer)) is rec = or_from (at == row) _ (ne_eqb at row (λ e. absurd (omega (arith, is.0)))) (rec at is.1 (omega (arith, is.0)))
      by (Core (Serve answer)) is rec = rec bound is le
      by (Core (Begin answer)) is rec = rec bound is le
      by (Core (Iterate answer)) is rec = rec bound is le
      by (Core (Cut tearing)) is rec = rec bound is le
      by (Regs event) is rec = rec bound is le

  off_append : (added xs : List (TimedEvent n m)) (row : ℕ) → arrives_with added row ≡ false → arrives_with xs row ≡ false → arrives_with (added ++ xs) row ≡ false
  off_append [] xs row off rest = rest
  off_append (x ∷ added) xs row off rest =
      or_from (is_arrival_of x.happens row) _ (neither_first (is_arrival_of x.happens row) _ off) (off_append added xs row (neither_second (is_arrival_of x.happens row) _ off) rest)

module _ {n m e : ℕ} (xs : List (TimedEvent n m)) (clock : ClockState n m e) where
  -- a cancel is asked for by no row
  cancel_asked : (change : Option Change) (asked : List (Asked n)) → AreAsked xs asked → AreAsked (cancel_by change xs clock ∷ xs) asked
  cancel_asked None asked is = is
  cancel_asked (Some change) asked is = is

  cancel_off : (change : Option Change) (row : ℕ) → is_arrival_of (cancel_by change xs clock).happens row ≡ false
  cancel_off None row = refl
  cancel_off (Some change) row = refl

  -- nor is what comes before a read
  pub first_asked : (line : ℕ) (asked : List (Asked n)) → AreAsked xs asked → AreAsked (cancel_first xs clock line ++ xs) asked
  first_asked line asked is = by (cancels_for clock line)
    where
      by : (cancels : Bool) → AreAsked ((if cancels then cancel_by clock.regs.change xs clock ∷ [] else []) ++ xs) asked
      by true = cancel_asked clock.regs.change asked is
      by false = is

  pub first_off : (line row : ℕ) → arrives_with (cancel_first xs clock line) row ≡ false
  first_off line row = by (cancels_for clock line)
    where
      by : (cancels : Bool) → arrives_with (if cancels then cancel_by clock.regs.change xs clock ∷ [] else []) row ≡ false
      by true = or_from (is_arrival_of (cancel_by clock.regs.change xs clock).happens row) false (cancel_off clock.regs.change row) refl
      by false = refl

  -- and comes at the tick of the read
  pub first_at : (line : ℕ) → AreAt clock.tick (cancel_first xs clock line)
  first_at line = by (cancels_for clock line) clock.regs.change
    where
      by : (cancels : Bool) (change : Option Change) → AreAt clock.tick (if cancels then cancel_by change xs clock ∷ [] else [])
      by false change = tt
      by true None = (refl, tt)
      by true (Some change) = (refl, tt)

module _ {n m e : ℕ} (xs added : List (TimedEvent n m)) (first between last : ClockState n m e) (a0 a1 a2 : ArrayState n m) (r0 r1 r2 : List (Outcome n))
    (leads : Leads xs first a0) (own : IsQuiet added) (ext : Extends xs added first between a0 a1 r0 r1) where
  -- a row that is new stays open while the bank runs on
  pub open_on : (row : ℕ) → first.bank.rows_below ≤ row → IsOpen r0 row → IsOpen r1 row
  open_on row fresh is =
      open_kept r0 r1 row ext.rows
      (untouched xs first a0 leads added between a1 r0 r1 ext row is.exists
      (off_append added xs row (none-arrives added row own)
      (below_off xs first.bank.rows_below row leads.holds.rows fresh))) is

  -- the events of an arrival behind them
  pub extends_on : (arrived : List (TimedEvent n m)) → Extends (added ++ xs) arrived between last a1 a2 r1 r2 → Extends xs (arrived ++ added) first last a0 a2 r0 r2
  extends_on arrived next = record {
    leads = subst (λ (ys : List (TimedEvent n m)). Leads ys last a2) (sym (append_assoc arrived added xs)) next.leads;
    shape = next.shape ∙ ext.shape;
    pace = next.pace ∙ ext.pace;
    adds = both_added_law n m first.bank.kept.shape arrived added a0 a1 a2 ext.adds (subst (λ (s : BankShape). Adds s arrived a1 a2) ext.shape next.adds);
    rows = next.rows ∙ ext.rows;
    outcomes = λ row has.
        next.outcomes row (record { above = has.above; within = subst (λ k. row ≤ k) (sym ext.rows) has.within })
        ∙ ap (λ (s : BankShape). outcome_on s arrived (added ++ xs) (outcome_in r1) row) ext.shape
        ∙ outcome_at_row first.bank.kept.shape arrived (added ++ xs) (outcome_in r1) (outcome_on first.bank.kept.shape added xs (outcome_in r0)) row (ext.outcomes row has)
        ∙ sym (both_recorded_law n m first.bank.kept.shape arrived added xs (outcome_in r0) row);
  }

  -- with them a row arrives, and no other
  pub step_on : (arrived : List (TimedEvent n m)) (a : Asked n) → Extends (added ++ xs) arrived between last a1 a2 r1 r2
      → ((asked : List (Asked n)) → AreAsked (added ++ xs) asked → AreAsked (arrived ++ (added ++ xs)) (a ∷ asked))
      → ((row : ℕ) → row ≢ a.row → arrives_with arrived row ≡ false)
      → IsStep xs (arrived ++ added) a first last a0 a2 r0 r2
  step_on arrived a next arrives alone = record {
    extends = extends_on arrived next;
    arrives = λ asked is.
        subst (λ (ys : List (TimedEvent n m)). AreAsked ys (a ∷ asked)) (sym (append_assoc arrived added xs)) (arrives asked (own_asked added xs asked own is));
    alone = λ row other. off_append arrived added row (alone row other) (none-arrives added row own);
  }
