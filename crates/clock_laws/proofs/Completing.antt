-- An action that ends.
use Rattle.std.proofs.Common.{◌≡◌, ℕ, ◌<◌, Bool, false, List, [], ◌∷◌, map, Option, Some, None, refl, sym, subst, ◌∙◌, arith}
use Rattle.std.specs.Prelude.{IfSome, IsSomeAnd}
use Rattle.masked_bytes.specs.declared.entry.Entry.{Entry}
use Rattle.cell_rows.specs.{Device.ArrayState, declared.array.Sense.Sense}
use Rattle.ecp_line.specs.Reading.{decode}
use Rattle.bank_shape.specs.{Shape.controls_of, declared.BankShape.BankShape, declared.clock.Action.Action, declared.clock.Doing.Doing, declared.pace.Pace.Pace}
use Rattle.bank_model.specs.{Changes.{change_after, line_of_change}, Events.BankEvent, History.queue, Lawful.{IsAsked, IsOnTime, IsKeptOnTime}}
use Rattle.bank_model.specs.{Running.{left, cancels_by, cancels_with, running_at}, Sensing.{is_at, sensed_by, pulsed_by, read_again, kept_sensed, kept_pulsed, copied, begun_with}}
use Rattle.bank_model.specs.{Timing.{TimedEvent, Happens, Core, Regs, Keeping, ends, core}, Told.tick_of_row, Touching.{Touches, shown}}
use Rattle.reg_lines.specs.declared.Change.{Change}
use Rattle.register_laws.specs.Telling.{item_of}
use Rattle.bank_invariant.specs.{Holds.Holds, State.Operation}
use Rattle.clock_laws.specs.Completing.{CompletionLaw, KeepingLaw, EndsDoing, EndsKeeping, IsAlone, arrivals_with, completion, line_kept, keep_completed, after_keep}
use Rattle.clock_laws.{specs.Leads.{Reaches, CopiesWhatItSensed}, specs.State.ClockState, proofs.Controls.change-known, proofs.Elsewhere.holds-same, proofs.Ranges.IsSlotOrSpare}
use Rattle.clock_laws.proofs.{Stepping.{follows, uncancelled, leads-reaches, reaches-leads, bank-leads, kept-reaches}, Ties.next-runs}

-- no event that ends an action has a row of its own
ends-asked : {n : ℕ} (h : List (BankEvent n)) (event : BankEvent n) (doing : Doing) → EndsDoing event doing → IsAsked h event
ends-asked h event doing is = grind arith

ends-on_time : {n m : ℕ} (shape : BankShape) (pace : Pace) (xs : List (TimedEvent n m)) (event : BankEvent n) (action : Action) (runs : Option Action) (senses : List (Sense n m)) (pulsed : Option ℕ)
    → EndsDoing event action.doing → (change : Option Change) → IsAlone event change → item_of change ≡ change_after shape xs → runs ≡ Some action
    → IsOnTime shape pace runs xs (completion action.first (ends pace action) (Core event) senses pulsed) event
ends-on_time shape pace xs event action runs senses pulsed is change alone told run = grind arith

-- it looks at no control line
pub ends-senses : {n : ℕ} (shape : BankShape) (h : List (BankEvent n)) (controls : List ℕ) (event : BankEvent n) (doing : Doing) → EndsDoing event doing → sensed_by shape h [] event ≡ sensed_by shape h controls event
ends-senses shape h controls event doing is = grind arith

pub ends-pulses : {n : ℕ} (shape : BankShape) (h : List (BankEvent n)) (torn : Option ℕ) (event : BankEvent n) (doing : Doing) → EndsDoing event doing → pulsed_by shape h None event ≡ pulsed_by shape h torn event
ends-pulses shape h torn event doing is = grind arith

-- no action runs behind it
ends-left : {n : ℕ} (shape : BankShape) (h : List (BankEvent n)) (change : Option ℕ) (event : BankEvent n) (doing : Doing) (runs : Option Action) → EndsDoing event doing → None ≡ left shape h change event runs
ends-left shape h change event doing runs is = grind arith

-- Arrival ticks

module _ {n m : ℕ} (shape : BankShape) (xs : List (TimedEvent n m)) where
  abbrev tick_at : Entry n → ℕ
  tick_at entry = tick_of_row entry.row xs

  ends-arrived : (event : BankEvent n) (doing : Doing) (first tick : ℕ) (senses : List (Sense n m)) (pulsed : Option ℕ) (arrivals : List ℕ) → EndsDoing event doing
      → arrivals ≡ map tick_at (queue shape (core xs))
      → arrivals_with event arrivals ≡ map (λ entry. tick_of_row entry.row (completion first tick (Core event) senses pulsed ∷ xs)) (queue shape (event ∷ core xs))
  ends-arrived event doing first tick senses pulsed arrivals is before = grind arith

pub completion_law : CompletionLaw
completion_law n m e event action xs clock bank regs old new leads next is later alone holds shape taken touches struck right copies told control goes =
    let tick : ℕ = ends clock.pace action in
    let sensed : List ℕ = sensed_by clock.bank.kept.shape (core xs) [] event in
    let pulsed : Option ℕ = pulsed_by clock.bank.kept.shape (core xs) None event in
    let runs : running_at clock.bank.kept.shape clock.pace xs tick ≡ Some action = sym (next-runs xs clock old leads tick later) ∙ next in
    bank-leads xs clock bank regs event action.first tick None (arrivals_with event clock.arrivals) (cancels_by event false clock.cancels) false sensed pulsed old new (leads-reaches xs clock old leads)
    (record {
      asked = ends-asked (core xs) event action.doing is;
      on_time = ends-on_time clock.bank.kept.shape clock.pace xs event action (running_at clock.bank.kept.shape clock.pace xs tick) (shown tick sensed new) pulsed is clock.regs.change alone leads.regs.change runs;
      behind = follows clock.bank.kept.shape clock.pace xs tick event leads.told.whole;
      senses = ends-senses clock.bank.kept.shape (core xs) (read_again clock.bank.kept.shape false) event action.doing is;
      pulses = ends-pulses clock.bank.kept.shape (core xs) _ event action.doing is;
      right = right;
      touches = touches;
      struck = struck;
    })
    goes
    (record {
      holds = holds;
      shape = shape;
      taken = taken;
      runs = ends-left clock.bank.kept.shape (core xs) (change_after clock.bank.kept.shape xs) event action.doing (running_at clock.bank.kept.shape clock.pace xs tick) is;
      to_come = tt;
      arrived = ends-arrived clock.bank.kept.shape xs event action.doing action.first tick (shown tick sensed new) pulsed clock.arrivals is leads.told.arrived;
      cancels = refl;
      copying = copies;
      told = told;
      control = control;
    })

-- Steps of the writing of a change

-- it comes as the action ends
keeps-on_time : {n m : ℕ} (shape : BankShape) (pace : Pace) (xs : List (TimedEvent n m)) (event : Keeping) (action : Action) (runs : Option Action) (senses : List (Sense n m)) (pulsed : Option ℕ)
    → EndsKeeping event action.doing → runs ≡ Some action → IsKeptOnTime shape pace runs xs (completion action.first (ends pace action) (Regs event) senses pulsed) event
keeps-on_time shape pace xs event action runs senses pulsed is run = grind arith

-- a copy's source was sensed before
pub copies-kept : {n m e : ℕ} (xs : List (TimedEvent n m)) (x : TimedEvent n m) (event : Keeping) (running : Option (Operation n m e)) → x.happens ≡ Regs event → IfSome running (CopiesWhatItSensed xs) → IfSome running (CopiesWhatItSensed (x ∷ xs))
copies-kept xs x event None is own = tt
copies-kept {n} {m} {e} xs x event (Some op) is own = λ copies. subst (λ (h : Happens n). IsSomeAnd (begun_with h x.senses (copied xs)) (λ source. op.writer.bytes ≡ decode e source)) (sym is) (own copies)

-- an event of a change touches no line of a slot or a spare
pub kept-apart : (shape : BankShape) (change : Option ℕ) (event : Keeping) (line : ℕ) → IfSome change (λ item. item < controls_of shape) → IsSlotOrSpare shape line
    → is_at (kept_pulsed (line_of_change shape change) event) line ≡ false
kept-apart shape change event line known own = grind arith

-- so the bank holds over the array that it leaves
pub kept-holds : {n m e : ℕ} (xs : List (TimedEvent n m)) (clock : ClockState n m e) (event : Keeping) (tick : ℕ) (sensed : List ℕ) (tearing : Bool) (old new : ArrayState n m) → Reaches xs clock old
    → Touches tick sensed (kept_pulsed (line_kept clock) event) tearing old new → Holds (core xs) clock.bank new
kept-holds xs clock event tick sensed tearing old new r touches =
    holds-same (core xs) clock.bank old new r.holds touches.lines touches.bounds
    (λ line own. touches.others line (kept-apart clock.bank.kept.shape (item_of clock.regs.change) event line (change-known clock.bank.kept clock.regs r.control) own))

pub keeping_law : KeepingLaw
keeping_law n m e event action xs clock regs old new leads next is later stands may touches told control goes =
    let tick : ℕ = ends clock.pace action in
    let r : Reaches xs clock old = leads-reaches xs clock old leads in
    let x : TimedEvent n m = keep_completed clock action event new in
    let runs : running_at clock.bank.kept.shape clock.pace xs tick ≡ Some action = sym (next-runs xs clock old leads tick later) ∙ next in
    reaches-leads (x ∷ xs) (after_keep clock regs action event) new
    (kept-reaches xs clock clock.bank regs event action.first tick None clock.arrivals (cancels_with {n = n} (Regs event) false clock.cancels) false false (kept_sensed (line_kept clock) event) (kept_pulsed (line_kept clock) event) old new r
    (record {
      stands = stands;
      may = may;
      on_time = keeps-on_time clock.bank.kept.shape clock.pace xs event action (running_at clock.bank.kept.shape clock.pace xs tick)
          (shown tick (kept_sensed (line_kept clock) event) new) (kept_pulsed (line_kept clock) event) is runs;
      behind = uncancelled clock.bank.kept.shape clock.pace xs leads.told.whole;
      senses = refl;
      pulses = refl;
      touches = touches;
    })
    goes
    (record {
      holds = kept-holds xs clock event tick (kept_sensed (line_kept clock) event) false old new r touches;
      shape = refl;
      taken = leads.taken;
      runs = refl;
      to_come = tt;
      arrived = leads.told.arrived;
      cancels = refl;
      copying = copies-kept xs x event clock.bank.running refl leads.copying;
      told = told;
      control = control;
    })) refl
