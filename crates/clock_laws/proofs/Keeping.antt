-- Each step of the writing of a change, told by what the control lines keep.
use Rattle.std.proofs.Common.{◌≡◌, ◌≢◌, ℕ, ◌+◌, ◌<◌, ◌≤◌, not, is_some, Bool, true, false, List, [], ◌∷◌, Option, Some, None, refl, sym, ap, subst, ◌∙◌, arith}
use Rattle.std.specs.Prelude.{IfSome, IsSomeAnd, IsTrue}
use Rattle.cell_rows.specs.Device.{ArrayState}
use Rattle.bank_shape.specs.{Shape.{controls_from, IsIn}, declared.answer.Keep.Keep, declared.clock.Action.Action, declared.clock.Doing.Doing}
use Rattle.bank_shape.specs.declared.answer.Keep.TheVariants as keep
use Rattle.bank_model.specs.Changes.{change_by, change_after, written_by, keeps_on, keeping_by, keeping_after, halted_by, halted_after, rounds_by, rounds_after, line_of_change}
use Rattle.bank_model.specs.{Lawful.MayKeep, Sensing.{most_steps, kept_sensed, kept_pulsed}, Timing.{Happens, Regs, Keeping, KeepBegin, KeepIterate, TimedEvent, core, ends}}
use Rattle.bank_model.specs.Touching.{Touches}
use Rattle.line_writer.specs.{Writing.steps_left, declared.writer.LineWriter.LineWriter}
use Rattle.reg_lines.specs.{Keeping.kept_on, Regs.{RegsState, AreHeld, IsWritingOf}, declared.Change.Change}
use Rattle.reg_lines.specs.Keeping as writing
use Rattle.register_laws.specs.{Control.Control, Telling.{AreTold, item_of}}
use Rattle.bank_invariant.proofs.Iterating.{under_way-steps}
use Rattle.clock_laws.specs.{Actions.{LeadsOn, KeepBeginEndsLaw, KeepIterateEndsLaw}, Completing.{EndsKeeping, line_kept, keep_completed, after_keep}, Extending.is_tear}
use Rattle.clock_laws.{specs.Leads.Leads, specs.State.{ClockState, next_action}, specs.Tearing.GoesOnWriting, proofs.Completing.keeping_law, proofs.Controls.change-known}
use Rattle.clock_laws.proofs.{Extending.one_added_law, Ranges.{change-in, kept-pulsed-in}}

-- the control line of a change, by the first of them, and whether a change stands halted after a step
abbrev line_by : ℕ → Option Change → Option ℕ
line_by base None = None
line_by base (Some change) = Some (base + change.item)

abbrev lines_by : ℕ → Option Change → List ℕ
lines_by base None = []
lines_by base (Some change) = (base + change.item) ∷ []

abbrev halts_by : Keep → Bool → Bool
halts_by keep.More old = old
halts_by keep.Done old = old
halts_by keep.Halted old = true

module _ {n m e : ℕ} (xs : List (TimedEvent n m)) (clock : ClockState n m e) (old : ArrayState n m) (leads : Leads xs clock old) where
  -- the line of the change is that of its item
  line_is : (change : Option Change) → (base : ℕ) → base ≡ controls_from clock.bank.kept.shape → line_by base change ≡ line_of_change clock.bank.kept.shape (item_of change)
  line_is None base is = refl
  line_is (Some change) base is = ap (λ base. Some (base + change.item)) is

  pub line_known : IfSome (line_kept clock) (IsIn clock.bank.kept.shape)
  line_known = change-in clock.bank.kept.shape (item_of clock.regs.change) (change-known clock.bank.kept clock.regs leads.control)

  begin_line : (change : Option Change) (answer : Keep) (base : ℕ) → base ≡ controls_from clock.bank.kept.shape
      → lines_by base change ≡ kept_sensed (line_of_change clock.bank.kept.shape (item_of change)) (KeepBegin answer)
  begin_line None answer base is = refl
  begin_line (Some change) answer base is = ap (λ base. (base + change.item) ∷ []) is

  iterate_line : (change : Option Change) (answer : Keep) (base : ℕ) → base ≡ controls_from clock.bank.kept.shape
      → lines_by base change ≡ kept_sensed (line_of_change clock.bank.kept.shape (item_of change)) (KeepIterate answer)
  iterate_line None answer base is = refl
  iterate_line (Some change) answer base is = ap (λ base. (base + change.item) ∷ []) is

  -- a step that may come so goes on
  keep-finish : (event : Keeping) (action : Action) (regs : RegsState n m e) (sensed : List ℕ) (pulsed : Option ℕ) (new : ArrayState n m)
      → next_action clock ≡ Some action → EndsKeeping event action.doing → clock.tick < ends clock.pace action → IsTrue (is_some clock.regs.change)
      → MayKeep clock.bank.kept.shape clock.pace (most_steps e) xs event → sensed ≡ kept_sensed (line_kept clock) event → pulsed ≡ kept_pulsed (line_kept clock) event
      → Touches (ends clock.pace action) sensed pulsed false old new → AreTold clock.bank.kept.shape (keep_completed clock action event new ∷ xs) regs → Control clock.bank.kept regs new
      → GoesOnWriting (ends clock.pace action) clock.regs regs (Regs event) (kept_pulsed (line_kept clock) event) old new
      → LeadsOn clock.bank.kept.shape xs (keep_completed clock action event new) (after_keep clock regs action event) old new
  keep-finish event action regs sensed pulsed new next is later stands may senses pulses touches told control goes =
      let x : TimedEvent n m = keep_completed clock action event new in
      let touched : Touches (ends clock.pace action) (kept_sensed (line_kept clock) event) (kept_pulsed (line_kept clock) event) false old new =
      subst (λ (sensed : List ℕ). Touches (ends clock.pace action) sensed (kept_pulsed (line_kept clock) event) false old new) senses
      (subst (λ (pulsed : Option ℕ). Touches (ends clock.pace action) sensed pulsed false old new) pulses touches) in
      record {
        leads = keeping_law n m e event action xs clock regs old new leads next is later stands may touched told control goes;
        adds = one_added_law n m clock.bank.kept.shape x (kept_sensed (line_kept clock) event) false old new refl
            (kept-pulsed-in clock.bank.kept.shape (line_kept clock) event line_known) (never event action.doing is) touched;
      }
    where
      never : (event : Keeping) (doing : Doing) → EndsKeeping event doing → false ≡ is_tear {n = n} (Regs event) (kept_pulsed (line_kept clock) event)
      never event doing is = grind arith

  -- what a step leaves is told by the history
  kept-told : (x : TimedEvent n m) (event : Keeping) (answer : Keep) (writer : LineWriter n m e) (count : ℕ) → x.happens ≡ Regs event
      → change_by clock.bank.kept.shape (core xs) (Regs event) (change_after clock.bank.kept.shape xs) ≡ written_by answer (change_after clock.bank.kept.shape xs)
      → keeping_by {n = n} (Regs event) (keeping_after xs) ≡ keeps_on answer → halted_by {n = n} (Regs event) (halted_after xs) ≡ halts_by answer (halted_after xs)
      → rounds_by {n = n} (Regs event) (rounds_after xs) ≡ count → (answer ≡ keep.More → count + steps_left writer ≤ most_steps e)
      → AreTold clock.bank.kept.shape (x ∷ xs) (kept_on answer writer clock.regs)
  kept-told x event answer writer count is change keeping halted rounds few = by answer change keeping halted few
    where
      changes : Happens n → Option ℕ
      changes h = change_by clock.bank.kept.shape (core xs) h (change_after clock.bank.kept.shape xs)

      keeps : Happens n → Bool
      keeps h = keeping_by h (keeping_after xs)

      halts : Happens n → Bool
      halts h = halted_by h (halted_after xs)

      makes : Happens n → ℕ
      makes h = rounds_by h (rounds_after xs)

      by : (answer : Keep) → changes (Regs event) ≡ written_by answer (change_after clock.bank.kept.shape xs) → keeps (Regs event) ≡ keeps_on answer → halts (Regs event) ≡ halts_by answer (halted_after xs)
          → (answer ≡ keep.More → count + steps_left writer ≤ most_steps e) → AreTold clock.bank.kept.shape (x ∷ xs) (kept_on answer writer clock.regs)
      by answer change keeping halted few = grind arith

-- what is being written has a step left
some_steps : {n m e : ℕ} (regs : RegsState n m e) (array : ArrayState n m) (writer : LineWriter n m e) → AreHeld regs array → regs.writer ≡ Some writer → 0 < steps_left writer
some_steps {n} {m} {e} regs array writer held is =
    by regs.change (subst (λ (w : Option (LineWriter n m e)). IfSome w (λ writer. IsSomeAnd regs.change (λ change. IsWritingOf writer (array.line (regs.base + change.item)) change))) is held.writing)
  where
    by : (change : Option Change) → IsSomeAnd change (λ change. IsWritingOf writer (array.line (regs.base + change.item)) change) → 0 < steps_left writer
    by None own = absurd own
    by (Some change) own = under_way-steps writer (array.line (regs.base + change.item)) (record { more = own.more; writes = own.writes })

pub keep_begin_ends_law : KeepBeginEndsLaw
keep_begin_ends_law n m e answer action writer xs clock regs old new leads idle going step not_halted few =
    let x : TimedEvent n m = keep_completed clock action (KeepBegin answer) new in
    let told : AreTold clock.bank.kept.shape (x ∷ xs) regs =
    subst (λ (regs : RegsState n m e). AreTold clock.bank.kept.shape (x ∷ xs) regs) (sym step.leaves)
    (kept-told xs clock old leads x (KeepBegin answer) answer writer 0 refl refl refl (stays answer not_halted) refl (λ is. omega (arith, few))) in
    keep-finish xs clock old leads (KeepBegin answer) action regs (lines_by clock.regs.base clock.regs.change) None new step.next step.doing step.later step.stands
    (sym leads.regs.writing ∙ ap (λ (w : Option (LineWriter n m e)). is_some w) idle, sym leads.regs.halted ∙ going, not_halted)
    (begin_line xs clock old leads clock.regs.change answer clock.regs.base leads.control.own.base) refl (sensed clock.regs.change step.touches) told step.control tt
  where
    stays : (answer : Keep) → answer ≢ keep.Halted → halted_after xs ≡ halts_by answer (halted_after xs)
    stays answer not = grind arith

    sensed : (change : Option Change) → Touches (ends clock.pace action) (writing.line_of clock.regs change) None false old new
        → Touches (ends clock.pace action) (lines_by clock.regs.base change) None false old new
    sensed change touches = grind arith

pub keep_iterate_ends_law : KeepIterateEndsLaw
keep_iterate_ends_law n m e answer action xs clock regs old new leads iteration step =
    let x : TimedEvent n m = keep_completed clock action (KeepIterate answer) new in
    let writer = iteration.now in
    let fewer = iteration.step.fewer in
    let count : rounds_after xs + steps_left iteration.writer ≤ most_steps e =
    subst (λ (w : Option (LineWriter n m e)). IfSome w (λ writer. rounds_after xs + steps_left writer ≤ most_steps e)) iteration.runs leads.regs.steps in
    let some : 0 < steps_left iteration.writer = some_steps clock.regs old iteration.writer leads.control.held iteration.runs in
    let told : AreTold clock.bank.kept.shape (x ∷ xs) regs =
    subst (λ (regs : RegsState n m e). AreTold clock.bank.kept.shape (x ∷ xs) regs) (sym step.leaves)
    (kept-told xs clock old leads x (KeepIterate answer) answer writer (rounds_after xs + 1) refl refl refl (halts answer) refl (λ more. omega (arith, count, fewer))) in
    keep-finish xs clock old leads (KeepIterate answer) action regs (lines_by clock.regs.base clock.regs.change) (line_by clock.regs.base clock.regs.change) new step.next step.doing step.later step.stands (
      sym leads.regs.writing ∙ ap (λ (w : Option (LineWriter n m e)). is_some w) iteration.runs,
      omega (arith, count, some),
      λ more. let left : 0 < steps_left writer = some_steps regs new writer step.control.held (writes answer more step.leaves) in omega (arith, count, fewer, left),
    )
    (iterate_line xs clock old leads clock.regs.change answer clock.regs.base leads.control.own.base)
    (line_is xs clock old leads clock.regs.change clock.regs.base leads.control.own.base) (sensed clock.regs.change step.touches) told step.control iteration
  where
    halts : (answer : Keep) → halted_by {n = n} (Regs (KeepIterate answer)) (halted_after xs) ≡ halts_by answer (halted_after xs)
    halts answer = grind arith

    writes : (answer : Keep) → answer ≡ keep.More → regs ≡ kept_on answer iteration.now clock.regs → regs.writer ≡ Some iteration.now
    writes answer more leaves = grind arith

    sensed : (change : Option Change) → Touches (ends clock.pace action) (writing.line_of clock.regs change) (writing.target_of clock.regs change) false old new
        → Touches (ends clock.pace action) (lines_by clock.regs.base change) (line_by clock.regs.base change) false old new
    sensed change touches = grind arith
