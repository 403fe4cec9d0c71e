-- The laws of each action that ends, and of a cut, in terms of what the bank keeps.
use Rattle.std.specs.Prelude.{◌≡◌, ◌≢◌, ℕ, ◌+◌, ◌<◌, ◌≤◌, ◌&&◌, not, Bool, true, false, IsTrue, List, [], ◌∷◌, Option, Some, None, IsSomeAnd, slice_get, is_some}
use Rattle.masked_bytes.specs.Masked.{laid}
use Rattle.cell_rows.specs.Device.{ArrayState}
use Rattle.bank_shape.specs.{Shape.slot_at, declared.BankShape.BankShape, declared.Work.Work, declared.Work.TheVariants.{Nothing, Store, Copy}, declared.answer.Keep.Keep}
use Rattle.bank_shape.specs.{declared.answer.Served.Served, declared.answer.Step.Step, declared.clock.Action.Action, declared.clock.Doing.Doing}
use Rattle.bank_shape.specs.{declared.clock.Doing.TheVariants.{Beginning, Iterating}, declared.waiting.Waiting.Waiting}
use Rattle.bank_shape.specs.declared.answer.Step.TheVariants as did
use Rattle.bank_shape.specs.declared.answer.Keep.TheVariants as keep
use Rattle.power_recovery.specs.Kept.{KeptState, array_line, stands_at, next_work}
use Rattle.bank_model.specs.{Adding.Adds, Changes.all_controls, Events.{BankEvent, Serve, Begin, Iterate, Cut}, Timing.{TimedEvent, KeepBegin, KeepIterate, core, ends, is_doing}}
use Rattle.bank_model.specs.Touching.{Touches, AreStruck}
use Rattle.line_writer.specs.{Writing.{steps_left, most_steps}, declared.writer.LineWriter.LineWriter}
use Rattle.reg_lines.specs.{Keeping.{kept_on, broken_off}, Regs.RegsState, declared.Change.Change}
use Rattle.reg_lines.specs.Keeping as writing
use Rattle.register_laws.specs.Control.{Control}
use Rattle.bank_invariant.specs.{Beginning.lines_sensed, Holds.Holds, State.{BankState, Operation, target_of}}
use Rattle.ecp_line.specs.ArrayLines.{decoded}
use Rattle.clock_laws.specs.{Arriving.cancels_for, Completing.{EndsDoing, IsAlone, completed, after_action, keep_completed, after_keep}}
use Rattle.clock_laws.specs.{Cutting.{tears_now, cut, after_cut, cancel, keep_cancel, after_cancel}, Fitting.IsFit, Leads.{Leads, Reaches}, Putting.{put_if, item_with}}
use Rattle.clock_laws.specs.{State.{ClockState, next_action}, Tearing.TearsControl}

-- a history leads on to this clock and this array by one more event, which adds what it touched
pub record LeadsOn {n m e : ℕ} (shape : BankShape) (xs : List (TimedEvent n m)) (x : TimedEvent n m) (clock : ClockState n m e) (old new : ArrayState n m) : Type 0 where
  pub leads : Leads (x ∷ xs) clock new
  pub adds : Adds shape (x ∷ []) old new

module _ {n m e : ℕ} where
  -- the action that runs from now on ends by an event, which leaves this bank, these control lines and this array: it pulsed this
  -- line, in cells that had missed before, and then sensed these. The change that it brings is put, and the control lines hold what the
  -- bank now keeps
  pub record IsCompletion (xs : List (TimedEvent n m)) (clock : ClockState n m e) (bank : BankState n m e) (regs : RegsState n m e) (event : BankEvent n) (action : Action)
      (sensed : List ℕ) (pulsed : Option ℕ) (old new : ArrayState n m) : Type 0 where
    pub next : next_action clock ≡ Some action
    pub doing : EndsDoing event action.doing
    pub later : clock.tick < ends clock.pace action
    pub alone : IsAlone event clock.regs.change
    pub holds : Holds (event ∷ core xs) bank new
    pub shape : bank.kept.shape ≡ clock.bank.kept.shape
    pub taken : bank.lost ≡ []
    pub touches : Touches (ends clock.pace action) sensed pulsed false old new
    pub struck : AreStruck clock.bank.kept.shape (core xs) event pulsed old new
    pub put : regs ≡ put_if (item_with clock.bank.kept event) bank.kept clock.regs
    pub control : Control bank.kept regs new

  -- the history goes on by that event
  abbrev pub GoesOn : List (TimedEvent n m) → ClockState n m e → BankState n m e → RegsState n m e → BankEvent n → Action → ArrayState n m → ArrayState n m → Type 0
  GoesOn xs clock bank regs event action old new =
      LeadsOn clock.bank.kept.shape xs (completed xs clock action event new) (after_action clock bank regs action event) old new

-- Serves

-- a serve of the first read that waits, whose bytes are those kept with it over what its array line is read as
abbrev pub ServeEndsLaw : Type 0
ServeEndsLaw =
    (n m e : ℕ) (answer : Served n) (action : Action) (w : Waiting n) (ws : List (Waiting n)) (xs : List (TimedEvent n m))
    (clock : ClockState n m e) (bank : BankState n m e) (regs : RegsState n m e) (old new : ArrayState n m)
    → Leads xs clock old → clock.bank.waiting ≡ w ∷ ws
    → IsCompletion xs clock bank regs (Serve answer) action (stands_at clock.bank.kept w.line ∷ []) None old new
    → bank.running ≡ clock.bank.running → answer.bytes ≡ laid w.kept w.given (decoded e old (stands_at clock.bank.kept w.line))
    → GoesOn xs clock bank regs (Serve answer) action old new

-- Begins

module _ {n m : ℕ} where
  -- a gap move writes what the line that it copies is read as
  abbrev pub WritesCopy : ℕ → KeptState n → ArrayState n m → List ℕ → Work → Type 0
  WritesCopy e kept array bytes Nothing = Unit {0}
  WritesCopy e kept array bytes (Store line slot) = Unit {0}
  WritesCopy e kept array bytes (Copy region step) = bytes ≡ decoded e array (array_line kept (slot_at kept.shape region step.from))

  -- what the target of a work is read as changes nothing where the head of the queue is laid over it
  abbrev pub ReadsAsHead : ℕ → KeptState n → ArrayState n m → Work → Type 0
  ReadsAsHead e kept array work =
      IsSomeAnd (slice_get kept.entries 0) (λ head. laid head.bytes head.given (decoded e array (target_of kept work)) ≡ decoded e array (target_of kept work))

  -- what a begin of this work leaves, by its answer: a line write of the work; or none, since its target is read already as it should be
  abbrev pub LeavesBegun : {e : ℕ} → KeptState n → Work → ArrayState n m → Option (Operation n m e) → Step → Type 0
  LeavesBegun {e = e} kept work array running did.More = IsSomeAnd running (λ op. (op.work ≡ work) × WritesCopy e kept array op.writer.bytes work)
  LeavesBegun {e = e} kept work array running (did.Stored row place) = (running ≡ None) × ReadsAsHead e kept array work
  LeavesBegun {e = e} kept work array running (did.Moved step) = (running ≡ None) × WritesCopy e kept array (decoded e array (target_of kept work)) work
  LeavesBegun kept work array running _ = ⊥

-- a begin of the next work
abbrev pub BeginEndsLaw : Type 0
BeginEndsLaw =
    (n m e : ℕ) (answer : Step) (action : Action) (work : Work) (xs : List (TimedEvent n m))
    (clock : ClockState n m e) (bank : BankState n m e) (regs : RegsState n m e) (old new : ArrayState n m)
    → Leads xs clock old → next_work clock.bank.kept ≡ work
    → IsCompletion xs clock bank regs (Begin answer) action (lines_sensed clock.bank.kept work) None old new
    → LeavesBegun clock.bank.kept work old bank.running answer
    → GoesOn xs clock bank regs (Begin answer) action old new

-- Iterations

module _ {n m e : ℕ} where
  -- what an iteration of this line write leaves, by its answer: the same line write, or none; and where it is done, its target is
  -- read as its bytes
  abbrev pub LeavesIterated : Operation n m e → ArrayState n m → Option (Operation n m e) → Step → Type 0
  LeavesIterated op array running did.More = IsSomeAnd running (λ later. (later.work ≡ op.work) × (later.writer.bytes ≡ op.writer.bytes))
  LeavesIterated op array running (did.Stored row place) = (running ≡ None) × (decoded e array op.target ≡ op.writer.bytes)
  LeavesIterated op array running (did.Moved step) = (running ≡ None) × (decoded e array op.target ≡ op.writer.bytes)
  LeavesIterated op array running (did.Retired slot line) = running ≡ None
  LeavesIterated op array running did.Exhausted = running ≡ None

-- an iteration of the line write in progress
abbrev pub IterateEndsLaw : Type 0
IterateEndsLaw =
    (n m e : ℕ) (answer : Step) (action : Action) (op : Operation n m e) (xs : List (TimedEvent n m))
    (clock : ClockState n m e) (bank : BankState n m e) (regs : RegsState n m e) (old new : ArrayState n m)
    → Leads xs clock old → clock.bank.running ≡ Some op
    → IsCompletion xs clock bank regs (Iterate answer) action (op.target ∷ []) (Some op.target) old new
    → LeavesIterated op new bank.running answer
    → GoesOn xs clock bank regs (Iterate answer) action old new

-- Steps of the writing of a change

module _ {n m e : ℕ} where
  -- the action that runs from now on ends by a step of the writing of the change that stands, with this answer, and leaves this line
  -- write, these control lines and this array
  pub record IsKeepStep (clock : ClockState n m e) (regs : RegsState n m e) (kind : Doing) (action : Action) (answer : Keep) (writer : LineWriter n m e)
      (sensed : List ℕ) (pulsed : Option ℕ) (old new : ArrayState n m) : Type 0 where
    pub next : next_action clock ≡ Some action
    pub doing : action.doing ≡ kind
    pub later : clock.tick < ends clock.pace action
    pub stands : IsTrue (is_some clock.regs.change)
    pub touches : Touches (ends clock.pace action) sensed pulsed false old new
    pub leaves : regs ≡ kept_on answer writer clock.regs
    pub control : Control clock.bank.kept regs new

-- a begin of it, which never halts
abbrev pub KeepBeginEndsLaw : Type 0
KeepBeginEndsLaw =
    (n m e : ℕ) (answer : Keep) (action : Action) (writer : LineWriter n m e) (xs : List (TimedEvent n m))
    (clock : ClockState n m e) (regs : RegsState n m e) (old new : ArrayState n m)
    → Leads xs clock old → clock.regs.writer ≡ None → clock.regs.halted ≡ false
    → IsKeepStep clock regs Beginning action answer writer (writing.line_of clock.regs clock.regs.change) None old new
    → answer ≢ keep.Halted → steps_left writer ≤ most_steps e
    → LeadsOn clock.bank.kept.shape xs (keep_completed clock action (KeepBegin answer) new) (after_keep clock regs action (KeepBegin answer)) old new

-- an iteration of it, by one step of its line write
abbrev pub KeepIterateEndsLaw : Type 0
KeepIterateEndsLaw =
    (n m e : ℕ) (answer : Keep) (action : Action) (xs : List (TimedEvent n m))
    (clock : ClockState n m e) (regs : RegsState n m e) (old new : ArrayState n m)
    → Leads xs clock old → (iteration : writing.IsIteration (ends clock.pace action) clock.regs regs answer old new)
    → IsKeepStep clock regs Iterating action answer iteration.now (writing.line_of clock.regs clock.regs.change) (writing.target_of clock.regs clock.regs.change) old new
    → LeadsOn clock.bank.kept.shape xs (keep_completed clock action (KeepIterate answer) new) (after_keep clock regs action (KeepIterate answer)) old new

-- Cuts

-- the array line that a cut tears where an iteration runs: that of the change that stands, or else that of the bank's line write
abbrev pub torn_line : {n m e : ℕ} → Bool → RegsState n m e → Option Change → Option (Operation n m e) → Option ℕ
torn_line true regs (Some change) running = Some (regs.base + change.item)
torn_line true regs None (Some op) = Some op.target
torn_line true regs None None = None
torn_line false regs change running = None

-- the calls of a power cut touch this together: that of the bank, which tears its line write where no change stands; that of the control
-- lines, which tears the change's line where one does; and the senses of control lines
abbrev pub CutTouchesLaw : Type 0
CutTouchesLaw =
    (n m e tick : ℕ) (tearing : Bool) (controls : List ℕ) (regs : RegsState n m e) (running : Option (Operation n m e)) (old between later new : ArrayState n m)
    → Touches tick [] (torn_line (tearing && not (is_some regs.change)) regs None running) (tearing && not (is_some regs.change)) old between
    → Touches tick [] (writing.torn_line (tearing && is_some regs.change) regs) (tearing && is_some regs.change) between later
    → Touches tick controls None false later new → Touches tick controls (torn_line tearing regs regs.change running) tearing old new

-- a power cut, which tears exactly where an iteration runs, a control line as the writing of the change does, and after which every
-- control line is read again
abbrev pub CutEndsLaw : Type 0
CutEndsLaw =
    (n m e : ℕ) (tearing : Bool) (xs : List (TimedEvent n m)) (clock : ClockState n m e) (bank : BankState n m e) (old new : ArrayState n m)
    → Leads xs clock old → IsFit clock.bank clock.regs clock.action → tearing ≡ is_doing Iterating clock.action
    → Holds (Cut (tears_now clock) ∷ core xs) bank new → bank.kept.shape ≡ clock.bank.kept.shape → bank.running ≡ None → bank.lost ≡ []
    → Control bank.kept (broken_off clock.regs) new
    → Touches clock.tick (all_controls clock.bank.kept.shape) (torn_line tearing clock.regs clock.regs.change clock.bank.running) tearing old new
    → AreStruck clock.bank.kept.shape (core xs) (Cut (tears_now clock))
    (torn_line tearing clock.regs clock.regs.change clock.bank.running) old new
    → TearsControl clock.regs (torn_line tearing clock.regs clock.regs.change clock.bank.running) old new
    → LeadsOn clock.bank.kept.shape xs (cut xs clock new) (after_cut clock bank) old new

-- a history reaches this clock and this array by a cancel, which adds what it touched
pub record ReachesBy {n m e : ℕ} (shape : BankShape) (xs : List (TimedEvent n m)) (x : TimedEvent n m) (clock : ClockState n m e) (old new : ArrayState n m) : Type 0 where
  pub reaches : Reaches (x ∷ xs) clock new
  pub adds : Adds shape (x ∷ []) old new

-- a cancel of the bank's line write
abbrev pub CancelEndsLaw : Type 0
CancelEndsLaw =
    (n m e line : ℕ) (tearing : Bool) (xs : List (TimedEvent n m)) (clock : ClockState n m e) (bank : BankState n m e) (old new : ArrayState n m)
    → Leads xs clock old → IsTrue (cancels_for clock line) → clock.regs.change ≡ None → tearing ≡ is_doing Iterating clock.action
    → Holds (Cut tearing ∷ core xs) bank new → bank.kept.shape ≡ clock.bank.kept.shape → bank.running ≡ None → bank.lost ≡ []
    → Control bank.kept clock.regs new
    → Touches clock.tick [] (torn_line tearing clock.regs clock.regs.change clock.bank.running) tearing old new
    → AreStruck clock.bank.kept.shape (core xs) (Cut tearing) (torn_line tearing clock.regs clock.regs.change clock.bank.running) old new
    → ReachesBy clock.bank.kept.shape xs (cancel xs clock) (after_cancel clock bank clock.regs) old new

-- a cancel of the writing of the change that stands
abbrev pub KeepCancelEndsLaw : Type 0
KeepCancelEndsLaw =
    (n m e line : ℕ) (tearing : Bool) (xs : List (TimedEvent n m)) (clock : ClockState n m e) (old new : ArrayState n m)
    → Leads xs clock old → IsTrue (cancels_for clock line) → IsTrue (is_some clock.regs.change) → IsFit clock.bank clock.regs clock.action
    → tearing ≡ is_doing Iterating clock.action → Control clock.bank.kept (broken_off clock.regs) new
    → Touches clock.tick [] (torn_line tearing clock.regs clock.regs.change clock.bank.running) tearing old new
    → TearsControl clock.regs (torn_line tearing clock.regs clock.regs.change clock.bank.running) old new
    → ReachesBy clock.bank.kept.shape xs (keep_cancel clock) (after_cancel clock clock.bank (broken_off clock.regs)) old new
