-- A bank settles: how many ticks its actions take at most, if nothing arrives.
use Rattle.std.proofs.Common.{◌≡◌, ℕ, ◌+◌, ◌-◌, ◌*◌, ◌^◌, ◌<◌, ◌≤◌, Bool, true, false, List, length, Option, Some, None, arith}
use Rattle.std.{specs.Prelude.IfSome, proofs.Math.Nat.le-mul_of_pos_right, proofs.lemmas.Nat.mul-le}
use Rattle.ecp_line.specs.Layout.{IsLayout, width}
use Rattle.line_writer.specs.{Writing.{steps_left, most_steps}, declared.writer.LineWriter.LineWriter}
use Rattle.spare_pool.specs.Table.{used_by}
use Rattle.power_recovery.specs.Kept.{KeptState, IsKept, due_region}
use Rattle.bank_shape.specs.{Acting.lasts, Pausing.IsPace, declared.clock.Action.Action, declared.clock.Doing.Doing}
use Rattle.bank_shape.specs.{declared.clock.Doing.TheVariants.{Serving, Beginning, Iterating}, declared.pace.Pace.Pace}
use Rattle.bank_model.{specs.After.due_moves, specs.Changes.rounds_after, specs.Timing.{ends, TimedEvent}, proofs.Within.due_moves-few}
use Rattle.cell_rows.specs.Device.{ArrayState}
use Rattle.bank_invariant.specs.State.{Operation}
use Rattle.clock_laws.specs.{Leads.Leads, Remaining.{actions_left, attempts_left, attempt_left, keeping_left, present_left, last_attempts}, State.ClockState}
use Rattle.register_laws.specs.Telling.{item_of}

few-pointers : (e w m : ℕ) → m ≤ 16 → e * (w + 1) + 1 ≤ 8 * m → e ≤ 127
few-pointers e w m few room =
    let more : e ≤ e * (w + 1) = le-mul_of_pos_right e (omega arith) in
    within (e * (w + 1)) more room
  where
    within : (p : ℕ) → e ≤ p → p + 1 ≤ 8 * m → e ≤ 127
    within p more room = omega (arith, few)

one-last : (b : Bool) → last_attempts b ≤ 1
one-last true = omega arith
one-last false = omega arith

few-sum : (entries due spares used last : ℕ) → entries ≤ 256 → due ≤ 1 → spares ≤ 1024 → last ≤ 1 → 2 * entries + due + (spares - used) + last ≤ 1538
few-sum entries due spares used last a b c d = omega (arith, a, b, c, d)

few-attempts : {n : ℕ} (kept : KeptState n) → IsKept kept → attempts_left kept ≤ 1538
few-attempts kept range =
    few-sum (length kept.entries) (due_moves (due_region kept)) kept.table.spares (used_by kept.table) (last_attempts kept.exhausted)
    (entries range.few_entries range.shape.few_writes) (due_moves-few (due_region kept)) (spares range.spares range.shape.few_spares) (one-last kept.exhausted)
  where
    entries : length kept.entries ≤ kept.shape.writes → kept.shape.writes ≤ 256 → length kept.entries ≤ 256
    entries h k = omega arith

    spares : kept.table.spares ≡ kept.shape.spares → kept.shape.spares ≤ 1024 → kept.table.spares ≤ 1024
    spares h k = omega arith

few-attempt : {n m e : ℕ} (running : Option (Operation n m e)) (done : ℕ) → IfSome running (λ op. done + steps_left op.writer ≤ most_steps e) → attempt_left running ≤ most_steps e + 1
few-attempt None done steps = omega arith
few-attempt {e = e} (Some op) done steps = by (steps_left op.writer) (most_steps e) steps
  where
    by : (left most : ℕ) → done + left ≤ most → left ≤ most + 1
    by left most h = omega arith

few-present : {n m e : ℕ} (item : Option ℕ) (halted : Bool) (writer : Option (LineWriter n m e)) (running : Option (Operation n m e)) (done rounds : ℕ)
    → IfSome running (λ op. done + steps_left op.writer ≤ most_steps e) → IfSome writer (λ writer. rounds + steps_left writer ≤ most_steps e)
    → present_left item halted writer running ≤ 2 * most_steps e + 3
few-present {e = e} None halted writer running done rounds steps others = by (attempt_left running) (most_steps e) (few-attempt running done steps)
  where
    by : (left most : ℕ) → left ≤ most + 1 → left ≤ 2 * most + 3
    by left most h = omega (arith, h)
few-present (Some item) true writer running done rounds steps others = omega arith
few-present {n} {m} {e} (Some item) false writer running done rounds steps others = by (keeping_left writer) (most_steps e) (few-keeping writer others)
  where
    few-keeping : (writer : Option (LineWriter n m e)) → IfSome writer (λ writer. rounds + steps_left writer ≤ most_steps e) → keeping_left writer ≤ most_steps e + 1
    few-keeping None others = omega arith
    few-keeping (Some writer) others = small (steps_left writer) (most_steps e) others
      where
        small : (left most : ℕ) → rounds + left ≤ most → left ≤ most + 1
        small left most h = omega (arith, h)

    by : (left most : ℕ) → left ≤ most + 1 → most + 2 + left ≤ 2 * most + 3
    by left most h = omega (arith, h)

few-in-all : (waiting most attempts one : ℕ) → waiting ≤ 256 → most ≤ 3064 → attempts ≤ 1538 → one ≤ 2 * most + 3 → waiting + (most + 2) * (2 * attempts) + one ≤ 10000000
few-in-all waiting most attempts one a b c d =
    sum ((most + 2) * (2 * attempts)) (mul-le (most + 2) (2 * attempts) 3066 3076 (omega (arith, b)) (omega (arith, c)))
  where
    sum : (p : ℕ) → p ≤ 3066 * 3076 → waiting + p + one ≤ 10000000
    sum p h = omega (arith, a, b, d, h)

pub few-actions : {n m e : ℕ} (xs : List (TimedEvent n m)) (clock : ClockState n m e) (array : ArrayState n m) → IsLayout n m e → Leads xs clock array → actions_left clock.bank clock.regs ≤ 10000000
few-actions {n} {m} {e} xs clock array layout leads =
    few-in-all (length clock.bank.waiting) (most_steps e) (attempts_left clock.bank.kept) (present_left (item_of clock.regs.change) clock.regs.halted clock.regs.writer clock.bank.running)
    (waiting leads.holds.few_waiting leads.holds.kept.shape.few_reads) (most e (few-pointers e (width n) m layout.shape.3 layout.room))
    (few-attempts clock.bank.kept leads.holds.kept)
    (few-present (item_of clock.regs.change) clock.regs.halted clock.regs.writer clock.bank.running _ (rounds_after xs) leads.holds.steps leads.regs.steps)
  where
    waiting : length clock.bank.waiting ≤ clock.bank.kept.shape.reads → clock.bank.kept.shape.reads ≤ 256 → length clock.bank.waiting ≤ 256
    waiting h k = omega arith

    most : (e : ℕ) → e ≤ 127 → 8 * (3 * e + 2) ≤ 3064
    most e h = omega arith

pub enough : (tick left : ℕ) → tick ≤ 2 ^ 40 → left ≤ 10000000 → tick + 255 * left ≤ 2 ^ 41
enough tick left h k = omega (arith, h, k)

-- an action ends within 255 ticks
pub ends-soon : {n m e : ℕ} (clock : ClockState n m e) (pace : Pace) (action : Action) → clock.pace ≡ pace → IsPace pace → action.first ≤ clock.tick → ends clock.pace action ≤ clock.tick + 255
ends-soon clock pace action is paced begun =
    rw is (sum (lasts pace.read pace.iter action.doing) (short action.doing))
  where
    short : (doing : Doing) → lasts pace.read pace.iter doing ≤ 255
    short Serving = paced.few_read
    short Beginning = paced.few_read
    short Iterating = paced.few_iter

    sum : (l : ℕ) → l ≤ 255 → action.first + l ≤ clock.tick + 255
    sum l h = omega (arith, h, begun)

pub spent : (tick new end left later : ℕ) → new ≡ end → end ≤ tick + 255 → later < left → tick + 255 * left ≤ 2 ^ 41 → new + 255 * later ≤ 2 ^ 41
spent tick new end left later is soon less within = omega (arith, is, soon, less, within)

pub within-of : (tick left : ℕ) → tick + 255 * left ≤ 2 ^ 41 → tick ≤ 2 ^ 41
within-of tick left h = omega (arith, h)
