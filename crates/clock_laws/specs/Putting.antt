-- Which change an action puts that ends a line write of the bank.
use Rattle.std.specs.Prelude.{◌≡◌, ℕ, ◌+◌, ◌/◌, List, ◌∷◌, Option, Some, None}
use Rattle.masked_bytes.specs.Entries.{head_line}
use Rattle.cell_rows.specs.Device.{ArrayState}
use Rattle.spare_pool.specs.Table.{used_by}
use Rattle.power_recovery.specs.Kept.{KeptState, due_region}
use Rattle.bank_shape.specs.{declared.answer.Step.Step, declared.clock.Doing.Doing}
use Rattle.bank_shape.specs.declared.answer.Step.TheVariants as did
use Rattle.bank_model.specs.{Answers.MayHappen, Changes.item_if, Events.{BankEvent, Begin, Iterate}, Sensing.most_steps, Timing.{TimedEvent, Core, core}}
use Rattle.reg_lines.specs.{Keeping.with_change, Regs.RegsState}
use Rattle.register_laws.specs.{Items.item_values, Telling.AreTold}
use Rattle.clock_laws.specs.{Completing.{EndsDoing, IsAlone}, Leads.Leads, State.ClockState}

-- the region that is due to move
abbrev pub region_due : Option ℕ → ℕ
region_due None = 0
region_due (Some region) = region

-- the item that a step of a line write changes, by what the bank kept before it: the region of the head, or that which was due; the
-- spare that is given; or the mark
abbrev pub item_by : {n : ℕ} → KeptState n → Step → Option ℕ
item_by kept did.More = None
item_by kept (did.Stored row place) = item_if kept.shape.home (head_line kept.entries / kept.shape.lines)
item_by kept (did.Moved step) = item_if kept.shape.home (region_due (due_region kept))
item_by kept (did.Retired slot line) = item_if kept.shape.home (kept.shape.regions + used_by kept.table)
item_by kept did.Exhausted = item_if kept.shape.home (kept.shape.regions + kept.shape.spares)

-- the item that an event changes
abbrev pub item_with : {n : ℕ} → KeptState n → BankEvent n → Option ℕ
item_with kept (Begin answer) = item_by kept answer
item_with kept (Iterate answer) = item_by kept answer
item_with kept event = None

-- a change of an item with the values that are kept now, if there is one
abbrev pub put_if : {n m e : ℕ} → Option ℕ → KeptState n → RegsState n m e → RegsState n m e
put_if None kept regs = regs
put_if (Some item) kept regs = with_change (record { item = item; values = item_values kept item }) regs

-- the control lines with the change of the item that an event changes are told by the history
abbrev pub PutLaw : Type 0
PutLaw =
    (n m e : ℕ) (event : BankEvent n) (doing : Doing) (x : TimedEvent n m) (xs : List (TimedEvent n m)) (clock : ClockState n m e) (kept : KeptState n) (array : ArrayState n m)
    → Leads xs clock array → MayHappen clock.bank.kept.shape (core xs) (most_steps e) event → EndsDoing event doing → IsAlone event clock.regs.change
    → x.happens ≡ Core event → AreTold clock.bank.kept.shape (x ∷ xs) (put_if (item_with clock.bank.kept event) kept clock.regs)
