-- What an event asks, by its operation.
use Rattle.std.proofs.Common.{◌≡◌, ℕ, List, sym, subst}
use Rattle.cell_rows.specs.Device.{ArrayState}
use Rattle.result_rows.specs.declared.Outcome.{Outcome}
use Rattle.trace_reader.specs.{Events.IsOpFor, declared.event.Event.Event, declared.event.EventOp.EventOp}
use Rattle.pcm_module.specs.{Asking.asked_by, State.ModuleState, Taking.Takes, Telling.TellsFor}
use Rattle.trace_rows.specs.Rows.{asks_of}

-- a row that was taken is the event's
pub takes_event : {n m e : ℕ} (row : ℕ) (event : Event n) (op : EventOp n) (old new : ModuleState n m e) (before after : ArrayState n m) (results recorded : List (Outcome n))
    → event.op ≡ op → Takes (record { row = row; tick = event.tick; asks = asks_of op }) old new before after results recorded
    → Takes (asked_by row event) old new before after results recorded
takes_event {n = n} row event op old new before after results recorded is taken =
    subst (λ (o : EventOp n). Takes (record { row = row; tick = event.tick; asks = asks_of o }) old new before after results recorded) (sym is) taken

-- so is its order
pub order_event : {n m e : ℕ} {R : Type 0} (goes_on : R → R → Type 0) (table : R → List (Outcome n)) (row : ℕ) (event : Event n) (op : EventOp n) (old : ModuleState n m e) (one two : R)
    → event.op ≡ op → TellsFor goes_on table old row (asks_of op) one two
    → TellsFor goes_on table old row (asks_of event.op) one two
order_event {n = n} goes_on table row event op old one two is order =
    subst (λ (o : EventOp n). TellsFor goes_on table old row (asks_of o) one two) (sym is) order

-- the operation of an event for a module's lines
pub op_for : {n : ℕ} (lines : ℕ) (event : Event n) (op : EventOp n) → event.op ≡ op → IsOpFor lines event.op → IsOpFor lines op
op_for {n = n} lines event op is h = subst (λ (o : EventOp n). IsOpFor lines o) is h
