-- A bank that was just made, and time that passes.
use Rattle.std.proofs.Common.{◌+◌, ◌<◌, ◌≤◌, [], Option, None, is_some, sym, ap, subst, ◌∙◌, arith}
use Rattle.std.specs.Prelude.{IfSome}
use Rattle.bank_shape.specs.declared.clock.Action.{Action}
use Rattle.bank_model.specs.{Running.{chosen_after, running_at}, Timing.ends}
use Rattle.line_writer.specs.{Writing.{steps_left, most_steps}, declared.writer.LineWriter.LineWriter}
use Rattle.reg_lines.specs.declared.Change.{Change}
use Rattle.register_laws.specs.Telling.{item_of}
use Rattle.bank_invariant.specs.State.{Operation}
use Rattle.clock_laws.specs.{Leads.CopiesWhatItSensed, Passing.{PassingLaw, IdleLaw, EndingLaterLaw}, Starting.StartLaw}
use Rattle.clock_laws.proofs.{Ties.{started-same, next-runs, next-none, ends-later}, Wearing.has-aged-first}

pub passing_law : PassingLaw
passing_law n m e to xs clock array leads later above = record {
  lawful = leads.lawful;
  holds = leads.holds;
  told = record {
    now = omega (arith, leads.told.now, later);
    runs = next-runs xs clock array leads to later;
    to_come = above;
    arrived = leads.told.arrived;
    cancels = leads.told.cancels;
    whole = leads.told.whole;
  };
  regs = leads.regs;
  control = leads.control;
  pulses = leads.pulses;
  aged = leads.aged;
  copying = leads.copying;
  taken = leads.taken;
}

pub idle_law : IdleLaw
idle_law n m e xs clock array leads none = let idle = next-none xs clock array leads none in record { runs = idle.0; chosen = idle.1 }

pub ending_later_law : EndingLaterLaw
ending_later_law n m e clock some some_iter above = ends-later clock above some some_iter

pub start_law : StartLaw
start_law n m e clock array holds idle taken unchanged going unwritten control now none empty uncancelled fresh = record {
  lawful = tt;
  holds = holds;
  told = record {
    now = omega arith;
    runs =
        none
        ∙ sym (started-same None (chosen_after {n = n} {m = m} clock.bank.kept.shape clock.pace []) 0)
        ∙ ap (λ tick. running_at {n = n} {m = m} clock.bank.kept.shape clock.pace [] tick) (sym now);
    to_come = subst (λ (action : Option Action). IfSome action (λ a. clock.tick < ends clock.pace a)) (sym none) tt;
    arrived = empty;
    cancels = uncancelled;
    whole = tt;
  };
  regs = record {
    change = ap (λ (change : Option Change). item_of change) unchanged;
    writing = ap (λ (writer : Option (LineWriter n m e)). is_some writer) unwritten;
    halted = going;
    steps = subst (λ (writer : Option (LineWriter n m e)). IfSome writer (λ writer. 0 + steps_left writer ≤ most_steps e)) (sym unwritten) tt;
  };
  control = control;
  pulses = λ line below. (fresh line below).pulses;
  aged = has-aged-first clock.bank.kept.shape clock.regs array fresh;
  copying = subst (λ (r : Option (Operation n m e)). IfSome r (CopiesWhatItSensed {n = n} {m = m} [])) (sym idle) tt;
  taken = taken;
}
