use Rattle.std.proofs.Common.{◌≡◌, take}
use Rattle.check_text.specs.Checked.{asks_in}
use Rattle.check_text.proofs.asks.asks.Given as goal

-- those of the events so far
abbrev pub invariant-loop-event : goal.invariant-loop-event
invariant-loop-event g l = l.asks.items ≡ asks_in (take l.event-index l.events)
