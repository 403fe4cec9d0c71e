use Rattle.std.proofs.Common.{◌≡◌, ◌≤◌, ℕ, length}
use Rattle.trace_reader.specs.Events.{AreEventsFor}
use Rattle.module_shape.specs.Limits.{total_of}
use Rattle.drawn_parts.specs.Parts.{events_for, home_by}
use Rattle.drawn_parts.proofs.next_for.Given as goal

-- no event of theirs was drawn so far
abbrev pub invariant-events : goal.invariant-events
invariant-events g l = record {
  same : events_for (home_by l.feistel l.shape) l.fn.banks l.fn.generator ≡ events_for (home_by l.feistel l.shape) l.fn.banks l.generator;
  fewer : length l.generator ≤ length l.fn.generator;
  lawful : (before : ℕ) → AreEventsFor (total_of l.shape) before l.fn.generator → AreEventsFor (total_of l.shape) before l.generator;
}

abbrev pub decreases-events : goal.decreases-events
decreases-events g l = length l.generator
