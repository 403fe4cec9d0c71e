use Rattle.std.proofs.Common.{◌≡◌, drop}
use Rattle.std.specs.Prelude.{None}
use Rattle.verdict_text.specs.ReadFacts.{givers_on}
use Rattle.verdict_text.proofs.read_facts.say_givers.Given as goal

-- the rows that gave the bytes so far are said
abbrev pub invariant-loop-at : goal.invariant-loop-at
invariant-loop-at g l =
    givers_on l.events l.results l.text.items l.at l.last (drop l.at l.givers) ≡ givers_on l.events l.results l.fn.text.items 0 None l.givers
