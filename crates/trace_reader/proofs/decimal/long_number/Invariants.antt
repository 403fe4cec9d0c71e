use Rattle.trace_reader.proofs.Numbers.{Reads}
use Rattle.trace_reader.proofs.decimal.long_number.Given as goal

-- the characters so far are digits of this value
abbrev pub invariant-loop-digit : goal.invariant-loop-digit
invariant-loop-digit l = Reads l.text l.digit-index l.value
