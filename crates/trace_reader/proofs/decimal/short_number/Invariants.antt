use Rattle.std.proofs.Common.{◌^◌, ◌<◌}
use Rattle.trace_reader.proofs.Numbers.{Reads}
use Rattle.trace_reader.proofs.decimal.short_number.Given as goal

-- the characters so far are digits of this value, which is as small as so many can write
abbrev pub invariant-loop-digit : goal.invariant-loop-digit
invariant-loop-digit l = record { reads : Reads l.text l.digit-index l.value; small : l.value < 10 ^ l.digit-index }
