use Rattle.std.proofs.Common.{◌≡◌, take}
use Rattle.masked_bytes.specs.Masked.{laid}
use Rattle.check_telling.proofs.newest.lay_numbers.Given as goal

abbrev pub invariant-loop-i : goal.invariant-loop-i
invariant-loop-i g l = l.under ≡ laid (take l.i l.numbers) (take l.i l.given) l.initial.under
