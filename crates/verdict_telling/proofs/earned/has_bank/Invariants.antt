use Rattle.std.proofs.Common.{◌≡◌, drop}
use Rattle.verdict_telling.specs.Earned.{has_bank}
use Rattle.verdict_telling.proofs.earned.has_bank.Given as goal

abbrev pub invariant-loop-one : goal.invariant-loop-one
invariant-loop-one l = has_bank l.bank (drop l.one-index l.some) ≡ has_bank l.bank l.some
