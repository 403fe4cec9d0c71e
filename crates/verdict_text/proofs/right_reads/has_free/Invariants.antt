use Rattle.std.proofs.Common.{◌≡◌, ◌+◌, drop}
use Rattle.std.specs.List.{list_any}
use Rattle.verdict_telling.specs.Offers.{is_within}
use Rattle.verdict_text.proofs.right_reads.has_free.Given as goal

-- none behind those so far is free
abbrev pub invariant-loop-tick : goal.invariant-loop-tick
invariant-loop-tick l =
    list_any (λ v. is_within l.from l.to l.taken (v + 1)) (drop l.tick-index l.taken) ≡ list_any (λ v. is_within l.from l.to l.taken (v + 1)) l.taken
