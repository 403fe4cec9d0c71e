use Rattle.std.proofs.Common.{◌≡◌, ◌+◌, ◌<◌, drop}
use Rattle.spare_pool.specs.Table.{line_from}
use Rattle.pcm_image.proofs.standing.line_of.Given as goal

-- what the retirements behind those that were looked through make of the line
abbrev pub invariant-loop-i : goal.invariant-loop-i
invariant-loop-i l =
    (line_from (l.slots + l.i) l.line (drop l.i l.replaced) l.slot ≡ line_from l.slots l.slot l.replaced l.slot)
    × (l.slot < l.slots → l.line < l.slots + l.i)
