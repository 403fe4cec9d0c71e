use Rattle.spare_pool.proofs.Chains.{Newest}
use Rattle.spare_pool.proofs.Remap.find_line.Given as goal

-- the spares from this number on, counted down, are those of the chain that are left
abbrev pub invariant-loop-number : goal.invariant-loop-number
invariant-loop-number l = Newest l.self-inside.slots l.slot l.self-inside.replaced.items l.slot l.self-inside.used l.number

abbrev pub decreases-loop-number : goal.decreases-loop-number
decreases-loop-number l = l.number
