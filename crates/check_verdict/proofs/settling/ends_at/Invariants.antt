use Rattle.std.proofs.Common.{◌≡◌}
use Rattle.std.specs.Prelude.{drop, filter, nat_le, not}
use Rattle.check_verdict.specs.{Kept.{ended, least_end}, Members.never}
use Rattle.check_verdict.proofs.settling.ends_at.Given as goal

abbrev pub invariant-loop-member : goal.invariant-loop-member
invariant-loop-member l =
    (ended l.tick (drop l.member-index l.members) l.latest ≡ ended l.tick l.members l.fn.last)
    × (least_end l.first (filter (λ m. not (nat_le m.end l.tick)) (drop l.member-index l.members))
    ≡ least_end never (filter (λ m. not (nat_le m.end l.tick)) l.members))
