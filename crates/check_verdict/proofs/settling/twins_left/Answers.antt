use Rattle.std.proofs.Common.{arith}
use Rattle.std.specs.Prelude.{nat_le, not}
use Rattle.check_verdict.{specs.declared.members.Member.Member, proofs.Twins.twins-less}
use Rattle.check_verdict.proofs.settling.twins_left.Goals as goal

pub returns-then-twins-eq0 : goal.returns-then-twins-eq0
returns-then-twins-eq0 c =
    let less = twins-less (λ (m : Member). not (nat_le m.end c.args.tick)) c.args.members.now in
    omega (arith, less, c.requires, c.if-twins-eq0.true)
