use Rattle.std.proofs.Common.{arith}
use Rattle.bank_invariant.proofs.Awaiting.{StandsAs-touched}
use Rattle.bank_core.proofs.Begun.{begin-holds, begin-tied}
use Rattle.bank_core.proofs.bank.Bank.begin.Goals as goal

pub returns-clause-tied : goal.returns-clause-tied
returns-clause-tied g c =
    begin-tied c.args.self.now c.begin_next-step.new.self c.begin_next-step.result (g.A.CellArray.state c.args.array.now) (g.A.CellArray.state c.begin_next-step.new.array)
    c.requires.ready c.begin_next-step.ensures.begins (StandsAs-touched c.args.tick _ (g.A.CellArray.state c.args.array.now) (g.A.CellArray.state c.begin_next-step.new.array) c.begin_next-step.ensures.touches) c.requires.tied

pub returns-clause-holds : goal.returns-clause-holds
returns-clause-holds g c =
    begin-holds c.args.self.now c.begin_next-step.new.self c.begin_next-step.result (g.A.CellArray.state c.args.array.now) (g.A.CellArray.state c.begin_next-step.new.array)
    c.requires.ready c.begin_next-step.ensures.begins (StandsAs-touched c.args.tick _ (g.A.CellArray.state c.args.array.now) (g.A.CellArray.state c.begin_next-step.new.array) c.begin_next-step.ensures.touches)

pub begin_next-step-requires : goal.begin_next-step-requires
begin_next-step-requires g c = grind arith

pub next_work-work-requires : goal.next_work-work-requires
next_work-work-requires g c = grind arith

pub returns-clause-begins : goal.returns-clause-begins
returns-clause-begins g c = grind arith

pub returns-clause-touches : goal.returns-clause-touches
returns-clause-touches g c = grind arith
