use Rattle.std.proofs.Common.{arith}
use Rattle.bank_core.proofs.{Keeping.{stepped-tied, stepped-holds, stepped-work}, Touched.touches-iteration}
use Rattle.bank_core.proofs.bank.Bank.iterate.Goals as goal

pub returns-clause-tied : goal.returns-clause-tied
returns-clause-tied g c =
    stepped-tied c.args.tick c.args.self.now c.advance-step.new.self c.advance-step.result (g.A.CellArray.state c.args.array.now) (g.A.CellArray.state c.advance-step.new.array)
    c.advance-step.ensures.in_range c.requires.runs c.requires.tied c.advance-step.ensures.step

pub returns-clause-holds : goal.returns-clause-holds
returns-clause-holds g c =
    stepped-holds c.args.tick c.args.self.now c.advance-step.new.self c.advance-step.result (g.A.CellArray.state c.args.array.now) (g.A.CellArray.state c.advance-step.new.array)
    c.requires.runs c.advance-step.ensures.step

pub returns-clause-touches : goal.returns-clause-touches
returns-clause-touches g c =
    touches-iteration (g.A.CellArray.state c.args.array.now) (g.A.CellArray.state c.advance-step.new.array) c.args.tick c.args.self.now c.advance-step.new.self c.advance-step.result
    c.args.self.now.running c.advance-step.ensures.step

pub advance-step-requires : goal.advance-step-requires
advance-step-requires g c = grind arith

pub returns-clause-step : goal.returns-clause-step
returns-clause-step g c = grind arith

pub returns-clause-work : goal.returns-clause-work
returns-clause-work g c =
    stepped-work c.args.self.now (g.A.CellArray.state c.args.array.now) c.work_in_progress-work.result c.requires.runs c.requires.tied c.work_in_progress-work.ensures

pub work_in_progress-work-requires : goal.work_in_progress-work-requires
work_in_progress-work-requires g c = grind arith
