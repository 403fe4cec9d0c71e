use Rattle.std.proofs.Common.{arith, ◌≡◌, ◌∷◌, ap, sym, subst, ◌∙◌}
use Rattle.bank_model.specs.Events.{Cut}
use Rattle.bank_invariant.specs.{Holds.Holds, State.BankState, Steps.cut_off}
use Rattle.bank_core.{specs.Cutting.reads_lost, proofs.Cuts.{cut_holds, cut_tied, cut-is}, proofs.Touched.touches-cut}
use Rattle.bank_core.proofs.bank.Bank.cut.Goals as goal

pub returns-clause-tied : goal.returns-clause-tied
returns-clause-tied g c =
    rw (c.lose_reads.ensures, c.stop.ensures.bank)
    (cut_tied c.args.tearing c.args.self.now (g.A.CellArray.state c.args.array.now) (g.A.CellArray.state c.stop.new.array)
    c.stop.ensures.in_range c.requires.runs c.stop.ensures.quiet c.stop.ensures.torn c.requires.tied)

pub returns-clause-holds : goal.returns-clause-holds
returns-clause-holds g c =
    let same : c.lose_reads.new.self ≡ cut_off c.args.self.now =
    c.lose_reads.ensures ∙ ap (λ (b : BankState g.row.B g.row.M g.row.E). reads_lost b) c.stop.ensures.bank ∙ cut-is c.args.self.now c.requires.taken in
    λ h holds. subst (λ (b : BankState g.row.B g.row.M g.row.E). Holds (Cut c.args.tearing ∷ h) b (g.A.CellArray.state c.stop.new.array)) (sym same)
    (cut_holds c.args.tearing c.args.self.now (g.A.CellArray.state c.args.array.now) (g.A.CellArray.state c.stop.new.array)
    c.requires.runs c.stop.ensures.quiet c.stop.ensures.torn h holds)

pub returns-clause-touches : goal.returns-clause-touches
returns-clause-touches g c =
    touches-cut (g.A.CellArray.state c.args.array.now) (g.A.CellArray.state c.stop.new.array) c.args.tick c.args.tearing c.args.self.now.running
    c.requires.runs c.stop.ensures.quiet c.stop.ensures.torn

pub stop-requires : goal.stop-requires
stop-requires g c = grind arith

pub lose_reads-requires : goal.lose_reads-requires
lose_reads-requires g c = grind arith

pub returns-clause-quiet : goal.returns-clause-quiet
returns-clause-quiet g c = grind arith

pub returns-clause-torn : goal.returns-clause-torn
returns-clause-torn g c = grind arith

pub returns-clause-bank : goal.returns-clause-bank
returns-clause-bank g c =
    c.lose_reads.ensures
    ∙ ap (λ (b : BankState g.row.B g.row.M g.row.E). reads_lost b) c.stop.ensures.bank
    ∙ cut-is c.args.self.now c.requires.taken
