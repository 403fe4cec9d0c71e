use Rattle.std.proofs.Common.{subst, [], arith}
use Rattle.bank_invariant.specs.{Holds.Holds, State.BankState}
use Rattle.bank_timing.proofs.{Firsts.{first_leads, wide-controls, controls-fit}, Sizes.{bank_fits, regs_fits}}
use Rattle.bank_timing.proofs.clocked.Timed.new.Goals as goal

pub new-requires : goal.new-requires
new-requires g c = (bank_fits c.requires.layout, (c.requires.layout, c.requires.limits))

pub new-regs-requires : goal.new-regs-requires
new-regs-requires g c =
    rw (c.first_control.ensures, c.controls.ensures)
    (regs_fits g.row.B g.row.M g.row.E c.requires.layout, (c.requires.layout, (wide-controls c.args.shape g.row.B c.requires.wide, controls-fit c.args.shape c.requires.limits)))

pub returns-clause-leads : goal.returns-clause-leads
returns-clause-leads g c =
    rw (c.in_ok-bank.ensures.first, c.new-regs.ensures, c.first_control.ensures, c.controls.ensures, c.in_ok-arrivals.ensures)
    (λ array fresh. first_leads c.args.shape _ array c.requires.wide
    (subst (λ (b : BankState g.row.B g.row.M g.row.E). Holds [] b array) c.in_ok-bank.ensures.first (c.in_ok-bank.ensures.holds array fresh)) fresh)

pub returns-in_err-bank-clause-first : goal.returns-in_err-bank-clause-first
returns-in_err-bank-clause-first g c = grind arith

pub returns-in_err-bank-clause-leads : goal.returns-in_err-bank-clause-leads
returns-in_err-bank-clause-leads g c = grind arith

pub overflow_cast-shape : goal.overflow_cast-shape
overflow_cast-shape g c = omega (arith, c.requires.limits.few_writes)

pub returns-in_err-arrivals-clause-first : goal.returns-in_err-arrivals-clause-first
returns-in_err-arrivals-clause-first g c = grind arith

pub returns-in_err-arrivals-clause-leads : goal.returns-in_err-arrivals-clause-leads
returns-in_err-arrivals-clause-leads g c = grind arith

pub first_control-requires : goal.first_control-requires
first_control-requires g c = c.requires.limits

pub controls-requires : goal.controls-requires
controls-requires g c = c.requires.limits

pub invariant_of-result : goal.invariant_of-result
invariant_of-result g c = grind arith

pub returns-clause-first : goal.returns-clause-first
returns-clause-first g c = grind arith
