use Rattle.std.proofs.Common.{◌≡◌, sym, subst, arith}
use Rattle.bank_timing.proofs.Sizes.{bank_fits, timed_fits}
use Rattle.clock_laws.specs.State.{ClockState}
use Rattle.pcm_module.specs.Telling.{has_standing}
use Rattle.row_stream.proofs.Nowhere.{at-bank}
use Rattle.pcm_library.proofs.waiting.stands_in.Goals as goal

pub timed-requires : goal.timed-requires
timed-requires g c = (omega arith, (timed_fits g.row.B g.row.M g.row.E c.requires.layout, c.requires.exists))

pub bank-requires : goal.bank-requires
bank-requires g c = (timed_fits g.row.B g.row.M g.row.E c.requires.layout, bank_fits c.requires.layout)

pub stands-requires : goal.stands-requires
stands-requires g c = bank_fits c.requires.layout

pub returns : goal.returns
returns g c =
    subst (λ (clock : ClockState g.row.B g.row.M g.row.E). c.stands.result ≡ has_standing clock.bank c.args.row) (sym (at-bank c.args.pcm.now c.args.bank c.timed.result.now c.timed.ensures))
    (rw (← c.bank.ensures) c.stands.ensures)
