use Rattle.std.proofs.Common.{◌≡◌, sym, subst, arith}
use Rattle.bank_timing.proofs.Sizes.{timed_fits}
use Rattle.clock_laws.specs.State.{ClockState}
use Rattle.row_stream.{specs.Answering.backlog_of, proofs.Nowhere.at-bank}
use Rattle.pcm_library.proofs.looking.look_at.Goals as goal

pub timed-requires : goal.timed-requires
timed-requires g c = (omega arith, (timed_fits g.row.B g.row.M g.row.E c.requires.layout, c.requires.exists))

pub returns : goal.returns
returns g c =
    subst (λ (clock : ClockState g.row.B g.row.M g.row.E). c.backlog.result ≡ backlog_of c.args.bank clock) (sym (at-bank c.args.pcm.now c.args.bank c.timed.result.now c.timed.ensures)) c.backlog.ensures

pub backlog-requires : goal.backlog-requires
backlog-requires g c = (timed_fits g.row.B g.row.M g.row.E c.requires.layout, c.requires.layout)
