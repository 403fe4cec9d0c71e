use Rattle.std.proofs.Common.{◌≡◌, sym, subst, arith}
use Rattle.bank_timing.proofs.Sizes.{timed_fits}
use Rattle.clock_laws.specs.State.{ClockState}
use Rattle.row_stream.proofs.Nowhere.{at-bank}
use Rattle.disk_lines.specs.Asking.{is_full}
use Rattle.disk_lines.proofs.rows.RunningModule.is_full.Goals as goal

pub timed-requires : goal.timed-requires
timed-requires g c = (omega arith, (timed_fits g.row.B g.row.M g.row.E c.requires.layout, c.requires.exists))

pub holds_all-requires : goal.holds_all-requires
holds_all-requires g c = (timed_fits g.row.B g.row.M g.row.E c.requires.layout, c.requires.layout)

pub returns : goal.returns
returns g c =
    subst (λ (clock : ClockState g.row.B g.row.M g.row.E). c.holds_all.result ≡ is_full clock) (sym (at-bank c.args.self.now.module c.args.bank c.timed.result.now c.timed.ensures)) c.holds_all.ensures
