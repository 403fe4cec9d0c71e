use Rattle.std.proofs.Common.{◌∙◌, sym, subst, arith}
use Rattle.std.specs.Prelude.{IsSomeAnd, slice_get}
use Rattle.pcm_module.specs.{Asking.asked_for, Settling.IsAtTick}
use Rattle.disk_lines.{specs.Hearing.events_in, proofs.Asking.{has-later, passes-later}}
use Rattle.disk_lines.proofs.rows.RunningModule.pass_to.Goals as goal

pub returns-clause-has : goal.returns-clause-has
returns-clause-has g c =
    let old = c.args.self.now in
    let had = c.requires.has in
    let e = c.settle_bank.ensures in
    let led = e.replays had.history (asked_for (events_in old.watch.heard)) had.served.replays in
    has-later old.module c.settle_bank.new.self (g.A.CellArray.state old.array) (g.A.CellArray.state c.settle_bank.new.array) old.watch c.settle_bank.new.results had c.shape.ensures.in_range e.shape e.seed
    (e.going ∙ sym had.served.going) (c.rows.ensures.size ∙ sym c.rows.ensures.counted) led.0 c.args.tick e.goes_on.events led.1 (omega (arith, e.tick, c.requires.in_time)) e.rows

pub returns-clause-passes : goal.returns-clause-passes
returns-clause-passes g c =
    let old = c.args.self.now in
    let had = c.requires.has in
    let e = c.settle_bank.ensures in
    let led = e.replays had.history (asked_for (events_in old.watch.heard)) had.served.replays in
    passes-later old.module c.settle_bank.new.self (g.A.CellArray.state old.array) (g.A.CellArray.state c.settle_bank.new.array) old.watch c.settle_bank.new.results had c.shape.ensures.in_range e.shape e.seed
    (e.going ∙ sym had.served.going) (c.rows.ensures.size ∙ sym c.rows.ensures.counted) led.0 c.args.tick e.goes_on.events led.1 c.no_settle_takes_back_bytes.ensures e.tick c.requires.rises e.goes_on.rises

pub returns-clause-settled : goal.returns-clause-settled
returns-clause-settled g c =
    let e = c.settle_bank.ensures in
    subst (λ tick. IsSomeAnd (slice_get c.settle_bank.new.self.banks c.args.bank) (IsAtTick tick)) (sym e.tick) e.settled
