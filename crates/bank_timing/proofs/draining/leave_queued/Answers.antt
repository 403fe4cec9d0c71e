use Rattle.std.proofs.Common.{sym, arith}
use Rattle.bank_timing.proofs.Queued.{none-yet, one-queued, at-open, all-queued, below-of, past-of}
use Rattle.bank_timing.proofs.draining.leave_queued.Goals as goal

pub loop-index-init : goal.loop-index-init
loop-index-init g c = (none-yet c.args.kept.now.entries c.args.arrivals.now.items (g.R.Outcomes.table c.args.results.now) c.requires.ready, g.met.R.Outcomes.stands c.args.results.now)

pub queue_at-requires : goal.queue_at-requires
queue_at-requires g c =
    let below = below-of c.loop-index.index c.len-index-end.result _ c.loop-index-test.true c.len-index-end.ensures.len in (
      omega arith,
      (
        c.requires.few,
        (
          below,
          (
            below-of c.loop-index.index _ _ below (sym c.requires.ready.told),
            at-open c.args.kept.now.entries c.args.arrivals.now.items (g.R.Outcomes.table c.args.results.now) c.loop-index.index (g.R.Outcomes.table c.loop-index.results) below c.loop-index.invariant.0,
          ),
        ),
      ),
    )

pub loop-index-preserved : goal.loop-index-preserved
loop-index-preserved g c = (
  one-queued c.args.kept.now.entries c.args.arrivals.now.items (g.R.Outcomes.table c.args.results.now) c.loop-index.index (g.R.Outcomes.table c.loop-index.results) (g.R.Outcomes.table c.queue_at.new.results) c.loop-index.invariant.0 c.queue_at.ensures.queued,
  g.met.R.Outcomes.follows _ _ _ c.loop-index.invariant.1 c.queue_at.ensures.goes_on,
)

pub returns-clause-queued : goal.returns-clause-queued
returns-clause-queued g c =
    all-queued c.args.kept.now.entries c.args.arrivals.now.items (g.R.Outcomes.table c.args.results.now) c.loop-index.index (g.R.Outcomes.table c.loop-index.results)
    (past-of c.loop-index.index c.len-index-end.result _ c.loop-index-test.false c.len-index-end.ensures.len) c.loop-index.invariant.0

pub len-index-end-requires : goal.len-index-end-requires
len-index-end-requires g c = grind arith

pub loop-index-smaller : goal.loop-index-smaller
loop-index-smaller g c = grind arith

pub returns-clause-goes_on : goal.returns-clause-goes_on
returns-clause-goes_on g c = c.loop-index.invariant.1
