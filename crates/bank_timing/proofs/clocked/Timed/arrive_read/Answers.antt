use Rattle.std.proofs.Common.{sym, ◌∙◌}
use Rattle.bank_timing.proofs.Cancels.{first-then, first-else, arrives-first}
use Rattle.bank_timing.proofs.clocked.Timed.arrive_read.Goals as goal

pub take_read-requires : goal.take_read-requires
take_read-requires g c =
    (assumption, ((c.requires.going.led.0, g.A.CellArray.state c.args.array.now, c.requires.going.led.1), (c.requires.exists, (c.requires.rises, (sym c.cancels_for.ensures ∙ c.if-cancels_for.false, (c.requires.going.unset, c.requires.fresh))))))

pub cancels_for-requires : goal.cancels_for-requires
cancels_for-requires g c = assumption

pub read_cancelled-requires : goal.read_cancelled-requires
read_cancelled-requires g c = (
  assumption,
  (c.requires.going.led, (c.requires.exists, (c.requires.rises, sym c.cancels_for.ensures ∙ c.if-cancels_for.true))),
)

pub returns-then-cancels_for : goal.returns-then-cancels_for
returns-then-cancels_for g c = record {
  arrives = arrives-first (λ xs. first-then xs c.args.self.now c.args.line (sym c.cancels_for.ensures ∙ c.if-cancels_for.true)) (c.read_cancelled.ensures.arrives (g.R.Outcomes.table c.args.results.now) c.requires.going.unset c.requires.fresh);
  goes_on = g.met.R.Outcomes.stands c.args.results.now;
}

pub returns-else-cancels_for : goal.returns-else-cancels_for
returns-else-cancels_for g c = record {
  arrives = arrives-first (λ xs. first-else xs c.args.self.now c.args.line (sym c.cancels_for.ensures ∙ c.if-cancels_for.false)) (c.take_read.ensures.arrives (g.A.CellArray.state c.args.array.now));
  goes_on = c.take_read.ensures.goes_on;
}
