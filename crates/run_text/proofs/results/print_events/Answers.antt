use Rattle.std.proofs.Common.{rules, ◌≡◌, ◌+◌, ◌-◌, ◌∙◌, Some, sym, arith}
use Rattle.std.specs.Prelude.{slice_get}
use Rattle.run_text.proofs.Rows.{rows-all, rows-more, rows-none, rows-stopped}
use Rattle.run_text.proofs.results.print_events.Goals as goal
use Rattle.masked_bytes.proofs.Lists.{item-at}

pub loop-i-init : goal.loop-i-init
loop-i-init g c = rows-none c.args.events.now c.args.results.now g.K.Sink.written g.K.Sink.faults _

pub returns-then-failed : goal.returns-then-failed
returns-then-failed g c =
    rows-stopped c.args.events.now c.args.results.now g.K.Sink.written g.K.Sink.faults c.loop-i.i _ _ (sym c.failed.ensures ∙ c.if-failed.true) c.loop-i.invariant

pub print_event-requires : goal.print_event-requires
print_event-requires g c =
    let at : slice_get c.args.events.now c.loop-i.i ≡ Some c.index-events-i.result = item-at c.args.events.now c.loop-i.i c.index-events-i.result c.loop-i-test.true c.index-events-i.is in
    let back : c.loop-i.i + 1 - 1 ≡ c.loop-i.i = omega arith in
    let outcome : slice_get c.args.results.now c.loop-i.i ≡ Some c.get.result.now = rw back at c.get.ensures in
    (search rules, (search rules, (omega (arith, c.requires.limit, c.loop-i.invariant.prints.limit), (c.requires.size, c.requires.printable.each c.loop-i.i c.index-events-i.result c.get.result.now at outcome))))

pub loop-i-preserved : goal.loop-i-preserved
loop-i-preserved g c =
    let at : slice_get c.args.events.now c.loop-i.i ≡ Some c.index-events-i.result = item-at c.args.events.now c.loop-i.i c.index-events-i.result c.loop-i-test.true c.index-events-i.is in
    let back : c.loop-i.i + 1 - 1 ≡ c.loop-i.i = omega arith in
    let outcome : slice_get c.args.results.now c.loop-i.i ≡ Some c.get.result.now = rw back at c.get.ensures in
    rows-more c.args.events.now c.args.results.now g.K.Sink.written g.K.Sink.faults c.loop-i.i _ _ _ c.index-events-i.result c.get.result.now at outcome c.loop-i.invariant c.print_event.ensures

pub returns : goal.returns
returns g c = rows-all c.args.events.now c.args.results.now g.K.Sink.written g.K.Sink.faults c.loop-i.i _ _ c.loop-i-test.false c.loop-i.invariant
