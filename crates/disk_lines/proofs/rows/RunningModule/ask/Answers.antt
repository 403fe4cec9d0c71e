use Rattle.std.proofs.Common.{◌≡◌, ◌∙◌, ◌<◌, ap, refl, sym, subst, length, arith}
use Rattle.std.specs.Prelude.{IfSome, Option}
use Rattle.module_shape.specs.{Limits.total_of, declared.raw.RawShape.RawShape}
use Rattle.result_rows.specs.Outcomes.{bytes_of}
use Rattle.row_rules.specs.Rows.{newest}
use Rattle.disk_lines.{specs.Asking.rows_heard, specs.Hearing.events_in, proofs.Staying.kind-row, proofs.Reading.read-answers}
use Rattle.trace_reader.specs.declared.event.EventOp.TheVariants.{Read}
use Rattle.disk_lines.proofs.rows.RunningModule.ask.Goals as goal

pub returns-clause-more : goal.returns-clause-more
returns-clause-more g c =
    let waited = ap length c.in_ok-wait.ensures.events in
    let came = ap length c.hand_in.ensures.takes.events in
    (omega (arith, waited, came, c.next_tick.ensures.later.rows), omega (arith, waited, came, c.in_ok-tick.ensures.next.2))

pub returns-clause-bytes : goal.returns-clause-bytes
returns-clause-bytes g c =
    let ready = c.next_tick.new.self in
    let after = c.wait.new.self in
    let place = c.args.place in
    let events = c.in_ok-wait.ensures.events ∙ c.hand_in.ensures.takes.events in
    let here : place < total_of ready.module.shape = subst (λ (raw : RawShape). place < total_of raw) (sym c.next_tick.ensures.later.shape) c.requires.within in
    let there : place < total_of c.hand_in.new.self.module.shape = subst (λ (raw : RawShape). place < total_of raw) (sym c.hand_in.ensures.takes.later.shape) here in
    let same = c.wait.ensures.same place there ∙ c.hand_in.ensures.takes.newest place here ∙ c.next_tick.ensures.same place c.requires.within in
    subst (λ (o : Option _). IfSome o (λ bytes. bytes ≡ newest (rows_heard c.args.self.now.watch.heard) place)) (ap bytes_of (sym c.last.ensures.last) ∙ sym c.answer.ensures)
    (read-answers c.no_answer_is_wrong_meanwhile.ensures after.module (g.A.CellArray.state after.array) after.watch.heard c.wait.ensures.has c.shape.ensures.in_range
    c.in_ok-tick.tick place (events_in ready.watch.heard) events after.watch.rows (omega (arith, c.last.ensures.counted, ap length events)) after.watch.last c.last.ensures.newest
    (newest (rows_heard c.args.self.now.watch.heard) place) same)

pub returns-in_err-wait-clause-kind : goal.returns-in_err-wait-clause-kind
returns-in_err-wait-clause-kind g c =
    let old = c.next_tick.new.self in
    let now = c.hand_in.new.self in
    let state = g.A.CellArray.state in
    c.wait.ensures.kind
    ∙ kind-row old.module now.module (state old.array) (state now.array) old.watch now.watch old.cuts now.cuts c.hand_in.ensures.cuts c.hand_in.ensures.wear
    (record { tick = c.in_ok-tick.tick; op = Read c.args.place }) c.hand_in.ensures.takes refl c.in_ok-tick.ensures.quiet
    ∙ c.next_tick.ensures.kind

pub returns-clause-kind : goal.returns-clause-kind
returns-clause-kind g c =
    let old = c.next_tick.new.self in
    let now = c.hand_in.new.self in
    let state = g.A.CellArray.state in
    c.wait.ensures.kind
    ∙ kind-row old.module now.module (state old.array) (state now.array) old.watch now.watch old.cuts now.cuts c.hand_in.ensures.cuts c.hand_in.ensures.wear
    (record { tick = c.in_ok-tick.tick; op = Read c.args.place }) c.hand_in.ensures.takes refl c.in_ok-tick.ensures.quiet
    ∙ c.next_tick.ensures.kind
