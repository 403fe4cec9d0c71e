use Rattle.std.proofs.Common.{◌≡◌, ◌≢◌, ◌⊎◌, ◌<◌, ◌∙◌, ◌++◌, ℕ, false, List, ap, inl, inr, refl, sym, subst, arith}
use Rattle.std.specs.Prelude.{IsSomeAnd, slice_get}
use Rattle.result_rows.specs.declared.Outcome.TheVariants.{Unset}
use Rattle.bank_model.specs.Timing.{TimedEvent}
use Rattle.bank_timing.{specs.Extending.{next_end, outcome_in}, proofs.Sizes.timed_fits}
use Rattle.pcm_module.specs.{Asking.asked_for, Settling.IsAtTick, State.bank_at}
use Rattle.row_printer.specs.Printing.{table_told}
use Rattle.trace_stream.specs.{Asked.events_in, declared.asked.Until.Until as Waited}
use Rattle.row_stream.{specs.Reaching.{CameBetween, CameBy, IsUnsetOrAt}, specs.Serving.IsNextTurn, proofs.Going.banks-order}
use Rattle.row_stream.proofs.Nowhere.{at-bank, at-tick, first-nowhere, known-nowhere, next-later, next-within, told-between, told-by-then}
use Rattle.row_stream.proofs.Turning.{gone-first, gone-more, serving-until, turn-order, turn-so}
use Rattle.row_stream.proofs.waiting.serve_until.Goals as goal

pub waits-init : goal.waits-init
waits-init g c =
    let e = c.settle.ensures in
    let on = c.settle.ensures.goes_on in
    let results = c.settle.new.results in
    let written = g.K.Sink.written in
    let faults = g.K.Sink.faults in
    record {
      came = λ raw seed asked had.
          let state = g.A.CellArray.state c.args.array.now in
          let after = g.A.CellArray.state c.settle.new.array in
          let out = c.args.out.now in
          let row = c.args.until.now.row in
          let limit = c.args.until.now.limit in
          let led = e.replays had.history (asked_for (events_in asked)) had.served.replays in
          let order = banks-order raw seed asked c.args.pcm.now state out.rows out.told out.prints out.snapshots had false written faults out results c.tells_once.ensures e.order in
          let changes =
          told-by-then had.history (events_in asked) c.args.pcm.now state (table_told out) had.served.replays c.shape.ensures.in_range c.settle.new.self after (table_told results) led.0 led.1
          e.shape e.seed c.tick-tick.result e.settled in
          gone-first raw seed asked c.args.pcm.now state out.rows out.told out.prints out.snapshots had (IsNextTurn row limit) c.settle.new.self after results.rows results.told
          e.shape e.seed e.going e.rows on.rows e.table e.replays c.tick-tick.result c.tick-tick.ensures e.tick e.settled
          (turn-so raw seed asked c.args.pcm.now state out.rows out.told out.prints out.snapshots had (IsNextTurn row limit) written faults (λ o. CameBy c.tick-tick.result o) out results on.rows had.served.size
          c.tells_once.ensures order changes);
      settled = λ bank there. subst (λ (t : ℕ). IsSomeAnd (slice_get c.settle.new.self.banks bank) (IsAtTick t)) (sym e.tick) (e.settled bank there);
      from = omega (arith, e.tick, c.tick-tick.ensures);
      within = omega (arith, e.tick, c.tick-tick.ensures, c.requires.rises);
      first = inl (e.tick ∙ c.tick-tick.ensures);
      prints = on.prints;
      snapshots = on.snapshots;
      printing = λ before first h. on.printing before first h;
      wear = e.stays.wear;
    }

pub timed-requires : goal.timed-requires
timed-requires g c = (omega arith, (timed_fits g.row.B g.row.M g.row.E c.requires.layout, c.in-Some.ensures.some.0))

pub next_end-next-requires : goal.next_end-next-requires
next_end-next-requires g c =
    let at = at-tick c.waits.pcm.tick (slice_get c.waits.pcm.banks c.in-Some.bank) c.timed.result.now c.timed.ensures (c.waits.invariant.settled c.in-Some.bank c.in-Some.ensures.some.0) in
    (timed_fits g.row.B g.row.M g.row.E c.requires.layout, omega (arith, at, c.waits.invariant.within, c.requires.in_time))

pub settle-requires-in-Some : goal.settle-requires-in-Some
settle-requires-in-Some g c =
    let s = c.requires.serving in
    let gone = c.waits.invariant.came s.raw s.seed s.before s.serving in
    let h : ℕ → List (TimedEvent g.row.B g.row.M) = λ bank. gone.added bank ++ s.serving.history bank in
    let some = c.in-Some.ensures.some in
    let clock = c.timed.result.now in
    let at = at-tick c.waits.pcm.tick (slice_get c.waits.pcm.banks c.in-Some.bank) clock c.timed.ensures (c.waits.invariant.settled c.in-Some.bank some.0) in
    let later =
    next-later h (events_in s.before) c.waits.pcm (g.A.CellArray.state c.waits.array) (table_told c.waits.out) gone.served.replays c.in-Some.ensures.shape c.in-Some.bank c.args.until.now.limit clock some.0 c.timed.ensures (omega (arith, at, some.2)) in
    let within = next-within c.args.until.now.limit clock in (
      omega arith,
      (
        gone.served.going,
        ((h, asked_for (events_in s.before), gone.served.replays), (omega (arith, at, later, c.next_end-next.ensures), omega (arith, within, c.next_end-next.ensures, c.requires.in_time))),
      ),
    )

pub waits-preserved : goal.waits-preserved
waits-preserved g c =
    let inv = c.waits.invariant in
    let e = c.settle-in-Some.ensures in
    let on = e.goes_on in
    let s = c.requires.serving in
    let gone = inv.came s.raw s.seed s.before s.serving in
    let h : ℕ → List (TimedEvent g.row.B g.row.M) = λ bank. gone.added bank ++ s.serving.history bank in
    let some = c.in-Some.ensures.some in
    let state = g.A.CellArray.state c.waits.array in
    let clock = c.timed.result.now in
    let at = at-tick c.waits.pcm.tick (slice_get c.waits.pcm.banks c.in-Some.bank) clock c.timed.ensures (inv.settled c.in-Some.bank some.0) in
    let later =
    next-later h (events_in s.before) c.waits.pcm state (table_told c.waits.out) gone.served.replays c.in-Some.ensures.shape c.in-Some.bank c.args.until.now.limit clock some.0 c.timed.ensures (omega (arith, at, some.2)) in
    let within = next-within c.args.until.now.limit clock in
    let led = e.quiet h (asked_for (events_in s.before)) gone.served.replays in
    let results = c.settle-in-Some.new.results in
    let after = g.A.CellArray.state c.settle-in-Some.new.array in
    let next = c.next_end-next.result in
    let first : IsUnsetOrAt next (outcome_in (table_told results) c.args.until.now.row) =
    first-nowhere h (events_in s.before) c.waits.pcm state (table_told c.waits.out) gone.served.replays c.in-Some.ensures.shape c.settle-in-Some.new.self after (table_told results) led.0 led.1
    e.shape e.seed next e.settled led.2 c.in-Some.bank c.args.until.now.limit c.args.until.now.row clock some.0 c.timed.ensures some.1 c.next_end-next.ensures in
    let rises : c.waits.pcm.tick < next = omega (arith, at, later, c.next_end-next.ensures) in
    let ends : next ≡ next_end c.args.until.now.limit (bank_at c.waits.pcm c.in-Some.bank) =
    c.next_end-next.ensures ∙ ap (λ k. next_end c.args.until.now.limit k) (sym (at-bank c.waits.pcm c.in-Some.bank clock c.timed.ensures)) in
    record {
      came = λ raw seed asked had.
          let out = c.args.out.now in
          let row = c.args.until.now.row in
          let limit = c.args.until.now.limit in
          let was = g.A.CellArray.state c.args.array.now in
          let stood = c.waits.out in
          let gone = inv.came raw seed asked had in
          let h : ℕ → List (TimedEvent g.row.B g.row.M) = λ bank. gone.added bank ++ had.history bank in
          let led = e.quiet h (asked_for (events_in asked)) gone.served.replays in
          let order = turn-order raw seed asked c.args.pcm.now was out.rows out.told out.prints out.snapshots had (IsNextTurn row limit) c.waits.pcm state stood.rows stood.told gone
          g.K.Sink.written g.K.Sink.faults stood results c.tells_once-in-Some.ensures e.order in
          let changes =
          told-between h (events_in asked) c.waits.pcm state (table_told stood) gone.served.replays c.in-Some.ensures.shape c.settle-in-Some.new.self after (table_told results) led.0 led.1
          e.shape e.seed next e.settled c.waits.pcm.tick rises inv.settled led.2 in
          gone-more raw seed asked c.args.pcm.now was out.rows out.told out.prints out.snapshots had (IsNextTurn row limit) c.waits.pcm state stood.rows stood.told gone
          c.settle-in-Some.new.self after results.rows results.told e.shape e.seed e.going e.rows on.rows e.table e.replays next rises e.tick e.settled (c.in-Some.bank, some.0, some.1, ends)
          (turn-so raw seed asked c.args.pcm.now was out.rows out.told out.prints out.snapshots had (IsNextTurn row limit) g.K.Sink.written g.K.Sink.faults (λ o. CameBetween c.waits.pcm.tick next o) stood results on.rows
          gone.served.size c.tells_once-in-Some.ensures order changes);
      settled = λ bank there. subst (λ (t : ℕ). IsSomeAnd (slice_get c.settle-in-Some.new.self.banks bank) (IsAtTick t)) (sym e.tick) (e.settled bank there);
      from = omega (arith, e.tick, inv.from, at, later, c.next_end-next.ensures);
      within = omega (arith, e.tick, within, c.next_end-next.ensures);
      first = inr (subst (λ (t : ℕ). IsUnsetOrAt t (outcome_in (table_told results) c.args.until.now.row)) (sym e.tick) first);
      prints = on.prints ∙ inv.prints;
      snapshots = on.snapshots ∙ inv.snapshots;
      printing = λ before first h. on.printing before first (inv.printing before first h);
      wear = e.stays.wear ∙ inv.wear;
    }

pub waits-smaller : goal.waits-smaller
waits-smaller g c =
    let s = c.requires.serving in
    let gone = c.waits.invariant.came s.raw s.seed s.before s.serving in
    let some = c.in-Some.ensures.some in
    let clock = c.timed.result.now in
    let at = at-tick c.waits.pcm.tick (slice_get c.waits.pcm.banks c.in-Some.bank) clock c.timed.ensures (c.waits.invariant.settled c.in-Some.bank some.0) in
    let later =
    next-later (λ bank. gone.added bank ++ s.serving.history bank) (events_in s.before) c.waits.pcm (g.A.CellArray.state c.waits.array) (table_told c.waits.out) gone.served.replays c.in-Some.ensures.shape c.in-Some.bank c.args.until.now.limit clock some.0 c.timed.ensures (omega (arith, at, some.2)) in
    omega (arith, c.settle-in-Some.ensures.tick, at, later, c.next_end-next.ensures, some.2)

pub returns-clause-serves : goal.returns-clause-serves
returns-clause-serves g c = record {
  serving = λ raw seed before had.
      let inv = c.waits.invariant in
      let out = c.args.out.now in
      let gone = inv.came raw seed before had in
      let until : Waited = record { row = c.args.until.now.row; limit = c.args.until.now.limit; reached = c.waits.pcm.tick } in
      let named = c.requires.named in
      let known : (outcome_in (table_told c.waits.out) c.args.until.now.row ≢ Unset) ⊎ (c.waits.pcm.tick ≡ c.args.until.now.limit) = elim (c.in_default.ensures.none refl) [
        | inl above ↦ inr (omega (arith, above, inv.within))
        | inr nowhere ↦
            inl (known-nowhere (λ bank. gone.added bank ++ had.history bank) (events_in before) c.waits.pcm (g.A.CellArray.state c.waits.array) (table_told c.waits.out) gone.served.replays c.in_default.ensures.shape c.args.until.now.row
            named.0 (omega (arith, named.1, had.counted)) nowhere)
      ] in
      serving-until raw seed before c.args.pcm.now (g.A.CellArray.state c.args.array.now) out.rows out.told out.prints out.snapshots had c.waits.pcm (g.A.CellArray.state c.waits.array) c.waits.out.rows c.waits.out.told
      until gone c.settled.new.self.rows c.settled.new.self.told c.settled.new.self.prints c.settled.new.self.snapshots c.settled.ensures.rows (rw c.tick.ensures at c.settled.ensures.told) refl inv.settled (omega (arith, inv.within, c.requires.in_time))
      (record { from = inv.from; within = inv.within; known = known; first = inv.first }) (c.settled.ensures.prints ∙ inv.prints) (c.settled.ensures.snapshots ∙ inv.snapshots);
  prints = c.settled.ensures.prints ∙ c.waits.invariant.prints;
  wear = c.waits.invariant.wear;
}

pub returns-clause-printing : goal.returns-clause-printing
returns-clause-printing g c = λ before first h. c.settled.ensures.printing before first (c.waits.invariant.printing before first h)
