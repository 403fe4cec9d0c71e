use Rattle.std.proofs.Common.{◌≡◌, ◌≢◌, ◌⊎◌, ◌<◌, ◌∙◌, ◌++◌, ℕ, false, [], List, Some, inl, inr, refl, sym, subst, arith}
use Rattle.std.{specs.Prelude.{All, IsSomeAnd, slice_get}, proofs.lemmas.List.Elements.All-weaker}
use Rattle.result_rows.specs.Outcomes.{tick_of}
use Rattle.bank_model.specs.Timing.{TimedEvent}
use Rattle.pcm_module.specs.{Asking.asked_for, Settling.IsAtTick}
use Rattle.row_printer.specs.{Printing.table_told, Telling.some_told}
use Rattle.trace_stream.specs.{Asked.events_in, declared.asked.UntilAny.UntilAny as Awaited}
use Rattle.row_stream.{specs.Reaching.{CameBetween, CameBy}, specs.Serving.IsFirstTurn, proofs.Going.banks-order, proofs.Order.ToldSo}
use Rattle.row_stream.proofs.Hearing.{all-behind, at-between, heard-told, some-more, told-some}
use Rattle.row_stream.proofs.{Nowhere.{first-later, told-by-then, told-there}, Turning.{ComeSo, gone-first, gone-more, serving-any, turn-order, turn-so}}
use Rattle.row_stream.proofs.waiting.wait_for_any.Goals as goal

pub turns-init : goal.turns-init
turns-init g c =
    let e = c.settle.ensures in
    let on = c.settle.ensures.goes_on in
    let results = c.settle.new.results in
    let written = g.K.Sink.written in
    let faults = g.K.Sink.faults in
    record {
      came = λ raw seed asked had.
          let state = g.A.CellArray.state c.args.array.now in
          let after = g.A.CellArray.state c.settle.new.array in
          let out = c.args.out.now in
          let limit = c.args.until.now.limit in
          let led = e.replays had.history (asked_for (events_in asked)) had.served.replays in
          let order = banks-order raw seed asked c.args.pcm.now state out.rows out.told out.prints out.snapshots had false written faults out results c.tells_once.ensures e.order in
          let changes =
          told-by-then had.history (events_in asked) c.args.pcm.now state (table_told out) had.served.replays c.shape.ensures.in_range c.settle.new.self after (table_told results) led.0 led.1
          e.shape e.seed c.tick-tick.result e.settled in
          let so =
          turn-so raw seed asked c.args.pcm.now state out.rows out.told out.prints out.snapshots had (IsFirstTurn limit) written faults (λ o. CameBy c.tick-tick.result o) out results on.rows had.served.size
          c.tells_once.ensures order changes in (
            gone-first raw seed asked c.args.pcm.now state out.rows out.told out.prints out.snapshots had (IsFirstTurn limit) c.settle.new.self after results.rows results.told
                e.shape e.seed e.going e.rows on.rows e.table e.replays c.tick-tick.result c.tick-tick.ensures e.tick e.settled so,
            heard-told written faults out results on _ so c.requires.listens,
            inl (e.tick ∙ c.tick-tick.ensures),
          );
      shape = rw e.shape c.shape.ensures.in_range;
      settled = λ bank there. subst (λ (t : ℕ). IsSomeAnd (slice_get c.settle.new.self.banks bank) (IsAtTick t)) (sym e.tick) (e.settled bank there);
      from = omega (arith, e.tick, c.tick-tick.ensures);
      within = omega (arith, e.tick, c.tick-tick.ensures, c.requires.rises);
      prints = on.prints;
      snapshots = on.snapshots;
      printing = λ before first h. on.printing before first h;
      wear = e.stays.wear;
    }

pub settle-requires-in-Some : goal.settle-requires-in-Some
settle-requires-in-Some g c =
    let s = c.requires.serving in
    let inv = c.turns.invariant in
    let gone = (inv.came s.raw s.seed s.before s.serving).0 in
    let h : ℕ → List (TimedEvent g.row.B g.row.M) = λ bank. gone.added bank ++ s.serving.history bank in
    let some = c.in-Some.ensures.some in
    let later =
    first-later h (events_in s.before) c.turns.pcm (g.A.CellArray.state c.turns.array) (table_told c.turns.out) gone.served.replays inv.shape c.args.until.now.limit c.in-Some.next some.2 inv.settled some.1 in (
      omega arith,
      (
        gone.served.going,
        ((h, asked_for (events_in s.before), gone.served.replays), (omega (arith, later), omega (arith, some.1.0, c.requires.in_time))),
      ),
    )

pub turns-preserved : goal.turns-preserved
turns-preserved g c =
    let inv = c.turns.invariant in
    let e = c.settle-in-Some.ensures in
    let on = e.goes_on in
    let some = c.in-Some.ensures.some in
    let next = c.in-Some.next in
    let state = g.A.CellArray.state c.turns.array in
    let results = c.settle-in-Some.new.results in
    let after = g.A.CellArray.state c.settle-in-Some.new.array in
    let stood = c.turns.out in
    let low = c.turns.pcm.tick in
    let written = g.K.Sink.written in
    let faults = g.K.Sink.faults in
    let s = c.requires.serving in
    let first = (inv.came s.raw s.seed s.before s.serving).0 in
    let rises : low < next =
    first-later (λ bank. first.added bank ++ s.serving.history bank) (events_in s.before) c.turns.pcm state (table_told stood) first.served.replays inv.shape c.args.until.now.limit next some.2 inv.settled some.1 in
    record {
      came = λ raw seed asked had.
          let out = c.args.out.now in
          let limit = c.args.until.now.limit in
          let at_first = g.A.CellArray.state c.args.array.now in
          let was = inv.came raw seed asked had in
          let gone = was.0 in
          let h : ℕ → List (TimedEvent g.row.B g.row.M) = λ bank. gone.added bank ++ had.history bank in
          let led = e.quiet h (asked_for (events_in asked)) gone.served.replays in
          let order = turn-order raw seed asked c.args.pcm.now at_first out.rows out.told out.prints out.snapshots had (IsFirstTurn limit) c.turns.pcm state stood.rows stood.told gone
          written faults stood results c.tells_once-in-Some.ensures e.order in
          let changes =
          told-there h (events_in asked) c.turns.pcm state (table_told stood) gone.served.replays inv.shape c.settle-in-Some.new.self after (table_told results) led.0 led.1
          e.shape e.seed next e.settled led.2 limit some.1.1 in
          let so =
          turn-so raw seed asked c.args.pcm.now at_first out.rows out.told out.prints out.snapshots had (IsFirstTurn limit) written faults (λ o. tick_of o ≡ Some next) stood results on.rows
          gone.served.size c.tells_once-in-Some.ensures order changes in
          let between : ToldSo (ComeSo raw seed asked c.args.pcm.now at_first out.rows out.told out.prints out.snapshots had (IsFirstTurn limit) (λ o. CameBetween low next o)) stood.told results.told = record {
            outcomes = so.outcomes;
            told = so.told;
            are = (so.are.0, All-weaker (λ one. tick_of one.1 ≡ Some next) (λ one. CameBetween low next one.1) (λ one is. at-between low next rises one.1 is) so.outcomes so.are.1);
          } in
          let none : some_told gone.outcomes ≡ false = sym was.1 ∙ some.0 in (
            gone-more raw seed asked c.args.pcm.now at_first out.rows out.told out.prints out.snapshots had (IsFirstTurn limit) c.turns.pcm state stood.rows stood.told gone
                c.settle-in-Some.new.self after results.rows results.told e.shape e.seed e.going e.rows on.rows e.table e.replays next rises e.tick e.settled some.1 between,
            heard-told written faults stood results on _ so some.0 ∙ some-more gone.outcomes so.outcomes none,
            inr (subst (λ (t : ℕ). All (λ one. tick_of one.1 ≡ Some t) (gone.outcomes ++ so.outcomes)) (sym e.tick) (all-behind (λ o. tick_of o ≡ Some next) gone.outcomes so.outcomes none so.are.1)),
          );
      shape = rw e.shape inv.shape;
      settled = λ bank there. subst (λ (t : ℕ). IsSomeAnd (slice_get c.settle-in-Some.new.self.banks bank) (IsAtTick t)) (sym e.tick) (e.settled bank there);
      from = omega (arith, e.tick, inv.from, rises);
      within = omega (arith, e.tick, some.1.0);
      prints = on.prints ∙ inv.prints;
      snapshots = on.snapshots ∙ inv.snapshots;
      printing = λ before first h. on.printing before first (inv.printing before first h);
      wear = e.stays.wear ∙ inv.wear;
    }

pub turns-smaller : goal.turns-smaller
turns-smaller g c =
    let s = c.requires.serving in
    let inv = c.turns.invariant in
    let some = c.in-Some.ensures.some in
    let gone = (inv.came s.raw s.seed s.before s.serving).0 in
    let later =
    first-later (λ bank. gone.added bank ++ s.serving.history bank) (events_in s.before) c.turns.pcm (g.A.CellArray.state c.turns.array) (table_told c.turns.out) gone.served.replays inv.shape c.args.until.now.limit c.in-Some.next some.2 inv.settled some.1 in
    omega (arith, c.settle-in-Some.ensures.tick, later, some.2)

pub next_turn-requires : goal.next_turn-requires
next_turn-requires g c = (omega arith, (omega arith, (c.requires.layout, (c.requires.in_time, c.turns.invariant.settled))))

pub returns-clause-serves : goal.returns-clause-serves
returns-clause-serves g c = record {
  serving = λ raw seed before had.
      let inv = c.turns.invariant in
      let out = c.args.out.now in
      let was = inv.came raw seed before had in
      let gone = was.0 in
      let until : Awaited = record { limit = c.args.until.now.limit; reached = c.turns.pcm.tick } in
      let known : (gone.outcomes ≢ []) ⊎ (c.turns.pcm.tick ≡ c.args.until.now.limit) = elim (c.in_default.ensures.none refl) [
        | inl heard ↦ inl (told-some gone.outcomes (sym was.1 ∙ heard))
        | inr above ↦ inr (omega (arith, above, inv.within))
      ] in
      serving-any raw seed before c.args.pcm.now (g.A.CellArray.state c.args.array.now) out.rows out.told out.prints out.snapshots had c.turns.pcm (g.A.CellArray.state c.turns.array) c.turns.out.rows c.turns.out.told
      until gone c.settled.new.self.rows c.settled.new.self.told c.settled.new.self.prints c.settled.new.self.snapshots c.settled.ensures.rows (rw c.tick.ensures at c.settled.ensures.told) refl inv.settled (omega (arith, inv.within, c.requires.in_time))
      (record { from = inv.from; within = inv.within; known = known; first = was.2 }) (c.settled.ensures.prints ∙ inv.prints) (c.settled.ensures.snapshots ∙ inv.snapshots);
  prints = c.settled.ensures.prints ∙ c.turns.invariant.prints;
  wear = c.turns.invariant.wear;
}

pub returns-clause-printing : goal.returns-clause-printing
returns-clause-printing g c = λ before first h. c.settled.ensures.printing before first (c.turns.invariant.printing before first h)
