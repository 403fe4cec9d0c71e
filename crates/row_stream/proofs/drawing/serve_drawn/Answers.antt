use Rattle.std.proofs.Common.{◌≡◌, ◌∙◌, ◌&&◌, ℕ, Bool, List, ap, refl, sym, subst, arith}
use Rattle.row_printer.specs.{Printing.table_told, Refusing.any_refused, declared.snapshot.Snapshot.Snapshot, declared.told.Shown.Shown, declared.told.Told.Told}
use Rattle.row_stream.{specs.Refusing.WentOn, specs.Serving.{IsServing, told_so_far}, proofs.Alike.told-same}
use Rattle.row_stream.proofs.Draws.{drawn-all, drawn-few, drawn-first, drawn-more, drawn-next, next-for, none-for, total-some}
use Rattle.row_stream.proofs.Refusals.{ends-all, ends-there, none-first, still-none}
use Rattle.row_stream.proofs.drawing.serve_drawn.Goals as goal
use Rattle.drawn_parts.specs.Parts.{drawn_for}
use Rattle.module_shape.specs.{Limits.total_of, declared.raw.RawShape.RawShape}
use Rattle.trace_reader.{specs.Events.AreEventsFor, specs.declared.event.Event.Event, proofs.Sizes.event_fits}
use Rattle.trace_gen.specs.Generated.{generated}
use Rattle.trace_stream.specs.Laws.{all_events}

pub rows-init : goal.rows-init
rows-init g c = record {
  drawn =
      λ raw own had.
      let lines : c.total.result ≡ total_of raw = c.total.ensures.number ∙ ap total_of c.shape.ensures.shape ∙ ap total_of had.served.shape in
      drawn-first raw own c.args.pcm.now (g.A.CellArray.state c.args.array.now) c.args.out.now.rows c.args.out.now.told c.args.out.now.prints c.args.out.now.snapshots c.long-generator.result c.total.result c.args.seed c.args.banks c.args.mix had lines
      c.requires.mix (c.long_events_are_lawful.ensures g.row.B c.args.seed c.total.result c.args.mix (rw c.total.ensures.number (total-some c.shape.result.now c.total.ensures.in_range)) (rw c.total.ensures.number c.total.ensures.in_range.few_in_all) c.requires.mix) c.long-generator.ensures;
  prints = refl;
  printing = λ before first h. h;
  none = λ is. none-first c.requires.begins.2;
  lawful =
      let generated = c.long_events_are_lawful.ensures g.row.B c.args.seed c.total.result c.args.mix (rw c.total.ensures.number (total-some c.shape.result.now c.total.ensures.in_range)) (rw c.total.ensures.number c.total.ensures.in_range.few_in_all) c.requires.mix in
      let lines : c.total.result ≡ total_of c.args.pcm.now.shape = c.total.ensures.number ∙ ap total_of c.shape.ensures.shape in
      subst (λ (k : ℕ). AreEventsFor k 0 c.long-generator.result) lines
      (subst (λ (events : List (Event g.row.B)). AreEventsFor c.total.result 0 events) (sym c.long-generator.ensures) generated.lawful);
  wear = refl;
}

pub serve_event-requires : goal.serve_event-requires
serve_event-requires g c =
    let s = c.requires.begins in
    let had = c.rows.invariant.drawn s.0 s.1 s.2 in
    let state = g.A.CellArray.state c.rows.array in (
      omega arith,
      (
        event_fits g.row.B c.requires.layout.shape.1,
        (
          omega arith,
          (
            c.requires.layout,
            (
              drawn-next s.0 s.1 c.rows.pcm state c.rows.out.rows c.rows.out.told c.rows.out.prints c.rows.out.snapshots _ (drawn_for s.0 c.args.seed c.args.banks c.rows.generator) c.rows.behind had c.in-Some.event (drawn_for s.0 c.args.seed c.args.banks c.next_for.new.generator) (next-for c.shape.result.now s.0 c.new-feistel.result c.address_bits.result c.args.seed c.args.banks c.rows.generator c.next_for.new.generator c.in-Some.event (c.shape.ensures.shape ∙ s.2.served.shape) c.new-feistel.ensures.keys c.address_bits.ensures.exact c.in-Some.ensures.next),
              (
                drawn-few s.0 s.1 c.rows.pcm state c.rows.out.rows c.rows.out.told c.rows.out.prints c.rows.out.snapshots _ (drawn_for s.0 c.args.seed c.args.banks c.rows.generator) c.rows.behind had,
                record { raw = s.0; seed = s.1; before = had.asked; serving = had.serving },
              ),
            ),
          ),
        ),
      ),
    )

pub rows-preserved : goal.rows-preserved
rows-preserved g c = record {
  drawn =
      λ raw own had.
      drawn-more raw own c.rows.pcm (g.A.CellArray.state c.rows.array) c.rows.out.rows c.rows.out.told c.rows.out.prints c.rows.out.snapshots (drawn_for raw c.args.seed c.args.banks (generated g.row.B c.args.seed (total_of raw) c.args.mix)) (drawn_for raw c.args.seed c.args.banks c.rows.generator) c.rows.behind
      (c.rows.invariant.drawn raw own had) c.in-Some.event (drawn_for raw c.args.seed c.args.banks c.next_for.new.generator) (next-for c.shape.result.now raw c.new-feistel.result c.address_bits.result c.args.seed c.args.banks c.rows.generator c.next_for.new.generator c.in-Some.event (c.shape.ensures.shape ∙ had.served.shape) c.new-feistel.ensures.keys c.address_bits.ensures.exact c.in-Some.ensures.next)
      c.serve_event.new.pcm (g.A.CellArray.state c.serve_event.new.array) c.serve_event.new.out.rows c.serve_event.new.out.told c.serve_event.new.out.prints c.serve_event.new.out.snapshots c.behind_event-behind.result
      (λ served. c.serve_event.ensures.serves.serving raw own (c.rows.invariant.drawn raw own had).asked served) c.rows.invariant.none c.behind_event-behind.ensures;
  prints = c.serve_event.ensures.serves.prints ∙ c.rows.invariant.prints;
  printing = λ before first h. c.serve_event.ensures.printing before first (c.rows.invariant.printing before first h);
  none = still-none c.args.stops _ (sym c.stops_behind.ensures ∙ c.if-stops_behind.false);
  lawful =
      let Lawful : List (Event g.row.B) → RawShape → Type 0 = λ events shape. AreEventsFor (total_of shape) 0 events in
      subst (Lawful c.next_for.new.generator) c.shape.ensures.shape
      (c.next_for.ensures.lawful 0 (subst (Lawful c.rows.generator) (sym c.shape.ensures.shape) c.rows.invariant.lawful));
  wear = c.serve_event.ensures.serves.wear ∙ c.rows.invariant.wear;
}

pub returns-then-broken-clause-few : goal.returns-then-broken-clause-few
returns-then-broken-clause-few g c =
    let s = c.requires.begins in
    let all = drawn_for s.0 c.args.seed c.args.banks (generated g.row.B c.args.seed (total_of s.0) c.args.mix) in
    let more = drawn-more s.0 s.1 c.rows.pcm (g.A.CellArray.state c.rows.array) c.rows.out.rows c.rows.out.told c.rows.out.prints c.rows.out.snapshots all (drawn_for s.0 c.args.seed c.args.banks c.rows.generator) c.rows.behind
    (c.rows.invariant.drawn s.0 s.1 s.2) c.in-Some.event (drawn_for s.0 c.args.seed c.args.banks c.next_for.new.generator) (next-for c.shape.result.now s.0 c.new-feistel.result c.address_bits.result c.args.seed c.args.banks c.rows.generator c.next_for.new.generator c.in-Some.event (c.shape.ensures.shape ∙ s.2.served.shape) c.new-feistel.ensures.keys c.address_bits.ensures.exact c.in-Some.ensures.next)
    c.serve_event.new.pcm (g.A.CellArray.state c.serve_event.new.array) c.serve_event.new.out.rows c.serve_event.new.out.told c.serve_event.new.out.prints c.serve_event.new.out.snapshots c.behind_event-behind.result
    (λ served. c.serve_event.ensures.serves.serving s.0 s.1 (c.rows.invariant.drawn s.0 s.1 s.2).asked served) c.rows.invariant.none c.behind_event-behind.ensures in
    drawn-few s.0 s.1 c.serve_event.new.pcm (g.A.CellArray.state c.serve_event.new.array) c.serve_event.new.out.rows c.serve_event.new.out.told c.serve_event.new.out.prints c.serve_event.new.out.snapshots all (drawn_for s.0 c.args.seed c.args.banks c.next_for.new.generator) c.behind_event-behind.result more

pub returns-then-broken-clause-stopped : goal.returns-then-broken-clause-stopped
returns-then-broken-clause-stopped g c = λ raw own had.
    let more = drawn-more raw own c.rows.pcm (g.A.CellArray.state c.rows.array) c.rows.out.rows c.rows.out.told c.rows.out.prints c.rows.out.snapshots (drawn_for raw c.args.seed c.args.banks (generated g.row.B c.args.seed (total_of raw) c.args.mix)) (drawn_for raw c.args.seed c.args.banks c.rows.generator) c.rows.behind
    (c.rows.invariant.drawn raw own had) c.in-Some.event (drawn_for raw c.args.seed c.args.banks c.next_for.new.generator) (next-for c.shape.result.now raw c.new-feistel.result c.address_bits.result c.args.seed c.args.banks c.rows.generator c.next_for.new.generator c.in-Some.event (c.shape.ensures.shape ∙ had.served.shape) c.new-feistel.ensures.keys c.address_bits.ensures.exact c.in-Some.ensures.next)
    c.serve_event.new.pcm (g.A.CellArray.state c.serve_event.new.array) c.serve_event.new.out.rows c.serve_event.new.out.told c.serve_event.new.out.prints c.serve_event.new.out.snapshots c.behind_event-behind.result
    (λ served. c.serve_event.ensures.serves.serving raw own (c.rows.invariant.drawn raw own had).asked served) c.rows.invariant.none c.behind_event-behind.ensures in
    (more.asked, more.serving, (all_events (drawn_for raw c.args.seed c.args.banks c.next_for.new.generator), more.drawn), more.went)

pub returns-then-broken-clause-printing : goal.returns-then-broken-clause-printing
returns-then-broken-clause-printing g c = λ before first h. c.serve_event.ensures.printing before first (c.rows.invariant.printing before first h)

pub returns-then-broken-clause-part : goal.returns-then-broken-clause-part
returns-then-broken-clause-part g c = λ before first h.
    let p = c.serve_event.ensures.printing before first (c.rows.invariant.printing before first h) in
    let is = sym c.broken.ensures ∙ c.if-broken.true in
    (p.part is, p.fault is)

-- a row was refused, and the stream is to stop there
pub returns-in-Ok-clause-served : goal.returns-in-Ok-clause-served
returns-in-Ok-clause-served g c = λ raw own had.
    let more = drawn-more raw own c.rows.pcm (g.A.CellArray.state c.rows.array) c.rows.out.rows c.rows.out.told c.rows.out.prints c.rows.out.snapshots (drawn_for raw c.args.seed c.args.banks (generated g.row.B c.args.seed (total_of raw) c.args.mix)) (drawn_for raw c.args.seed c.args.banks c.rows.generator) c.rows.behind
    (c.rows.invariant.drawn raw own had) c.in-Some.event (drawn_for raw c.args.seed c.args.banks c.next_for.new.generator) (next-for c.shape.result.now raw c.new-feistel.result c.address_bits.result c.args.seed c.args.banks c.rows.generator c.next_for.new.generator c.in-Some.event (c.shape.ensures.shape ∙ had.served.shape) c.new-feistel.ensures.keys c.address_bits.ensures.exact c.in-Some.ensures.next)
    c.serve_event.new.pcm (g.A.CellArray.state c.serve_event.new.array) c.serve_event.new.out.rows c.serve_event.new.out.told c.serve_event.new.out.prints c.serve_event.new.out.snapshots c.behind_event-behind.result
    (λ served. c.serve_event.ensures.serves.serving raw own (c.rows.invariant.drawn raw own had).asked served) c.rows.invariant.none c.behind_event-behind.ensures in
    let out = c.serve_event.new.out in
    let Went : ℕ → List (Told g.row.B) → Shown → List Snapshot → Type 0 = λ rows told prints snaps.
    (serving : IsServing raw own more.asked c.serve_event.new.pcm (g.A.CellArray.state c.serve_event.new.array) rows told prints snaps) × WentOn c.args.stops more.asked (told_so_far serving) in
    let both = told-same Went out.rows c.flush.new.self.rows out.told c.flush.new.self.told out.prints c.flush.new.self.prints out.snapshots c.flush.new.self.snapshots
    c.flush.ensures.rows c.flush.ensures.told c.flush.ensures.prints c.flush.ensures.snapshots (more.serving, more.went) in
    let none : any_refused (table_told c.flush.new.self) ≡ any_refused (table_told out) = rw (c.flush.ensures.rows, c.flush.ensures.told) refl in
    (more.asked, both.0, more.stands, ends-there both.0 c.args.stops both.1 (ap (λ (b : Bool). c.args.stops && b) none ∙ sym c.stops_behind.ensures ∙ c.if-stops_behind.true) _ _ (all_events (drawn_for raw c.args.seed c.args.banks c.next_for.new.generator), more.drawn))

pub returns-in-Ok-clause-few : goal.returns-in-Ok-clause-few
returns-in-Ok-clause-few g c =
    let s = c.requires.begins in
    let more = drawn-more s.0 s.1 c.rows.pcm (g.A.CellArray.state c.rows.array) c.rows.out.rows c.rows.out.told c.rows.out.prints c.rows.out.snapshots (drawn_for s.0 c.args.seed c.args.banks (generated g.row.B c.args.seed (total_of s.0) c.args.mix)) (drawn_for s.0 c.args.seed c.args.banks c.rows.generator) c.rows.behind
    (c.rows.invariant.drawn s.0 s.1 s.2) c.in-Some.event (drawn_for s.0 c.args.seed c.args.banks c.next_for.new.generator) (next-for c.shape.result.now s.0 c.new-feistel.result c.address_bits.result c.args.seed c.args.banks c.rows.generator c.next_for.new.generator c.in-Some.event (c.shape.ensures.shape ∙ s.2.served.shape) c.new-feistel.ensures.keys c.address_bits.ensures.exact c.in-Some.ensures.next)
    c.serve_event.new.pcm (g.A.CellArray.state c.serve_event.new.array) c.serve_event.new.out.rows c.serve_event.new.out.told c.serve_event.new.out.prints c.serve_event.new.out.snapshots c.behind_event-behind.result
    (λ served. c.serve_event.ensures.serves.serving s.0 s.1 (c.rows.invariant.drawn s.0 s.1 s.2).asked served) c.rows.invariant.none c.behind_event-behind.ensures in
    rw c.flush.ensures.rows (drawn-few s.0 s.1 c.serve_event.new.pcm (g.A.CellArray.state c.serve_event.new.array) c.serve_event.new.out.rows c.serve_event.new.out.told c.serve_event.new.out.prints c.serve_event.new.out.snapshots _ (drawn_for s.0 c.args.seed c.args.banks c.next_for.new.generator) c.behind_event-behind.result more)

pub returns-in-Ok-clause-printing : goal.returns-in-Ok-clause-printing
returns-in-Ok-clause-printing g c = λ before first h. c.flush.ensures.printing before first (c.serve_event.ensures.printing before first (c.rows.invariant.printing before first h))

pub returns-in-Ok-clause-written : goal.returns-in-Ok-clause-written
returns-in-Ok-clause-written g c = λ before first h. c.in-Ok.ensures.ok before first (c.serve_event.ensures.printing before first (c.rows.invariant.printing before first h))

pub returns-in-Err-clause-few : goal.returns-in-Err-clause-few
returns-in-Err-clause-few g c =
    let s = c.requires.begins in
    let more = drawn-more s.0 s.1 c.rows.pcm (g.A.CellArray.state c.rows.array) c.rows.out.rows c.rows.out.told c.rows.out.prints c.rows.out.snapshots (drawn_for s.0 c.args.seed c.args.banks (generated g.row.B c.args.seed (total_of s.0) c.args.mix)) (drawn_for s.0 c.args.seed c.args.banks c.rows.generator) c.rows.behind
    (c.rows.invariant.drawn s.0 s.1 s.2) c.in-Some.event (drawn_for s.0 c.args.seed c.args.banks c.next_for.new.generator) (next-for c.shape.result.now s.0 c.new-feistel.result c.address_bits.result c.args.seed c.args.banks c.rows.generator c.next_for.new.generator c.in-Some.event (c.shape.ensures.shape ∙ s.2.served.shape) c.new-feistel.ensures.keys c.address_bits.ensures.exact c.in-Some.ensures.next)
    c.serve_event.new.pcm (g.A.CellArray.state c.serve_event.new.array) c.serve_event.new.out.rows c.serve_event.new.out.told c.serve_event.new.out.prints c.serve_event.new.out.snapshots c.behind_event-behind.result
    (λ served. c.serve_event.ensures.serves.serving s.0 s.1 (c.rows.invariant.drawn s.0 s.1 s.2).asked served) c.rows.invariant.none c.behind_event-behind.ensures in
    rw c.flush.ensures.rows (drawn-few s.0 s.1 c.serve_event.new.pcm (g.A.CellArray.state c.serve_event.new.array) c.serve_event.new.out.rows c.serve_event.new.out.told c.serve_event.new.out.prints c.serve_event.new.out.snapshots _ (drawn_for s.0 c.args.seed c.args.banks c.next_for.new.generator) c.behind_event-behind.result more)

pub returns-in-Err-clause-stopped : goal.returns-in-Err-clause-stopped
returns-in-Err-clause-stopped g c = λ raw own had.
    let more = drawn-more raw own c.rows.pcm (g.A.CellArray.state c.rows.array) c.rows.out.rows c.rows.out.told c.rows.out.prints c.rows.out.snapshots (drawn_for raw c.args.seed c.args.banks (generated g.row.B c.args.seed (total_of raw) c.args.mix)) (drawn_for raw c.args.seed c.args.banks c.rows.generator) c.rows.behind
    (c.rows.invariant.drawn raw own had) c.in-Some.event (drawn_for raw c.args.seed c.args.banks c.next_for.new.generator) (next-for c.shape.result.now raw c.new-feistel.result c.address_bits.result c.args.seed c.args.banks c.rows.generator c.next_for.new.generator c.in-Some.event (c.shape.ensures.shape ∙ had.served.shape) c.new-feistel.ensures.keys c.address_bits.ensures.exact c.in-Some.ensures.next)
    c.serve_event.new.pcm (g.A.CellArray.state c.serve_event.new.array) c.serve_event.new.out.rows c.serve_event.new.out.told c.serve_event.new.out.prints c.serve_event.new.out.snapshots c.behind_event-behind.result
    (λ served. c.serve_event.ensures.serves.serving raw own (c.rows.invariant.drawn raw own had).asked served) c.rows.invariant.none c.behind_event-behind.ensures in
    let out = c.serve_event.new.out in
    let Went : ℕ → List (Told g.row.B) → Shown → List Snapshot → Type 0 = λ rows told prints snaps.
    (serving : IsServing raw own more.asked c.serve_event.new.pcm (g.A.CellArray.state c.serve_event.new.array) rows told prints snaps) × WentOn c.args.stops more.asked (told_so_far serving) in
    let both = told-same Went out.rows c.flush.new.self.rows out.told c.flush.new.self.told out.prints c.flush.new.self.prints out.snapshots c.flush.new.self.snapshots
    c.flush.ensures.rows c.flush.ensures.told c.flush.ensures.prints c.flush.ensures.snapshots (more.serving, more.went) in
    (more.asked, both.0, (all_events (drawn_for raw c.args.seed c.args.banks c.next_for.new.generator), more.drawn), both.1)

pub returns-in-Err-clause-printing : goal.returns-in-Err-clause-printing
returns-in-Err-clause-printing g c = λ before first h. c.flush.ensures.printing before first (c.serve_event.ensures.printing before first (c.rows.invariant.printing before first h))

pub returns-in-Err-clause-part : goal.returns-in-Err-clause-part
returns-in-Err-clause-part g c = λ before first h. c.in-Err.ensures.err before first (c.serve_event.ensures.printing before first (c.rows.invariant.printing before first h))

-- no row is left
pub returns-in-Ok-flush-clause-served : goal.returns-in-Ok-flush-clause-served
returns-in-Ok-flush-clause-served g c = λ raw own had.
    let d = c.rows.invariant.drawn raw own had in
    let out = c.rows.out in
    let Went : ℕ → List (Told g.row.B) → Shown → List Snapshot → Type 0 = λ rows told prints snaps. IsServing raw own d.asked c.rows.pcm (g.A.CellArray.state c.rows.array) rows told prints snaps in
    let serving : IsServing raw own d.asked c.rows.pcm (g.A.CellArray.state c.rows.array) c.flush-2.new.self.rows c.flush-2.new.self.told c.flush-2.new.self.prints c.flush-2.new.self.snapshots =
    told-same Went out.rows c.flush-2.new.self.rows out.told c.flush-2.new.self.told out.prints c.flush-2.new.self.prints out.snapshots c.flush-2.new.self.snapshots
    c.flush-2.ensures.rows c.flush-2.ensures.told c.flush-2.ensures.prints c.flush-2.ensures.snapshots d.serving in (
      d.asked,
      serving,
      d.stands,
      ends-all serving c.args.stops (λ is. rw (c.flush-2.ensures.rows, c.flush-2.ensures.told) (c.rows.invariant.none is)) _ _ (drawn-all raw own c.rows.pcm (g.A.CellArray.state c.rows.array) c.rows.out.rows c.rows.out.told c.rows.out.prints c.rows.out.snapshots _ (drawn_for raw c.args.seed c.args.banks c.rows.generator) c.rows.behind d (none-for c.shape.result.now raw c.new-feistel.result c.address_bits.result c.args.seed c.args.banks c.rows.generator (c.shape.ensures.shape ∙ had.served.shape) c.new-feistel.ensures.keys c.address_bits.ensures.exact c.in_default.ensures.next)),
    )

pub returns-in-Ok-flush-clause-few : goal.returns-in-Ok-flush-clause-few
returns-in-Ok-flush-clause-few g c =
    let s = c.requires.begins in
    rw c.flush-2.ensures.rows (drawn-few s.0 s.1 c.rows.pcm (g.A.CellArray.state c.rows.array) c.rows.out.rows c.rows.out.told c.rows.out.prints c.rows.out.snapshots _ (drawn_for s.0 c.args.seed c.args.banks c.rows.generator) c.rows.behind (c.rows.invariant.drawn s.0 s.1 s.2))

pub returns-in-Ok-flush-clause-printing : goal.returns-in-Ok-flush-clause-printing
returns-in-Ok-flush-clause-printing g c = λ before first h. c.flush-2.ensures.printing before first (c.rows.invariant.printing before first h)

pub returns-in-Ok-flush-clause-written : goal.returns-in-Ok-flush-clause-written
returns-in-Ok-flush-clause-written g c = λ before first h. c.in-Ok-flush.ensures.ok before first (c.rows.invariant.printing before first h)

pub returns-in-Err-flush-clause-few : goal.returns-in-Err-flush-clause-few
returns-in-Err-flush-clause-few g c =
    let s = c.requires.begins in
    rw c.flush-2.ensures.rows (drawn-few s.0 s.1 c.rows.pcm (g.A.CellArray.state c.rows.array) c.rows.out.rows c.rows.out.told c.rows.out.prints c.rows.out.snapshots _ (drawn_for s.0 c.args.seed c.args.banks c.rows.generator) c.rows.behind (c.rows.invariant.drawn s.0 s.1 s.2))

pub returns-in-Err-flush-clause-stopped : goal.returns-in-Err-flush-clause-stopped
returns-in-Err-flush-clause-stopped g c = λ raw own had.
    let d = c.rows.invariant.drawn raw own had in
    let out = c.rows.out in
    let Went : ℕ → List (Told g.row.B) → Shown → List Snapshot → Type 0 = λ rows told prints snaps.
    (serving : IsServing raw own d.asked c.rows.pcm (g.A.CellArray.state c.rows.array) rows told prints snaps) × WentOn c.args.stops d.asked (told_so_far serving) in
    let both = told-same Went out.rows c.flush-2.new.self.rows out.told c.flush-2.new.self.told out.prints c.flush-2.new.self.prints out.snapshots c.flush-2.new.self.snapshots
    c.flush-2.ensures.rows c.flush-2.ensures.told c.flush-2.ensures.prints c.flush-2.ensures.snapshots (d.serving, d.went) in
    (d.asked, both.0, (all_events (drawn_for raw c.args.seed c.args.banks c.rows.generator), d.drawn), both.1)

pub returns-in-Err-flush-clause-printing : goal.returns-in-Err-flush-clause-printing
returns-in-Err-flush-clause-printing g c = λ before first h. c.flush-2.ensures.printing before first (c.rows.invariant.printing before first h)

pub returns-in-Err-flush-clause-part : goal.returns-in-Err-flush-clause-part
returns-in-Err-flush-clause-part g c = λ before first h. c.in-Err-flush.ensures.err before first (c.rows.invariant.printing before first h)
