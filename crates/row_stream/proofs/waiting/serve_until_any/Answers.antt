use Rattle.std.proofs.Common.{◌≡◌, ◌∙◌, ◌∷◌, ℕ, List, arith, sym}
use Rattle.row_printer.specs.{declared.snapshot.Snapshot.Snapshot, declared.told.Shown.Shown, declared.told.Told.Told}
use Rattle.trace_stream.specs.declared.asked.Asked.TheVariants.{UntilAny}
use Rattle.row_stream.{specs.Serving.{IsServing, told_before, told_so_far}, proofs.Alike.told-same}
use Rattle.row_stream.proofs.waiting.serve_until_any.Goals as goal

pub wait_for_any-requires : goal.wait_for_any-requires
wait_for_any-requires g c =
    let s = c.requires.serving in
    let listens = c.listen.ensures in
    let out = c.args.out.now in
    let serving =
    told-same (λ k t p z. IsServing s.raw s.seed s.before c.args.pcm.now (g.A.CellArray.state c.args.array.now) k t p z)
    out.rows c.listen.new.self.rows out.told c.listen.new.self.told out.prints c.listen.new.self.prints out.snapshots c.listen.new.self.snapshots listens.rows listens.told listens.prints listens.snapshots s.serving in
    (omega arith, (omega arith, (c.requires.layout, (c.requires.rises, (c.requires.in_time, (listens.heard, record { raw = s.raw; seed = s.seed; before = s.before; serving = serving }))))))

pub returns-clause-serves : goal.returns-clause-serves
returns-clause-serves g c = record {
  serving = λ raw seed asked.
      let listens = c.listen.ensures in
      let out = c.args.out.now in
      let was = c.listen.new.self in
      let now = c.wait_for_any.new.out in
      let new = c.wait_for_any.new.pcm in
      let row = UntilAny (record { limit = c.args.until.now.limit; reached = new.tick }) in
      let P : ℕ → List (Told g.row.B) → Shown → List Snapshot → Type 0 = λ k t p z.
      (had : IsServing {n = g.row.B} {m = g.row.M} {e = g.row.E} raw seed asked c.args.pcm.now (g.A.CellArray.state c.args.array.now) k t p z)
      → (has : IsServing raw seed (row ∷ asked) new (g.A.CellArray.state c.wait_for_any.new.array) now.rows now.told now.prints now.snapshots)
      × (told_before row asked (told_so_far has) ≡ told_so_far had) in
      told-same P was.rows out.rows was.told out.told was.prints out.prints was.snapshots out.snapshots (sym listens.rows) (sym listens.told) (sym listens.prints) (sym listens.snapshots)
      (c.wait_for_any.ensures.serves.serving raw seed asked);
  prints = c.wait_for_any.ensures.serves.prints ∙ c.listen.ensures.prints;
  wear = c.wait_for_any.ensures.serves.wear;
}

pub returns-clause-printing : goal.returns-clause-printing
returns-clause-printing g c = λ before first h. c.wait_for_any.ensures.printing before first (c.listen.ensures.printing before first h)
