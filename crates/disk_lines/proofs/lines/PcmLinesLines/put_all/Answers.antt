use Rattle.std.proofs.Common.{ℕ, ◌∙◌, ap, replicate, sym, subst, true}
use Rattle.module_shape.specs.{Limits.IsShape, declared.raw.RawShape.RawShape}
use Rattle.pcm_io.specs.Faults.{Rose}
use Rattle.disk_lines.{specs.Asking.{LaysOver, stops_at}, specs.Places.place_of, proofs.Asking.{stops-later, stops-rose}, proofs.Disks.on-err}
use Rattle.ghost_list.specs.Items.{newest as listed}
use Rattle.disk_lines.proofs.Making.{stands-put, stands-same}
use Rattle.disk_lines.proofs.lines.PcmLinesLines.put_all.Goals as goal

pub invariant_of-self : goal.invariant_of-self
invariant_of-self g c =
    let had = c.self.invariant in
    let was = c.self.inside.running in
    let now = c.write_all.new.self in
    let e = c.write_all.ensures in
    record {
      layout = had.layout;
      in_range = subst (λ (raw : RawShape). IsShape raw) (sym e.later.shape) had.in_range;
      shape = had.shape ∙ sym e.later.shape;
      seed = had.seed ∙ sym e.later.seed;
      has = e.has;
      stands = stands-same was.module now.module had.in_range was.watch.heard now.watch.heard (listed c.self.inside.puts) e.later had.stands c.in_err-write_all.ensures.same;
    }

pub returns-in_err-write_all-clause-cause : goal.returns-in_err-write_all-clause-cause
returns-in_err-write_all-clause-cause g c =
    let was = c.self.inside.running in
    let now = c.write_all.new.self in
    rw (← c.self.view_is) (on-err c.from_residual.result (Rose (stops_at was.module.tick was.watch.heard) (stops_at now.module.tick now.watch.heard))
    (stops-rose was.module now.module was.watch.heard now.watch.heard c.write_all.ensures.later _ c.in_err-write_all.ensures.cause))

pub returns-in_err-write_all-clause-never_falls : goal.returns-in_err-write_all-clause-never_falls
returns-in_err-write_all-clause-never_falls g c =
    let was = c.self.inside.running in
    let now = c.write_all.new.self in
    rw (← c.self.view_is) (stops-later was.module now.module was.watch.heard now.watch.heard c.write_all.ensures.later)

pub invariant_of-self-2 : goal.invariant_of-self-2
invariant_of-self-2 g c =
    let had = c.self.invariant in
    let was = c.self.inside.running in
    let now = c.write_all.new.self in
    let e = c.write_all.ensures in
    let exists = rw (← c.self.view_is) at c.requires.exists in
    let place = c.place-place.ensures.place ∙ ap (λ (raw : RawShape). place_of raw c.self.inside.places.seed c.args.line) had.shape ∙ ap (λ (s : ℕ). place_of was.module.shape s c.args.line) had.seed in
    let lays = subst (λ (at : ℕ). LaysOver was.module now.module at c.args.bytes.now (replicate g.row.B true) was.watch.heard now.watch.heard) place c.in_ok-write_all.ensures.lays in
    rw c.and.ensures.newest (record {
      layout = had.layout;
      in_range = subst (λ (raw : RawShape). IsShape raw) (sym e.later.shape) had.in_range;
      shape = had.shape ∙ sym e.later.shape;
      seed = had.seed ∙ sym e.later.seed;
      has = e.has;
      stands = stands-put was.module now.module had.in_range was.watch.heard now.watch.heard (listed c.self.inside.puts) e.later had.stands
          (record { line = c.args.line; bytes = c.args.bytes.now; given = replicate g.row.B true }) exists lays;
    })

pub returns-clause-never_falls : goal.returns-clause-never_falls
returns-clause-never_falls g c =
    let was = c.self.inside.running in
    let now = c.write_all.new.self in
    rw (← c.self.view_is) (stops-later was.module now.module was.watch.heard now.watch.heard c.write_all.ensures.later)
