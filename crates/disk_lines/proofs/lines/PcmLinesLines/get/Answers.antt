use Rattle.std.proofs.Common.{◌≡◌, ℕ, ◌∙◌, List, ap, sym, subst}
use Rattle.std.specs.Prelude.{IfOk}
use Rattle.module_shape.specs.{Limits.IsShape, declared.raw.RawShape.RawShape}
use Rattle.row_rules.specs.Rows.{newest}
use Rattle.disk_lines.{specs.Asking.rows_heard, specs.Places.place_of, proofs.Asking.{rose-of, stops-later}, proofs.Making.stands-same}
use Rattle.ghost_list.specs.Items.{newest as listed}
use Rattle.disk_lines.proofs.lines.PcmLinesLines.get.Goals as goal

pub invariant_of-self : goal.invariant_of-self
invariant_of-self g c =
    let had = c.self.invariant in
    let was = c.self.inside.running in
    let now = c.read.new.self in
    let e = c.read.ensures in
    record {
      layout = had.layout;
      in_range = subst (λ (raw : RawShape). IsShape raw) (sym e.later.shape) had.in_range;
      shape = had.shape ∙ sym e.later.shape;
      seed = had.seed ∙ sym e.later.seed;
      has = e.has;
      stands = stands-same was.module now.module had.in_range was.watch.heard now.watch.heard (listed c.self.inside.puts) e.later had.stands e.same;
    }

pub returns-clause-bytes : goal.returns-clause-bytes
returns-clause-bytes g c =
    let had = c.self.invariant in
    let was = c.self.inside.running in
    let exists = rw (← c.self.view_is) at c.requires.exists in
    let place = c.place-place.ensures.place ∙ ap (λ (raw : RawShape). place_of raw c.self.inside.places.seed c.args.line) had.shape ∙ ap (λ (s : ℕ). place_of was.module.shape s c.args.line) had.seed in
    rw (← c.self.view_is) (subst (λ (xs : List ℕ). IfOk c.read.result (λ bytes. bytes ≡ xs)) (ap (newest (rows_heard was.watch.heard)) place ∙ sym (had.stands c.args.line exists)) c.read.ensures.bytes)

pub returns-clause-cause : goal.returns-clause-cause
returns-clause-cause g c =
    let was = c.self.inside.running in
    let now = c.read.new.self in
    rw (← c.self.view_is) (rose-of was.module now.module was.watch.heard now.watch.heard c.read.ensures.later c.read.result c.read.ensures.cause)

pub returns-clause-never_falls : goal.returns-clause-never_falls
returns-clause-never_falls g c =
    let was = c.self.inside.running in
    let now = c.read.new.self in
    rw (← c.self.view_is) (stops-later was.module now.module was.watch.heard now.watch.heard c.read.ensures.later)
