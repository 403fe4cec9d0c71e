use Rattle.std.proofs.Common.{arith, ◌≡◌, ℕ, ◌∷◌, [], ◌≤◌, ◌<◌, None, false, sym, ap, subst, ◌∙◌}
use Rattle.cell_rows.specs.Device.{ArrayState, LineState}
use Rattle.bank_shape.specs.{Shape.{slots_of, slot_at}, declared.BankShape.BankShape}
use Rattle.power_recovery.specs.Kept.{array_line}
use Rattle.bank_model.{specs.Touching.Touches, proofs.Touched.{touches-sense, touches-both}}
use Rattle.bank_invariant.specs.State.{BankState}
use Rattle.ecp_line.specs.Reading.{IsSoundLine}
use Rattle.bank_core.{specs.Beginning.IsOfSoundLine, specs.Running.operation_of, proofs.Begun.{copy-within, place-so, slot-sound}, proofs.Sizes.{bank_fits, cells_fits}}
use Rattle.bank_core.proofs.bank.Bank.begin_copy.Goals as goal

pub start_copy-requires : goal.start_copy-requires
start_copy-requires g c =
    let target : c.array_line-target.result ≡ array_line c.self.inside.kept (slot_at c.self.inside.kept.shape c.args.region c.args.step.to) =
    place-so c.self.inside.kept c.shape-2.result.now c.args.region c.args.step.to c.slot-2.result c.array_line-target.result
    c.shape-2.ensures.shape c.slot-2.ensures.exact c.array_line-target.ensures.line in
    let place : c.array_line-target.result ≡ array_line c.args.self.now.kept (slot_at c.args.self.now.kept.shape c.args.region c.args.step.to) =
    rw (← c.self.view_is) target in
    let bank : BankState g.row.B g.row.M g.row.E = (record {
      kept = c.self.inside.kept;
      running = operation_of c.self.inside.running;
      waiting = c.self.inside.waiting.items;
      lost = c.self.inside.lost.items;
      rows_below = c.self.inside.rows_below;
    }) in
    let sound : IsSoundLine g.row.E ((g.A.CellArray.state c.args.array.now).line c.array_line-target.result) =
    slot-sound bank (g.A.CellArray.state c.args.array.now) c.slot-2.result c.array_line-target.result (rw (← c.self.view_is) at c.requires.tied)
    (subst (λ (s : BankShape). c.slot-2.result < slots_of s) c.shape-2.ensures.shape c.slot-2.ensures.within) c.array_line-target.ensures.line in
    let held : ((g.A.CellArray.state c.args.array.now).line c.array_line-target.result).held ≡ c.sense-seen.result =
    ap (λ (l : LineState g.row.B g.row.M). l.held) (sym (c.sense-copied.ensures.step.line c.array_line-target.result)) ∙ sym c.sense-seen.ensures.cells in
    let of_sound : IsOfSoundLine g.row.E c.sense-seen.result = ((g.A.CellArray.state c.args.array.now).line c.array_line-target.result, held, sound) in
    let layout = c.self.invariant.layout in
    (bank_fits layout, (cells_fits layout, (layout, (c.requires.idle, (c.requires.next, (place, of_sound))))))

pub returns-clause-begins : goal.returns-clause-begins
returns-clause-begins g c =
    let source : c.array_line-source.result ≡ array_line c.self.inside.kept (slot_at c.self.inside.kept.shape c.args.region c.args.step.from) =
    place-so c.self.inside.kept c.shape.result.now c.args.region c.args.step.from c.slot.result c.array_line-source.result
    c.shape.ensures.shape c.slot.ensures.exact c.array_line-source.ensures.line in
    let bank : BankState g.row.B g.row.M g.row.E = (record {
      kept = c.self.inside.kept;
      running = operation_of c.self.inside.running;
      waiting = c.self.inside.waiting.items;
      lost = c.self.inside.lost.items;
      rows_below = c.self.inside.rows_below;
    }) in
    let sound : IsSoundLine g.row.E ((g.A.CellArray.state c.args.array.now).line c.array_line-target.result) =
    slot-sound bank (g.A.CellArray.state c.args.array.now) c.slot-2.result c.array_line-target.result (rw (← c.self.view_is) at c.requires.tied)
    (subst (λ (s : BankShape). c.slot-2.result < slots_of s) c.shape-2.ensures.shape c.slot-2.ensures.within) c.array_line-target.ensures.line in
    let held : ((g.A.CellArray.state c.args.array.now).line c.array_line-target.result).held ≡ c.sense-seen.result =
    ap (λ (l : LineState g.row.B g.row.M). l.held) (sym (c.sense-copied.ensures.step.line c.array_line-target.result)) ∙ sym c.sense-seen.ensures.cells in
    let from : c.array_line-source.result ≡ array_line c.args.self.now.kept (slot_at c.args.self.now.kept.shape c.args.region c.args.step.from) =
    rw (← c.self.view_is) source in
    c.start_copy.ensures (g.A.CellArray.state c.args.array.now) (g.A.CellArray.state c.sense-seen.new.self)
    (ap (λ (at : ℕ). ((g.A.CellArray.state c.args.array.now).line at).held) (sym from) ∙ sym c.sense-copied.ensures.cells)
    held sound
    (c.sense-seen.ensures.step.line c.array_line-target.result ∙ c.sense-copied.ensures.step.line c.array_line-target.result)

pub returns-clause-touches : goal.returns-clause-touches
returns-clause-touches g c =
    let source : c.array_line-source.result ≡ array_line c.self.inside.kept (slot_at c.self.inside.kept.shape c.args.region c.args.step.from) =
    place-so c.self.inside.kept c.shape.result.now c.args.region c.args.step.from c.slot.result c.array_line-source.result
    c.shape.ensures.shape c.slot.ensures.exact c.array_line-source.ensures.line in
    let target : c.array_line-target.result ≡ array_line c.self.inside.kept (slot_at c.self.inside.kept.shape c.args.region c.args.step.to) =
    place-so c.self.inside.kept c.shape-2.result.now c.args.region c.args.step.to c.slot-2.result c.array_line-target.result
    c.shape-2.ensures.shape c.slot-2.ensures.exact c.array_line-target.ensures.line in
    let from : c.array_line-source.result ≡ array_line c.args.self.now.kept (slot_at c.args.self.now.kept.shape c.args.region c.args.step.from) =
    rw (← c.self.view_is) source in
    let to : c.array_line-target.result ≡ array_line c.args.self.now.kept (slot_at c.args.self.now.kept.shape c.args.region c.args.step.to) =
    rw (← c.self.view_is) target in
    let old : ArrayState g.row.B g.row.M = g.A.CellArray.state c.args.array.now in
    let mid : ArrayState g.row.B g.row.M = g.A.CellArray.state c.sense-copied.new.self in
    let new : ArrayState g.row.B g.row.M = g.A.CellArray.state c.sense-seen.new.self in
    subst (λ (at : ℕ). Touches c.args.tick (array_line c.args.self.now.kept (slot_at c.args.self.now.kept.shape c.args.region c.args.step.from) ∷ at ∷ []) None false old new) to
    (subst (λ (at : ℕ). Touches c.args.tick (at ∷ c.array_line-target.result ∷ []) None false old new) from
    (touches-both c.args.tick (c.array_line-source.result ∷ []) (c.array_line-target.result ∷ []) old mid new
    (touches-sense c.args.tick c.array_line-source.result old mid c.sense-copied.ensures.step)
    (touches-sense c.args.tick c.array_line-target.result mid new c.sense-seen.ensures.step)))

pub shape-requires : goal.shape-requires
shape-requires g c = grind arith

pub slot-requires-clause-shape : goal.slot-requires-clause-shape
slot-requires-clause-shape g c = grind arith

pub slot-requires-clause-region_exists : goal.slot-requires-clause-region_exists
slot-requires-clause-region_exists g c =
    let within = copy-within c.self.inside.kept c.args.region c.args.step c.self.invariant.in_range (rw (← c.self.view_is) at c.requires.next) in
    subst (λ (s : BankShape). c.args.region < s.regions) (sym c.shape.ensures.shape) within.exists

pub slot-requires-clause-place_exists : goal.slot-requires-clause-place_exists
slot-requires-clause-place_exists g c =
    let within = copy-within c.self.inside.kept c.args.region c.args.step c.self.invariant.in_range (rw (← c.self.view_is) at c.requires.next) in
    subst (λ (s : BankShape). c.args.step.from ≤ s.lines) (sym c.shape.ensures.shape) within.from

pub array_line-source-requires : goal.array_line-source-requires
array_line-source-requires g c = grind arith

pub shape-requires-2 : goal.shape-requires-2
shape-requires-2 g c = grind arith

pub slot-requires-2-clause-shape : goal.slot-requires-2-clause-shape
slot-requires-2-clause-shape g c = grind arith

pub slot-requires-2-clause-region_exists : goal.slot-requires-2-clause-region_exists
slot-requires-2-clause-region_exists g c =
    let within = copy-within c.self.inside.kept c.args.region c.args.step c.self.invariant.in_range (rw (← c.self.view_is) at c.requires.next) in
    subst (λ (s : BankShape). c.args.region < s.regions) (sym c.shape-2.ensures.shape) within.exists

pub slot-requires-2-clause-place_exists : goal.slot-requires-2-clause-place_exists
slot-requires-2-clause-place_exists g c =
    let within = copy-within c.self.inside.kept c.args.region c.args.step c.self.invariant.in_range (rw (← c.self.view_is) at c.requires.next) in
    subst (λ (s : BankShape). c.args.step.to ≤ s.lines) (sym c.shape-2.ensures.shape) within.to

pub array_line-target-requires : goal.array_line-target-requires
array_line-target-requires g c = grind arith

pub sense-copied-requires : goal.sense-copied-requires
sense-copied-requires g c = grind arith

pub sense-seen-requires : goal.sense-seen-requires
sense-seen-requires g c = grind arith
