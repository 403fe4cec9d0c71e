use Rattle.std.proofs.Common.{arith, ◌≡◌, ℕ, ◌∷◌, [], None, false, sym, subst}
use Rattle.power_recovery.specs.Kept.{array_line}
use Rattle.bank_model.{specs.Touching.Touches, proofs.Touched.touches-sense}
use Rattle.bank_invariant.specs.State.{BankState}
use Rattle.ecp_line.specs.Reading.{IsSoundLine}
use Rattle.bank_core.{specs.Beginning.IsOfSoundLine, specs.Running.operation_of, proofs.Begun.{store-slot, store-sound}, proofs.Sizes.{bank_fits, cells_fits, kept_fits}}
use Rattle.bank_core.proofs.bank.Bank.begin_store.Goals as goal

pub array_line-target-requires : goal.array_line-target-requires
array_line-target-requires g c =
    let next = rw (← c.self.view_is) at c.requires.next in
    (kept_fits, store-slot c.self.inside.kept c.args.line c.args.slot c.self.invariant.in_range next)

pub start_store-requires : goal.start_store-requires
start_store-requires g c =
    let bank : BankState g.row.B g.row.M g.row.E = (record {
      kept = c.self.inside.kept;
      running = operation_of c.self.inside.running;
      waiting = c.self.inside.waiting.items;
      lost = c.self.inside.lost.items;
      rows_below = c.self.inside.rows_below;
    }) in
    let sound : IsSoundLine g.row.E ((g.A.CellArray.state c.args.array.now).line c.array_line-target.result) =
    store-sound bank (g.A.CellArray.state c.args.array.now) c.args.line c.args.slot c.array_line-target.result c.self.invariant.in_range
    (rw (← c.self.view_is) at c.requires.tied) (rw (← c.self.view_is) at c.requires.next) c.array_line-target.ensures.line in
    let place : c.array_line-target.result ≡ array_line c.args.self.now.kept c.args.slot = rw (← c.self.view_is) c.array_line-target.ensures.line in
    let held : IsOfSoundLine g.row.E c.sense-seen.result =
    ((g.A.CellArray.state c.args.array.now).line c.array_line-target.result, sym c.sense-seen.ensures.cells, sound) in
    let layout = c.self.invariant.layout in
    (bank_fits layout, (cells_fits layout, (layout, (c.requires.idle, (c.requires.next, (place, held))))))

pub returns-clause-begins : goal.returns-clause-begins
returns-clause-begins g c =
    let bank : BankState g.row.B g.row.M g.row.E = (record {
      kept = c.self.inside.kept;
      running = operation_of c.self.inside.running;
      waiting = c.self.inside.waiting.items;
      lost = c.self.inside.lost.items;
      rows_below = c.self.inside.rows_below;
    }) in
    let sound : IsSoundLine g.row.E ((g.A.CellArray.state c.args.array.now).line c.array_line-target.result) =
    store-sound bank (g.A.CellArray.state c.args.array.now) c.args.line c.args.slot c.array_line-target.result c.self.invariant.in_range
    (rw (← c.self.view_is) at c.requires.tied) (rw (← c.self.view_is) at c.requires.next) c.array_line-target.ensures.line in
    c.start_store.ensures (g.A.CellArray.state c.args.array.now) (g.A.CellArray.state c.sense-seen.new.self)
    (sym c.sense-seen.ensures.cells) sound (c.sense-seen.ensures.step.line c.array_line-target.result)

pub returns-clause-touches : goal.returns-clause-touches
returns-clause-touches g c =
    let place : c.array_line-target.result ≡ array_line c.args.self.now.kept c.args.slot = rw (← c.self.view_is) c.array_line-target.ensures.line in
    subst (λ (at : ℕ). Touches c.args.tick (at ∷ []) None false (g.A.CellArray.state c.args.array.now) (g.A.CellArray.state c.sense-seen.new.self)) place
    (touches-sense c.args.tick c.array_line-target.result (g.A.CellArray.state c.args.array.now) (g.A.CellArray.state c.sense-seen.new.self) c.sense-seen.ensures.step)

pub sense-seen-requires : goal.sense-seen-requires
sense-seen-requires g c = grind arith
