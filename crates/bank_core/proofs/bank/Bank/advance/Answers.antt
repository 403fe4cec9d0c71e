use Rattle.std.proofs.Common.{arith, ◌≡◌, ◌<◌, Some, sym, ap, subst, ◌∙◌}
use Rattle.std.specs.Prelude.{ℕ, IsTrue}
use Rattle.bank_shape.specs.{Shape.slots_of, declared.Work.Work}
use Rattle.power_recovery.specs.Kept.{target_slot}
use Rattle.bank_invariant.specs.State.{BankState}
use Rattle.bank_core.{specs.Running.{running_of, operation_of}, specs.Steps.is_some_work, proofs.Keeping.ready, proofs.Sizes.{bank_fits, running_fits}}
use Rattle.bank_core.proofs.bank.Bank.advance.Goals as goal

pub step-progress-requires : goal.step-progress-requires
step-progress-requires g c =
    let view : BankState g.row.B g.row.M g.row.E = record { kept = c.self.inside.kept; running = operation_of c.self.inside.running; waiting = c.self.inside.waiting.items; lost = c.self.inside.lost.items; rows_below = c.self.inside.rows_below } in
    let same : c.args.self.now ≡ view = cc in
    let value : c.self.inside.running ≡ Some c.in-Some.running = cc in
    let is : view.running ≡ Some (running_of c.in-Some.running) = ap (λ r. operation_of r) value in
    let start = ready c.args.self.now view (g.A.CellArray.state c.args.array.now) (running_of c.in-Some.running) same c.self.invariant.in_range c.requires.tied is in
    let layout = c.self.invariant.layout in
    (running_fits layout, (layout, (start.exists, (start.writing.more, start.writing.writes))))

pub done-requires : goal.done-requires
done-requires g c =
    let view : BankState g.row.B g.row.M g.row.E = record { kept = c.self.inside.kept; running = operation_of c.self.inside.running; waiting = c.self.inside.waiting.items; lost = c.self.inside.lost.items; rows_below = c.self.inside.rows_below } in
    let same : c.args.self.now ≡ view = cc in
    let value : c.self.inside.running ≡ Some c.in-Some.running = cc in
    let is : view.running ≡ Some (running_of c.in-Some.running) = ap (λ r. operation_of r) value in
    let start = ready c.args.self.now view (g.A.CellArray.state c.args.array.now) (running_of c.in-Some.running) same c.self.invariant.in_range c.requires.tied is in
    let some = subst (λ (w : Work). IsTrue (is_some_work w)) (sym c.step-progress.ensures.step.work) start.some in
    (bank_fits c.self.invariant.layout, (some, c.step-progress.ensures.step.work ∙ start.next))

pub slot_written-slot-requires : goal.slot_written-slot-requires
slot_written-slot-requires g c =
    let view : BankState g.row.B g.row.M g.row.E = record { kept = c.self.inside.kept; running = operation_of c.self.inside.running; waiting = c.self.inside.waiting.items; lost = c.self.inside.lost.items; rows_below = c.self.inside.rows_below } in
    let same : c.args.self.now ≡ view = cc in
    let value : c.self.inside.running ≡ Some c.in-Some.running = cc in
    let is : view.running ≡ Some (running_of c.in-Some.running) = ap (λ r. operation_of r) value in
    let start = ready c.args.self.now view (g.A.CellArray.state c.args.array.now) (running_of c.in-Some.running) same c.self.invariant.in_range c.requires.tied is in
    (bank_fits c.self.invariant.layout, c.step-progress.ensures.step.work ∙ start.next)

pub worn-requires : goal.worn-requires
worn-requires g c =
    let view : BankState g.row.B g.row.M g.row.E = record { kept = c.self.inside.kept; running = operation_of c.self.inside.running; waiting = c.self.inside.waiting.items; lost = c.self.inside.lost.items; rows_below = c.self.inside.rows_below } in
    let same : c.args.self.now ≡ view = cc in
    let value : c.self.inside.running ≡ Some c.in-Some.running = cc in
    let is : view.running ≡ Some (running_of c.in-Some.running) = ap (λ r. operation_of r) value in
    let start = ready c.args.self.now view (g.A.CellArray.state c.args.array.now) (running_of c.in-Some.running) same c.self.invariant.in_range c.requires.tied is in (
      bank_fits c.self.invariant.layout,
      subst (λ (s : ℕ). s < slots_of view.kept.shape)
          (sym (c.slot_written-slot.ensures ∙ ap (λ w. target_slot view.kept w) c.step-progress.ensures.step.work)) start.slot,
    )

pub returns-in-Stored-clause-step : goal.returns-in-Stored-clause-step
returns-in-Stored-clause-step g c = grind arith

pub returns-in-Worn-clause-step : goal.returns-in-Worn-clause-step
returns-in-Worn-clause-step g c = grind arith

pub returns-in-More-clause-step : goal.returns-in-More-clause-step
returns-in-More-clause-step g c = grind arith

pub returns-in-More-clause-in_range : goal.returns-in-More-clause-in_range
returns-in-More-clause-in_range g c = grind arith

pub returns-in-Stored-clause-in_range : goal.returns-in-Stored-clause-in_range
returns-in-Stored-clause-in_range g c = grind arith

pub returns-in-Worn-clause-in_range : goal.returns-in-Worn-clause-in_range
returns-in-Worn-clause-in_range g c = grind arith

pub unreachable-requires : goal.unreachable-requires
unreachable-requires g c = grind arith

pub unreachable-unreachable : goal.unreachable-unreachable
unreachable-unreachable g c = grind arith

pub invariant_of-self : goal.invariant_of-self
invariant_of-self g c = grind arith

pub invariant_of-self-in-Stored : goal.invariant_of-self-in-Stored
invariant_of-self-in-Stored g c = grind arith

pub invariant_of-self-in-Worn : goal.invariant_of-self-in-Worn
invariant_of-self-in-Worn g c = grind arith
