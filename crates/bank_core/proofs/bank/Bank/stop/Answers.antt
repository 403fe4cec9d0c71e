use Rattle.std.proofs.Common.{arith, ◌≡◌, Option, None, Some, ap, sym, subst}
use Rattle.std.specs.Prelude.{IfSome}
use Rattle.bank_invariant.specs.State.{BankState, Operation}
use Rattle.bank_core.{specs.Cutting.IsTorn, specs.Running.operation_of, proofs.Cuts.tearable, proofs.Sizes.writer_fits}
use Rattle.bank_core.proofs.bank.Bank.stop.Goals.{in-Some+then-tearing, in-Some+else-tearing, in_default}
use Rattle.bank_core.proofs.bank.Bank.stop.Goals as goal

pub tear-requires : goal.tear-requires
tear-requires g c =
    let view : BankState g.row.B g.row.M g.row.E = record { kept = c.self.inside.kept; running = operation_of c.self.inside.running; waiting = c.self.inside.waiting.items; lost = c.self.inside.lost.items; rows_below = c.self.inside.rows_below } in
    let same : c.args.self.now ≡ view = cc in
    let op : Operation g.row.B g.row.M g.row.E = record { work = c.in-Some.running.work; target = c.in-Some.running.target; writer = c.in-Some.running.writer } in
    let value : c.self.inside.running ≡ Some c.in-Some.running = cc in
    let is : view.running ≡ Some op = ap (λ r. operation_of r) value in
    let start = tearable c.args.self.now view (g.A.CellArray.state c.args.array.now) op same c.self.invariant.in_range c.requires.tied is in
    let layout = c.self.invariant.layout in
    (writer_fits layout, (layout, (start.exists, (start.writing.more, start.writing.writes))))

pub returns-clause-torn : goal.returns-clause-torn
returns-clause-torn g c =
    let P : Option (Operation g.row.B g.row.M g.row.E) → Type 0 =
    λ r. IfSome r (λ op. IsTorn op (g.A.CellArray.state c.args.array.now) (g.A.CellArray.state c.match-take.array)) in
    rw (← c.self.view_is)
    (elim c.match-take.branch [
      | in-Some+then-tearing w ↦ λ yes.
          let value : c.self.inside.running ≡ Some w.in-Some.running = cc in
          let torn : P (operation_of (Some w.in-Some.running)) = rw w.array-is (record { tear = w.tear.ensures.tear; unused = w.tear.ensures.unused; sound = w.tear.ensures.sound }) in
          subst P (sym (ap (λ r. operation_of r) value)) torn
      | in-Some+else-tearing w ↦ λ yes. let no = w.if-tearing.false in absurd cc
      | in_default w ↦ λ yes.
          let no = w.in_default in
          let value : c.self.inside.running ≡ None = cc in
          subst P (sym (ap (λ r. operation_of r) value)) tt
    ])

pub invariant_of-self : goal.invariant_of-self
invariant_of-self g c = grind arith

pub returns-clause-bank : goal.returns-clause-bank
returns-clause-bank g c = grind arith

pub returns-clause-in_range : goal.returns-clause-in_range
returns-clause-in_range g c = grind arith

pub returns-clause-room : goal.returns-clause-room
returns-clause-room g c = grind arith

pub returns-clause-quiet : goal.returns-clause-quiet
returns-clause-quiet g c = grind arith
