use Rattle.std.proofs.Common.{arith, ℕ, ◌+◌, ◌<◌, Option, IfSome, ap, sym, subst, ◌∙◌}
use Rattle.cell_rows.specs.Device.{LineState}
use Rattle.line_writer.specs.Writing.{HasBegun}
use Rattle.reg_lines.{specs.declared.Change.Change, proofs.Held.{HasStepped, held-stepped, held-same, done-holds, begun-goes, begun-fresh}, proofs.regs.RegLines.begin.Given.Over}
use Rattle.reg_lines.proofs.regs.RegLines.begin.Goals.{After-keep}
use Rattle.reg_lines.proofs.regs.RegLines.begin.Goals as goal

-- what was seen is what its line holds, which is sound
begun : (g : Over) (c : After-keep g) → HasBegun c.begin-writer.result.progress
begun g c =
    let held = rw (← c.self.view_is) at c.requires.held in
    let within : c.in-Some.change.item < c.self.inside.items = subst (λ (o : Option Change). IfSome o (λ change. change.item < c.self.inside.items)) c.in-Some.is c.self.invariant.item in
    c.begin-writer.ensures.begun ((g.A.CellArray.state c.args.array.now).line (c.self.inside.base + c.in-Some.change.item)) (sym c.sense-seen.ensures.cells)
    (held.sound c.in-Some.change.item within)

-- the writing of the change has begun
stepped : (g : Over) (c : After-keep g)
    → HasStepped {n = g.row.B} {m = g.row.M} {e = g.row.E} c.args.self.now (g.A.CellArray.state c.sense-seen.new.self) c.in-Some.change c.begin-writer.result
stepped g c =
    let held = rw (← c.self.view_is) at c.requires.held in
    let within : c.in-Some.change.item < c.self.inside.items = subst (λ (o : Option Change). IfSome o (λ change. change.item < c.self.inside.items)) c.in-Some.is c.self.invariant.item in
    let line : ℕ = c.self.inside.base + c.in-Some.change.item in
    let now = held-same _ _ (g.A.CellArray.state c.sense-seen.new.self) held c.sense-seen.ensures.step.lines (λ item below. c.sense-seen.ensures.step.line (c.self.inside.base + item)) c.self.invariant.item in
    rw (← c.self.view_is) (record {
      stands = c.in-Some.is;
      going = rw (← c.self.view_is) at c.requires.going;
      exist = now.exist;
      sound = now.sound;
      unused = now.unused;
      bytes = c.begin-writer.ensures.bytes ∙ c.encode.ensures;
      writes = c.begin-writer.ensures.writes ((g.A.CellArray.state c.sense-seen.new.self).line line)
          (ap (λ (l : LineState g.row.B g.row.M). l.held) (c.sense-seen.ensures.step.line line) ∙ sym c.sense-seen.ensures.cells) (now.sound c.in-Some.change.item within);
      worn = λ worn. absurd (begun-fresh c.begin-writer.result.progress (begun g c) worn);
    })

pub returns-clause-begins : goal.returns-clause-begins
returns-clause-begins g c =
    let after = (goal.at.returns-clause-begins g c).After-keep in
    let step = stepped g after in
    record {
      change = c.in-Some.change;
      stands = step.stands;
      writer = c.begin-writer.result;
      bytes = step.bytes;
      writes = step.writes;
      begun = begun g after;
      few = c.begin-writer.ensures.steps;
      is = c.keep.ensures.answer;
      leaves = c.keep.ensures.regs;
    }

pub returns-clause-goes : goal.returns-clause-goes
returns-clause-goes g c = λ halted. begun-goes c.begin-writer.result.progress (begun g (goal.at.returns-clause-goes g c).After-keep) (sym c.keep.ensures.answer ∙ halted)

pub returns-clause-done : goal.returns-clause-done
returns-clause-done g c =
    let step = stepped g (goal.at.returns-clause-done g c).After-keep in
    rw step.stands (λ done. done-holds c.in-Some.change c.begin-writer.result _ step.bytes step.writes (sym c.keep.ensures.answer ∙ done))

pub returns-clause-held : goal.returns-clause-held
returns-clause-held g c =
    let step = stepped g (goal.at.returns-clause-held g c).After-keep in
    rw (c.keep.ensures.regs, c.keep.ensures.answer) (held-stepped c.args.self.now (g.A.CellArray.state c.sense-seen.new.self) c.in-Some.change c.begin-writer.result step)

pub unreachable-requires : goal.unreachable-requires
unreachable-requires g c = grind arith

pub unreachable-unreachable : goal.unreachable-unreachable
unreachable-unreachable g c = grind arith

pub overflow_add-self-inside : goal.overflow_add-self-inside
overflow_add-self-inside g c = grind arith

pub sense-seen-requires : goal.sense-seen-requires
sense-seen-requires g c = grind arith

pub encode-requires : goal.encode-requires
encode-requires g c = grind arith

pub begin-writer-requires : goal.begin-writer-requires
begin-writer-requires g c = grind arith

pub keep-requires : goal.keep-requires
keep-requires g c = grind arith

pub returns-clause-touches : goal.returns-clause-touches
returns-clause-touches g c = grind arith
