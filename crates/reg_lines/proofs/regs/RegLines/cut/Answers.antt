use Rattle.std.proofs.Common.{arith, ◌≡◌, ◌+◌, [], Some, None, false, ap, sym, ◌∙◌}
use Rattle.bank_model.{specs.Touching.Touches, proofs.Touched.{touches-nothing, touches-tear}}
use Rattle.line_writer.proofs.Untouched.{untouched-tear}
use Rattle.reg_lines.specs.{Keeping.{broken_off, torn_line}, Regs.{RegsState, AreHeld}}
use Rattle.reg_lines.proofs.Held.{held-broken, held-stopped, running-going, quiet-cut, written-stands, view_of}
use Rattle.reg_lines.proofs.regs.RegLines.cut.Goals.{in-Some+in-Some-change+then-tearing, in-Some+in-Some-change+else-tearing, in-Some+in_default-change, in_default}
use Rattle.reg_lines.proofs.regs.RegLines.cut.Goals as goal

pub returns-clause-touches : goal.returns-clause-touches
returns-clause-touches g c =
    let quiet : c.args.tearing ≡ false → c.match-take.array ≡ c.args.array.now
    → Touches c.args.tick [] (torn_line c.args.tearing (view_of c.self.inside)) c.args.tearing (g.A.CellArray.state c.args.array.now) (g.A.CellArray.state c.match-take.array) =
    λ off same. rw off (touches-nothing c.args.tick (g.A.CellArray.state c.args.array.now) (g.A.CellArray.state c.match-take.array) (ap (λ a. g.A.CellArray.state a) same)) in
    rw (← c.self.view_is)
    (elim c.match-take.branch [
      | in-Some+in-Some-change+then-tearing w ↦ rw (w.in-Some-change.is, w.if-tearing.true, w.array-is)
          (touches-tear c.args.tick (c.self.inside.base + w.in-Some-change.change.item) w.in-Some.writer.prog _ _ w.tear.ensures.tear)
      | in-Some+in-Some-change+else-tearing w ↦ quiet w.if-tearing.false w.array-is
      | in-Some+in_default-change w ↦
          let no = w.in_default-change in
          let none : c.self.inside.change ≡ None = cc in
          absurd (written-stands c.self.inside.writer c.self.inside.change w.in-Some.writer c.self.invariant.written (sym c.take.ensures.value ∙ w.in-Some.is) none)
      | in_default w ↦
          let no = w.in_default in
          let none : c.self.inside.writer ≡ None = cc in
          quiet (quiet-cut c.args.tearing c.self.inside.writer (rw (← c.self.view_is) at c.requires.runs) none) w.array-is
    ])

pub returns-clause-torn : goal.returns-clause-torn
returns-clause-torn g c =
    rw (← c.self.view_is)
    (elim c.match-take.branch [
      | in-Some+in-Some-change+then-tearing w ↦ λ yes. rw w.array-is (record {
        change = w.in-Some-change.change;
        stands = w.in-Some-change.is;
        writer = w.in-Some.writer;
        runs = sym c.take.ensures.value ∙ w.in-Some.is;
        tear = w.tear.ensures.tear;
        unused = w.tear.ensures.unused;
        sound = w.tear.ensures.sound;
      })
      | in-Some+in-Some-change+else-tearing w ↦ λ yes. let no = w.if-tearing.false in absurd cc
      | in-Some+in_default-change w ↦ λ yes.
          let no = w.in_default-change in
          let none : c.self.inside.change ≡ None = cc in
          absurd (written-stands c.self.inside.writer c.self.inside.change w.in-Some.writer c.self.invariant.written (sym c.take.ensures.value ∙ w.in-Some.is) none)
      | in_default w ↦ λ yes.
          let no = w.in_default in
          let none : c.self.inside.writer ≡ None = cc in
          let quiet = quiet-cut c.args.tearing c.self.inside.writer (rw (← c.self.view_is) at c.requires.runs) none in
          absurd cc
    ])

pub returns-clause-held : goal.returns-clause-held
returns-clause-held g c =
    let held = rw (← c.self.view_is) at c.requires.held in
    let regs : RegsState g.row.B g.row.M g.row.E = view_of c.self.inside in
    let quiet : c.match-take.array ≡ c.args.array.now → AreHeld (broken_off regs) (g.A.CellArray.state c.match-take.array) =
    λ same. rw same (held-stopped regs (g.A.CellArray.state c.args.array.now) held) in
    rw c.take.ensures.after
    (elim c.match-take.branch [
      | in-Some+in-Some-change+then-tearing w ↦
          let runs : regs.writer ≡ Some w.in-Some.writer = sym c.take.ensures.value ∙ w.in-Some.is in
          rw w.array-is
          (held-broken regs (g.A.CellArray.state c.args.array.now) (g.A.CellArray.state w.tear.new.array) w.in-Some-change.change held w.in-Some-change.is
          (running-going regs w.in-Some.writer runs c.self.invariant.idle) w.tear.ensures.tear.others.lines w.tear.ensures.tear.others.others w.tear.ensures.sound
          (untouched-tear g.row.E (c.self.inside.base + w.in-Some-change.change.item) w.in-Some.writer.prog (g.A.CellArray.state c.args.array.now) (g.A.CellArray.state w.tear.new.array)
          w.tear.ensures.tear w.tear.ensures.unused))
      | in-Some+in-Some-change+else-tearing w ↦ quiet w.array-is
      | in-Some+in_default-change w ↦ quiet w.array-is
      | in_default w ↦ quiet w.array-is
    ])

pub overflow_add-self-inside : goal.overflow_add-self-inside
overflow_add-self-inside g c = grind arith

pub tear-requires : goal.tear-requires
tear-requires g c = grind arith

pub invariant_of-self : goal.invariant_of-self
invariant_of-self g c = grind arith

pub returns-clause-regs : goal.returns-clause-regs
returns-clause-regs g c = grind arith

pub returns-clause-quiet : goal.returns-clause-quiet
returns-clause-quiet g c = grind arith
