use Rattle.std.proofs.Common.{arith, ◌≡◌, ◌≢◌, ℕ, ◌+◌, false, [], ◌∷◌, Some, sym, subst, ◌∙◌}
use Rattle.line_writer.{specs.Writing.IsWorn, proofs.Untouched.{untouched-round, AreUntouched-beside}}
use Rattle.reg_lines.{specs.Regs.RegsState, proofs.Held.{HasStepped, held-stepped, sound-beside, writing-of, running-going, kept-over, view_of}}
use Rattle.reg_lines.proofs.{regs.RegLines.iterate.Given.Over, regs.RegLines.iterate.Goals.After-keep}
use Rattle.reg_lines.proofs.regs.RegLines.iterate.Goals as goal
use Rattle.bank_model.{specs.Touching.Touches, proofs.Touched.touches-round}

-- the writing of the change has gone on
stepped : (g : Over) (c : After-keep g)
    → HasStepped {n = g.row.B} {m = g.row.M} {e = g.row.E}
    (record { base = c.self.inside.base; items = c.self.inside.items; change = c.self.inside.change; halted = c.self.inside.halted; writer = c.take.new.self })
    (g.A.CellArray.state c.step.new.array) c.in-Some.change c.step.new.self
stepped g c =
    let held = rw (← c.self.view_is) at c.requires.held in
    let regs : RegsState g.row.B g.row.M g.row.E = (record {
      base = c.self.inside.base;
      items = c.self.inside.items;
      change = c.self.inside.change;
      halted = c.self.inside.halted;
      writer = c.self.inside.writer;
    }) in
    let runs : regs.writer ≡ Some c.in-Some-take.writer = sym c.take.ensures.value ∙ c.in-Some-take.is in
    let writing = writing-of regs (g.A.CellArray.state c.args.array.now) c.in-Some.change c.in-Some-take.writer held c.in-Some.is runs in
    let round = c.step.ensures.round.1 in
    let others : (at : ℕ) → at ≢ regs.base + c.in-Some.change.item → (g.A.CellArray.state c.step.new.array).line at ≡ (g.A.CellArray.state c.args.array.now).line at =
    λ at off. round.sense.line at ∙ round.others.others at off in
    record {
      stands = c.in-Some.is;
      going = running-going regs c.in-Some-take.writer runs c.self.invariant.idle;
      exist = rw (round.sense.lines ∙ round.others.lines) held.exist;
      sound = sound-beside regs (g.A.CellArray.state c.args.array.now) (g.A.CellArray.state c.step.new.array) c.in-Some.change.item held others c.step.ensures.sound;
      unused = AreUntouched-beside g.row.E (g.A.CellArray.state c.args.array.now) (g.A.CellArray.state c.step.new.array) (regs.base + c.in-Some.change.item) regs.base regs.items others
          (untouched-round g.row.E (regs.base + c.in-Some.change.item) c.args.tick c.in-Some-take.writer.prog c.step.ensures.round.0
          (g.A.CellArray.state c.args.array.now) (g.A.CellArray.state c.step.new.array) round c.step.ensures.unused) held.unused;
      bytes = c.step.ensures.bytes ∙ writing.bytes;
      writes = c.step.ensures.writes;
      worn = λ worn. c.step.ensures.worn (subst IsWorn (sym c.step.ensures.is) worn);
    }

pub returns-clause-held : goal.returns-clause-held
returns-clause-held g c =
    let step = stepped g (goal.at.returns-clause-held g c).After-keep in
    rw (c.keep.ensures.regs, c.keep.ensures.answer) (held-stepped _ (g.A.CellArray.state c.step.new.array) c.in-Some.change c.step.new.self step)

pub unreachable-requires : goal.unreachable-requires
unreachable-requires g c = grind arith

pub unreachable-unreachable : goal.unreachable-unreachable
unreachable-unreachable g c = grind arith

pub overflow_add-self-inside : goal.overflow_add-self-inside
overflow_add-self-inside g c = grind arith

pub step-requires : goal.step-requires
step-requires g c = grind arith

pub invariant_of-self : goal.invariant_of-self
invariant_of-self g c = grind arith

pub keep-requires : goal.keep-requires
keep-requires g c = grind arith

pub unreachable-requires-in-None : goal.unreachable-requires-in-None
unreachable-requires-in-None g c = grind arith

pub unreachable-unreachable-in-None : goal.unreachable-unreachable-in-None
unreachable-unreachable-in-None g c = grind arith

pub returns-clause-step : goal.returns-clause-step
returns-clause-step g c =
    let held = rw (← c.self.view_is) at c.requires.held in
    let runs = sym c.take.ensures.value ∙ c.in-Some-take.is in
    let now = stepped g (goal.at.returns-clause-step g c).After-keep in
    rw (← c.self.view_is) (record {
      change = c.in-Some.change;
      stands = c.in-Some.is;
      writer = c.in-Some-take.writer;
      runs = runs;
      bytes = (writing-of (view_of c.self.inside) (g.A.CellArray.state c.args.array.now) c.in-Some.change c.in-Some-take.writer held c.in-Some.is runs).bytes;
      now = c.step.new.self;
      step = record {
        round = c.step.ensures.round;
        unused = c.step.ensures.unused;
        writes = c.step.ensures.writes;
        sound = c.step.ensures.sound;
        worn = now.worn;
        bytes = c.step.ensures.bytes;
        fewer = c.step.ensures.steps;
      };
      is = c.keep.ensures.answer;
      leaves = c.keep.ensures.regs ∙ kept-over c.keep.result c.step.new.self (view_of c.self.inside) c.take.new.self;
    })

pub returns-clause-touches : goal.returns-clause-touches
returns-clause-touches g c =
    let round = c.step.ensures.round in
    let own : Touches c.args.tick ((c.self.inside.base + c.in-Some.change.item) ∷ []) (Some (c.self.inside.base + c.in-Some.change.item)) false
    (g.A.CellArray.state c.args.array.now) (g.A.CellArray.state c.step.new.array) =
    touches-round c.args.tick (c.self.inside.base + c.in-Some.change.item) c.in-Some-take.writer.prog round.0
    (g.A.CellArray.state c.args.array.now) (g.A.CellArray.state c.step.new.array) round.1 round.2 in
    rw (← c.self.view_is) (rw (c.in-Some.is) (rw (← c.self.view_is) own))

pub returns-clause-done : goal.returns-clause-done
returns-clause-done g c = grind arith
