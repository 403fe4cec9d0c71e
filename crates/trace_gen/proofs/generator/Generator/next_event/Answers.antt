use Rattle.std.proofs.Common.{◌≢◌, ◌+◌, ◌%◌, ◌<◌, ◌≤◌, ◌∙◌, ap, sym, arith}
use Rattle.trace_gen.{specs.Generated.words_left, proofs.Drawn.{left-more, left-none}}
use Rattle.trace_gen.proofs.generator.Generator.next_event.Goals as goal

pub returns-then-self : goal.returns-then-self
returns-then-self g c =
    let s = c.self.inside in
    let none = sym c.self.view_is ∙ left-none g.row.B s.lines s.mix s.mix.rows s.done s.tick (words_left s.words) c.if-self.true in
    (none, none)

pub returns : goal.returns
returns g c =
    let s = c.self.inside in
    let within : s.done ≤ s.mix.rows = c.self.invariant.within in
    let other : s.done ≢ s.mix.rows = c.if-self.false in
    let some : s.done < s.mix.rows = omega arith in
    sym c.self.view_is
    ∙ left-more g.row.B s.lines s.mix s.mix.rows s.done s.tick (s.tick + c.next_u64.result % (c.from.result + 1)) c.next_u64.result (words_left s.words) (words_left c.next_u64.new.self)
    (words_left c.op-op.new.words) c.op-op.result some c.next_u64.ensures (ap (λ step. s.tick + c.next_u64.result % (step + 1)) c.from.ensures) c.op-op.ensures
