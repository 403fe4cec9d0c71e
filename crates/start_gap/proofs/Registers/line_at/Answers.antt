use Rattle.std.proofs.Common.{◌<◌, ◌≤◌, sym, ◌∙◌, ap, arith}
use Rattle.start_gap.{specs.Rotation.Rotation, proofs.Turning.{gap-stands, place-stands, line_before, line_behind}}
use Rattle.start_gap.proofs.Registers.line_at.Goals as goal

pub returns-then-place-self-clause-after : goal.returns-then-place-self-clause-after
returns-then-place-self-clause-after c =
    rw (← c.self.view_is) (λ t stands. c.if-place-self.true ∙ gap-stands _ t c.self.invariant stands)

pub returns-then-place-self-2-clause-after : goal.returns-then-place-self-2-clause-after
returns-then-place-self-2-clause-after c =
    rw (← c.self.view_is) (λ t stands.
    sym (place-stands _ t _ c.self.invariant stands) ∙ (line_before _ c.args.place c.self.invariant c.if-place-self-2.true).1)

pub returns-else-place-self-2-clause-some : goal.returns-else-place-self-2-clause-some
returns-else-place-self-2-clause-some c =
    let behind : c.self.inside.gap < c.args.place = omega arith in
    let exists : c.args.place ≤ c.self.inside.lines = omega (arith, ap (λ (r : Rotation). r.lines) c.self.view_is) in
    rw (← c.self.view_is) (line_behind _ c.args.place c.self.invariant behind exists)

pub returns-else-place-self-2-clause-after : goal.returns-else-place-self-2-clause-after
returns-else-place-self-2-clause-after c =
    let behind : c.self.inside.gap < c.args.place = omega arith in
    let exists : c.args.place ≤ c.self.inside.lines = omega (arith, ap (λ (r : Rotation). r.lines) c.self.view_is) in
    rw (← c.self.view_is) (λ t stands.
    sym (place-stands _ t _ c.self.invariant stands) ∙ (line_behind _ c.args.place c.self.invariant behind exists).1)
