use Rattle.std.proofs.Common.{◌<◌, sym, ◌∙◌, ap, arith}
use Rattle.start_gap.{specs.Rotation.Rotation, proofs.Turning.{place-stands, place-apart, place_by-before, place_by-behind}}
use Rattle.start_gap.proofs.Registers.place.Goals as goal

pub returns-then-turned-self-clause-after : goal.returns-then-turned-self-clause-after
returns-then-turned-self-clause-after c =
    rw (← c.self.view_is) (λ t stands. sym (place_by-before _ _ c.if-turned-self.true) ∙ place-stands _ t _ c.self.invariant stands)

pub returns-then-turned-self-clause-apart : goal.returns-then-turned-self-clause-apart
returns-then-turned-self-clause-apart c =
    let exists : c.args.line < c.self.inside.lines = omega (arith, ap (λ (r : Rotation). r.lines) c.self.view_is) in
    rw (← c.self.view_is) (λ other below same. place-apart _ other _ below exists (same ∙ sym (place_by-before _ _ c.if-turned-self.true)))

pub returns-else-turned-self-clause-after : goal.returns-else-turned-self-clause-after
returns-else-turned-self-clause-after c =
    rw (← c.self.view_is) (λ t stands. sym (place_by-behind _ _ c.if-turned-self.false) ∙ place-stands _ t _ c.self.invariant stands)

pub returns-else-turned-self-clause-apart : goal.returns-else-turned-self-clause-apart
returns-else-turned-self-clause-apart c =
    let exists : c.args.line < c.self.inside.lines = omega (arith, ap (λ (r : Rotation). r.lines) c.self.view_is) in
    rw (← c.self.view_is) (λ other below same. place-apart _ other _ below exists (same ∙ sym (place_by-behind _ _ c.if-turned-self.false)))
