use Rattle.std.proofs.Common.{◌≡◌, ℕ, ◌-◌, suc, refl, sym, ◌∙◌, ap, subst, drop, arith}
use Rattle.masked_bytes.{specs.Entries.layer_of, proofs.Queueing.layer_of-none}
use Rattle.protected_queue.proofs.Accepting.{layer_of-more, layer_of-passed, newest_index-None}
use Rattle.protected_queue.proofs.queue.Queue.newest.Goals as goal

pub loop-index-preserved-then-entry-line : goal.loop-index-preserved-then-entry-line
loop-index-preserved-then-entry-line g c =
    let before : c.loop-index.index ≡ suc (c.loop-index.index - 1) = omega arith in
    let more = layer_of-more c.self.inside.ring.items c.args.line (c.loop-index.index - 1) _ (sym c.in-Some.ensures) c.if-entry-line.true in
    rw (more, ← before, c.fill_under.ensures, c.join_given.ensures, c.loop-index.invariant.0, c.loop-index.invariant.1) (refl, refl)

pub loop-index-preserved : goal.loop-index-preserved
loop-index-preserved g c =
    let before : c.loop-index.index ≡ suc (c.loop-index.index - 1) = omega arith in
    let passed = layer_of-passed c.self.inside.ring.items c.args.line (c.loop-index.index - 1) _ (sym c.in-Some.ensures) c.if-entry-line.false in
    rw (passed, ← before) c.loop-index.invariant

pub returns-clause-none : goal.returns-clause-none
returns-clause-none g c =
    let all : c.loop-index.index ≡ 0 = omega arith in
    let given : c.loop-index.given ≡ (layer_of c.self.inside.ring.items c.args.line).given =
    subst (λ (p : ℕ). c.loop-index.given ≡ (layer_of (drop p c.self.inside.ring.items) c.args.line).given) all c.loop-index.invariant.1 in
    rw (← c.self.view_is) (
      λ h. newest_index-None c.self.inside.ring.items c.args.line c.self.invariant.masked (sym given ∙ h),
      λ h. given ∙ ap (λ l. l.given) (layer_of-none c.self.inside.ring.items c.args.line h),
    )
