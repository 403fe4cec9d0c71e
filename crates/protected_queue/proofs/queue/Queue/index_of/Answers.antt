use Rattle.std.proofs.Common.{◌≡◌, ℕ, ◌-◌, suc, sym, subst, drop, None, arith}
use Rattle.masked_bytes.specs.Entries.{newest_index}
use Rattle.protected_queue.proofs.Accepting.{newest_index-found, newest_index-passed}
use Rattle.protected_queue.proofs.queue.Queue.index_of.Goals as goal

pub returns-then-entry-line : goal.returns-then-entry-line
returns-then-entry-line g c =
    let before : c.loop-index.index ≡ suc (c.loop-index.index - 1) = omega arith in
    rw (← c.self.view_is) (sym (newest_index-found c.self.inside.ring.items c.args.line (c.loop-index.index - 1) _ (sym c.in-Some.ensures) c.if-entry-line.true
    (subst (λ (p : ℕ). newest_index (drop p c.self.inside.ring.items) c.args.line ≡ None) before c.loop-index.invariant)))

pub loop-index-preserved : goal.loop-index-preserved
loop-index-preserved g c =
    let before : c.loop-index.index ≡ suc (c.loop-index.index - 1) = omega arith in
    newest_index-passed c.self.inside.ring.items c.args.line (c.loop-index.index - 1) _ (sym c.in-Some.ensures) c.if-entry-line.false
    (subst (λ (p : ℕ). newest_index (drop p c.self.inside.ring.items) c.args.line ≡ None) before c.loop-index.invariant)
