use Rattle.std.proofs.Common.{◌≡◌, arith, slice_get, Some, ap, sym, ◌∙◌}
use Rattle.std.specs.Option.{option_copied}
use Rattle.bank_core.proofs.{Stood.{found, is_any, not_yet, not_at_all}, Within.none-within}
use Rattle.bank_core.proofs.bank.Bank.is_queued.Goals as goal

pub returns-then-entry-row : goal.returns-then-entry-row
returns-then-entry-row g c =
    let is : Some c.in-Some.entry.now ≡ slice_get c.self.inside.kept.entries c.loop-index.index = sym (ap (λ o. option_copied o) c.in-Some.is) ∙ c.at.ensures in
    rw (← c.self.view_is) (found (λ e. e.row) c.args.row c.self.inside.kept.entries c.loop-index.index c.in-Some.entry.now is c.if-entry-row.true ∙ is_any c.self.inside.kept.entries c.args.row)

pub loop-index-preserved : goal.loop-index-preserved
loop-index-preserved g c =
    let is : Some c.in-Some.entry.now ≡ slice_get c.self.inside.kept.entries c.loop-index.index = sym (ap (λ o. option_copied o) c.in-Some.is) ∙ c.at.ensures in
    not_yet (λ e. e.row) c.args.row c.self.inside.kept.entries c.loop-index.index c.in-Some.entry.now is c.if-entry-row.false c.loop-index.invariant

pub returns : goal.returns
returns g c =
    rw (← c.self.view_is)
    (not_at_all (λ e. e.row) c.args.row c.self.inside.kept.entries c.loop-index.index
    (omega (arith, c.len-index-end.ensures.len, c.loop-index-test.false)) c.loop-index.invariant ∙ is_any c.self.inside.kept.entries c.args.row)

pub loop-index-init : goal.loop-index-init
loop-index-init g c = grind arith

pub unreachable-unreachable : goal.unreachable-unreachable
unreachable-unreachable g c = grind arith

pub loop-index-smaller : goal.loop-index-smaller
loop-index-smaller g c = grind arith

pub unreachable-requires : goal.unreachable-requires
unreachable-requires g c =
    none-within c.self.inside.kept.entries c.loop-index.index
    (sym (ap (λ o. option_copied o) c.in_default.is) ∙ c.at.ensures)
    (omega (arith, c.len-index-end.ensures.len, c.loop-index-test.true))
