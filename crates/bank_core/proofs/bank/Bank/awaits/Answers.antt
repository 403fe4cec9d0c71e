use Rattle.std.proofs.Common.{◌≡◌, arith, slice_get, Some, ap, sym, ◌∙◌}
use Rattle.std.specs.Option.{option_copied}
use Rattle.bank_core.proofs.{Waits.{found_one, none_yet, none_at_all}, Within.none-within}
use Rattle.bank_core.proofs.bank.Bank.awaits.Goals as goal

pub returns-then-read-line : goal.returns-then-read-line
returns-then-read-line g c =
    let is : Some c.in-Some.read.now ≡ slice_get c.self.inside.waiting.items c.loop-index.index = sym (ap (λ o. option_copied o) c.in-Some.is) ∙ c.get.ensures in
    rw (← c.self.view_is) (found_one c.args.line c.self.inside.waiting.items c.loop-index.index c.in-Some.read.now is c.if-read-line.true)

pub loop-index-preserved : goal.loop-index-preserved
loop-index-preserved g c =
    let is : Some c.in-Some.read.now ≡ slice_get c.self.inside.waiting.items c.loop-index.index = sym (ap (λ o. option_copied o) c.in-Some.is) ∙ c.get.ensures in
    none_yet c.args.line c.self.inside.waiting.items c.loop-index.index c.in-Some.read.now is c.if-read-line.false c.loop-index.invariant

pub returns : goal.returns
returns g c =
    rw (← c.self.view_is)
    (none_at_all c.args.line c.self.inside.waiting.items c.loop-index.index
    (omega (arith, c.len-index-end.ensures.len, c.loop-index-test.false)) c.loop-index.invariant)

pub loop-index-init : goal.loop-index-init
loop-index-init g c = grind arith

pub unreachable-unreachable : goal.unreachable-unreachable
unreachable-unreachable g c = grind arith

pub loop-index-smaller : goal.loop-index-smaller
loop-index-smaller g c = grind arith

pub unreachable-requires : goal.unreachable-requires
unreachable-requires g c =
    none-within c.self.inside.waiting.items c.loop-index.index
    (sym (ap (λ o. option_copied o) c.in_default.is) ∙ c.get.ensures)
    (omega (arith, c.len-index-end.ensures.len, c.loop-index-test.true))
