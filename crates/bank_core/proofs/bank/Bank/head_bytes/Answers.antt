use Rattle.std.proofs.Common.{arith, sym, ap, ◌∙◌}
use Rattle.std.specs.Option.{option_copied}
use Rattle.bank_core.proofs.Within.{none-within}
use Rattle.bank_core.proofs.bank.Bank.head_bytes.Goals as goal

pub head-requires : goal.head-requires
head-requires g c = grind arith

pub unreachable-unreachable : goal.unreachable-unreachable
unreachable-unreachable g c = grind arith

pub returns : goal.returns
returns g c = grind arith

pub unreachable-requires : goal.unreachable-requires
unreachable-requires g c =
    none-within c.self.inside.kept.entries 0 (sym (ap (λ o. option_copied o) c.in_default.is) ∙ c.head.ensures)
    (rw (← c.self.view_is) at c.requires)
