-- The unused check cells of a bank's lines are untouched.
use Rattle.std.proofs.Common.{◌≡◌, ℕ, ◌+◌, ◌-◌, ◌<◌, inl, inr, subst, arith}
use Rattle.std.proofs.lemmas.Bool.{cases_lt}
use Rattle.ecp_line.specs.Untouched.{HasUntouched}
use Rattle.bank_shape.specs.Shape.{slots_of}
use Rattle.clock_laws.specs.Ending.{UntouchedLaw}

-- a slot's or a spare's by the tie of the bank, a control line's by that of the change that stands
pub untouched_law : UntouchedLaw
untouched_law n m e xs clock array leads line below =
    let own : ℕ = slots_of clock.bank.kept.shape + clock.bank.kept.shape.spares in
    elim (cases_lt line own) [
      | inl slot ↦ leads.holds.tied.unused line slot
      | inr control ↦
          let item : ℕ = line - own in
          let exists : item < clock.regs.items = omega (arith, below, control, leads.control.own.items) in
          let place : clock.regs.base + item ≡ clock.bank.kept.shape.base + line = omega (arith, control, leads.control.own.base) in
          subst (λ (at : ℕ). HasUntouched e (array.line at)) place (leads.control.held.unused item exists)
    ]
