use Rattle.std.proofs.Common.{◌≡◌, ◌∙◌, ℕ, false, inl, inr, sym, ap, subst, arith}
use Rattle.std.proofs.lemmas.Bool.{cases_eq}
use Rattle.module_shape.specs.declared.raw.RawShape.{RawShape}
use Rattle.pcm_module.specs.Telling.{rows_at}
use Rattle.pcm_library.proofs.waiting.waits_at.Goals as goal

pub loop-bank-init : goal.loop-bank-init
loop-bank-init g c = record {
  off = λ bank none. absurd (omega (arith, none));
  shape = c.shape.ensures.in_range;
  later = omega (arith, c.tick.ensures, c.if-until-tick.false);
}

pub loop-bank-preserved : goal.loop-bank-preserved
loop-bank-preserved g c =
    let before = c.loop-bank.invariant in
    record {
      off = λ bank below. elim (cases_eq bank c.loop-bank.bank) [
        | inl same ↦ subst (λ (k : ℕ). rows_at c.args.pcm.now k c.args.until.now.row ≡ false) (sym same) (sym c.stands_in.ensures ∙ c.if-stands_in.false)
        | inr other ↦ before.off bank (omega (arith, below, other))
      ];
      shape = before.shape;
      later = before.later;
    }

pub stands_in-requires : goal.stands_in-requires
stands_in-requires g c = (omega arith, (c.requires.layout, omega (arith, c.loop-bank-test.true, c.banks-banks.ensures.number, ap (λ (r : RawShape). r.banks) c.shape.ensures.shape)))

pub returns-clause-none : goal.returns-clause-none
returns-clause-none g c = λ is. inr (λ bank exists. c.loop-bank.invariant.off bank (omega (arith, exists, c.loop-bank-test.false, c.banks-banks.ensures.number, ap (λ (r : RawShape). r.banks) c.shape.ensures.shape)))
