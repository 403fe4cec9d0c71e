use Rattle.std.proofs.Common.{◌≡◌, ◌⊎◌, ◌<◌, ◌≤◌, ◌+◌, ◌∙◌, ℕ, min, inl, inr, refl, sym, ap, arith}
use Rattle.std.{specs.Prelude.slice_get, proofs.lemmas.Bool.{cases_eq, cases_lt}}
use Rattle.bank_timing.{specs.Extending.next_end, proofs.Sizes.timed_fits}
use Rattle.clock_laws.specs.State.{ClockState}
use Rattle.module_shape.specs.declared.raw.RawShape.{RawShape}
use Rattle.pcm_module.specs.State.{bank_at}
use Rattle.row_stream.proofs.Nowhere.{at-bank, at-tick}
use Rattle.row_stream.proofs.waiting.next_turn.Goals as goal

-- what is least of a bank more
least-more : (first end more bank at : ℕ) (ends : ℕ → ℕ) → more ≡ min first end → end ≡ ends bank → ((at : ℕ) → at < bank → first ≤ ends at) → at < bank + 1 → more ≤ ends at
least-more first end more bank at ends is own before below = elim (cases_eq at bank) [
  | inl same ↦ (let there : ends at ≡ end = ap ends same ∙ sym own in omega (arith, is, there))
  | inr other ↦ (let earlier = before at (omega (arith, below, other)) in omega (arith, is, earlier))
]

some-more : (first end more bank banks limit : ℕ) (ends : ℕ → ℕ) → more ≡ min first end → end ≡ ends bank → bank < banks → (first ≡ limit) ⊎ ((at : ℕ) × (at < banks) × (first ≡ ends at))
    → (more ≡ limit) ⊎ ((at : ℕ) × (at < banks) × (more ≡ ends at))
some-more first end more bank banks limit ends is own exists was = elim (cases_lt end first) [
  | inl less ↦ (let same : more ≡ end = omega (arith, is, less) in inr (bank, exists, same ∙ own))
  | inr most ↦
      let same : more ≡ first = omega (arith, is, most) in
      elim was [
        | inl limit_is ↦ inl (same ∙ limit_is)
        | inr found ↦ inr (found.0, found.1, same ∙ found.2)
      ]
]

pub timed-requires : goal.timed-requires
timed-requires g c =
    (omega arith, (timed_fits g.row.B g.row.M g.row.E c.requires.layout, omega (arith, c.loop-bank-test.true, c.banks-banks.ensures.number, ap (λ (r : RawShape). r.banks) c.shape.ensures.shape)))

pub next_end-requires : goal.next_end-requires
next_end-requires g c =
    let exists : c.loop-bank.bank < c.args.pcm.now.shape.banks = omega (arith, c.loop-bank-test.true, c.banks-banks.ensures.number, ap (λ (r : RawShape). r.banks) c.shape.ensures.shape) in
    let at = at-tick c.args.pcm.now.tick (slice_get c.args.pcm.now.banks c.loop-bank.bank) c.timed.result.now c.timed.ensures (c.requires.settled c.loop-bank.bank exists) in
    (timed_fits g.row.B g.row.M g.row.E c.requires.layout, omega (arith, at, c.loop-bank.invariant.later, c.requires.in_time))

pub loop-bank-init : goal.loop-bank-init
loop-bank-init g c = record {
  most = omega arith;
  least = λ bank none. absurd (omega (arith, none));
  some = inl refl;
  shape = c.shape.ensures.in_range;
  silent = sym c.heard.ensures ∙ c.if-heard.false;
  later = omega (arith, c.tick.ensures, c.if-limit-tick.false);
}

pub loop-bank-preserved : goal.loop-bank-preserved
loop-bank-preserved g c =
    let before = c.loop-bank.invariant in
    let bank = c.loop-bank.bank in
    let limit = c.args.limit in
    let clock = c.timed.result.now in
    let exists : bank < c.args.pcm.now.shape.banks = omega (arith, c.loop-bank-test.true, c.banks-banks.ensures.number, ap (λ (r : RawShape). r.banks) c.shape.ensures.shape) in
    let ends : ℕ → ℕ = λ k. next_end limit (bank_at c.args.pcm.now k) in
    let own : c.next_end.result ≡ ends bank =
    c.next_end.ensures ∙ ap (λ (k : ClockState g.row.B g.row.M g.row.E). next_end limit k) (sym (at-bank c.args.pcm.now bank clock c.timed.ensures)) in
    record {
      most = omega (arith, c.min-first.ensures, before.most);
      least = λ at below. least-more c.loop-bank.first c.next_end.result c.min-first.result bank at ends c.min-first.ensures own before.least below;
      some = some-more c.loop-bank.first c.next_end.result c.min-first.result bank c.args.pcm.now.shape.banks limit ends c.min-first.ensures own exists before.some;
      shape = before.shape;
      silent = before.silent;
      later = before.later;
    }

pub returns-clause-some : goal.returns-clause-some
returns-clause-some g c =
    let last = c.loop-bank.invariant in (
      last.silent,
      (
        last.most,
        λ bank exists. last.least bank (omega (arith, exists, c.loop-bank-test.false, c.banks-banks.ensures.number, ap (λ (r : RawShape). r.banks) c.shape.ensures.shape)),
        last.some,
      ),
      last.later,
    )
