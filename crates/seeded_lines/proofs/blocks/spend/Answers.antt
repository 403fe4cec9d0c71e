use Rattle.std.proofs.Common.{◌≡◌, ℕ, ◌-◌, ◌<◌, ◌&&◌, true, false, not, cond, sym, ◌∙◌, ap, inl, inr, arith, w64, slice_index, length, set, get_or-set_same, get_or-set_other, eq-eqb}
use Rattle.std.{specs.Int.trailing_zeros, specs.Prelude.nat_le, proofs.lemmas.Bool.cases_eq, proofs.lemmas.Nat.Bits.bit_at-trailing_zeros}
use Rattle.seeded_lines.specs.Planes.{bit_in}
use Rattle.seeded_lines.proofs.blocks.spend.Goals as goal

pub bounds-left-index : goal.bounds-left-index
bounds-left-index c =
    let (fits, has, low) = bit_at-trailing_zeros w64 c.loop-rest.rest (omega arith) c.loop-rest.invariant.fits in
    omega arith

pub joined-last-requires : goal.joined-last-requires
joined-last-requires c = (bit_at-trailing_zeros w64 c.loop-rest.rest (omega arith) c.loop-rest.invariant.fits).0

pub cleared-rest-requires-clause-fits : goal.cleared-rest-requires-clause-fits
cleared-rest-requires-clause-fits c = (bit_at-trailing_zeros w64 c.loop-rest.rest (omega arith) c.loop-rest.invariant.fits).0

pub cleared-rest-requires-clause-has : goal.cleared-rest-requires-clause-has
cleared-rest-requires-clause-has c =
    eq-eqb _ 1 ((bit_at-trailing_zeros w64 c.loop-rest.rest (omega arith) c.loop-rest.invariant.fits).1)

pub loop-rest-preserved : goal.loop-rest-preserved
loop-rest-preserved c =
    let invariant = c.loop-rest.invariant in
    let rest = c.loop-rest.rest in
    let index : ℕ = trailing_zeros w64 rest in
    let first = bit_at-trailing_zeros w64 rest (omega arith) invariant.fits in
    let has : bit_in rest index ≡ true = eq-eqb _ 1 (first.1) in
    let masked : bit_in c.args.mask index ≡ true = invariant.masked index first.0 has in
    let initial : ℕ = slice_index c.args.left.now index in
    let count : slice_index c.loop-rest.left index ≡ initial =
    invariant.done index first.0 ∙ ap (λ b. cond (not b && bit_in c.args.mask index) (initial - 1) initial) has in
    let within : index < length c.loop-rest.left = omega (arith, first.0) in
    record {
      fits = omega (arith, c.cleared-rest.ensures.less, invariant.fits);
      masked = λ i low in_rest.
          elim (cases_eq i index) as (λ _. bit_in c.args.mask i ≡ true) [
            | inl same ↦ rw same masked
            | inr apart ↦ invariant.masked i low (sym (c.cleared-rest.ensures.kept i low apart) ∙ in_rest)
          ];
      last = λ i low.
          elim (cases_eq i index) as (λ _. bit_in c.joined-last.result i ≡ (not (bit_in c.cleared-rest.result i) && (bit_in c.args.mask i && nat_le (slice_index c.args.left.now i) 1))) [
            | inl same ↦
                let absent : bit_in c.loop-rest.last index ≡ false =
                invariant.last index first.0 ∙ ap (λ b. not b && (bit_in c.args.mask index && nat_le initial 1)) has in
                rw (same, c.cleared-rest.ensures.is, masked)
                (c.joined-last.ensures.is absent ∙ ap (λ n. nat_le n 1) count)
            | inr apart ↦
                rw (c.cleared-rest.ensures.kept i low apart) (c.joined-last.ensures.kept i apart ∙ invariant.last i low)
          ];
      done = λ i low.
          elim (cases_eq i index) as (λ _. slice_index (set c.loop-rest.left index c.saturating_sub.result) i ≡ cond (not (bit_in c.cleared-rest.result i) && bit_in c.args.mask i) (slice_index c.args.left.now i - 1) (slice_index c.args.left.now i)) [
            | inl same ↦
                rw (same, c.cleared-rest.ensures.is, masked)
                (get_or-set_same c.loop-rest.left index c.saturating_sub.result 0 within ∙ c.saturating_sub.ensures ∙ ap (λ n. n - 1) count)
            | inr apart ↦
                rw (c.cleared-rest.ensures.kept i low apart)
                (get_or-set_other c.loop-rest.left index i c.saturating_sub.result 0 (λ e. apart (omega arith)) ∙ invariant.done i low)
          ];
    }
