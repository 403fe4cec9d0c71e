use Rattle.std.proofs.Common.{◌≡◌, ℕ, ◌+◌, ◌-◌, ◌*◌, ◌/◌, ◌<◌, ◌≤◌, subst, inl, inr, refl, ◌∙◌, ap, arith}
use Rattle.std.proofs.lemmas.Bool.{cases_eq}
use Rattle.cell_rows.specs.Rows.{cell}
use Rattle.seeded_lines.{specs.Counts.count, specs.Planes.digit, proofs.CalmLemmas.left_same, proofs.SeededLemmas.{calm_kept, less_none}}
use Rattle.seeded_lines.proofs.SizeLemmas.{block_in, counts_fit, digits_fit, row_fits}
use Rattle.seeded_lines.proofs.seeded.SeededLine.level_block.Goals as goal

pub invariant_of-self : goal.invariant_of-self
invariant_of-self g c = (
  c.self.invariant.0,
  calm_kept c.self.inside.calm (cell c.self.inside.settled.stuck) (count c.self.inside.settled.left) (count c.level.new.self) (8 * (g.row.B + g.row.M)) c.args.block c.are_many.result
      (block_in c.requires.shape c.args.block _ c.requires.exists c.self.told) c.self.invariant.1
      (λ many i low live. subst (λ k. 8 ≤ k) (c.block.ensures i low) (c.are_many.ensures many i low (c.block-stuck.ensures i low ∙ live)))
      c.level.ensures.others,
)

pub returns : goal.returns
returns g c =
    let block = c.args.block in
    let same : (n : ℕ) → count c.level.new.self n - digit c.clear.new.self n ≡ count c.self.inside.settled.left n - digit c.self.inside.moving.spent n =
    λ n.
    elim (cases_eq (n / 64) block) as (λ _. count c.level.new.self n - digit c.clear.new.self n ≡ count c.self.inside.settled.left n - digit c.self.inside.moving.spent n) [
      | inl here ↦
          let i : ℕ = n - 64 * block in
          let low : i < 64 = omega arith in
          let number : 64 * block + i ≡ n = omega arith in
          subst (λ k. count c.level.new.self k - digit c.clear.new.self k ≡ count c.self.inside.settled.left k - digit c.self.inside.moving.spent k) number
          (rw (c.clear.ensures.here i low)
          (less_none (count c.level.new.self (64 * block + i)) ∙ c.level.ensures.here i low ∙ ap (λ k. count c.self.inside.settled.left (64 * block + i) - k) (c.planes-low.ensures i low)))
      | inr apart ↦ rw (c.level.ensures.others n apart, c.clear.ensures.others n apart) refl
    ] in
    ap (λ xs. record { line = record { held = c.self.inside.moving.held; stuck = c.self.inside.settled.stuck; misses = c.self.inside.moving.misses; pulses = c.self.inside.pulses }; left = xs; limits = c.self.inside.settled.limits; ends = c.self.inside.settled.ends })
    (left_same c.self.inside.moving.spent c.clear.new.self c.self.inside.settled.left c.level.new.self (λ n h. same n))
    ∙ c.self.view_is

pub block-stuck-requires : goal.block-stuck-requires
block-stuck-requires g c = (row_fits c.requires.shape, (c.requires.whole, c.requires.exists))

pub planes-low-requires : goal.planes-low-requires
planes-low-requires g c = (digits_fit c.requires.shape, (c.requires.whole, c.requires.exists))

pub level-requires : goal.level-requires
level-requires g c = (counts_fit c.requires.shape, (c.requires.whole, c.requires.exists))

pub clear-requires : goal.clear-requires
clear-requires g c = (digits_fit c.requires.shape, (c.requires.whole, c.requires.exists))

pub block-requires : goal.block-requires
block-requires g c = (counts_fit c.requires.shape, (c.requires.whole, c.requires.exists))

pub are_many-requires : goal.are_many-requires
are_many-requires g c = tt

pub bounds-self-inside-block : goal.bounds-self-inside-block
bounds-self-inside-block g c = block_in c.requires.shape c.args.block _ c.requires.exists refl
