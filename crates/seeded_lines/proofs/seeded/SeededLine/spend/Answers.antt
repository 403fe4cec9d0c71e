use Rattle.std.proofs.Common.{◌≡◌, ℕ, ◌+◌, ◌-◌, ◌*◌, ◌&&◌, ◌/◌, ◌≤◌, ◌<◌, false, true≢false, cond, eqb, slice_index, refl, subst, sym, ◌∙◌, ap, arith}
use Rattle.std.{specs.Prelude.nat_le, proofs.lemmas.Nat.Bits.bit_at-zero}
use Rattle.cell_rows.{specs.Rows.cell, proofs.ByteLemmas.digit_and}
use Rattle.seeded_lines.specs.{Counts.count, Planes.{bit_in, digit}}
use Rattle.seeded_lines.proofs.SeededLemmas.{left_is, left_kept, calm_last, calm_here, calm_level, less_none, level_here, calm_kept, both_false, in_row, in_block, none_few}
use Rattle.seeded_lines.proofs.SizeLemmas.{block_in, counts_fit, digits_fit, row_fits}
use Rattle.seeded_lines.proofs.seeded.SeededLine.spend.Goals as goal

pub advance-requires : goal.advance-requires
advance-requires g c = (
  digits_fit c.requires.shape,
  (
    c.requires.whole,
    (
      c.requires.exists,
      λ i low more.
          let none : (bit_in c.full.result i && bit_in c.args.changing i) ≡ false =
          sym (digit_and c.full.result c.args.changing i) ∙ ap (λ x. bit_in x i) c.if-full-changing-eq0.true ∙ ap (λ x. eqb x 1) (bit_at-zero i) in
          c.full.ensures i low (both_false _ _ none more),
    ),
  ),
)

pub returns-then-full-changing-eq0-clause-last : goal.returns-then-full-changing-eq0-clause-last
returns-then-full-changing-eq0-clause-last g c i low =
    let n : ℕ = 64 * c.args.block + i in
    let within : n < 8 * (g.row.B + g.row.M) = in_row g.row.B g.row.M c.args.block i c.requires.whole c.requires.exists low in
    let none : bit_in 0 i ≡ false = ap (λ x. eqb x 1) (bit_at-zero i) in
    let row : n / 64 ≡ c.args.block = in_block c.args.block i low in
    let clear : (bit_in c.full.result i && bit_in c.args.changing i) ≡ false =
    sym (digit_and c.full.result c.args.changing i) ∙ ap (λ x. bit_in x i) c.if-full-changing-eq0.true ∙ none in
    none ∙ calm_last (bit_in c.args.changing i) (count c.self.inside.settled.left n) (digit c.self.inside.moving.spent n)
    (λ more. c.self.invariant.1 n within (rw row c.if-self-block.true) (ap (λ s. cell s.line.stuck n) c.self.view_is ∙ c.requires.live i low more))
    (λ more. c.full.ensures i low (both_false _ _ clear more))
    ∙ ap (λ k. bit_in c.args.changing i && nat_le k 1) (sym (left_is c.self.inside.moving.spent c.self.inside.settled.left n within))
    ∙ ap (λ s. bit_in c.args.changing i && nat_le (slice_index s.left n) 1) c.self.view_is

pub returns-then-full-changing-eq0-clause-here : goal.returns-then-full-changing-eq0-clause-here
returns-then-full-changing-eq0-clause-here g c i low =
    let n : ℕ = 64 * c.args.block + i in
    let none : bit_in 0 i ≡ false = ap (λ x. eqb x 1) (bit_at-zero i) in
    let within : n < 8 * (g.row.B + g.row.M) = in_row g.row.B g.row.M c.args.block i c.requires.whole c.requires.exists low in
    let grown : digit c.advance.new.self n ≡ cond (bit_in c.args.changing i) (digit c.self.inside.moving.spent n + 1) (digit c.self.inside.moving.spent n) =
    c.advance.ensures.here i low ∙ ap (λ b. cond b 0 (cond (bit_in c.args.changing i) (digit c.self.inside.moving.spent n + 1) (digit c.self.inside.moving.spent n))) none in
    rw (← c.self.view_is)
    (left_is c.advance.new.self c.self.inside.settled.left n within
    ∙ calm_here (bit_in c.args.changing i) (count c.self.inside.settled.left n) (digit c.self.inside.moving.spent n) (digit c.advance.new.self n) grown
    ∙ ap (λ k. cond (bit_in c.args.changing i) (k - 1) k) (sym (left_is c.self.inside.moving.spent c.self.inside.settled.left n within)))

pub returns-then-full-changing-eq0-clause-others : goal.returns-then-full-changing-eq0-clause-others
returns-then-full-changing-eq0-clause-others g c n apart =
    left_kept c.self.inside.moving.spent c.advance.new.self c.self.inside.settled.left c.self.inside.settled.left n refl (c.advance.ensures.others n apart)
    ∙ ap (λ s. slice_index s.left n) c.self.view_is

pub returns-then-calm-clause-last : goal.returns-then-calm-clause-last
returns-then-calm-clause-last g c i low =
    let n : ℕ = 64 * c.args.block + i in
    let within : n < 8 * (g.row.B + g.row.M) = in_row g.row.B g.row.M c.args.block i c.requires.whole c.requires.exists low in
    let none : bit_in 0 i ≡ false = ap (λ x. eqb x 1) (bit_at-zero i) in
    let levelled : count c.level.new.self n ≡ count c.self.inside.settled.left n - digit c.self.inside.moving.spent n =
    c.level.ensures.here i low ∙ ap (λ k. count c.self.inside.settled.left n - k) (c.planes-low.ensures i low) in
    none ∙ calm_last (bit_in c.args.changing i) (count c.level.new.self n) 0
    (λ more.
    subst (λ k. 8 ≤ k) (c.block.ensures i low)
    (c.are_many-calm.ensures c.if-calm.true i low
    (c.block-stuck.ensures i low ∙ ap (λ s. cell s.line.stuck n) c.self.view_is ∙ c.requires.live i low more)))
    (λ more. none_few)
    ∙ ap (λ k. bit_in c.args.changing i && nat_le k 1) (less_none (count c.level.new.self n) ∙ levelled ∙ sym (left_is c.self.inside.moving.spent c.self.inside.settled.left n within))
    ∙ ap (λ s. bit_in c.args.changing i && nat_le (slice_index s.left n) 1) c.self.view_is

pub returns-then-calm-clause-here : goal.returns-then-calm-clause-here
returns-then-calm-clause-here g c i low =
    let n : ℕ = 64 * c.args.block + i in
    let none : bit_in 0 i ≡ false = ap (λ x. eqb x 1) (bit_at-zero i) in
    let within : n < 8 * (g.row.B + g.row.M) = in_row g.row.B g.row.M c.args.block i c.requires.whole c.requires.exists low in
    let levelled : count c.level.new.self n ≡ count c.self.inside.settled.left n - digit c.self.inside.moving.spent n =
    c.level.ensures.here i low ∙ ap (λ k. count c.self.inside.settled.left n - k) (c.planes-low.ensures i low) in
    let grown : digit c.advance-then-calm.new.self n ≡ cond (bit_in c.args.changing i) (digit c.clear.new.self n + 1) (digit c.clear.new.self n) =
    c.advance-then-calm.ensures.here i low ∙ ap (λ b. cond b 0 (cond (bit_in c.args.changing i) (digit c.clear.new.self n + 1) (digit c.clear.new.self n))) none in
    left_is c.advance-then-calm.new.self c.level.new.self n within
    ∙ calm_level (bit_in c.args.changing i) (count c.self.inside.settled.left n) (digit c.self.inside.moving.spent n)
    (count c.level.new.self n) (digit c.clear.new.self n) (digit c.advance-then-calm.new.self n)
    levelled (c.clear.ensures.here i low) grown
    ∙ ap (λ k. cond (bit_in c.args.changing i) (k - 1) k) (sym (left_is c.self.inside.moving.spent c.self.inside.settled.left n within))
    ∙ ap (λ s. cond (bit_in c.args.changing i) (slice_index s.left n - 1) (slice_index s.left n)) c.self.view_is

pub returns-then-calm-clause-others : goal.returns-then-calm-clause-others
returns-then-calm-clause-others g c n apart =
    left_kept c.self.inside.moving.spent c.advance-then-calm.new.self c.self.inside.settled.left c.level.new.self n (c.level.ensures.others n apart)
    (c.advance-then-calm.ensures.others n apart ∙ c.clear.ensures.others n apart)
    ∙ ap (λ s. slice_index s.left n) c.self.view_is

pub invariant_of-self-2 : goal.invariant_of-self-2
invariant_of-self-2 g c = (
  c.self.invariant.0,
  calm_kept c.self.inside.calm (cell c.self.inside.settled.stuck) (count c.self.inside.settled.left) (count c.set_block.new.self) (8 * (g.row.B + g.row.M)) c.args.block c.are_many-calm.result
      (block_in c.requires.shape c.args.block _ c.requires.exists c.self.told) c.self.invariant.1
      (λ many. absurd (true≢false (sym many ∙ c.if-calm.false)))
      (λ n apart. c.set_block.ensures.others n apart ∙ c.level.ensures.others n apart),
)

pub returns-clause-last : goal.returns-clause-last
returns-clause-last g c i low =
    let n : ℕ = 64 * c.args.block + i in
    let within : n < 8 * (g.row.B + g.row.M) = in_row g.row.B g.row.M c.args.block i c.requires.whole c.requires.exists low in
    let levelled : slice_index c.block-2.result.now i ≡ count c.self.inside.settled.left n - digit c.self.inside.moving.spent n =
    c.block-2.ensures i low ∙ c.level.ensures.here i low ∙ ap (λ k. count c.self.inside.settled.left n - k) (c.planes-low.ensures i low) in
    c.spend-last.ensures.last i low
    ∙ ap (λ k. bit_in c.args.changing i && nat_le k 1) (levelled ∙ sym (left_is c.self.inside.moving.spent c.self.inside.settled.left n within))
    ∙ ap (λ s. bit_in c.args.changing i && nat_le (slice_index s.left n) 1) c.self.view_is

pub returns-clause-here : goal.returns-clause-here
returns-clause-here g c i low =
    let n : ℕ = 64 * c.args.block + i in
    let within : n < 8 * (g.row.B + g.row.M) = in_row g.row.B g.row.M c.args.block i c.requires.whole c.requires.exists low in
    let levelled : slice_index c.block-2.result.now i ≡ count c.self.inside.settled.left n - digit c.self.inside.moving.spent n =
    c.block-2.ensures i low ∙ c.level.ensures.here i low ∙ ap (λ k. count c.self.inside.settled.left n - k) (c.planes-low.ensures i low) in
    left_is c.clear.new.self c.set_block.new.self n within
    ∙ level_here (bit_in c.args.changing i) (count c.self.inside.settled.left n) (slice_index c.block-2.result.now i)
    (count c.set_block.new.self n) (digit c.self.inside.moving.spent n) (digit c.clear.new.self n)
    levelled (c.set_block.ensures.here i low ∙ c.spend-last.ensures.here i low) (c.clear.ensures.here i low)
    ∙ ap (λ k. cond (bit_in c.args.changing i) (k - 1) k) (sym (left_is c.self.inside.moving.spent c.self.inside.settled.left n within))
    ∙ ap (λ s. cond (bit_in c.args.changing i) (slice_index s.left n - 1) (slice_index s.left n)) c.self.view_is

pub returns-clause-others : goal.returns-clause-others
returns-clause-others g c n apart =
    left_kept c.self.inside.moving.spent c.clear.new.self c.self.inside.settled.left c.set_block.new.self n
    (c.set_block.ensures.others n apart ∙ c.level.ensures.others n apart) (c.clear.ensures.others n apart)
    ∙ ap (λ s. slice_index s.left n) c.self.view_is

pub invariant_of-self : goal.invariant_of-self
invariant_of-self g c = c.self.invariant

pub returns-then-full-changing-eq0-clause-line : goal.returns-then-full-changing-eq0-clause-line
returns-then-full-changing-eq0-clause-line g c = ap (λ s. s.line) c.self.view_is

pub returns-then-full-changing-eq0-clause-limits : goal.returns-then-full-changing-eq0-clause-limits
returns-then-full-changing-eq0-clause-limits g c = ap (λ s. s.limits) c.self.view_is

pub returns-then-full-changing-eq0-clause-ends : goal.returns-then-full-changing-eq0-clause-ends
returns-then-full-changing-eq0-clause-ends g c = ap (λ s. s.ends) c.self.view_is

pub advance-requires-then-calm : goal.advance-requires-then-calm
advance-requires-then-calm g c =
    (digits_fit c.requires.shape, (c.requires.whole, (c.requires.exists, λ i low more. rw (c.clear.ensures.here i low) none_few)))

pub invariant_of-self-then-calm : goal.invariant_of-self-then-calm
invariant_of-self-then-calm g c = (
  c.self.invariant.0,
  calm_kept c.self.inside.calm (cell c.self.inside.settled.stuck) (count c.self.inside.settled.left) (count c.level.new.self) (8 * (g.row.B + g.row.M)) c.args.block c.are_many-calm.result
      (block_in c.requires.shape c.args.block _ c.requires.exists c.self.told) c.self.invariant.1
      (λ many i low live. subst (λ k. 8 ≤ k) (c.block.ensures i low) (c.are_many-calm.ensures many i low (c.block-stuck.ensures i low ∙ live)))
      c.level.ensures.others,
)

pub returns-then-calm-clause-line : goal.returns-then-calm-clause-line
returns-then-calm-clause-line g c = ap (λ s. s.line) c.self.view_is

pub returns-then-calm-clause-limits : goal.returns-then-calm-clause-limits
returns-then-calm-clause-limits g c = ap (λ s. s.limits) c.self.view_is

pub returns-then-calm-clause-ends : goal.returns-then-calm-clause-ends
returns-then-calm-clause-ends g c = ap (λ s. s.ends) c.self.view_is

pub returns-clause-line : goal.returns-clause-line
returns-clause-line g c = ap (λ s. s.line) c.self.view_is

pub returns-clause-limits : goal.returns-clause-limits
returns-clause-limits g c = ap (λ s. s.limits) c.self.view_is

pub returns-clause-ends : goal.returns-clause-ends
returns-clause-ends g c = ap (λ s. s.ends) c.self.view_is

pub bounds-self-inside-block : goal.bounds-self-inside-block
bounds-self-inside-block g c = block_in c.requires.shape c.args.block _ c.requires.exists refl

pub full-requires : goal.full-requires
full-requires g c = (digits_fit c.requires.shape, (c.requires.whole, c.requires.exists))

pub block-stuck-requires : goal.block-stuck-requires
block-stuck-requires g c = (row_fits c.requires.shape, (c.requires.whole, c.requires.exists))

pub planes-low-requires : goal.planes-low-requires
planes-low-requires g c = (digits_fit c.requires.shape, (c.requires.whole, c.requires.exists))

pub block-requires : goal.block-requires
block-requires g c = (counts_fit c.requires.shape, (c.requires.whole, c.requires.exists))

pub level-requires : goal.level-requires
level-requires g c = (counts_fit c.requires.shape, (c.requires.whole, c.requires.exists))

pub clear-requires : goal.clear-requires
clear-requires g c = (digits_fit c.requires.shape, (c.requires.whole, c.requires.exists))

pub are_many-calm-requires : goal.are_many-calm-requires
are_many-calm-requires g c = tt

pub bounds-self-inside-block-2 : goal.bounds-self-inside-block-2
bounds-self-inside-block-2 g c = block_in c.requires.shape c.args.block _ c.requires.exists refl

pub set_block-requires : goal.set_block-requires
set_block-requires g c = (counts_fit c.requires.shape, (c.requires.whole, c.requires.exists))

pub spend-last-requires : goal.spend-last-requires
spend-last-requires g c = grind arith

pub block-requires-2 : goal.block-requires-2
block-requires-2 g c = (counts_fit c.requires.shape, (c.requires.whole, c.requires.exists))
