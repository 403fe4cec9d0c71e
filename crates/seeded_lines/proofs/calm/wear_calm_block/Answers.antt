use Rattle.std.proofs.Common.{◌≡◌, ℕ, ◌+◌, ◌-◌, ◌*◌, ◌%◌, ◌&&◌, Bool, true, false, not, cond, eqb, refl, sym, ◌∙◌, ap, arith, bit_and}
use Rattle.std.{specs.Prelude.nat_le, proofs.lemmas.Nat.Bits.bit_at-zero}
use Rattle.cell_rows.{specs.Rows.cell, proofs.ByteLemmas.{digit_and, swapped}}
use Rattle.seeded_lines.{specs.Counts.count, specs.Planes.{bit_in, digit}, specs.Seeded.{LifeLine, life_of, seeded, seeded_cell}, proofs.CalmLemmas.calm_parts}
use Rattle.seeded_lines.proofs.{FollowsLemmas.followed_block, SeededLemmas.{worn_follows, worn_kept, missing_few, left_is, left_kept, calm_last, calm_here, in_row}}
use Rattle.seeded_lines.proofs.SizeLemmas.{digits_fit, row_fits}
use Rattle.seeded_lines.proofs.calm.wear_calm_block.Goals as goal

pub advance-requires : goal.advance-requires
advance-requires g c = (
  digits_fit c.requires.shape,
  (
    c.requires.whole,
    (
      c.requires.exists,
      λ i low more.
          let n : ℕ = 64 * c.args.block + i in
          let live : bit_in c.without-live.result i ≡ (not (cell c.args.settled.now.stuck n) && (not (c.args.tearing && eqb (i % 2) 1) && cell c.args.mask.now n)) =
          c.without-live.ensures i
          ∙ rw (c.block-2.ensures i low, digit_and c.block.result c.args.reach i, c.block.ensures i low, c.requires.reach i low)
          (ap (λ b. not (cell c.args.settled.now.stuck n) && b) (swapped (cell c.args.mask.now n) (not (c.args.tearing && eqb (i % 2) 1)))) in
          c.requires.few i low
          ((calm_parts (cell c.args.settled.now.stuck n) (c.args.tearing && eqb (i % 2) 1) (cell c.args.mask.now n) (bit_in (bit_and c.without-live.result c.below.result) i)
          (bit_in c.without-live.result i) (bit_in c.without-changing.result i) live (c.without-changing.ensures i) more).1),
    ),
  ),
)

pub advance-requires-2 : goal.advance-requires-2
advance-requires-2 g c = (
  digits_fit c.requires.shape,
  (
    c.requires.whole,
    (
      c.requires.exists,
      λ i low h.
          missing_few c.args.moving.now.misses c.args.settled.now.limits (64 * c.args.block + i) (bit_in c.without-live.result i) (bit_in (bit_and c.without-live.result c.below.result) i)
          (digit_and c.without-live.result c.below.result i ∙ ap (λ b. bit_in c.without-live.result i && b) (c.below.ensures i low)) h,
    ),
  ),
)

pub returns-clause-cells : goal.returns-clause-cells
returns-clause-cells g c =
    let block = c.args.block in
    let stuck = c.args.settled.now.stuck in
    let old : LifeLine g.row.B g.row.M =
    life_of c.args.moving.now c.args.settled.now in
    let new : LifeLine g.row.B g.row.M =
    life_of (record { held = c.set_block.new.self; misses = c.advance-2.new.self; spent = c.advance.new.self }) c.args.settled.now in
    followed_block block (cell c.args.mask.now) (seeded c.args.tearing (cell c.args.want.now)) (seeded_cell old) (seeded_cell new)
    (λ i low.
    let n : ℕ = 64 * block + i in
    let parity : n % 2 ≡ i % 2 = omega arith in
    let within = in_row g.row.B g.row.M block i c.requires.whole c.requires.exists low in
    let none : bit_in 0 i ≡ false = ap (λ x. eqb x 1) (bit_at-zero i) in
    let changing : Bool = bit_in c.without-changing.result i in
    let torn : Bool = c.args.tearing && eqb (i % 2) 1 in
    let live : bit_in c.without-live.result i ≡ (not (cell stuck n) && (not torn && cell c.args.mask.now n)) =
    c.without-live.ensures i
    ∙ rw (c.block-2.ensures i low, digit_and c.block.result c.args.reach i, c.block.ensures i low, c.requires.reach i low)
    (ap (λ b. not (cell stuck n) && b) (swapped (cell c.args.mask.now n) (not torn))) in
    let parts : changing ≡ true → (cell stuck n ≡ false) × (cell c.args.mask.now n ≡ true) =
    calm_parts (cell stuck n) torn (cell c.args.mask.now n) (bit_in (bit_and c.without-live.result c.below.result) i)
    (bit_in c.without-live.result i) changing live (c.without-changing.ensures i) in
    let grown : digit c.advance.new.self n ≡ cond changing (digit c.args.moving.now.spent n + 1) (digit c.args.moving.now.spent n) =
    c.advance.ensures.here i low ∙ ap (λ b. cond b 0 (cond changing (digit c.args.moving.now.spent n + 1) (digit c.args.moving.now.spent n))) none in
    worn_follows c.args.mask.now c.args.want.now c.args.tearing old new n
    (bit_in c.without-live.result i) (bit_in (bit_and c.without-live.result c.below.result) i) changing false
    (live ∙ rw (parity) refl)
    (digit_and c.without-live.result c.below.result i ∙ ap (λ b. bit_in c.without-live.result i && b) (c.below.ensures i low))
    (c.without-changing.ensures i)
    (calm_last changing (count c.args.settled.now.left n) (digit c.args.moving.now.spent n) (λ more. c.requires.many i low (parts more).0) (λ more. c.requires.few i low (parts more).1)
    ∙ ap (λ k. changing && nat_le k 1) (sym (left_is c.args.moving.now.spent c.args.settled.now.left n within)))
    (c.set_block.ensures.here i low ∙ c.chosen-now.ensures.bits i ∙ rw (c.block-3.ensures i low, c.block-4.ensures i low) refl)
    refl
    (c.advance-2.ensures.here i low)
    (left_is c.advance.new.self c.args.settled.now.left n within
    ∙ calm_here changing (count c.args.settled.now.left n) (digit c.args.moving.now.spent n) (digit c.advance.new.self n) grown
    ∙ ap (λ k. cond changing (k - 1) k) (sym (left_is c.args.moving.now.spent c.args.settled.now.left n within)))
    refl refl)
    (λ n apart. worn_kept old new n (c.set_block.ensures.others n apart) refl (c.advance-2.ensures.others n apart)
    (left_kept c.args.moving.now.spent c.advance.new.self c.args.settled.now.left c.args.settled.now.left n refl (c.advance.ensures.others n apart)) refl refl)

pub block-requires : goal.block-requires
block-requires g c = (row_fits c.requires.shape, (c.requires.whole, c.requires.exists))

pub block-requires-2 : goal.block-requires-2
block-requires-2 g c = (row_fits c.requires.shape, (c.requires.whole, c.requires.exists))

pub block-requires-3 : goal.block-requires-3
block-requires-3 g c = (row_fits c.requires.shape, (c.requires.whole, c.requires.exists))

pub block-requires-4 : goal.block-requires-4
block-requires-4 g c = (row_fits c.requires.shape, (c.requires.whole, c.requires.exists))

pub below-requires : goal.below-requires
below-requires g c = (digits_fit c.requires.shape, (c.requires.whole, c.requires.exists))

pub without-live-requires : goal.without-live-requires
without-live-requires g c = tt

pub without-changing-requires : goal.without-changing-requires
without-changing-requires g c = tt

pub chosen-now-requires : goal.chosen-now-requires
chosen-now-requires g c = tt

pub set_block-requires : goal.set_block-requires
set_block-requires g c = (row_fits c.requires.shape, (c.requires.whole, c.requires.exists))
