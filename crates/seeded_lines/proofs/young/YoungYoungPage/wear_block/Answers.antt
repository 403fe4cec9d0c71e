use Rattle.std.proofs.Common.{◌≡◌, ℕ, ◌+◌, ◌*◌, ◌%◌, ◌&&◌, Bool, not, eqb, refl, sym, ◌∙◌, ap, arith, bit_and}
use Rattle.std.specs.Prelude.{nat_lt}
use Rattle.cell_rows.{specs.Rows.cell, proofs.ByteLemmas.digit_and}
use Rattle.seeded_lines.{specs.Planes.{bit_in, digit}, specs.Young.{aging, young_cell}, specs.declared.young.Young.Young, proofs.FollowsLemmas.followed_block}
use Rattle.seeded_lines.proofs.{PlaneLemmas.digit_few, SeededLemmas.in_block, SizeLemmas.{digits_fit, row_fits}}
use Rattle.seeded_lines.proofs.YoungLemmas.{changes-is, changes_more, no_over, missing_few, stays_here, tries_here}
use Rattle.seeded_lines.proofs.young.YoungYoungPage.wear_block.Goals as goal

-- a cell misses, or changes
pub returns-clause-cells : goal.returns-clause-cells
returns-clause-cells g c =
    let block = c.args.block in
    let old = c.args.self.now in
    let new : Young g.row.B g.row.M = record old { held = c.set_block.new.self; misses = c.advance.new.self; low = c.add-carry.new.self; middle = c.add-over.new.self; high = c.add_any-none.new.self } in
    followed_block block (cell c.args.mask.now) (aging c.args.tearing (cell c.args.want.now)) (young_cell old) (young_cell new)
    (λ i low.
    let n : ℕ = 64 * block + i in
    let parity : i % 2 ≡ n % 2 = omega arith in
    let reached : Bool = bit_in (bit_and c.block.result c.args.reach) i in
    let missing : Bool = bit_in (bit_and (bit_and c.block.result c.args.reach) c.below.result) i in
    let changing : Bool = bit_in c.without-changing.result i in
    let reached_is : reached ≡ (cell c.args.mask.now n && not (c.args.tearing && eqb (n % 2) 1)) =
    digit_and c.block.result c.args.reach i ∙ rw (c.block.ensures i low, c.requires.reach i low, parity) refl in
    let missing_was : missing ≡ (reached && nat_lt (digit old.misses n) (digit old.limits n)) =
    digit_and (bit_and c.block.result c.args.reach) c.below.result i ∙ ap (λ b. reached && b) (c.below.ensures i low) in
    let missing_is : missing ≡ ((cell c.args.mask.now n && not (c.args.tearing && eqb (n % 2) 1)) && nat_lt (digit old.misses n) (digit old.limits n)) =
    missing_was ∙ ap (λ b. b && nat_lt (digit old.misses n) (digit old.limits n)) reached_is in
    let changing_is : changing ≡ (not missing && (cell c.args.mask.now n && not (c.args.tearing && eqb (n % 2) 1))) =
    c.without-changing.ensures i ∙ ap (λ b. not missing && b) reached_is in
    tries_here c.args.tearing (cell c.args.mask.now n) missing changing (cell c.args.want.now) old new n missing_is changing_is
    (c.set_block.ensures.here i low ∙ c.chosen-held.ensures.bits i ∙ rw (c.block-2.ensures i low, c.block-3.ensures i low) refl)
    (c.advance.ensures.here i low)
    refl
    (changes_more _ _ _ _ _ _ _ _ changing (bit_in c.add-carry.result i) (bit_in c.add-over.result i) (bit_in c.add_any-none.result i)
    (changes-is old n) (changes-is new n) (c.requires.few n (in_block block i low))
    (c.add-carry.ensures.here i low) (c.add-over.ensures.here i low) (c.add_any-none.ensures.here i low)))
    (λ n apart.
    stays_here old new n (c.set_block.ensures.others n apart) (c.advance.ensures.others n apart) refl (c.add-carry.ensures.others n apart) (c.add-over.ensures.others n apart) (c.add_any-none.ensures.others n apart))

-- a cell that misses has missed less than seven times
pub advance-requires : goal.advance-requires
advance-requires g c = (
  digits_fit c.requires.shape,
  (
    c.requires.whole,
    (
      c.requires.exists,
      λ i low more.
          let n : ℕ = 64 * c.args.block + i in
          missing_few (bit_in (bit_and c.block.result c.args.reach) i) (digit c.args.self.now.misses n) (digit c.args.self.now.limits n)
          (sym (digit_and (bit_and c.block.result c.args.reach) c.below.result i ∙ ap (λ b. bit_in (bit_and c.block.result c.args.reach) i && b) (c.below.ensures i low)) ∙ more)
          (digit_few c.args.self.now.limits n),
    ),
  ),
)

pub block-requires : goal.block-requires
block-requires g c = (row_fits c.requires.shape, (c.requires.whole, c.requires.exists))

pub below-requires : goal.below-requires
below-requires g c = (digits_fit c.requires.shape, (c.requires.whole, c.requires.exists))

pub block-requires-2 : goal.block-requires-2
block-requires-2 g c = (row_fits c.requires.shape, (c.requires.whole, c.requires.exists))

pub block-requires-3 : goal.block-requires-3
block-requires-3 g c = (row_fits c.requires.shape, (c.requires.whole, c.requires.exists))

pub add-carry-requires : goal.add-carry-requires
add-carry-requires g c = (digits_fit c.requires.shape, (c.requires.whole, c.requires.exists))

pub add-over-requires : goal.add-over-requires
add-over-requires g c = (digits_fit c.requires.shape, (c.requires.whole, c.requires.exists))

pub add_any-none-requires : goal.add_any-none-requires
add_any-none-requires g c = (
  digits_fit c.requires.shape,
  (
    c.requires.whole,
    (
      c.requires.exists,
      λ few i low.
          let n : ℕ = 64 * c.args.block + i in
          no_over _ _ _ _ _ _ _ (bit_in c.add-carry.result i) (bit_in c.add-over.result i) (changes-is (c.args.self.now) n)
          (c.requires.fewer few n (in_block c.args.block i low)) (c.add-carry.ensures.here i low) (c.add-over.ensures.here i low),
    ),
  ),
)

pub set_block-requires : goal.set_block-requires
set_block-requires g c = (row_fits c.requires.shape, (c.requires.whole, c.requires.exists))
