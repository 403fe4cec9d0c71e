use Rattle.std.proofs.Common.{◌≡◌, ℕ, ◌+◌, ◌*◌, ◌%◌, ◌&&◌, Bool, not, eqb, refl, ◌∙◌, arith, bit_and}
use Rattle.cell_rows.{specs.Rows.cell, proofs.ByteLemmas.digit_and}
use Rattle.seeded_lines.{specs.Planes.bit_in, specs.Young.{aging, young_cell}, proofs.FollowsLemmas.followed_block, proofs.PlaneLemmas.digit-zeros, proofs.SeededLemmas.in_block}
use Rattle.seeded_lines.proofs.{SizeLemmas.{digits_fit, row_fits}, YoungLemmas.{ages_here, changes-is, changes_more, no_over, stays_here}}
use Rattle.line_pages.specs.{Tiers.by_later, declared.later.Later.Later}
use Rattle.line_pages.proofs.later.LaterYoungPage.wear_block.Goals as goal

pub returns-clause-cells : goal.returns-clause-cells
returns-clause-cells g c =
    let block = c.args.block in
    let before = c.args.self.now in
    let after : Later g.row.B g.row.M = record before { held = c.set_block.new.self; low = c.add-carry.new.self; middle = c.add-over.new.self; high = c.add_any-none.new.self } in
    let old = by_later before in
    let new = by_later after in
    let zeros = digit-zeros g.row.B g.row.M in
    followed_block block (cell c.args.mask.now) (aging c.args.tearing (cell c.args.want.now)) (young_cell old) (young_cell new)
    (λ i low.
    let n : ℕ = 64 * block + i in
    let parity : i % 2 ≡ n % 2 = omega arith in
    let changing : Bool = bit_in (bit_and c.block.result c.args.reach) i in
    let is : changing ≡ (cell c.args.mask.now n && not (c.args.tearing && eqb (n % 2) 1)) =
    digit_and c.block.result c.args.reach i ∙ rw (c.block.ensures i low, c.requires.reach i low, parity) refl in
    ages_here c.args.tearing (cell c.args.mask.now n) (cell c.args.want.now) old new n changing is (zeros n) (zeros n) (zeros n) (zeros n)
    (c.set_block.ensures.here i low ∙ c.chosen-held.ensures.bits i ∙ rw (c.block-2.ensures i low, c.block-3.ensures i low) refl)
    (changes_more _ _ _ _ _ _ _ _ changing (bit_in c.add-carry.result i) (bit_in c.add-over.result i) (bit_in c.add_any-none.result i)
    (changes-is old n) (changes-is new n) (c.requires.few n (in_block block i low))
    (c.add-carry.ensures.here i low) (c.add-over.ensures.here i low) (c.add_any-none.ensures.here i low)))
    (λ n apart.
    stays_here old new n (c.set_block.ensures.others n apart) refl refl (c.add-carry.ensures.others n apart) (c.add-over.ensures.others n apart) (c.add_any-none.ensures.others n apart))

pub block-requires : goal.block-requires
block-requires g c = (row_fits c.requires.shape, (c.requires.whole, c.requires.exists))

pub block-requires-2 : goal.block-requires-2
block-requires-2 g c = (row_fits c.requires.shape, (c.requires.whole, c.requires.exists))

pub block-requires-3 : goal.block-requires-3
block-requires-3 g c = (row_fits c.requires.shape, (c.requires.whole, c.requires.exists))

pub add-carry-requires : goal.add-carry-requires
add-carry-requires g c = (digits_fit c.requires.shape, (c.requires.whole, c.requires.exists))

pub add-over-requires : goal.add-over-requires
add-over-requires g c = (digits_fit c.requires.shape, (c.requires.whole, c.requires.exists))

pub add_any-none-requires : goal.add_any-none-requires
add_any-none-requires g c = (
  digits_fit c.requires.shape,
  (
    c.requires.whole,
    (
      c.requires.exists,
      λ few i low.
          let n : ℕ = 64 * c.args.block + i in
          no_over _ _ _ _ _ _ _ (bit_in c.add-carry.result i) (bit_in c.add-over.result i) (changes-is (by_later c.args.self.now) n)
          (c.requires.fewer few n (in_block c.args.block i low)) (c.add-carry.ensures.here i low) (c.add-over.ensures.here i low),
    ),
  ),
)

pub chosen-held-requires : goal.chosen-held-requires
chosen-held-requires g c = tt

pub set_block-requires : goal.set_block-requires
set_block-requires g c = (row_fits c.requires.shape, (c.requires.whole, c.requires.exists))
